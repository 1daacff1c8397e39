use Rattle.gr_desk.proofs.SubcommandLemmas.{init_found}
use Rattle.gr_desk.proofs.words.init.Goals as goal

pub text-requires : goal.text-requires
text-requires c = init_found _ c.in_ok-matches.matches c.in_ok-matches.ensures.parsed c.in_ok-init.ensures
