use Rattle.gr_desk.proofs.SubcommandLemmas.{once_found}
use Rattle.gr_desk.proofs.words.once.Goals as goal

pub text-requires : goal.text-requires
text-requires c = (once_found _ c.in_ok-matches.matches c.in_ok-matches.ensures.parsed c.in_ok-once.ensures).0

pub moment-requires : goal.moment-requires
moment-requires c = (once_found _ c.in_ok-matches.matches c.in_ok-matches.ensures.parsed c.in_ok-once.ensures).1
