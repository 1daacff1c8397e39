use Rattle.std.proofs.Common.{codes}
use Rattle.gr_desk.proofs.SubcommandLemmas.{file_found}
use Rattle.gr_desk.proofs.words.roll.Goals as goal

pub text-requires : goal.text-requires
text-requires c = file_found _ c.in_ok-matches.matches c.in_ok-matches.ensures.parsed (codes "roll") c.in_ok-roll.ensures
