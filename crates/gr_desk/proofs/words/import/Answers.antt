use Rattle.gr_desk.proofs.SubcommandLemmas.{import_found}
use Rattle.gr_desk.proofs.words.import.Goals as goal

pub text-requires : goal.text-requires
text-requires c = (import_found _ c.in_ok-matches.matches c.in_ok-matches.ensures.parsed c.in_ok-import.ensures).0

pub text-requires-2 : goal.text-requires-2
text-requires-2 c = (import_found _ c.in_ok-matches.matches c.in_ok-matches.ensures.parsed c.in_ok-import.ensures).1

pub moment-requires : goal.moment-requires
moment-requires c = (import_found _ c.in_ok-matches.matches c.in_ok-matches.ensures.parsed c.in_ok-import.ensures).2
