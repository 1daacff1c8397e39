use Rattle.gr_core.proofs.check.check.Goals as goal

pub chooses_without_a_tie-requires-clause-found : goal.chooses_without_a_tie-requires-clause-found
chooses_without_a_tie-requires-clause-found c = (c.args.at, c.in_ok-finding.ensures.found)
