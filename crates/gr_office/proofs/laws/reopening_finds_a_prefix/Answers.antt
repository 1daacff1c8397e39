use Rattle.gr_office.proofs.laws.reopening_finds_a_prefix.Goals as goal

pub returns-clause-opened : goal.returns-clause-opened
returns-clause-opened g c opens = c.starts_are_reopened.ensures.opened opens c.args.first.now c.desks_are_starts.ensures

pub returns-clause-failed : goal.returns-clause-failed
returns-clause-failed g c opens = c.starts_are_reopened.ensures.failed opens c.args.first.now c.desks_are_starts.ensures
