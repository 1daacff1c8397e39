use Rattle.gr_count_tests.proofs.tests.definitions.Vote.+visit.Given as goal

abbrev pub decreases-visit : goal.decreases-visit
decreases-visit l = l.steps
