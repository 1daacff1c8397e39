use Rattle.gr_count.specs.Options.{relates}
use Rattle.gr_count.specs.Shown.{election_of}
use Rattle.gr_count.proofs.PairSizes.{pairs_below}
use Rattle.gr_count.proofs.Standings.{IsStandingAfter}
use Rattle.gr_count.proofs.counting.count.Given as goal

-- after so many rounds these defeats stand, and each other one is noted with the round that dropped it
abbrev pub invariant-loop-weakest : goal.invariant-loop-weakest
invariant-loop-weakest l =
    IsStandingAfter (election_of l.pairs l.developers l.ratios) l.options l.defeats l.dropped l.rounds

abbrev pub decreases-loop-weakest : goal.decreases-loop-weakest
decreases-loop-weakest l = pairs_below l.options l.options (relates l.defeats)
