use Rattle.std.proofs.Common.{rules, ◌≡◌, ℕ, ◌+◌, cond, ◌≤◌, refl, arith}
use Rattle.gr_count.specs.Ballot.{prefers}
use Rattle.gr_count.specs.Options.{number_at}
use Rattle.gr_count.specs.Shown.{ballots_in, marks_in}
use Rattle.gr_count.proofs.PairwiseCounts.{below_updated, counts_more, counted_left}
use Rattle.gr_count.proofs.HeldBallots.{taken}
use Rattle.gr_count.proofs.pairs.Pairs.take.Goals as goal
use Rattle.gr_count.proofs.pairs.Pairs.take.Goals.{After-update}

-- the numbers that were are those that are left, and more exactly where the ballot prefers
counts : (c : After-update) (a b : ℕ) → number_at c.args.self.now.above a b
    ≡ number_at c.update.new.self a b + cond (prefers (marks_in c.args.ranks.now) a b) 1 0
counts c =
    counts_more (marks_in c.args.ranks.now) c.args.self.now.options (number_at c.update.new.self) (number_at c.args.self.now.above) c.requires.same
    (below_updated c.args.self.now.options (number_at c.args.self.now.above) (number_at c.update.new.self) c.args.self.now.below c.update.ensures.others)
    c.args.self.now.below
    (λ a b first second. let h = c.update.ensures.within a b first second in search rules)

pub invariant_of-self-clause-counted : goal.invariant_of-self-clause-counted
invariant_of-self-clause-counted c =
    counted_left (marks_in c.args.ranks.now) c.args.self.now c.requires.held (number_at c.update.new.self) (counts c)

pub invariant_of-self-clause-alone : goal.invariant_of-self-clause-alone
invariant_of-self-clause-alone c = λ a. omega (arith, c.args.self.now.alone a, counts c a a)

pub invariant_of-self-clause-below : goal.invariant_of-self-clause-below
invariant_of-self-clause-below c =
    below_updated c.args.self.now.options (number_at c.args.self.now.above) (number_at c.update.new.self) c.args.self.now.below c.update.ensures.others

pub returns-clause-taken : goal.returns-clause-taken
returns-clause-taken c =
    let some : 1 ≤ ballots_in c.args.self.now = c.requires.held.some in
    record { options = refl; ballots = omega arith; counts = counts c.before }

pub returns-clause-vote : goal.returns-clause-vote
returns-clause-vote c = λ vote login tally there.
    taken vote login (marks_in c.args.ranks.now) there c.args.self.now _ (returns-clause-taken c) tally
