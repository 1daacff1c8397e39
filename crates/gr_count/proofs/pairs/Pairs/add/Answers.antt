use Rattle.std.proofs.Common.{rules, ◌≡◌, ℕ, ◌+◌, cond, ap, refl, sym, ◌∙◌, arith}
use Rattle.gr_count.specs.Ballot.{prefers}
use Rattle.gr_count.specs.Options.{number_at}
use Rattle.gr_count.specs.Shown.{marks_in}
use Rattle.gr_count.proofs.PairwiseCounts.{below_updated, counts_more, prefers-level, prefers-one_way}
use Rattle.gr_count.proofs.Votes.{preference_count-insert, voters-insert}
use Rattle.gr_count.proofs.pairs.Pairs.add.Goals as goal

-- the numbers that are left are more exactly where the ballot prefers
counts : (c : goal.After-update) (a b : ℕ) → number_at c.update.new.self a b
    ≡ number_at c.args.self.now.above a b + cond (prefers (marks_in c.args.ranks.now) a b) 1 0
counts c =
    counts_more (marks_in c.args.ranks.now) c.args.self.now.options (number_at c.args.self.now.above) (number_at c.update.new.self) c.requires.same
    c.args.self.now.below
    (below_updated c.args.self.now.options (number_at c.args.self.now.above) (number_at c.update.new.self) c.args.self.now.below c.update.ensures.others)
    (λ a b first second. let h = c.update.ensures.within a b first second in search rules)

pub invariant_of-self-clause-counted : goal.invariant_of-self-clause-counted
invariant_of-self-clause-counted c = λ a b.
    omega (arith, c.args.self.now.counted a b, counts c a b, counts c b a, prefers-one_way (marks_in c.args.ranks.now) a b)

pub invariant_of-self-clause-alone : goal.invariant_of-self-clause-alone
invariant_of-self-clause-alone c = λ a.
    counts c a a ∙ ap (λ t. number_at c.args.self.now.above a a + cond t 1 0) (prefers-level (marks_in c.args.ranks.now) a)
    ∙ omega (arith, c.args.self.now.alone a)

pub invariant_of-self-clause-below : goal.invariant_of-self-clause-below
invariant_of-self-clause-below c =
    below_updated c.args.self.now.options (number_at c.args.self.now.above) (number_at c.update.new.self) c.args.self.now.below c.update.ensures.others

pub returns-clause-added : goal.returns-clause-added
returns-clause-added c = record { options = refl; ballots = refl; counts = counts c.before }

pub returns-clause-vote : goal.returns-clause-vote
returns-clause-vote c = λ vote login before new. record {
  ballots = ap (λ n. n + 1) before.ballots ∙ sym (voters-insert vote login (marks_in c.args.ranks.now) new);
  counts = λ a b.
      counts c.before a b
      ∙ ap (λ n. n + cond (prefers (marks_in c.args.ranks.now) a b) 1 0) (before.counts a b)
      ∙ sym (preference_count-insert vote login (marks_in c.args.ranks.now) a b new);
}
