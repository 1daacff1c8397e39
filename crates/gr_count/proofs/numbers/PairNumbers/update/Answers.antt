use Rattle.std.proofs.Common.{arith, [], inl, inr, ap, ◌≡◌, ◌≤◌}
use Rattle.std.proofs.lemmas.Bool.{cases_lt}
use Rattle.gr_count.specs.declared.limits.TheConstants.{MAX_OPTIONS}
use Rattle.gr_count.specs.Options.{number_of, number_at}
use Rattle.gr_count.proofs.Fill.{IsUpdated-more}
use Rattle.gr_count.proofs.Sets.{IsUpdatedRow}
use Rattle.gr_count.proofs.numbers.PairNumbers.update.Goals as goal

pub loop-first-preserved : goal.loop-first-preserved
loop-first-preserved g c =
    IsUpdated-more (IsUpdatedRow c.args.options (goal.F-post g c.args.number)) MAX_OPTIONS (record { numbers = [] })
    c.args.self.now.rows c.loop-first.self.rows c.loop-first.first-counter c.update.new.self c.loop-first.invariant (omega arith)
    (c.update.ensures.within, c.update.ensures.others)

pub returns-clause-within : goal.returns-clause-within
returns-clause-within g c = λ a b ha hb. (c.loop-first.invariant.front a (omega arith)).0 b hb

pub returns-clause-others : goal.returns-clause-others
returns-clause-others g c = λ a b past.
    elim (cases_lt a c.loop-first.first-counter) as (λ _. number_at c.loop-first.self a b ≡ number_at c.args.self.now a b) [
      | inl before ↦
          (c.loop-first.invariant.front a before).1 b
          (elim past as (λ _. c.args.options ≤ b) [ inl first ↦ absurd (omega arith) | inr second ↦ second ])
      | inr later ↦ ap (λ row. number_of row b) (c.loop-first.invariant.rest a later)
    ]
