use Rattle.std.proofs.Common.{arith, sym, ◌∙◌, inl, inr}
use Rattle.std.proofs.lemmas.Bool.{cases_lt, false≢true}
use Rattle.gr_count.specs.declared.limits.TheConstants.{MAX_OPTIONS}
use Rattle.gr_count.proofs.Fill.{IsFilled-none, IsFilled-more}
use Rattle.gr_count.proofs.Words.{none_in_empty}
use Rattle.gr_count.proofs.Sets.{IsEmptyRow, IsJudgedRow}
use Rattle.gr_count.proofs.relation.Relation.of.Goals as goal

pub loop-first-init : goal.loop-first-init
loop-first-init g c =
    IsFilled-none (IsJudgedRow c.args.options (goal.F-post g c.args.holds)) IsEmptyRow MAX_OPTIONS c.empty-rows.result (record { members = 0 })
    c.empty-rows.ensures none_in_empty

pub of-requires-clause-callable : goal.of-requires-clause-callable
of-requires-clause-callable g c = λ b h. c.requires.callable c.loop-first.first-counter b c.loop-first-test.true h

pub loop-first-preserved : goal.loop-first-preserved
loop-first-preserved g c =
    IsFilled-more (IsJudgedRow c.args.options (goal.F-post g c.args.holds)) IsEmptyRow MAX_OPTIONS (record { members = 0 })
    c.loop-first.rows c.loop-first.first-counter c.of.result c.loop-first.invariant (omega arith) (c.of.ensures.within, c.of.ensures.below)

pub returns-clause-within : goal.returns-clause-within
returns-clause-within g c = λ a b ha hb. (c.loop-first.invariant.front a (omega arith)).0 b hb

pub returns-clause-below : goal.returns-clause-below
returns-clause-below g c = λ a b is.
    elim (cases_lt a c.loop-first.first-counter) [
      | inl before ↦ (omega arith, (c.loop-first.invariant.front a before).1 b is)
      | inr later ↦ absurd (false≢true (sym (c.loop-first.invariant.rest a later b) ∙ is))
    ]
