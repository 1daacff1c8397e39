use Rattle.std.proofs.Common.{arith}
use Rattle.gr_count.specs.declared.limits.TheConstants.{MAX_OPTIONS}
use Rattle.gr_count.specs.Options.{relates}
use Rattle.gr_count.proofs.Fill.{IsFilled-none, IsFilled-more}
use Rattle.gr_count.proofs.Words.{none_in_empty}
use Rattle.gr_count.proofs.Finite.{below_if_true}
use Rattle.gr_count.proofs.Sets.{IsEmptyRow}
use Rattle.gr_count.proofs.relation.Relation.of_rows.Goals as goal

pub loop-option-init : goal.loop-option-init
loop-option-init g c =
    IsFilled-none (goal.F-post g c.args.row) IsEmptyRow MAX_OPTIONS c.empty-rows.result (record { members = 0 })
    c.empty-rows.ensures none_in_empty

pub loop-option-preserved : goal.loop-option-preserved
loop-option-preserved g c =
    IsFilled-more (goal.F-post g c.args.row) IsEmptyRow MAX_OPTIONS (record { members = 0 }) c.loop-option.rows
    c.loop-option.option c.row.result c.loop-option.invariant (omega arith) c.row.ensures

pub returns-clause-below : goal.returns-clause-below
returns-clause-below g c = λ a b.
    below_if_true (λ x. relates record { rows = c.loop-option.rows } x b) c.args.options (λ x h. c.loop-option.invariant.rest x (omega arith) b) a
