use Rattle.std.proofs.Common.{◌≡◌, sym, ap, ◌∙◌, subst}
use Rattle.gr_core.specs.declared.kept_pairs.KeptPairs.{KeptPairs}
use Rattle.gr_core.specs.declared.plan.Plan.{Plan}
use Rattle.gr_core.specs.Desks.State.{State}
use Rattle.gr_core.specs.Desks.Valid.{IsValid}
use Rattle.gr_core.specs.Machine.Row.{put_all}
use Rattle.gr_core.specs.Machine.Plan.{IsPlanOn, rows_of}
use Rattle.gr_core.specs.InMemory.KeptPairs.{IsCountedBehind, KeepsPairs}
use Rattle.gr_core.proofs.Effects.PutAllLemmas.{put_all-rows_by}
use Rattle.gr_core.proofs.Validity.ValidLemmas.{planned_valid}
use Rattle.gr_core.proofs.desk.Desk.apply.Goals as goal

-- the state after a plan that was made on tables with the desk's state
module _ (s t after : State) (plan : Plan) (is : s ≡ t) (valid : IsValid s) (made : IsPlanOn t plan) (puts : after ≡ put_all s (rows_of plan)) where
  on_tables : IsPlanOn s plan
  on_tables = subst (λ state. IsPlanOn state plan) (sym is) made

  valid_after : IsValid after
  valid_after = planned_valid s after plan valid on_tables puts

  counted_behind : (kept : KeptPairs) → KeepsPairs s kept → IsCountedBehind kept plan.counting after
  counted_behind kept keeps = record {
    before = s;
    at = on_tables.0;
    act = on_tables.1;
    valid = valid;
    keeps = keeps;
    accepted = on_tables.2.0;
    counts = on_tables.4;
    behind = puts ∙ ap (put_all s) on_tables.3 ∙ put_all-rows_by s on_tables.0 on_tables.1 on_tables.2.0;
  }

pub follow-requires : goal.follow-requires
follow-requires c =
    counted_behind c.self.inside.tables c.args.self c.in_ok-tables.tables c.args.plan c.self.view_is c.self.invariant.0 c.requires c.in_ok-tables.ensures
    c.self.inside.kept c.self.invariant.1

pub invariant_of-result : goal.invariant_of-result
invariant_of-result c = (
  valid_after c.self.inside.tables c.args.self c.in_ok-tables.tables c.args.plan c.self.view_is c.self.invariant.0 c.requires c.in_ok-tables.ensures,
  c.in_ok-follow.ensures,
)

pub returns-clause-valid : goal.returns-clause-valid
returns-clause-valid c =
    valid_after c.self.inside.tables c.args.self c.in_ok-tables.tables c.args.plan c.self.view_is c.self.invariant.0 c.requires c.in_ok-tables.ensures
