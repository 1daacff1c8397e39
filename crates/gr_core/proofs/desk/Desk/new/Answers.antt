use Rattle.std.proofs.Common.{sym, subst}
use Rattle.gr_core.specs.Desks.Valid.{IsValid}
use Rattle.gr_core.specs.InMemory.KeptPairs.{KeepsPairs}
use Rattle.gr_core.proofs.Validity.ValidLemmas.{new_valid}
use Rattle.gr_core.proofs.Validity.KeptPairsLemmas.{kept_new}
use Rattle.gr_core.proofs.desk.Desk.new.Goals as goal

pub invariant_of-result : goal.invariant_of-result
invariant_of-result c = (
  subst IsValid (sym c.new.ensures) new_valid,
  subst (λ s. KeepsPairs s c.new-2.result) (sym c.new.ensures) (kept_new c.new-2.result c.new-2.ensures),
)

pub returns-clause-valid : goal.returns-clause-valid
returns-clause-valid c = subst IsValid (sym c.new.ensures) new_valid
