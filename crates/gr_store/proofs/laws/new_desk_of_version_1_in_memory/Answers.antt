use Rattle.std.proofs.Common.{◌∙◌, ap, refl, sym, subst}
use Rattle.sqlite_schema.specs.declared.schema.Schema.{Schema}
use Rattle.sqlite.specs.Does.{lacks_sequence}
use Rattle.sqlite.proofs.Callers.{memory_is_clean}
use Rattle.sqlite.specs.Held.{state}
use Rattle.sqlite.specs.Steps.{over_memory}
use Rattle.gr_core.specs.Desks.Valid.{IsValid}
use Rattle.gr_core.proofs.Validity.LiftedLemmas.{valid1}
use Rattle.gr_core.proofs.Validity.ValidLemmas.{new_valid}
use Rattle.gr_store.specs.Version1.{new_state1}
use Rattle.gr_store.proofs.StoredDesks.HeldDesks.{new_holds1}
use Rattle.gr_store.proofs.Migration.MigratedDesks.{new_lifted}
use Rattle.gr_store.proofs.laws.new_desk_of_version_1_in_memory.Goals as goal

pub returns-clause-holds : goal.returns-clause-holds
returns-clause-holds c =
    let empty = c.in_ok-conn.ensures.empty in
    let new = c.in_ok-create.ensures.makes (memory_is_clean c.create.new.conn) empty.0.is_open (empty.1 refl).0 in
    let held = new_holds1 _ (state over_memory c.create.new.conn).now new in
    (held.0, valid1 new_state1 refl (subst IsValid (sym new_lifted) new_valid), held.1)

pub returns-clause-settled : goal.returns-clause-settled
returns-clause-settled c = c.in_ok-create.ensures.settled (memory_is_clean c.create.new.conn)

pub returns-clause-counted : goal.returns-clause-counted
returns-clause-counted c =
    let empty = c.in_ok-conn.ensures.empty in
    let new = c.in_ok-create.ensures.makes (memory_is_clean c.create.new.conn) empty.0.is_open (empty.1 refl).0 in
    ap (λ (s : Schema). lacks_sequence s) new.header.schema
    ∙ new.tables.counted (ap (λ (s : Schema). lacks_sequence s) empty.2)
