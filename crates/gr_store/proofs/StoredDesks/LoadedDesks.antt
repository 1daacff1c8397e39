-- What is read of a database that holds a valid state is that state, and which version is told of it.
use Rattle.gr_core.specs.Columns.Stored.{DeskTable}
use Rattle.std.proofs.Common.{◌≡◌, ◌≢◌, ◌⊎◌, IsPermutation, ◌<ℤ◌, arith, inl, inr, Result, Ok, Err, IfOk, IfErr, OnOk, List, [], ℤ, pos, get_or, sym, ap, subst, ◌∙◌}
use Rattle.std.proofs.lemmas.Int.{ints}
use Rattle.sqlite.specs.Effect.{Database}
use Rattle.gr_core.specs.declared.limits.TheConstants.{VERSION}
use Rattle.gr_core.specs.Columns.Fields.{Field, Number, Text}
use Rattle.gr_core.specs.Desks.State.{State}
use Rattle.gr_core.specs.Desks.Valid.{IsValid}
use Rattle.gr_core.proofs.Columns.SameRowsLemmas.{rows_tell}
use Rattle.gr_store.specs.declared.fault.Fault.{Fault}
use Rattle.gr_store.specs.declared.fault.Fault.TheVariants as faults
use Rattle.gr_store.specs.Faults.{IsOfStore, CanFailToLoad}
use Rattle.gr_store.specs.Holds.{Holds, HasHeaderRow, IsLater, IsEarlier, IsTooNew, IsTooOld}
use Rattle.gr_store.proofs.TableRows.EachTable.{HasOneDesk}
use Rattle.gr_store.specs.Selects.{HasOneAnswer, desk_select}
use Rattle.gr_store.proofs.StoredDesks.TreesAndAnswers.{same_rows}
use Rattle.gr_store.proofs.StoredDesks.NoSuchDesk.{has_none}
use Rattle.gr_store.proofs.TableRows.FieldsReadBack.{same_fields}
use Rattle.sqlite.proofs.Callers.{one_permutation}
use Rattle.gr_core.specs.declared.rows.HeaderRow.{HeaderRow}
use Rattle.gr_core.specs.Columns.Stored.{fields_of_header}

-- the version in the first of these rows
abbrev pub version_in : List (List Field) → ℤ
version_in rows = number_of (get_or (get_or rows 0 []) 1 (Number (pos 0)))
  where
    number_of : Field → ℤ
    number_of (Number n) = n
    number_of (Text t) = pos 0

-- two rows that a database has alone are of one version
pub one_version : (P Q : HeaderRow → Type 0) (db : Database) → HasOneAnswer desk_select db → (one : HasHeaderRow P db)
    → (other : HasHeaderRow Q db) → one.1.0.version ≡ other.1.0.version
one_version P Q db alike one other =
    let same = one_permutation (fields_of_header one.1.0) other.0
    (subst (λ r. IsPermutation r other.0) one.1.2 (same_fields one.0 other.0 (alike _ _ one.2 other.2))) in
    ap version_in (sym same ∙ other.1.2)

-- none is of a later version and of an earlier one
not_both : (db : Database) → HasOneAnswer desk_select db → IsTooNew db → ¬ (IsTooOld db)
not_both db alike later earlier =
    let same = one_version IsLater IsEarlier db alike later earlier in
    let after : pos VERSION <ℤ earlier.1.0.version = subst (λ v. pos VERSION <ℤ v) same later.1.1.1 in
    let before = earlier.1.1.1 in
    omega (arith, ints, after, before)

-- a valid state is of this program's version
is_current : (s : State) (db : Database) → IsValid s → Holds s db → (IsSuch : HeaderRow → Type 0)
    → HasOneAnswer desk_select db → ((row : HeaderRow) → IsSuch row → row.version ≢ pos VERSION) → ¬ (HasHeaderRow IsSuch db)
is_current s db valid holds IsSuch one other =
    has_none IsSuch db holds.rows.desk one (holds.selected DeskTable) (λ such.
    let version : such.0.version ≡ pos s.header.version = ap version_in (sym such.2 ∙ holds.are.desk) in
    other such.0 such.1 (version ∙ ap pos valid.header.version))

is_not_later : (row : HeaderRow) → IsLater row → row.version ≢ pos VERSION
is_not_later row later is =
    let after : pos VERSION <ℤ pos VERSION = subst (λ v. pos VERSION <ℤ v) is later.1 in
    omega (arith, after)

is_not_earlier : (row : HeaderRow) → IsEarlier row → row.version ≢ pos VERSION
is_not_earlier row earlier is =
    let before : pos VERSION <ℤ pos VERSION = subst (λ v. v <ℤ pos VERSION) is earlier.1 in
    omega (arith, before)

-- so no desk is read of another one
never_other : (db : Database) (r : Result State Fault) → HasOneAnswer desk_select db → IfOk r (λ desk. Holds desk db)
    → IfOk r IsValid → (IsSuch : HeaderRow → Type 0) → ((row : HeaderRow) → IsSuch row → row.version ≢ pos VERSION)
    → HasHeaderRow IsSuch db → OnOk r ⊥
never_other db (Ok desk) one held valid IsSuch other such = is_current desk db valid held IsSuch one other such
never_other db (Err fault) one held valid IsSuch other such = tt

pub never_later : (db : Database) (r : Result State Fault) → HasOneAnswer desk_select db → IfOk r (λ desk. Holds desk db)
    → IfOk r IsValid → IsTooNew db → OnOk r ⊥
never_later db r one held valid later = never_other db r one held valid IsLater is_not_later later

pub never_earlier : (db : Database) (r : Result State Fault) → HasOneAnswer desk_select db
    → IfOk r (λ desk. Holds desk db) → IfOk r IsValid → IsTooOld db → OnOk r ⊥
never_earlier db r one held valid earlier = never_other db r one held valid IsEarlier is_not_earlier earlier

-- and what is told of it is its version, where the database does not fail
pub told_later : (db : Database) (r : Result State Fault) → HasOneAnswer desk_select db → IsTooNew db
    → (r ≡ Err faults.Damaged → ⊥) → (r ≡ Err faults.TooOld → IsTooOld db) → IfErr r CanFailToLoad
    → IfErr r (λ fault. (fault ≡ faults.TooNew) ⊎ (IsOfStore fault ⊎ (fault ≡ faults.Closed)))
told_later db (Ok desk) one later whole old failed = tt
told_later db (Err fault) one later whole old (inl (inl of)) = inr (inl of)
told_later db (Err fault) one later whole old (inl (inr is)) = absurd (whole (ap Err is))
told_later db (Err fault) one later whole old (inr (inl is)) = inl is
told_later db (Err fault) one later whole old (inr (inr is)) = absurd (not_both db one later (old (ap Err is)))

pub told_earlier : (db : Database) (r : Result State Fault) → HasOneAnswer desk_select db → IsTooOld db
    → (r ≡ Err faults.Damaged → ⊥) → (r ≡ Err faults.TooNew → IsTooNew db) → IfErr r CanFailToLoad
    → IfErr r (λ fault. (fault ≡ faults.TooOld) ⊎ (IsOfStore fault ⊎ (fault ≡ faults.Closed)))
told_earlier db (Ok desk) one earlier whole late failed = tt
told_earlier db (Err fault) one earlier whole late (inl (inl of)) = inr (inl of)
told_earlier db (Err fault) one earlier whole late (inl (inr is)) = absurd (whole (ap Err is))
told_earlier db (Err fault) one earlier whole late (inr (inl is)) = absurd (not_both db one (late (ap Err is)) earlier)
told_earlier db (Err fault) one earlier whole late (inr (inr is)) = inl is

-- two valid states that a database holds are one
pub one_held : (a b : State) (db : Database) → HasOneDesk db → IsValid a → IsValid b → Holds a db → Holds b db → a ≡ b
one_held a b db one sound valid held holds =
    rows_tell a b held.rows sound valid held.are (same_rows b db held.rows one holds (held.selected DeskTable)
    (λ name other. held.selected name))

pub found : (s : State) (db : Database) (r : Result State Fault) → HasOneDesk db → IsValid s → Holds s db
    → IfOk r (λ desk. Holds desk db) → IfOk r IsValid → (r ≡ Err faults.Damaged → ⊥) → (r ≡ Err faults.TooNew → IsTooNew db)
    → (r ≡ Err faults.TooOld → IsTooOld db) → IfErr r CanFailToLoad
    → IfOk r (λ desk. desk ≡ s) × IfErr r (λ fault. IsOfStore fault ⊎ (fault ≡ faults.Closed))
found s db (Ok desk) one valid holds held sound damaged late old failed =
    (one_held desk s db one sound valid held holds, tt)
found s db (Err fault) one valid holds held sound damaged late old (inl (inl of)) = (tt, inl of)
found s db (Err fault) one valid holds held sound damaged late old (inl (inr is)) = absurd (damaged (ap Err is))
found s db (Err fault) one valid holds held sound damaged late old (inr (inl is)) =
    absurd (is_current s db valid holds IsLater (one DeskTable) is_not_later (late (ap Err is)))
found s db (Err fault) one valid holds held sound damaged late old (inr (inr is)) =
    absurd (is_current s db valid holds IsEarlier (one DeskTable) is_not_earlier (old (ap Err is)))
