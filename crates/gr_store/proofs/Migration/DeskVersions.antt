-- Which version the desk of a database has: version 1, this version, or a later one, and never two of them.
use Rattle.gr_core.specs.Columns.Stored.{DeskTable}
use Rattle.std.proofs.Common.{◌≡◌, ◌≢◌, ◌<ℤ◌, ℕ, ℤ, pos, negsuc, refl, sym, ap, subst, ◌∙◌, arith}
use Rattle.sqlite.specs.Effect.{Database}
use Rattle.gr_core.specs.declared.limits.TheConstants.{VERSION, VERSION_1}
use Rattle.gr_core.specs.declared.rows.HeaderRow.{HeaderRow}
use Rattle.gr_core.specs.Desks.Valid.{IsValid}
use Rattle.gr_core.specs.Desks.State.{State}
use Rattle.gr_store.specs.Selects.{HasOneAnswer, desk_select}
use Rattle.gr_store.specs.Holds.{Holds, HasHeaderRow, IsCurrent, IsLater, IsOfThisVersion, IsTooNew}
use Rattle.gr_store.specs.Version1.{HoldsValid1}
use Rattle.gr_store.proofs.StoredDesks.LoadedDesks.{one_version, version_in}
use Rattle.gr_store.proofs.StoredDesks.NoSuchDesk.{has_none}

-- a desk of version 1 has that version
pub desk1_is : (db : Database) → HasOneAnswer desk_select db → HoldsValid1 db → (IsSuch : HeaderRow → Type 0)
    → ((row : HeaderRow) → IsSuch row → row.version ≢ pos VERSION_1) → ¬ (HasHeaderRow IsSuch db)
desk1_is db one it IsSuch other =
    has_none IsSuch db it.2.rows.desk one (it.2.selected DeskTable) (λ such.
    let version : such.0.version ≡ pos it.0.header.version = ap version_in (sym such.2 ∙ it.2.are.desk) in
    other such.0 such.1 (version ∙ ap pos it.1.header.version))

-- a number that is not below 0
abbrev magnitude : ℤ → ℕ
magnitude (pos n) = n
magnitude (negsuc n) = 0

-- so it is not one of this version
pub never_current : (db : Database) → HasOneAnswer desk_select db → HoldsValid1 db → ¬ (IsCurrent db)
never_current db one it =
    desk1_is db one it IsOfThisVersion (λ row such is.
    let same : VERSION ≡ VERSION_1 = ap magnitude (sym such.1 ∙ is) in
    omega (arith, same))

-- nor of a later one
pub never_newer : (db : Database) → HasOneAnswer desk_select db → HoldsValid1 db → ¬ (IsTooNew db)
never_newer db one it =
    desk1_is db one it IsLater (λ row such is.
    let after : pos VERSION <ℤ pos VERSION_1 = subst (λ v. pos VERSION <ℤ v) is such.1 in
    omega (arith, after))

-- one of this version is not of a later one
pub current_not_newer : (db : Database) → HasOneAnswer desk_select db → IsCurrent db → ¬ (IsTooNew db)
current_not_newer db one current later =
    let same = one_version IsOfThisVersion IsLater db one current later in
    let after : pos VERSION <ℤ pos VERSION
    = subst (λ v. pos VERSION <ℤ v) (sym same ∙ current.1.1.1) later.1.1.1 in
    omega (arith, after)

-- a valid desk of this version is one
pub holds_current : (s : State) (db : Database) → IsValid s → Holds s db → IsCurrent db
holds_current s db valid held =
    let header = s.header in
    let row : HeaderRow = record { id = pos 1; version = pos header.version; accepted = pos header.accepted; clock = pos header.clock } in
    (held.rows.desk, (row, (refl, ap pos valid.header.version), held.are.desk), held.selected DeskTable)
