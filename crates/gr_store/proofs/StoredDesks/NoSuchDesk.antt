-- What of an answer tells that a database holds no valid desk, or has no such row in the table `desk`.
use Rattle.std.proofs.Common.{◌≡◌, ℕ, List, IsPermutation, refl, sym, subst}
use Rattle.sqlite.specs.Effect.{Database}
use Rattle.gr_core.specs.Columns.Fields.{Field}
use Rattle.gr_core.specs.Columns.Stored.{Stored, TableName, fields_of_header, table_rows}
use Rattle.sqlite.proofs.Callers.{one_permutation}
use Rattle.gr_store.proofs.TableRows.FieldsReadBack.{same_fields}
use Rattle.gr_core.specs.declared.rows.HeaderRow.{HeaderRow}
use Rattle.gr_store.specs.Holds.{IsAlone, HasHeaderRow, HoldsBy, HaveKindsWith, IsOther, SelectsOthersBy, CannotHoldOthers}
use Rattle.sqlite.specs.State.{State, HasCleanDisk}
use Rattle.gr_core.specs.Desks.State.{State as Desk}
use Rattle.gr_core.specs.declared.unfit.Unfit.{Unfit}
use Rattle.gr_core.specs.declared.unfit.Unfit.TheVariants as unfit
use Rattle.gr_store.specs.declared.fault.Fault.TheVariants as fault
use Rattle.gr_store.specs.Faults.{fault_of_unfit}
use Rattle.gr_store.specs.Content.{WritesNothing}
use Rattle.gr_store.specs.Columns.{CannotHold, Kind, kinds_with}
use Rattle.gr_store.specs.Selects.{HasOneAnswer, SelectsFields, desk_select, selects_with}
use Rattle.gr_store.specs.Tabled.{HasColumnsOf, HasColumnsWith}
use Rattle.sqlite_schema.specs.declared.schema.Table.{Table}
use Rattle.gr_store.proofs.Connections.StepsInTurn.{was_clean, IsKept}

-- where the one answer is not such a row, the database has none
pub has_none : (IsSuch : HeaderRow → Type 0) (db : Database) (rows : List (List Field)) → HasOneAnswer desk_select db
    → SelectsFields desk_select db rows → ¬ (IsAlone IsSuch rows) → ¬ (HasHeaderRow IsSuch db)
has_none IsSuch db rows one selects other such =
    let it = such.1 in
    let same = same_fields such.0 rows (one _ _ such.2 selects) in
    other (it.0, it.1, one_permutation (fields_of_header it.0) rows (subst (λ r. IsPermutation r rows) it.2 same))

-- where the answer of one other table cannot be held, not all of theirs can
pub cannot_others_by : (text : List ℕ) (kinds : List Kind) (name : TableName) → IsOther name → (table : Table)
    (was now : Database) → now ≡ was
    → (HasColumnsOf now.schema table → CannotHold (selects_with text name) (kinds_with kinds name) now)
    → HasColumnsOf was.schema table → CannotHoldOthers text kinds was
cannot_others_by text kinds name other table was now same told has =
    subst (CannotHoldOthers text kinds) same (λ rows are selected.
    told (subst (λ (d : Database). HasColumnsOf d.schema table) (sym same) has) (table_rows name rows) (are name)
    (selected name other))

module _ (HasRows : Desk → Stored → Type 0) (text : List ℕ) (IsRight : Desk → Type 0) where
  -- where the other tables cannot be read, no valid state is held
  pub cannot_others : (table : Table) (kinds : List Kind) → ((s : Desk) (rows : Stored) → IsRight s → HasRows s rows
      → HaveKindsWith kinds rows) → (old mid new : State) → IsKept old mid → WritesNothing mid new → HasCleanDisk new
      → HasColumnsWith table old.now.schema
      → (HasColumnsWith table mid.now.schema → CannotHoldOthers text kinds mid.now) → (s : Desk) → IsRight s
      → ¬ (HoldsBy HasRows text s old.now)
  cannot_others table kinds kinds_of old mid new kept none clean has told s right holds =
      let same = kept (was_clean mid new (λ _. ⊥) none.leaves clean) in
      told (subst (λ (d : Database). HasColumnsWith table d.schema) (sym same) has) holds.rows
      (kinds_of s holds.rows right holds.are) (subst (SelectsOthersBy text holds.rows) (sym same) (λ name other. holds.selected name))

  -- where rows that are read are those of no valid state, no valid state is held
  pub others_told : (old mid new : State) (rows : Stored) → IsKept old mid → WritesNothing mid new → HasCleanDisk new
      → ((s : Desk) → HoldsBy HasRows text s old.now → SelectsOthersBy text rows old.now → HasRows s rows)
      → SelectsOthersBy text rows mid.now → ((s : Desk) → IsRight s → ¬ (HasRows s rows)) → (s : Desk) → IsRight s
      → ¬ (HoldsBy HasRows text s old.now)
  others_told old mid new rows kept none clean same_rows others damaged s right holds =
      let same = kept (was_clean mid new (λ _. ⊥) none.leaves clean) in
      damaged s right (same_rows s holds (subst (SelectsOthersBy text rows) same others))

-- only rows that make no desk make the fault that says so
pub damaged_unfit : (reason : Unfit) → fault_of_unfit reason ≡ fault.Damaged → reason ≡ unfit.Damaged
damaged_unfit unfit.Damaged is = refl
damaged_unfit unfit.Memory is = absurd (cc)
