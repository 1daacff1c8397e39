-- What stays beside the desk.
use Rattle.std.proofs.Common.{◌≡◌, IsSome, refl, sym, ap, subst, ◌∙◌}
use Rattle.std.specs.Prelude.{slice_get}
use Rattle.sqlite_schema.specs.declared.schema.Schema.{Schema}
use Rattle.sqlite_schema.specs.declared.schema.Table.{Table}
use Rattle.sqlite.specs.Effect.{Database}
use Rattle.sqlite.specs.Held.{state}
use Rattle.sqlite.specs.State.{HasCleanDisk}
use Rattle.sqlite.proofs.StateLemmas.{survives_then}
use Rattle.sqlite_trees.specs.declared.store.Store.{Ghosts}
use Rattle.gr_core.specs.Desks.State.{State}
use Rattle.gr_store.specs.Commits.{KeepsBeside, LeavesBeside}
use Rattle.gr_store.specs.Own.{HasOwnTables, IsBeside, IsLone}
use Rattle.gr_store.specs.Tabled.{HasTable, in_tree}
use Rattle.gr_office.proofs.HistoryLemmas.{survives_same}
use Rattle.gr_office.specs.Office.{Office, IsOpenWith, Spares}

-- a schema has a table in one tree
pub same_tree : {schema : Schema} {table : Table} (a b : HasTable schema table) → a.tree ≡ b.tree
same_tree {schema} {table} a b =
    let at : a.at ≡ b.at = (let both = sym a.named ∙ b.named in cc) in
    let same : in_tree table a.tree ≡ in_tree table b.tree
    = (let both = sym a.is ∙ ap (slice_get schema.tables) at ∙ b.is in cc) in
    ap (λ (t : Table). t.tree) same

-- so what is beside the six is so however they are found
beside_each : {schema : Schema} (a b : HasOwnTables schema) (other : Table) → IsBeside a other → IsBeside b other
beside_each a b other it = λ name e. it name (e ∙ same_tree (b name).has (a name).has)

beside_still : (one two : Schema) → two ≡ one → (own : HasOwnTables one) (later : HasOwnTables two) (other : Table) → IsBeside own other
    → IsBeside later other
beside_still one two same own later other it =
    subst (λ s. (later : HasOwnTables s) → IsBeside later other) (sym same) (λ later. beside_each own later other it) later

pub keeps_same : (db : Database) (own : HasOwnTables db.schema) → KeepsBeside own db db
keeps_same db own = record { schema_is = refl; rows = λ other lone beside. refl }

pub keeps_then : (old mid new : Database) (own : HasOwnTables old.schema) (later : HasOwnTables mid.schema) → KeepsBeside own old mid
    → KeepsBeside later mid new → KeepsBeside own old new
keeps_then old mid new own later one two = record {
  schema_is = two.schema_is ∙ one.schema_is;
  rows = λ other lone beside.
      two.rows other (subst (λ s. IsLone s other) (sym one.schema_is) lone)
      (beside_still old.schema mid.schema one.schema_is own later other beside) ∙ one.rows other lone beside;
}

module _ {S : Type 0} (g : Ghosts S) where
  pub spares_same : (office : Office S) → Spares g office office
  spares_same office = record {
    rows = λ clean s is some. keeps_same (state g office.conn).now is.kept.tables.own;
    leaves = λ clean s is. survives_same (state g office.conn) (LeavesBeside is.kept.tables.own (state g office.conn).now);
  }

  -- one call after others, of which the office was still open
  pub spares_then : (first mid last : Office S) → (HasCleanDisk (state g last.conn) → HasCleanDisk (state g mid.conn))
      → (HasCleanDisk (state g mid.conn) → (s : State) → IsOpenWith g s first → (t : State) × IsOpenWith g t mid)
      → Spares g first mid → Spares g mid last → Spares g first last
  spares_then first mid last was still one two = record {
    rows = λ clean s is some.
        let open_with = still (was clean) s is in
        keeps_then (state g first.conn).now (state g mid.conn).now (state g last.conn).now is.kept.tables.own open_with.1.kept.tables.own
        (one.rows (was clean) s is (subst IsSome (sym open_with.1.desk) refl)) (two.rows clean open_with.0 open_with.1 some);
    leaves = λ clean s is.
        let open_with = still (was clean) s is in
        let own = is.kept.tables.own in
        let later = open_with.1.kept.tables.own in
        let kept = one.rows (was clean) s is (subst IsSome (sym open_with.1.desk) refl) in
        survives_then (state g first.conn) (state g mid.conn) (state g last.conn) (LeavesBeside own (state g first.conn).now)
        (LeavesBeside later (state g mid.conn).now) (LeavesBeside own (state g first.conn).now) (λ _ db it. it)
        (λ _ db it. (it.0, it.1, keeps_then (state g first.conn).now (state g mid.conn).now it.0 own later kept it.2, it.3))
        (one.leaves (was clean) s is) (two.leaves clean open_with.0 open_with.1);
  }
