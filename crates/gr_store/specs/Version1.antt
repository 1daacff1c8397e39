-- When a database holds a desk of version 1: by the selects of that version.
use Rattle.gr_core.specs.Columns.Stored.{TableName, DeskTable}
use Rattle.std.specs.Prelude.{◌≡◌, false, []}
use Rattle.sqlite_trees.specs.Tree.{Trees}
use Rattle.sqlite.specs.Does.{lacks_sequence}
use Rattle.sqlite.specs.Effect.{Database, IsDatabase}
use Rattle.gr_core.specs.declared.limits.TheConstants.{VERSION_1}
use Rattle.gr_core.specs.Desks.State.{State, new_state}
use Rattle.gr_core.specs.Desks.Version1.{IsValid1, lifted}
use Rattle.gr_core.specs.Columns.Fields.{header_fields}
use Rattle.gr_core.specs.Columns.Rows1.{HasRows1}
use Rattle.gr_store.specs.Holds.{HoldsBy, HasDeskTables1}
use Rattle.gr_store.specs.Own.{HasOwnTablesWith, in_its_tree}
use Rattle.gr_store.specs.Puts.{Puts}
use Rattle.gr_store.specs.Schema.{ballot1_table}
use Rattle.gr_store.specs.Selects.{ballot1_select}

-- the database holds the state in version 1
abbrev pub Holds1 : State → Database → Type 0
Holds1 = HoldsBy HasRows1 ballot1_select

-- the database holds a valid desk of version 1
abbrev pub HoldsValid1 : Database → Type 0
HoldsValid1 db = (s : State) × IsValid1 s × Holds1 s db

-- where the database holds one, it has the tables of version 1, each its own, beside whatever else
abbrev pub OwnsValid1 : Database → Type 0
OwnsValid1 db = HoldsValid1 db → HasDeskTables1 db

-- and this is what becomes of it
pub record HasValid1 (db : Database) (desk : State) : Type 0 where
  pub desk1 : State
  pub valid : IsValid1 desk1
  pub held : Holds1 desk1 db
  pub lifts : desk ≡ lifted desk1

-- the trees of a database that has the tables of version 1 and holds the state in it
abbrev pub LeavesDesk1 : State → Trees → Type 0
LeavesDesk1 s trees = (db : Database) × HasDeskTables1 db × Holds1 s db × (trees ≡ db.trees)

-- ==== a new desk

-- the state of a new desk of version 1
abbrev pub new_state1 : State
new_state1 = record new_state { header = record new_state.header { version = VERSION_1 } }

-- a database with the tables of version 1 as that version made them, each its own, and with no rows in them, that were
-- made in this one
pub record HasNewTables1 (old db : Database) : Type 0 where
  pub own : HasOwnTablesWith ballot1_table db.schema
  pub empty : (name : TableName) → db.trees (own name).has.tree ≡ []
  -- none of them counts its rows
  pub counted : lacks_sequence old.schema ≡ false → lacks_sequence db.schema ≡ false
  -- its trees obey the schema
  pub sound : IsDatabase db

-- such tables, in which the header of a new desk was put
pub record IsNewDesk1 (old db : Database) : Type 0 where
  pub made : Database
  pub tables : HasNewTables1 old made
  pub header : Puts (in_its_tree (tables.own DeskTable)) (header_fields new_state1.header) made db
