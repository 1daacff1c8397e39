-- Trees that hold a desk of version 1 hold it in this version, once it is migrated, and keep what stands beside it.
use Rattle.gr_core.specs.Columns.Stored.{DeskTable, DeveloperTable, ResolutionTable, ChoiceTable, SponsorTable, BallotTable}
use Rattle.std.proofs.Common.{◌≡◌, ℕ, false, inl, inr, List, [], ◌∷◌, length, slice_index_or, refl, sym, ap, subst, ◌∙◌, arith, option_map}
use Rattle.std.specs.FinMap.{empty, get-empty, same_map}
use Rattle.sqlite_value.specs.Order.{Row}
use Rattle.sqlite_schema.specs.declared.schema.Schema.{Schema}
use Rattle.sqlite_schema.specs.declared.schema.Table.{Table}
use Rattle.sqlite_rules.proofs.ListLemmas.{has_got, has_left, has_either}
use Rattle.sqlite.specs.Effect.{Database, IsDatabase}
use Rattle.sqlite.specs.Does.{lacks_sequence}
use Rattle.sqlite_trees.specs.Tree.{Trees}
use Rattle.sqlite_trees.specs.View.{IsShaped}
use Rattle.sqlite_trees.specs.declared.store.Shape.TheVariants as shape
use Rattle.gr_core.specs.declared.header.Header.{Header}
use Rattle.gr_core.specs.declared.limits.TheConstants.{VERSION}
use Rattle.gr_core.specs.Desks.Version1.{IsValid1, lifted, received_once}
use Rattle.gr_core.specs.Columns.Rows1.{ballot_fields1}
use Rattle.gr_core.proofs.Contents.BallotKeys.{ballot_total, ballot_only}
use Rattle.gr_core.proofs.Columns.Rows1Lemmas.{get-received_once}
use Rattle.gr_core.proofs.Validity.LiftedLemmas.{rows1_tell}
use Rattle.gr_core.specs.Machine.Row as core
use Rattle.gr_core.specs.Desks.State.{State, new_state}
use Rattle.gr_core.specs.Parts.Ballot.{BallotModel, with_received}
use Rattle.gr_core.specs.Parts.Key.{ballot_cmp}
use Rattle.gr_core.specs.Columns.Fields.{ballot_fields, developer_fields, resolution_fields, choice_fields, sponsor_fields}
use Rattle.gr_store.specs.Schema.{ballot_table}
use Rattle.gr_store.specs.Tabled.{in_tree}
use Rattle.gr_store.specs.Own.{HasOwnTable, HasOwnTables, HasOwnTablesWith, IsBallotTable1, IsLone, IsBeside, in_its_tree}
use Rattle.gr_store.specs.Makes.{MakesTable}
use Rattle.gr_store.specs.Clears.{Clears}
use Rattle.gr_store.specs.Commits.{LeavesDesk}
use Rattle.gr_store.specs.Selects.{ballot1_select}
use Rattle.gr_store.specs.Holds.{Holds, HasDeskTables, HasDeskTables1}
use Rattle.gr_store.proofs.TableRows.StateInTrees.{HoldsMap, HoldsHeader, HasOtherTrees, HasTrees}
use Rattle.gr_store.proofs.TableRows.EachTable.{HasOneDeskBy}
use Rattle.gr_store.specs.Version1.{Holds1, HoldsValid1, HasValid1, LeavesDesk1, new_state1}
use Rattle.gr_store.specs.Migrates.{Migrates, MayMigrate, AddsBallotTable, LeavesBallots, tables_beside, without_ballots}
use Rattle.gr_store.proofs.Connections.PutsInTurn.{puts_schema, puts_keep}
use Rattle.gr_store.proofs.Writing.InsertLemmas.{is_lone}
use Rattle.gr_store.proofs.Reading.RightTables.{columns1, right_columns1}
use Rattle.gr_store.proofs.StoredDesks.DeskTrees.{apart_trees, holds_none, stay, puts_rows}
use Rattle.gr_store.proofs.StoredDesks.TreesAndAnswers.{has_others, same_rows1}
use Rattle.gr_store.proofs.StoredDesks.HeldDesks.{kept_by, one_database}

-- a header of this version
pub header_is : (header : Header) (accepted clock : ℕ) → header.version ≡ VERSION → accepted ≡ header.accepted
    → clock ≡ header.clock → record { version = VERSION; accepted = accepted; clock = clock } ≡ header
header_is header accepted clock version count moment =
    rw (count, moment)
    (ap (λ v. record { version = v; accepted = header.accepted; clock = header.clock }) (sym version))

module _ (old made : Database) (makes : MakesTable ballot_table old made) where
  -- a table that was there has its rows still
  still_holds : {table : Table} (P : Table → List Row → Type 0) (was : HasOwnTable old.schema table)
      → P (in_its_tree was) (old.trees was.has.tree)
      → P (in_its_tree (makes.still table was).0) (made.trees (makes.still table was).0.has.tree)
  still_holds {table = table} P was held =
      let it = makes.still table was in
      let listed = has_got old.schema.tables was.has.at (in_its_tree was) was.has.is in
      let rows : made.trees it.0.has.tree ≡ old.trees was.has.tree
      = ap made.trees it.1 ∙ makes.kept.rows (in_its_tree was) listed in
      subst (λ tree. P (in_tree table tree) (made.trees it.0.has.tree)) (sym it.1) (subst (P (in_its_tree was)) (sym rows) held)

  -- the five other tables have the rows of the state, and that of ballots has none
  made_trees : {ballots : Table} (s : State) (own : HasOwnTablesWith ballots old.schema) → HasOtherTrees own s old
      → HasTrees (tables_beside own makes) (without_ballots s) made
  made_trees s own held = record {
    desk = still_holds (λ table. HoldsHeader table s.header) (own DeskTable) held.desk;
    developers = still_holds (λ table. HoldsMap table developer_fields s.developers) (own DeveloperTable) held.developers;
    resolutions = still_holds (λ table. HoldsMap table resolution_fields s.resolutions) (own ResolutionTable) held.resolutions;
    choices = still_holds (λ table. HoldsMap table choice_fields s.choices) (own ChoiceTable) held.choices;
    sponsors = still_holds (λ table. HoldsMap table sponsor_fields s.sponsors) (own SponsorTable) held.sponsors;
    ballots = holds_none (in_its_tree makes.own) ballot_fields _ makes.empty;
  }

module _ (schema : Schema) (own : HasOwnTables schema) (ballots : Table) (is : IsBallotTable1 ballots)
    (was : HasOwnTable schema ballots) where
  -- the table of ballots of version 1 is none of the six
  beside1 : IsBeside own (in_its_tree was)
  beside1 DeskTable = apart_trees schema _ _ was (own DeskTable) (λ e. omega (arith, ap length (sym is.name ∙ e)))
  beside1 DeveloperTable = apart_trees schema _ _ was (own DeveloperTable) (λ e. omega (arith, ap length (sym is.name ∙ e)))
  beside1 ResolutionTable = apart_trees schema _ _ was (own ResolutionTable) (λ e. omega (arith, ap length (sym is.name ∙ e)))
  beside1 ChoiceTable =
      apart_trees schema _ _ was (own ChoiceTable) (λ e. omega (arith, ap (λ l. slice_index_or l 0 0) (sym is.name ∙ e)))
  beside1 SponsorTable = apart_trees schema _ _ was (own SponsorTable) (λ e. omega (arith, ap length (sym is.name ∙ e)))
  beside1 BallotTable = apart_trees schema _ _ was (own BallotTable) (λ e. omega (arith, ap length (sym is.name ∙ e)))

  cleared_trees : (s : State) (old new : Database) → old.schema ≡ schema → Clears (in_its_tree was) old new
      → HasTrees own s old → HasTrees own s new
  cleared_trees s old new has clears held =
      let others = stay own s was.has.tree old new has held clears.others in
      record {
        desk = others.desk (λ e. beside1 DeskTable (sym e));
        developers = others.developers (λ e. beside1 DeveloperTable (sym e));
        resolutions = others.resolutions (λ e. beside1 ResolutionTable (sym e));
        choices = others.choices (λ e. beside1 ChoiceTable (sym e));
        sponsors = others.sponsors (λ e. beside1 SponsorTable (sym e));
        ballots = others.ballots (λ e. beside1 BallotTable (sym e));
      }

-- a state with the other rows of one of version 1, once that is migrated to it
pub migrated : (s t : State) (old new : Database) (ballots : Table) → IsBallotTable1 ballots
    → (own : HasOwnTablesWith ballots old.schema) → HasOtherTrees own s old
    → without_ballots t ≡ record (without_ballots s) { header = t.header }
    → Migrates t old own new → HasDeskTables new × Holds t new
migrated s t old new ballots is own held alike it =
    let made : Database = it.made in
    let beside : HasOwnTables made.schema = tables_beside own it.makes in
    let was = (it.makes.still ballots (own BallotTable)).0 in
    let first = made_trees old made it.makes s own held in
    let titled = puts_rows beside (without_ballots s) (core.HeaderOf t.header ∷ []) made it.header refl first it.puts_header in
    let schema : it.header.schema ≡ made.schema = puts_schema beside (core.HeaderOf t.header ∷ []) made it.header it.puts_header in
    let bare : HasTrees beside (without_ballots t) it.header = subst (λ u. HasTrees beside u it.header) (sym alike) titled in
    let put = it.puts_ballots in
    let all = puts_rows beside (without_ballots t) put.0 it.header it.filled schema bare put.2 in
    let schema_2 : it.filled.schema ≡ made.schema = puts_schema beside put.0 it.header it.filled put.2 ∙ schema in
    let whole : HasTrees beside t it.filled = subst (λ u. HasTrees beside u it.filled) put.1 all in
    kept_by made.schema beside t new (it.clears.schema ∙ schema_2) it.clears.sound
    (cleared_trees made.schema beside ballots is was t it.filled new schema_2 it.clears whole)

-- ==== what becomes of the ballots of version 1

-- the table of ballots of version 1 has no rows, once they are taken out
pub gone1 : (t : State) (old new : Database) (tables : HasDeskTables1 old) → Migrates t old tables.has.own new
    → new.trees (tables.has.own BallotTable).has.tree ≡ []
gone1 t old new tables it =
    let made : Database = it.made in
    let own : HasOwnTablesWith tables.ballots old.schema = tables.has.own in
    let beside : HasOwnTables made.schema = tables_beside own it.makes in
    let was = it.makes.still tables.ballots (own BallotTable) in
    let titled = puts_keep beside (core.HeaderOf t.header ∷ []) made it.header it.puts_header in
    let put = puts_keep beside it.puts_ballots.0 it.header it.filled it.puts_ballots.2 in
    let lone : IsLone made.schema (in_its_tree was.0) = is_lone made.schema tables.ballots was.0 tables.is.free in
    let apart = beside1 made.schema beside tables.ballots tables.is was.0 in
    let rows : it.filled.trees was.0.has.tree ≡ made.trees was.0.has.tree
    = put.rows (in_its_tree was.0) (subst (λ c. IsLone c (in_its_tree was.0)) (sym titled.schema_is) lone) apart
    ∙ titled.rows (in_its_tree was.0) lone apart in
    let shaped : IsShaped shape.Table (made.trees was.0.has.tree)
    = still_holds old made it.makes (λ table. IsShaped shape.Table) (own BallotTable) (tables.has.keyed BallotTable) in
    ap new.trees (sym was.1) ∙ it.clears.empty (subst (IsShaped shape.Table) (sym rows) shaped)

-- ==== from a desk of version 1

-- the trees of a database that holds a state in version 1 have its rows, whatever columns its ballots have beside
trees1 : (s : State) (db : Database) (made : HasDeskTables1 db) → Holds1 s db → HasOtherTrees made.has.own s db
trees1 s db made held =
    has_others ballot1_select ballot_fields1 s db held.rows made.has.own made.has.keyed held.are (held.selected DeskTable)
    (λ name other. held.selected name)

-- what it becomes is known by what it holds
pub one_desk1 : (s desk : State) (db : Database) → HasOneDeskBy ballot1_select db → IsValid1 s → Holds1 s db
    → HasValid1 db desk → desk ≡ lifted s
one_desk1 s desk db alike valid held it =
    it.lifts ∙ rows1_tell it.desk1 s it.held.rows it.valid valid it.held.are
    (same_rows1 s db it.held.rows alike held (it.held.selected DeskTable) (λ name other. it.held.selected name))

-- no ballots are none in this version
none_received : received_once (empty {X = BallotModel} {R = ballot_cmp}) ≡ empty
none_received =
    let none = empty {X = BallotModel} {R = ballot_cmp} in
    same_map ballot_total ballot_only (received_once none) none (λ key.
    get-received_once none key ∙ ap (option_map (with_received 1)) (get-empty {X = BallotModel} ballot_cmp key)
    ∙ sym (get-empty {X = BallotModel} ballot_cmp key))

-- so a new desk of version 1 becomes a new desk
pub new_lifted : lifted new_state1 ≡ new_state
new_lifted = ap (λ ballots. record new_state { ballots = ballots }) none_received

-- it is held once it is migrated
pub migrates_to : (s desk : State) (old new : Database) (made : HasDeskTables1 old) → IsValid1 s → Holds1 s old
    → HasValid1 old desk → Migrates desk old made.has.own new → HasDeskTables new × Holds (lifted s) new
migrates_to s desk old new made valid held it migrates =
    let alike : without_ballots desk ≡ record (without_ballots it.desk1) { header = desk.header }
    = subst (λ t. without_ballots t ≡ record (without_ballots it.desk1) { header = t.header }) (sym it.lifts) refl in
    subst (λ t. HasDeskTables new × Holds t new)
    (one_desk1 s desk old (right_columns1 old (columns1 old.schema made.is made.has.own)) valid held it)
    (migrated it.desk1 desk old new made.ballots made.is made.has.own (trees1 it.desk1 old made it.held) alike migrates)

-- and that is what a crash may leave
pub leaves_migrated : (s desk : State) (old : Database) (made : HasDeskTables1 old) → IsValid1 s → Holds1 s old
    → HasValid1 old desk → (trees : Trees) → MayMigrate desk old trees → LeavesDesk (lifted s) trees
leaves_migrated s desk old made valid held it trees may =
    let left = may.has made.ballots made.is made.has.own made.has.sound in
    let now = migrates_to s desk old left.0 made valid held it left.1 in
    (left.0, now.0, now.1, left.2)

-- what it becomes is of a valid desk of version 1
pub told_desk1 : (db : Database) (desk : State) → HasValid1 db desk → HoldsValid1 db
told_desk1 db desk it = (it.desk1, it.valid, it.held)

-- a database with the trees of another one that holds a state in version 1, holds it too
pub left_held1 : (s : State) (db : Database) → IsDatabase db → LeavesDesk1 s db.trees → HasDeskTables1 db × Holds1 s db
left_held1 s db sound left =
    subst (λ (d : Database). HasDeskTables1 d × Holds1 s d)
    (sym (one_database db left.0 sound left.1.has.sound left.3)) (left.1, left.2)

-- ==== what stands beside it

module _ (old made : Database) (makes : MakesTable ballot_table old made) (has : lacks_sequence old.schema ≡ false)
    (ballots : Table) (own : HasOwnTablesWith ballots old.schema) (other : Table) (lone : IsLone old.schema other)
    (beside : IsBeside own other) where
  -- a table that no foreign key is in has none still
  lone_still : IsLone made.schema other
  lone_still = subst (λ c. IsLone c other) (sym (makes.alone has)) (record {
    listed = has_left old.schema.tables _ other lone.listed;
    free = λ it among same. elim (has_either old.schema.tables _ it among) [
      | inl was ↦ lone.free it was same
      | inr last ↦ elim last [ inl is ↦ ap (λ (t : Table). t.references) is | inr none ↦ absurd none ]
    ];
  })

  beside_still : IsBeside (tables_beside own makes) other
  beside_still BallotTable = makes.fresh other lone.listed
  beside_still DeskTable = λ e. beside DeskTable (e ∙ (makes.still _ (own DeskTable)).1)
  beside_still DeveloperTable = λ e. beside DeveloperTable (e ∙ (makes.still _ (own DeveloperTable)).1)
  beside_still ResolutionTable = λ e. beside ResolutionTable (e ∙ (makes.still _ (own ResolutionTable)).1)
  beside_still ChoiceTable = λ e. beside ChoiceTable (e ∙ (makes.still _ (own ChoiceTable)).1)
  beside_still SponsorTable = λ e. beside SponsorTable (e ∙ (makes.still _ (own SponsorTable)).1)

pub adds_ballots : (t : State) (old new : Database) (ballots : Table) (own : HasOwnTablesWith ballots old.schema)
    → Migrates t old own new → lacks_sequence old.schema ≡ false → AddsBallotTable old own new
adds_ballots t old new ballots own it has =
    let made : Database = it.made in
    let its = tables_beside own it.makes in
    let titled = puts_keep its (core.HeaderOf t.header ∷ []) made it.header it.puts_header in
    let put = puts_keep its it.puts_ballots.0 it.header it.filled it.puts_ballots.2 in
    let in_header : it.header.schema ≡ made.schema = titled.schema_is in
    let in_filled : it.filled.schema ≡ made.schema = put.schema_is ∙ in_header in
    record {
      schema_is = it.clears.schema ∙ in_filled ∙ it.makes.alone has;
      rows = λ other lone beside.
          let still = lone_still old made it.makes has ballots own other lone beside in
          let apart = beside_still old made it.makes has ballots own other lone beside in
          it.clears.others other (subst (λ c. IsLone c other) (sym in_filled) still)
          (λ e. beside BallotTable (e ∙ (it.makes.still _ (own BallotTable)).1))
          ∙ put.rows other (subst (λ c. IsLone c other) (sym in_header) still) apart
          ∙ titled.rows other still apart
          ∙ it.makes.kept.rows other lone.listed;
    }

-- and that is what a crash may leave of it
pub leaves_ballots : (t : State) (old : Database) (tables : HasDeskTables1 old) → lacks_sequence old.schema ≡ false
    → (trees : Trees) → MayMigrate t old trees → LeavesBallots old tables.has.own trees
leaves_ballots t old tables has trees may =
    let left = may.has tables.ballots tables.is tables.has.own tables.has.sound in
    (left.0, left.1.clears.sound, adds_ballots t old left.0 tables.ballots tables.has.own left.1 has, left.2)
