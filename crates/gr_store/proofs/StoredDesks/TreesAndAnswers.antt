-- What the trees of a database hold, the answers of its six selects say, and the other way about.
use Rattle.gr_core.specs.Columns.Stored.{DeskTable, DeveloperTable, ResolutionTable, ChoiceTable}
use Rattle.gr_core.specs.Columns.Stored.{SponsorTable, BallotTable}
use Rattle.std.proofs.Common.{◌≡◌, ℕ, List, [], ◌∷◌, map, refl, ap, subst, ◌∙◌, IsPermutation}
use Rattle.std.specs.declared.cmp.Ordering.{Ordering}
use Rattle.std.specs.FinMap.{FinMap}
use Rattle.std.proofs.lemmas.List.Sorted.{IsPermutation-sym}
use Rattle.sqlite_value.specs.Order.{Row}
use Rattle.sqlite_trees.specs.declared.store.Shape.TheVariants as shape
use Rattle.sqlite_trees.specs.View.{IsShaped}
use Rattle.sqlite_schema.specs.declared.schema.Table.{Table}
use Rattle.sqlite.specs.Effect.{Database}
use Rattle.sqlite.proofs.Callers.{one_permutation}
use Rattle.gr_core.specs.Desks.State.{State}
use Rattle.gr_store.proofs.TableRows.EachTable.{all_selected, others_selected, HasOneDesk, HasOneDeskBy, SelectsOthers}
use Rattle.gr_core.specs.declared.header.Header.{Header}
use Rattle.gr_core.specs.Columns.Fields.{Field, header_fields}
use Rattle.gr_core.specs.Columns.Fields.{developer_fields, resolution_fields, choice_fields, sponsor_fields, ballot_fields}
use Rattle.gr_core.specs.Columns.Stored.{Stored, HasRows, HasRowsBy, AreRowsOf}
use Rattle.gr_core.specs.Columns.Rows1.{ballot_fields1, HasRows1}
use Rattle.gr_store.specs.Schema.{desk_table}
use Rattle.gr_store.specs.Tabled.{in_tree}
use Rattle.gr_store.specs.Own.{HasOwnTablesWith, in_its_tree}
use Rattle.gr_store.specs.Rows.{value_of, columns_of}
use Rattle.gr_store.specs.Selects.{Selects, SelectsFields, HasOneAnswer, desk_select, developer_select}
use Rattle.gr_store.specs.Selects.{resolution_select, choice_select, sponsor_select, ballot_select, ballot1_select}
use Rattle.gr_store.specs.Version1.{Holds1}
use Rattle.gr_core.specs.Parts.Ballot.{BallotModel}
use Rattle.gr_core.specs.Parts.Key.{BallotKey}
use Rattle.gr_store.specs.Holds.{Holds, HoldsBy, SelectsOthersBy, AreKeyed}
use Rattle.gr_store.proofs.TableRows.StateInTrees.{HoldsMap, HoldsHeader, HasOtherTrees, HasTreesBy}
use Rattle.gr_store.proofs.Reading.SelectAnswers.{desk_selected_any, desk_answered_any, developer_selected_any, developer_answered_any}
use Rattle.gr_store.proofs.Reading.SelectAnswers.{resolution_selected_any, resolution_answered_any, choice_selected_any}
use Rattle.gr_store.proofs.Reading.SelectAnswers.{choice_answered_any, sponsor_selected_any, sponsor_answered_any}
use Rattle.gr_store.proofs.TableRows.ReorderedRows.{rows_moved}
use Rattle.gr_store.proofs.TableRows.FieldsReadBack.{same_fields}
use Rattle.gr_store.proofs.TableRows.MapAnswers.{rows_answered, rows_hold}

-- each answer to the text has the columns of each row of the table, once
abbrev pub IsOfTable : List ℕ → Table → Database → Type 0
IsOfTable text table db =
    (rows : List Row) → Selects text db rows → IsPermutation (map (columns_of table) (db.trees table.tree)) rows

-- ==== from the trees to the answers

-- an answer that there is, with the rows of the map
shown : {K V : Type 0} {cmp : K → K → Ordering} (text : List ℕ) (table : Table) (fields : K × V → List Field)
    (m : FinMap cmp V) (db : Database) → HoldsMap table fields m (db.trees table.tree) → IsOfTable text table db
    → (rows : List Row) × Selects text db rows
    → (kept : List (List Field)) × SelectsFields text db kept × AreRowsOf fields m kept
shown text table fields m db held each some =
    let it = rows_answered table fields m (db.trees table.tree) held some.0 (each some.0 some.1) in
    (it.0, subst (Selects text db) it.1 some.1, it.2)

-- the header's row is the only one
header_shown : (table : Table) (header : Header) (db : Database) → HoldsHeader table header (db.trees table.tree)
    → IsOfTable desk_select table db → (rows : List Row) × Selects desk_select db rows
    → SelectsFields desk_select db (header_fields header ∷ [])
header_shown table header db held each some =
    let one : map (columns_of table) (db.trees table.tree) ≡ map value_of (header_fields header) ∷ []
    = ap (map (columns_of table)) held.alone ∙ ap (λ c. c ∷ []) held.fields in
    let same = subst (λ l. IsPermutation l some.0) one (each some.0 some.1) in
    subst (Selects desk_select db) (one_permutation (map value_of (header_fields header)) some.0 same) some.1

-- a database whose trees have the rows of a state holds it
pub holds_by : (text : List ℕ) (fields : BallotKey × BallotModel → List Field) {table : Table} (s : State) (db : Database)
    (own : HasOwnTablesWith table db.schema) → IsOfTable text (in_its_tree (own BallotTable)) db → (rows : List Row) × Selects text db rows
    → HasTreesBy fields own s db → HoldsBy (HasRowsBy fields) text s db
holds_by text fields s db own each some held =
    let developers = shown developer_select (in_its_tree (own DeveloperTable)) developer_fields s.developers db held.developers
    (λ rows h. developer_selected_any db rows (own DeveloperTable).has h) (developer_answered_any db (own DeveloperTable).has) in
    let resolutions = shown resolution_select (in_its_tree (own ResolutionTable)) resolution_fields s.resolutions db held.resolutions
    (λ rows h. resolution_selected_any db rows (own ResolutionTable).has h) (resolution_answered_any db (own ResolutionTable).has) in
    let choices = shown choice_select (in_its_tree (own ChoiceTable)) choice_fields s.choices db held.choices
    (λ rows h. choice_selected_any db rows (own ChoiceTable).has h) (choice_answered_any db (own ChoiceTable).has) in
    let sponsors = shown sponsor_select (in_its_tree (own SponsorTable)) sponsor_fields s.sponsors db held.sponsors
    (λ rows h. sponsor_selected_any db rows (own SponsorTable).has h) (sponsor_answered_any db (own SponsorTable).has) in
    let ballots = shown text (in_its_tree (own BallotTable)) fields s.ballots db held.ballots each some in
    record {
      rows = record {
        desk = header_fields s.header ∷ [];
        developers = developers.0;
        resolutions = resolutions.0;
        choices = choices.0;
        sponsors = sponsors.0;
        ballots = ballots.0;
      };
      are = record {
        desk = refl;
        developers = developers.2;
        resolutions = resolutions.2;
        choices = choices.2;
        sponsors = sponsors.2;
        ballots = ballots.2;
      };
      selected = all_selected text
          (record {
            desk = header_fields s.header ∷ [];
            developers = developers.0;
            resolutions = resolutions.0;
            choices = choices.0;
            sponsors = sponsors.0;
            ballots = ballots.0;
          }) db
          (header_shown (in_its_tree (own DeskTable)) s.header db held.desk (λ rows h. desk_selected_any db rows (own DeskTable).has h)
          (desk_answered_any db (own DeskTable).has))
          (others_selected text _ db developers.1 resolutions.1 choices.1 sponsors.1 ballots.1);
    }

-- ==== from the answers to the trees

-- the tree of a table whose select answers the rows of a map holds it
held_by : {K V : Type 0} {cmp : K → K → Ordering} (text : List ℕ) (table : Table) (fields : K × V → List Field)
    (m : FinMap cmp V) (db : Database) (kept : List (List Field)) → IsShaped shape.Table (db.trees table.tree)
    → IsOfTable text table db → SelectsFields text db kept → AreRowsOf fields m kept
    → HoldsMap table fields m (db.trees table.tree)
held_by text table fields m db kept keyed each select are =
    rows_hold table fields m (db.trees table.tree) kept (each _ select) are keyed.0 keyed.1

-- the tree of the table `desk`, whose select answers one row, has that row alone
one_row : (tree : ℕ) (header : Header) (rows : List Row) → IsShaped shape.Table rows
    → IsPermutation (map (columns_of (in_tree desk_table tree)) rows) (map value_of (header_fields header) ∷ [])
    → HoldsHeader (in_tree desk_table tree) header rows
one_row tree header rows keyed same =
    go rows keyed (one_permutation (map value_of (header_fields header)) _ (IsPermutation-sym _ _ same))
  where
    go : (rows : List Row) → IsShaped shape.Table rows
        → map (columns_of (in_tree desk_table tree)) rows ≡ map value_of (header_fields header) ∷ []
        → HoldsHeader (in_tree desk_table tree) header rows
    go [] keyed e = absurd (cc)
    go (row ∷ []) keyed e = record { row = row; alone = refl; numbered = keyed.1.0; fields = cc }
    go (row ∷ other ∷ rows) keyed e = absurd (cc)

-- the trees of the tables beside that of ballots have the rows of a state, where the selects answer them
pub has_others : (text : List ℕ) (fields : BallotKey × BallotModel → List Field) {table : Table} (s : State) (db : Database)
    (rows : Stored) (own : HasOwnTablesWith table db.schema) → AreKeyed own db → HasRowsBy fields s rows
    → SelectsFields desk_select db rows.desk → SelectsOthersBy text rows db → HasOtherTrees own s db
has_others text fields s db rows own keyed are desk others =
    let header : SelectsFields desk_select db (header_fields s.header ∷ [])
    = subst (SelectsFields desk_select db) are.desk desk in
    record {
      desk = one_row (own DeskTable).has.tree s.header (db.trees (own DeskTable).has.tree) (keyed DeskTable)
          (desk_selected_any db _ (own DeskTable).has header);
      developers = held_by developer_select (in_its_tree (own DeveloperTable)) developer_fields s.developers db rows.developers
          (keyed DeveloperTable) (λ rows h. developer_selected_any db rows (own DeveloperTable).has h) (others DeveloperTable tt) are.developers;
      resolutions = held_by resolution_select (in_its_tree (own ResolutionTable)) resolution_fields s.resolutions db rows.resolutions
          (keyed ResolutionTable) (λ rows h. resolution_selected_any db rows (own ResolutionTable).has h) (others ResolutionTable tt) are.resolutions;
      choices = held_by choice_select (in_its_tree (own ChoiceTable)) choice_fields s.choices db rows.choices
          (keyed ChoiceTable) (λ rows h. choice_selected_any db rows (own ChoiceTable).has h) (others ChoiceTable tt) are.choices;
      sponsors = held_by sponsor_select (in_its_tree (own SponsorTable)) sponsor_fields s.sponsors db rows.sponsors
          (keyed SponsorTable) (λ rows h. sponsor_selected_any db rows (own SponsorTable).has h) (others SponsorTable tt) are.sponsors;
    }

-- the trees of a database have the rows of a state, where its selects answer them
pub has_trees : (text : List ℕ) (fields : BallotKey × BallotModel → List Field) {table : Table} (s : State) (db : Database)
    (rows : Stored) (own : HasOwnTablesWith table db.schema) → IsOfTable text (in_its_tree (own BallotTable)) db → AreKeyed own db
    → HasRowsBy fields s rows → SelectsFields desk_select db rows.desk → SelectsOthersBy text rows db
    → HasTreesBy fields own s db
has_trees text fields s db rows own each keyed are desk others =
    let beside = has_others text fields s db rows own keyed are desk others in
    record {
      desk = beside.desk;
      developers = beside.developers;
      resolutions = beside.resolutions;
      choices = beside.choices;
      sponsors = beside.sponsors;
      ballots = held_by text (in_its_tree (own BallotTable)) fields s.ballots db rows.ballots (keyed BallotTable) each (others BallotTable tt)
          are.ballots;
    }

-- ==== other answers

-- another answer has the rows of the map too
same_table : {K V : Type 0} {cmp : K → K → Ordering} (text : List ℕ) (fields : K × V → List Field) (m : FinMap cmp V)
    (db : Database) (rows others : List (List Field)) → HasOneAnswer text db → SelectsFields text db rows
    → SelectsFields text db others → AreRowsOf fields m rows → AreRowsOf fields m others
same_table text fields m db rows others alike one two are =
    rows_moved fields m rows others (same_fields rows others (alike _ _ one two)) are

-- and the header's row
same_header : (header : Header) (db : Database) (rows others : List (List Field)) → HasOneAnswer desk_select db
    → SelectsFields desk_select db rows → SelectsFields desk_select db others → rows ≡ header_fields header ∷ []
    → others ≡ header_fields header ∷ []
same_header header db rows others alike one two is =
    let same = same_fields rows others (alike _ _ one two) in
    one_permutation (header_fields header) others (subst (λ l. IsPermutation l others) is same)

-- whatever a database that holds a state answers, it has the rows of the state
pub same_rows_by : (text : List ℕ) (fields : BallotKey × BallotModel → List Field) (s : State) (db : Database)
    (was rows : Stored) → HasOneDeskBy text db → HasRowsBy fields s was → SelectsFields desk_select db was.desk
    → SelectsOthersBy text was db → SelectsFields desk_select db rows.desk → SelectsOthersBy text rows db
    → HasRowsBy fields s rows
same_rows_by text fields s db was rows alike are first held desk others = record {
  desk = same_header s.header db was.desk rows.desk (alike DeskTable) first desk are.desk;
  developers = same_table developer_select developer_fields s.developers db was.developers rows.developers
      (alike DeveloperTable) (held DeveloperTable tt) (others DeveloperTable tt) are.developers;
  resolutions = same_table resolution_select resolution_fields s.resolutions db was.resolutions rows.resolutions
      (alike ResolutionTable) (held ResolutionTable tt) (others ResolutionTable tt) are.resolutions;
  choices = same_table choice_select choice_fields s.choices db was.choices rows.choices
      (alike ChoiceTable) (held ChoiceTable tt) (others ChoiceTable tt) are.choices;
  sponsors = same_table sponsor_select sponsor_fields s.sponsors db was.sponsors rows.sponsors
      (alike SponsorTable) (held SponsorTable tt) (others SponsorTable tt) are.sponsors;
  ballots = same_table text fields s.ballots db was.ballots rows.ballots (alike BallotTable) (held BallotTable tt) (others BallotTable tt)
      are.ballots;
}

pub same_rows : (s : State) (db : Database) (rows : Stored) → HasOneDesk db → Holds s db
    → SelectsFields desk_select db rows.desk → SelectsOthers rows db → HasRows s rows
same_rows s db rows alike held desk others =
    same_rows_by ballot_select ballot_fields s db held.rows rows alike held.are (held.selected DeskTable) (λ name other. held.selected name)
    desk others

pub same_rows1 : (s : State) (db : Database) (rows : Stored) → HasOneDeskBy ballot1_select db → Holds1 s db
    → SelectsFields desk_select db rows.desk → SelectsOthersBy ballot1_select rows db → HasRows1 s rows
same_rows1 s db rows alike held desk others =
    same_rows_by ballot1_select ballot_fields1 s db held.rows rows alike held.are (held.selected DeskTable) (λ name other. held.selected name)
    desk others
