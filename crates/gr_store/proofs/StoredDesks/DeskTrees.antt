-- The trees that hold a desk hold it with rows put, once those rows are put into them; those of a new desk hold it.
use Rattle.gr_core.specs.Columns.Stored.{TableName}
use Rattle.gr_core.specs.Columns.Stored.{DeskTable, DeveloperTable, ResolutionTable, ChoiceTable}
use Rattle.gr_core.specs.Columns.Stored.{SponsorTable, BallotTable}
use Rattle.std.proofs.Common.{◌≡◌, ◌≢◌, ℕ, pos, List, [], ◌∷◌, false, refl, sym, ap, subst, ◌∙◌, inl, inr, Ordering}
use Rattle.std.proofs.Common.{arith, true≢false, length, slice_index_or}
use Rattle.std.specs.Cmp.{nat_cmp_total}
use Rattle.std.specs.FinMap.{get-empty, empty, nat_cmp-IsAntisymmetric}
use Rattle.std.proofs.lemmas.Cmp.{tied_itself}
use Rattle.sqlite_value.specs.declared.value.Value.TheVariants.{Int}
use Rattle.sqlite_value.specs.Order.{Row, value_cmp}
use Rattle.sqlite_value.proofs.OrderLemmas.{value_cmp_total}
use Rattle.sqlite_trees.specs.declared.store.Shape.TheVariants as shape
use Rattle.sqlite_trees.specs.Tree.{rowid, IsTable}
use Rattle.sqlite_trees.specs.View.{is_int, IsShaped}
use Rattle.sqlite_schema.specs.declared.schema.Schema.{Schema}
use Rattle.sqlite_schema.specs.declared.schema.Table.{Table}
use Rattle.sqlite_rules.specs.Lists.{Has}
use Rattle.sqlite_rules.proofs.ListLemmas.{has_got}
use Rattle.sqlite.specs.Effect.{Database}
use Rattle.gr_core.specs.declared.header.Header.{Header}
use Rattle.gr_core.specs.Machine.Row as core
use Rattle.gr_core.specs.Machine.Row.{put, put_all}
use Rattle.gr_core.specs.Desks.State.{State, new_state}
use Rattle.gr_core.specs.Columns.Fields.{Field, natural, header_fields}
use Rattle.gr_core.specs.Columns.Fields.{developer_fields, resolution_fields, choice_fields, sponsor_fields, ballot_fields}
use Rattle.gr_core.specs.Columns.Rows1.{ballot_fields1}
use Rattle.gr_core.specs.Parts.Ballot.{BallotModel}
use Rattle.gr_core.specs.Parts.Key.{BallotKey}
use Rattle.gr_core.proofs.Collections.TextKeys.{text_total, text_only}
use Rattle.gr_core.proofs.Collections.PairKeys.{choice_total, choice_only}
use Rattle.gr_core.proofs.Contents.SponsorLemmas.{sponsor_total, sponsor_only}
use Rattle.gr_core.proofs.Contents.BallotKeys.{ballot_total, ballot_only}
use Rattle.gr_store.specs.Schema.{ballot1_table, desk_table}
use Rattle.gr_store.specs.Tabled.{in_tree}
use Rattle.gr_store.specs.Own.{HasOwnTable, HasOwnTables, HasOwnTablesWith, IsLone, in_its_tree}
use Rattle.gr_store.specs.Rows.{columns_of, HasFields}
use Rattle.gr_store.specs.Puts.{have_one_key, IsInOrder, Replaces, Puts}
use Rattle.gr_store.proofs.TableRows.StateInTrees.{HoldsMap, HoldsTable, HoldsHeader, HasTrees, HasTreesBy}
use Rattle.gr_store.specs.Version1.{IsNewDesk1, new_state1}
use Rattle.gr_store.specs.Commits.{table_for, PutsRow, PutsAll, IsNewDesk}
use Rattle.gr_store.proofs.TableRows.AgreeingRows.{agree_fields}
use Rattle.gr_store.proofs.TableRows.TableKeys.{developer_key, resolution_key, choices_key, sponsor_key, ballot_key}
use Rattle.gr_store.proofs.Writing.InsertLemmas.{is_lone}
use Rattle.gr_store.proofs.TableRows.MapInTree.{holds_put}

-- ==== the header

-- a tree whose rows are all one has that one
only_row : (rows : List Row) (row : Row) → IsTable rows → Has rows row → ((other : Row) → Has rows other → other ≡ row)
    → rows ≡ row ∷ []
only_row [] row up there same = absurd there
only_row (x ∷ []) row up there same = ap (λ r. r ∷ []) (same x (inl refl))
only_row (x ∷ y ∷ more) row up there same =
    let both : x ≡ y = same x (inl refl) ∙ sym (same y (inr (inl refl))) in
    let tie = ap (λ r. value_cmp (rowid r) (rowid y)) both ∙ tied_itself value_cmp_total (rowid y) in
    absurd (let less = up.0.0 in cc)

-- the table `desk`, with its rows in this tree
abbrev desk_in : ℕ → Table
desk_in tree = in_tree desk_table tree

-- the row of a header has the id 1
header_id : (tree : ℕ) (header : Header) (row : Row) → HasFields (desk_in tree) row (header_fields header)
    → rowid row ≡ Int (pos 1)
header_id tree header row has = cc

-- the rows of the table `desk` are in order, and such that a header replaces them all
pub record AreHeaders (tree : ℕ) (rows : List Row) : Type 0 where
  pub in_order : IsInOrder (desk_in tree) rows
  pub ids : (row : Row) → Has rows row → rowid row ≡ Int (pos 1)

-- the row of the new header is alone then
puts_header : (tree : ℕ) (header : Header) (old new : List Row) → AreHeaders tree old
    → (IsInOrder (desk_in tree) old → Replaces (desk_in tree) (header_fields header) old new)
    → HoldsHeader (desk_in tree) header new
puts_header tree header old new are replaces =
    let put = replaces are.in_order in
    let one : rowid put.row ≡ Int (pos 1) = header_id tree header put.row put.has in
    let apart = λ (row : Row) (was : Has old row) (differs : have_one_key (desk_in tree) row put.row ≡ false).
    absurd {A = row ≡ put.row} (true≢false (sym (agree_fields (0 ∷ []) (natural 1 ∷ []) row put.row
    (ap (λ v. v ∷ []) (are.ids row was)) (ap (λ v. v ∷ []) one)) ∙ differs)) in
    record {
      row = put.row;
      alone = only_row new put.row put.shaped.0 put.there (λ row there. elim (put.known row there) [
        | inl same ↦ same
        | inr kept ↦ apart row kept.0 kept.1
      ]);
      numbered = ap is_int one;
      fields = put.has;
    }

-- such is the row of a header
pub header_held : (tree : ℕ) (header : Header) (rows : List Row) → HoldsHeader (desk_in tree) header rows
    → AreHeaders tree rows
header_held tree header rows held = record {
  in_order = record {
    shaped = subst (IsShaped shape.Table) (sym held.alone) ((tt, tt), (held.numbered, tt));
    known = λ row there. (header_fields header, ap (columns_of (desk_in tree)) (is row there) ∙ held.fields);
  };
  ids = λ row there. ap rowid (is row there) ∙ header_id tree header held.row held.fields;
}
  where
    is : (row : Row) → Has rows row → row ≡ held.row
    is row there = elim (subst (λ l. Has l row) held.alone there) [ inl e ↦ e | inr none ↦ absurd none ]

-- and such are no rows
none_held : (tree : ℕ) (rows : List Row) → rows ≡ [] → AreHeaders tree rows
none_held tree rows none = record {
  in_order = record {
    shaped = subst (IsShaped shape.Table) (sym none) (tt, tt);
    known = λ row there. absurd (subst (λ l. Has l row) none there);
  };
  ids = λ row there. absurd (subst (λ l. Has l row) none there);
}

-- ==== the six trees

-- tables of their own that have two names have two trees
pub apart_trees : (schema : Schema) (a b : Table) (one : HasOwnTable schema a) (two : HasOwnTable schema b)
    → a.name ≢ b.name → one.has.tree ≢ two.has.tree
apart_trees schema a b one two differ same =
    differ (ap (λ (t : Table). t.name)
    (two.apart (in_its_tree one) (has_got schema.tables one.has.at (in_its_tree one) one.has.is) same))

-- a table of a database that has its schema
own_lone : (schema : Schema) (db : Database) → db.schema ≡ schema → (table : Table) (own : HasOwnTable schema table)
    → table.references ≡ [] → IsLone db.schema (in_its_tree own)
own_lone schema db has table own free = subst (λ c. IsLone c (in_its_tree own)) (sym has) (is_lone schema table own free)

-- ==== a row of any table

module _ {schema : Schema} (own : HasOwnTables schema) where
  -- what a state has in the tables that are not written
  pub record Stays (s : State) (written : ℕ) (db : Database) : Type 0 where
    pub desk : (own DeskTable).has.tree ≢ written → HoldsHeader (in_its_tree (own DeskTable)) s.header (db.trees (own DeskTable).has.tree)
    pub developers : (own DeveloperTable).has.tree ≢ written → HoldsTable (own DeveloperTable) developer_fields s.developers db
    pub resolutions : (own ResolutionTable).has.tree ≢ written → HoldsTable (own ResolutionTable) resolution_fields s.resolutions db
    pub choices : (own ChoiceTable).has.tree ≢ written → HoldsTable (own ChoiceTable) choice_fields s.choices db
    pub sponsors : (own SponsorTable).has.tree ≢ written → HoldsTable (own SponsorTable) sponsor_fields s.sponsors db
    pub ballots : (own BallotTable).has.tree ≢ written → HoldsTable (own BallotTable) ballot_fields s.ballots db

  pub stay : (s : State) (written : ℕ) (old new : Database) → old.schema ≡ schema → HasTrees own s old
      → ((other : Table) → IsLone old.schema other → other.tree ≢ written → new.trees other.tree ≡ old.trees other.tree)
      → Stays s written new
  stay s written old new has held others = record {
    desk = λ other. subst (HoldsHeader (in_its_tree (own DeskTable)) s.header)
        (sym (others _ (own_lone schema old has _ (own DeskTable) refl) other)) held.desk;
    developers = λ other. subst (HoldsMap (in_its_tree (own DeveloperTable)) developer_fields s.developers)
        (sym (others _ (own_lone schema old has _ (own DeveloperTable) refl) other)) held.developers;
    resolutions = λ other. subst (HoldsMap (in_its_tree (own ResolutionTable)) resolution_fields s.resolutions)
        (sym (others _ (own_lone schema old has _ (own ResolutionTable) refl) other)) held.resolutions;
    choices = λ other. subst (HoldsMap (in_its_tree (own ChoiceTable)) choice_fields s.choices)
        (sym (others _ (own_lone schema old has _ (own ChoiceTable) refl) other)) held.choices;
    sponsors = λ other. subst (HoldsMap (in_its_tree (own SponsorTable)) sponsor_fields s.sponsors)
        (sym (others _ (own_lone schema old has _ (own SponsorTable) refl) other)) held.sponsors;
    ballots = λ other. subst (HoldsMap (in_its_tree (own BallotTable)) ballot_fields s.ballots)
        (sym (others _ (own_lone schema old has _ (own BallotTable) refl) other)) held.ballots;
  }

  -- a row is put into the trees as into the state
  pub puts_row : (s : State) (row : core.RowModel) (old new : Database) → old.schema ≡ schema → HasTrees own s old
      → PutsRow own row old new → HasTrees own (put s row) new
  puts_row s (core.HeaderOf header) old new has held change =
      let others = stay s (table_for own (core.HeaderOf header)).tree old new has held change.others in
      record {
        desk = puts_header (own DeskTable).has.tree header _ _ (header_held (own DeskTable).has.tree s.header _ held.desk) change.rows;
        developers = others.developers (apart_trees schema _ _ (own DeveloperTable) (own DeskTable) (λ e. omega (arith, ap length e)));
        resolutions = others.resolutions (apart_trees schema _ _ (own ResolutionTable) (own DeskTable) (λ e. omega (arith, ap length e)));
        choices = others.choices (apart_trees schema _ _ (own ChoiceTable) (own DeskTable) (λ e. omega (arith, ap length e)));
        sponsors = others.sponsors (apart_trees schema _ _ (own SponsorTable) (own DeskTable) (λ e. omega (arith, ap length e)));
        ballots = others.ballots (apart_trees schema _ _ (own BallotTable) (own DeskTable) (λ e. omega (arith, ap length e)));
      }
  puts_row s (core.DeveloperOf login row) old new has held change =
      let others = stay s (table_for own (core.DeveloperOf login row)).tree old new has held change.others in
      record {
        desk = others.desk (apart_trees schema _ _ (own DeskTable) (own DeveloperTable) (λ e. omega (arith, ap length e)));
        developers = holds_put text_total text_only (in_its_tree (own DeveloperTable)) developer_fields _ (developer_key (own DeveloperTable).has.tree)
            s.developers login row _ _ held.developers change.rows;
        resolutions = others.resolutions (apart_trees schema _ _ (own ResolutionTable) (own DeveloperTable) (λ e. omega (arith, ap length e)));
        choices = others.choices (apart_trees schema _ _ (own ChoiceTable) (own DeveloperTable) (λ e. omega (arith, ap length e)));
        sponsors = others.sponsors (apart_trees schema _ _ (own SponsorTable) (own DeveloperTable) (λ e. omega (arith, ap length e)));
        ballots = others.ballots (apart_trees schema _ _ (own BallotTable) (own DeveloperTable) (λ e. omega (arith, ap length e)));
      }
  puts_row s (core.ResolutionOf number row) old new has held change =
      let others = stay s (table_for own (core.ResolutionOf number row)).tree old new has held change.others in
      record {
        desk = others.desk (apart_trees schema _ _ (own DeskTable) (own ResolutionTable) (λ e. omega (arith, ap length e)));
        developers = others.developers (apart_trees schema _ _ (own DeveloperTable) (own ResolutionTable) (λ e. omega (arith, ap length e)));
        resolutions = holds_put nat_cmp_total nat_cmp-IsAntisymmetric (in_its_tree (own ResolutionTable)) resolution_fields _
            (resolution_key (own ResolutionTable).has.tree) s.resolutions number row _ _ held.resolutions change.rows;
        choices = others.choices (apart_trees schema _ _ (own ChoiceTable) (own ResolutionTable) (λ e. omega (arith, ap length e)));
        sponsors = others.sponsors (apart_trees schema _ _ (own SponsorTable) (own ResolutionTable) (λ e. omega (arith, ap length e)));
        ballots = others.ballots (apart_trees schema _ _ (own BallotTable) (own ResolutionTable) (λ e. omega (arith, ap length e)));
      }
  puts_row s (core.ChoiceOf key row) old new has held change =
      let others = stay s (table_for own (core.ChoiceOf key row)).tree old new has held change.others in
      record {
        desk = others.desk (apart_trees schema _ _ (own DeskTable) (own ChoiceTable) (λ e. omega (arith, ap length e)));
        developers = others.developers (apart_trees schema _ _ (own DeveloperTable) (own ChoiceTable) (λ e. omega (arith, ap length e)));
        resolutions = others.resolutions (apart_trees schema _ _ (own ResolutionTable) (own ChoiceTable) (λ e. omega (arith, ap length e)));
        choices = holds_put choice_total choice_only (in_its_tree (own ChoiceTable)) choice_fields _ (choices_key (own ChoiceTable).has.tree)
            s.choices key row _ _ held.choices change.rows;
        sponsors = others.sponsors (apart_trees schema _ _ (own SponsorTable) (own ChoiceTable) (λ e. omega (arith, ap length e)));
        ballots = others.ballots (apart_trees schema _ _ (own BallotTable) (own ChoiceTable) (λ e. omega (arith, ap length e)));
      }
  puts_row s (core.SponsorOf key row) old new has held change =
      let others = stay s (table_for own (core.SponsorOf key row)).tree old new has held change.others in
      record {
        desk = others.desk (apart_trees schema _ _ (own DeskTable) (own SponsorTable) (λ e. omega (arith, ap length e)));
        developers = others.developers (apart_trees schema _ _ (own DeveloperTable) (own SponsorTable) (λ e. omega (arith, ap length e)));
        resolutions = others.resolutions (apart_trees schema _ _ (own ResolutionTable) (own SponsorTable) (λ e. omega (arith, ap length e)));
        choices = others.choices (apart_trees schema _ _ (own ChoiceTable) (own SponsorTable) (λ e. omega (arith, ap length e)));
        sponsors = holds_put sponsor_total sponsor_only (in_its_tree (own SponsorTable)) sponsor_fields _ (sponsor_key (own SponsorTable).has.tree)
            s.sponsors key row _ _ held.sponsors change.rows;
        ballots = others.ballots (apart_trees schema _ _ (own BallotTable) (own SponsorTable) (λ e. omega (arith, ap (λ l. slice_index_or l 0 0) e)));
      }
  puts_row s (core.BallotOf key row) old new has held change =
      let others = stay s (table_for own (core.BallotOf key row)).tree old new has held change.others in
      record {
        desk = others.desk (apart_trees schema _ _ (own DeskTable) (own BallotTable) (λ e. omega (arith, ap length e)));
        developers = others.developers (apart_trees schema _ _ (own DeveloperTable) (own BallotTable) (λ e. omega (arith, ap length e)));
        resolutions = others.resolutions (apart_trees schema _ _ (own ResolutionTable) (own BallotTable) (λ e. omega (arith, ap length e)));
        choices = others.choices (apart_trees schema _ _ (own ChoiceTable) (own BallotTable) (λ e. omega (arith, ap length e)));
        sponsors = others.sponsors (apart_trees schema _ _ (own SponsorTable) (own BallotTable) (λ e. omega (arith, ap (λ l. slice_index_or l 0 0) e)));
        ballots = holds_put ballot_total ballot_only (in_its_tree (own BallotTable)) ballot_fields _ (ballot_key (own BallotTable).has.tree)
            s.ballots key row _ _ held.ballots change.rows;
      }

  -- rows are put into the trees as into the state, one after the other
  pub puts_rows : (s : State) (rows : List core.RowModel) (old new : Database) → old.schema ≡ schema → HasTrees own s old
      → PutsAll own rows old new → HasTrees own (put_all s rows) new
  puts_rows s [] old new has held change = subst (HasTrees own s) (sym change) held
  puts_rows s (row ∷ rows) old new has held change =
      puts_rows (put s row) rows change.0 new (change.1.schema ∙ has) (puts_row s row old change.0 has held change.1)
      change.2

-- ==== a new desk

-- a tree with no rows holds the map with no entries
pub holds_none : {K V : Type 0} {cmp : K → K → Ordering} (table : Table) (fields : K × V → List Field) (rows : List Row)
    → rows ≡ [] → HoldsMap table fields (empty {X = V} {R = cmp}) rows
holds_none {V = V} {cmp = cmp} table fields rows none =
    subst (HoldsMap table fields (empty {X = V} {R = cmp})) (sym none) (record {
      ordered = tt;
      numbered = tt;
      known = λ row there. absurd there;
      whole = λ key value got. absurd (let none = get-empty {X = V} cmp key in cc);
      once = λ a b there also e. absurd there;
    })

-- once its header is put, the trees of tables that had no rows hold a new desk
titled : (fields : BallotKey × BallotModel → List Field) {table : Table} {schema : Schema} (own : HasOwnTablesWith table schema) (header : Header)
    (made db : Database) → made.schema ≡ schema → Puts (in_its_tree (own DeskTable)) (header_fields header) made db
    → (own BallotTable).has.tree ≢ (own DeskTable).has.tree → table.references ≡ []
    → ((name : TableName) → made.trees (own name).has.tree ≡ []) → HasTreesBy fields own (record new_state { header = header }) db
titled fields {table} {schema} own header made db has puts apart free none = record {
  desk = puts_header (own DeskTable).has.tree header _ _ (none_held (own DeskTable).has.tree _ (none DeskTable)) puts.rows;
  developers = holds_none (in_its_tree (own DeveloperTable)) developer_fields _ (stays (own DeveloperTable) refl
      (apart_trees schema _ _ (own DeveloperTable) (own DeskTable) (λ e. omega (arith, ap length e))) ∙ none DeveloperTable);
  resolutions = holds_none (in_its_tree (own ResolutionTable)) resolution_fields _ (stays (own ResolutionTable) refl
      (apart_trees schema _ _ (own ResolutionTable) (own DeskTable) (λ e. omega (arith, ap length e))) ∙ none ResolutionTable);
  choices = holds_none (in_its_tree (own ChoiceTable)) choice_fields _ (stays (own ChoiceTable) refl
      (apart_trees schema _ _ (own ChoiceTable) (own DeskTable) (λ e. omega (arith, ap length e))) ∙ none ChoiceTable);
  sponsors = holds_none (in_its_tree (own SponsorTable)) sponsor_fields _ (stays (own SponsorTable) refl
      (apart_trees schema _ _ (own SponsorTable) (own DeskTable) (λ e. omega (arith, ap length e))) ∙ none SponsorTable);
  ballots = holds_none (in_its_tree (own BallotTable)) fields _ (stays (own BallotTable) free apart ∙ none BallotTable);
}
  where
    stays : {other : Table} (its : HasOwnTable schema other) → other.references ≡ [] → its.has.tree ≢ (own DeskTable).has.tree
        → db.trees its.has.tree ≡ made.trees its.has.tree
    stays its lone differs = puts.others (in_its_tree its) (own_lone schema made has _ its lone) differs

-- the trees of a new desk hold it
pub new_desk : (old db : Database) (is : IsNewDesk old db) → HasTrees is.is.own new_state db
new_desk old db is =
    let made : Database = is.made in
    let own : HasOwnTables made.schema = is.is.own in
    titled ballot_fields own new_state.header made db refl is.header
    (apart_trees made.schema _ _ (own BallotTable) (own DeskTable) (λ e. omega (arith, ap length e))) refl
    is.is.empty

-- those of one of version 1 do
pub new_desk1 : (old db : Database) (is : IsNewDesk1 old db) → HasTreesBy ballot_fields1 is.tables.own new_state1 db
new_desk1 old db is =
    let made : Database = is.made in
    let own : HasOwnTablesWith ballot1_table made.schema = is.tables.own in
    titled ballot_fields1 own new_state1.header made db refl is.header
    (apart_trees made.schema _ _ (own BallotTable) (own DeskTable) (λ e. omega (arith, ap length e))) refl
    is.tables.empty
