-- Nothing but a limit on steps stops a select of the columns of a table.
use Rattle.gr_core.specs.Columns.Stored.{DeskTable, DeveloperTable, ResolutionTable, ChoiceTable, SponsorTable, BallotTable}
use Rattle.std.proofs.Common.{◌≡◌, true≢false, ℕ, List, [], None, Ok, sym, subst, ◌∙◌, inl, inr}
use Rattle.sqlite_sql.specs.Program.{ProgramOverflows}
use Rattle.sqlite_schema.specs.declared.schema.Table.{Table}
use Rattle.sqlite_resolve.specs.Scope.{Name}
use Rattle.sqlite.specs.declared.error.Error.{Error}
use Rattle.sqlite.specs.Effect.{Database, RefusesQuery}
use Rattle.sqlite.specs.Listing.{IsSourceOf}
use Rattle.gr_store.specs.Causes.{IsStopped, CannotSelect}
use Rattle.gr_store.specs.Tabled.{HasColumnsOf, HasTables}
use Rattle.gr_store.proofs.Reading.ColumnQueries.{Found, program_of, query_of}
use Rattle.gr_store.proofs.Reading.NamedColumns.{has_columns}
use Rattle.gr_store.proofs.Reading.CompiledSelects.{AsksForTable, Selecting, shown_columns, key_columns, accepts}
use Rattle.gr_store.proofs.Reading.SelectAnswers.{selecting, known, unlisted}
use Rattle.gr_store.proofs.Reading.SelectTexts.{desk_asks, developer_asks, resolution_asks, choice_asks, sponsor_asks, ballot_asks}

module _ (text : List ℕ) (table : Table) (keys : List Name) (asks : AsksForTable text table keys) (db : Database)
    (has : HasColumnsOf db.schema table) where
  abbrev shown : List Found
  shown = shown_columns text table keys asks db.schema has

  abbrev ordered : List Found
  ordered = key_columns text table keys asks db.schema has

  no_sum : ProgramOverflows db.trees [] [] [] (query_of has.other shown ordered) → ⊥
  no_sum (inl none) = none
  no_sum (inr none) = none.4

  goes_on : (e : Error) → RefusesQuery None db (program_of has.other shown ordered) [] e → ⊥
  goes_on e (inl typed) = true≢false (sym (accepts text table keys asks db.schema has) ∙ typed.1)
  goes_on e (inr (inl sum)) = no_sum sum.1
  goes_on e (inr (inr cut)) = true≢false (sym cut.1)

  select_goes_on : IsStopped None text db → ⊥
  select_goes_on (c, is, source, read, e, refuses) =
      let means : Selecting has.other shown ordered (Ok c) = subst (Selecting has.other shown ordered)
      (sym (known text table keys asks db has) ∙ is) (selecting text table keys asks db has) in
      let same : source ≡ db = subst (λ b. IsSourceOf b db source) (unlisted text table keys asks db has) read in
      goes_on e (rw (means.0, same) at refuses)

pub selects_go_on : (db : Database) → HasTables db.schema → CannotSelect None db → ⊥
selects_go_on db has (text, inl is, stopped) = select_goes_on _ _ _ desk_asks db (has_columns (has DeskTable)) (subst (λ t. IsStopped None t db) is stopped)
selects_go_on db has (text, inr (inl is), stopped) =
    select_goes_on _ _ _ developer_asks db (has_columns (has DeveloperTable)) (subst (λ t. IsStopped None t db) is stopped)
selects_go_on db has (text, inr (inr (inl is)), stopped) =
    select_goes_on _ _ _ resolution_asks db (has_columns (has ResolutionTable)) (subst (λ t. IsStopped None t db) is stopped)
selects_go_on db has (text, inr (inr (inr (inl is))), stopped) =
    select_goes_on _ _ _ choice_asks db (has_columns (has ChoiceTable)) (subst (λ t. IsStopped None t db) is stopped)
selects_go_on db has (text, inr (inr (inr (inr (inl is)))), stopped) =
    select_goes_on _ _ _ sponsor_asks db (has_columns (has SponsorTable)) (subst (λ t. IsStopped None t db) is stopped)
selects_go_on db has (text, inr (inr (inr (inr (inr (inl is))))), stopped) =
    select_goes_on _ _ _ ballot_asks db (has_columns (has BallotTable)) (subst (λ t. IsStopped None t db) is stopped)
selects_go_on db has (text, inr (inr (inr (inr (inr (inr none))))), stopped) = none
