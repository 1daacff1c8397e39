-- What a text that inserts one row is compiled to, wherever a schema has the table.
use Rattle.std.proofs.Common.{◌≡◌, ℕ, ◌+◌, List, [], ◌∷◌, length, false, None, Some, Ok, Err, slice_get, refl, ◌==◌}
use Rattle.sqlite_ast.specs.declared.Conflict.TheVariants as conflict
use Rattle.sqlite_ast.specs.declared.Statement.{Statement}
use Rattle.sqlite_ast.specs.declared.Statement.TheVariants as written
use Rattle.sqlite_syntax.specs.declared.statement.Parsed.{Parsed}
use Rattle.sqlite_sql.specs.Term.{Term}
use Rattle.sqlite_schema.specs.declared.schema.Schema.{Schema}
use Rattle.sqlite_schema.specs.declared.schema.Table.{Table}
use Rattle.sqlite_schema.specs.declared.command.Command.TheVariants.{InsertOr}
use Rattle.sqlite_schema.specs.declared.command.Conflict.{Conflict}
use Rattle.sqlite_schema.specs.declared.command.Conflict.TheVariants as how
use Rattle.sqlite_schema.specs.declared.command.Source.TheVariants.{Values}
use Rattle.sqlite_schema.specs.declared.command.Upsert.{Upsert}
use Rattle.sqlite_schema.specs.Names.{table_named}
use Rattle.sqlite_resolve.specs.declared.compiled.Compiled.{Compiled}
use Rattle.sqlite_resolve.specs.Lowering.{Checked, and_then}
use Rattle.sqlite_resolve.specs.Compile as compile
use Rattle.sqlite_resolve.specs.Given as given
use Rattle.sqlite_resolve.specs.Program as program
use Rattle.sqlite_draft.specs.declared.query.Draft.{Draft}
use Rattle.sqlite_schema.specs.declared.program.Program.{Program}
use Rattle.sqlite.specs.Listing.{understood}
use Rattle.gr_store.proofs.Writing.InsertLemmas.{IsInsertText}

module _ (schema : Schema) (table : Table) (at : ℕ) (terms : List Term) where
  -- the statement is INSERT OR REPLACE of these terms in the table, where the parameters end at `base`
  abbrev pub ReplacesBy : ℕ → Statement → Type 0
  ReplacesBy base (written.Insert conflict.Replace name columns rows [] []) =
      (name ≡ table.name) × (compile.new_rows schema table base columns rows ≡ Ok (Values terms (length terms)))
  ReplacesBy base _ = ⊥

  abbrev pub ReplacesIn : Checked Parsed → Type 0
  ReplacesIn (Ok p) = (p.formats ≡ []) × ReplacesBy (compile.small p.names + 0) p.statement
  ReplacesIn (Err e) = ⊥

  -- the same by a clause ON CONFLICT, for which this key is found and this query of the update is made
  abbrev pub UpsertsBy : List ℕ → Draft → Program → ℕ → Statement → Type 0
  UpsertsBy key d q base (written.Insert conflict.Abort name columns rows (u ∷ []) []) =
      (name ≡ table.name) × (compile.new_rows schema table base columns rows ≡ Ok (Values terms (length terms)))
      × ((length u.target == 0) ≡ false) × (given.key_meant schema table u.target ≡ Ok (Some key))
      × ((length u.sets == 0) ≡ false) × (given.do_update schema at table base u ≡ Ok d) × (program.program schema [] d ≡ Ok q)
  UpsertsBy key d q base _ = ⊥

  abbrev pub UpsertsIn : List ℕ → Draft → Program → Checked Parsed → Type 0
  UpsertsIn key d q (Ok p) = (p.formats ≡ []) × UpsertsBy key d q (compile.small p.names + 0) p.statement
  UpsertsIn key d q (Err e) = ⊥

  -- what a text that inserts is compiled to
  abbrev pub IsInserting : Conflict → List Upsert → Checked Compiled → Type 0
  IsInserting way clauses (Ok c) =
      (c.command ≡ InsertOr at way (Values terms (length terms)) clauses) × (c.returning ≡ None) × (c.formats ≡ [])
  IsInserting way clauses (Err e) = ⊥

  -- such a text is known
  pub known_insert : (text : List ℕ) (way : Conflict) (clauses : List Upsert)
      → IsInserting way clauses (compile.compiled schema text) → IsInsertText schema text at way terms clauses
  unfolding understood
  known_insert text way clauses is = go (compile.compiled schema text) refl is
    where
      go : (r : Checked Compiled) → compile.compiled schema text ≡ r → IsInserting way clauses r
          → IsInsertText schema text at way terms clauses
      go (Ok c) e is = record { command = rw e is.0; plain = rw e (is.1, is.2) }
      go (Err x) e is = absurd is

  module _ (named : table_named schema table.name ≡ Some at) (there : slice_get schema.tables at ≡ Some table)
      (untimed : table.stamps.formats ≡ []) where
    -- it does not read the time
    no_time : (w : _) (columns : _) (rows : _) (ups : _) (shown : _)
        → compile.timed schema [] (written.Insert w table.name columns rows ups shown) ≡ []
    unfolding compile.timed
    no_time w columns rows ups shown = rw (named, there) untimed

    replace_statement : (p : Parsed) (s : Statement) → p.statement ≡ s → p.formats ≡ []
        → ReplacesBy (compile.small p.names + 0) s
        → IsInserting how.Replace [] (and_then (compile.planned schema p) (λ plan. Ok (compile.with_command p plan)))
    unfolding compile.planned compile.meaning compile.returning compile.shows compile.command compile.insert_or given.upserts
    replace_statement p (written.Insert conflict.Replace name columns rows [] []) is formats inserts =
        rw (is, formats, inserts.0, no_time conflict.Replace columns rows [] [], named, there, inserts.1) (refl, refl, refl)
    replace_statement p _ is formats inserts = absurd inserts

    replace_parsed : (r : Checked Parsed) → ReplacesIn r
        → IsInserting how.Replace [] (and_then r (λ p. and_then (compile.planned schema p) (λ plan. Ok (compile.with_command p plan))))
    replace_parsed (Ok p) is = replace_statement p p.statement refl is.0 is.1
    replace_parsed (Err e) is = absurd is

    pub replaces_text : (text : List ℕ) → ReplacesIn (compile.first text) → IsInsertText schema text at how.Replace terms []
    unfolding compile.compiled
    replaces_text text is = known_insert text how.Replace [] (replace_parsed (compile.first text) is)

    abbrev clause_to : List ℕ → Program → Upsert
    clause_to key q = record { target = Some key; update = Some q }

    upsert_statement : (key : List ℕ) (d : Draft) (q : Program) (p : Parsed) (s : Statement) → p.statement ≡ s → p.formats ≡ []
        → UpsertsBy key d q (compile.small p.names + 0) s
        → IsInserting how.Abort (clause_to key q ∷ []) (and_then (compile.planned schema p) (λ plan. Ok (compile.with_command p plan)))
    unfolding compile.planned compile.meaning compile.returning compile.shows compile.command compile.insert_or_abort
        compile.insert_or given.upserts given.upsert given.update
    upsert_statement key d q p (written.Insert conflict.Abort name columns rows (u ∷ []) []) is formats inserts =
        rw (
          is,
          formats,
          inserts.0,
          no_time conflict.Abort columns rows (u ∷ []) [],
          named,
          there,
          inserts.1,
          inserts.2,
          inserts.3,
          inserts.4,
          inserts.5,
          inserts.6,
        ) (refl, refl, refl)
    upsert_statement key d q p _ is formats inserts = absurd inserts

    upsert_parsed : (key : List ℕ) (d : Draft) (q : Program) (r : Checked Parsed) → UpsertsIn key d q r
        → IsInserting how.Abort (clause_to key q ∷ []) (and_then r (λ p. and_then (compile.planned schema p) (λ plan. Ok (compile.with_command p plan))))
    upsert_parsed key d q (Ok p) is = upsert_statement key d q p p.statement refl is.0 is.1
    upsert_parsed key d q (Err e) is = absurd is

    pub upserts_text : (key : List ℕ) (d : Draft) (q : Program) (text : List ℕ) → UpsertsIn key d q (compile.first text)
        → IsInsertText schema text at how.Abort terms (clause_to key q ∷ [])
    unfolding compile.compiled
    upserts_text key d q text is = known_insert text how.Abort (clause_to key q ∷ []) (upsert_parsed key d q (compile.first text) is)
