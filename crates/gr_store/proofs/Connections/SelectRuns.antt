-- What a text that is a select does to a connection, whatever its schema.
use Rattle.std.proofs.Common.{◌≡◌, ◌≢◌, ◌⊎◌, IsSome, true≢false, ℕ, ◌+◌, List, [], Bool, true, false, Option, None, Result, Ok, Err, IsTrue, refl, sym, ap, subst, ◌∙◌, inl, inr}
use Rattle.std.proofs.lemmas.Bool.{cases_Bool}
use Rattle.sqlite_ast.specs.declared.Statement.{Statement}
use Rattle.sqlite_ast.specs.declared.Statement.TheVariants as written
use Rattle.sqlite_syntax.specs.declared.statement.Parsed.{Parsed}
use Rattle.sqlite_value.specs.Order.{Row}
use Rattle.sqlite_trees.specs.declared.error.StoreError.{StoreError}
use Rattle.sqlite_trees.specs.declared.error.StoreError.TheVariants.{OutOfMemory, Io, Corrupt, Full, Broken, Unstorable}
use Rattle.sqlite_trees.specs.Tree.{Trees}
use Rattle.sqlite_schema.specs.declared.schema.Schema.{Schema}
use Rattle.sqlite_schema.specs.declared.command.Command.{Command}
use Rattle.sqlite_resolve.specs.declared.compiled.Compiled.{Compiled}
use Rattle.sqlite_resolve.specs.declared.error.CompileError.{CompileError}
use Rattle.sqlite_resolve.specs.Compile.{compiled, first, planned, meaning, returning, timed, command, small, with_command}
use Rattle.sqlite_resolve.specs.Lowering.{Checked, and_then}
use Rattle.sqlite.specs.Listing.{understood, listing_schema, is_select, if_select, reads_listing}
use Rattle.sqlite_schema.specs.declared.command.Command.TheVariants.{Select, Rows}
use Rattle.sqlite.specs.declared.error.Error.{Error}
use Rattle.sqlite.specs.Clock as clock
use Rattle.sqlite.specs.Effect.{Database, RefusesToRead}
use Rattle.sqlite.specs.State.{State, store_error, HasCleanDisk, IsUnchanged, IsRolledBack, Survives, IsNotRun, FailsToQuery, FailsToShow, ShowsRows, Shown, CommitsShowing}
use Rattle.sqlite.proofs.StateLemmas.{survives_weaker}
use Rattle.gr_store.specs.Content.{IsSettled, WritesNothing}
use Rattle.gr_store.specs.Faults.{is_unreadable}
use Rattle.gr_store.specs.Selects.{Selects}
use Rattle.gr_store.specs.SelectedTables.{ReturnsNothing}

abbrev pub is_select_statement : Statement → Bool
is_select_statement (written.Select s) = true
is_select_statement _ = false

abbrev pub ReadsAsSelect : Checked Parsed → Type 0
ReadsAsSelect (Ok p) = IsTrue (is_select_statement p.statement) × (p.formats ≡ [])
ReadsAsSelect (Err e) = ⊥

-- the text is one SELECT that does not read the time
abbrev pub IsSelectText : List ℕ → Type 0
IsSelectText text = ReadsAsSelect (first text)

-- it has no RETURNING, and does not read the time
abbrev pub IsBare : Compiled → Type 0
IsBare c = (c.returning ≡ None) × (c.formats ≡ [])

bare_plan : (p : Parsed) (r : Checked Command) (c : Compiled) → and_then (and_then (and_then r (λ k. Ok (k, None))) (λ found. Ok ([], found))) (λ plan. Ok
    (with_command p plan)) ≡ Ok c → IsBare c
bare_plan p (Err e) c h = absurd (cc)
bare_plan p (Ok k) c h = let same : with_command p ([], (k, None)) ≡ c = cc in subst IsBare same (refl, refl)

bare_planned : (schema : Schema) (p : Parsed) (statement : Statement) → p.statement ≡ statement → IsTrue (is_select_statement statement) → p.formats ≡ []
    → (c : Compiled) → and_then (planned schema p) (λ plan. Ok (with_command p plan)) ≡ Ok c → IsBare c
unfolding planned meaning returning timed
bare_planned schema p (written.Select s) is one plain c h =
    bare_plan p (command schema [] (small p.names + small []) (written.Select s)) c (rw (is, plain) at h)
bare_planned schema p _ is one plain c h = absurd (cc)

bare_read : (schema : Schema) (r : Checked Parsed) → ReadsAsSelect r → (c : Compiled) → and_then r (λ p. and_then (planned schema p) (λ plan. Ok
    (with_command p plan))) ≡ Ok c → IsBare c
bare_read schema (Ok p) is c h = bare_planned schema p p.statement refl is.0 is.1 c h
bare_read schema (Err e) is c h = absurd is

bare_compiled : (text : List ℕ) (schema : Schema) (c : Compiled) → IsSelectText text → compiled schema text ≡ Ok c → IsBare c
unfolding compiled
bare_compiled text schema c is h = bare_read schema (first text) is c h

pub is_chosen : (r : Result Compiled CompileError) (c : Compiled) → if_select r ≡ Ok c → r ≡ Ok c
is_chosen (Err e) c h = absurd (cc)
is_chosen (Ok k) c h = elim (cases_Bool (is_select k.command)) [
  | inl is ↦ rw is at h
  | inr is ↦ absurd (let e = rw is at h in cc)
]

pub bare : (text : List ℕ) (schema : Schema) (c : Compiled) → IsSelectText text → understood schema text ≡ Ok c → IsBare c
unfolding understood
bare text schema c is h = elim (cases_Bool (reads_listing schema text)) [
  | inl listed ↦ bare_compiled text listing_schema c is (is_chosen _ c (rw listed at h))
  | inr plain ↦ bare_compiled text schema c is (rw plain at h)
]

-- ---- what the query does to a connection

none_true : IsTrue false → ⊥
none_true h = true≢false (sym h)

never_unreadable : (cause : StoreError) → IsTrue (is_unreadable (store_error cause)) → ⊥
never_unreadable OutOfMemory h = none_true h
never_unreadable Io h = none_true h
never_unreadable Corrupt h = none_true h
never_unreadable Full h = none_true h
never_unreadable Broken h = none_true h
never_unreadable Unstorable h = none_true h

readable : (e other : Error) → e ≡ other → is_unreadable other ≡ false → IsTrue (is_unreadable e) → ⊥
readable e other is fine h = true≢false (sym h ∙ ap is_unreadable is ∙ fine)

refused_not_unreadable : (limit : Option ℕ) (command : Command) (db : Database) (params : Row) (e : Error) → RefusesToRead limit command db params e → IsTrue
    (is_unreadable e) → ⊥
refused_not_unreadable limit (Select q names) db params e (inl typed) h = readable e _ typed.0 refl h
refused_not_unreadable limit (Select q names) db params e (inr (inl sum)) h = readable e _ sum.0 refl h
refused_not_unreadable limit (Select q names) db params e (inr (inr cut)) h = readable e _ cut.0 refl h
refused_not_unreadable limit (Rows values width names) db params e cut h = readable e _ cut.0 refl h
refused_not_unreadable limit _ db params e is h = readable e _ is refl h

module _ (text : List ℕ) (old new : State) (plain : ReturnsNothing text) where
  pub selects : (rows : List Row) → Shown text [] old new rows → Selects text old.now rows × IsUnchanged old new
  unfolding Shown
  selects rows h =
      let it = subst (ShowsRows old new text h.0 (clock.timed [] h.0.formats h.1.now) rows) (plain old.now.schema h.0 h.1.is) h.2 in
      (record { statement = h.0; is = h.1.is; source = it.0; read = it.1; now = h.1.now; answer = it.2 }, it.3)

  pub commits_none : (db : Trees) → CommitsShowing text [] old db → ⊥
  unfolding CommitsShowing
  commits_none db h = none_true (subst IsSome (plain old.now.schema h.0 h.1.is) h.2)

  -- A query that fails rolls back, or changes nothing.
  pub fails : (e : Error) → FailsToQuery text [] old new e → IsUnchanged old new ⊎ IsRolledBack old new
  unfolding FailsToQuery IsNotRun
  fails e (inl (inl h)) = inl h.1
  fails e (inl (inr h)) = inr h.3
  fails e (inr h) = inl ((subst (FailsToShow old new text h.0 (clock.timed [] h.0.formats h.1.now) e) (plain old.now.schema h.0 h.1.is) h.2).3)

  -- An error that makes the tables damaged comes only where the text has no meaning under the schema.
  pub unreadable : (e : Error) → FailsToQuery text [] old new e → IsTrue (is_unreadable e) → (c : Compiled) → understood old.now.schema text ≢ Ok c
  unfolding FailsToQuery IsNotRun
  unreadable e (inl (inl (inl h, same))) bad c ok = absurd (let both = sym h.1 ∙ ok in cc)
  unreadable e (inl (inl (inr (k, known, inl h), same))) bad c ok = absurd (readable e _ h.1 refl bad)
  unreadable e (inl (inl (inr (k, known, inr (inl h)), same))) bad c ok = absurd (readable e _ h.1 refl bad)
  unreadable e (inl (inl (inr (k, known, inr (inr h)), same))) bad c ok = absurd (readable e _ h.1 refl bad)
  unreadable e (inl (inr h)) bad c ok = absurd (never_unreadable h.0 (subst (λ e. IsTrue (is_unreadable e)) h.1 bad))
  unreadable e (inr h) bad c ok =
      let it = subst (FailsToShow old new text h.0 (clock.timed [] h.0.formats h.1.now) e) (plain old.now.schema h.0 h.1.is) h.2 in
      absurd (refused_not_unreadable old.step_limit h.0.command it.0 (clock.timed [] h.0.formats h.1.now) e it.2 bad)

  -- nothing is written
  pub writes_nothing : Survives old new (CommitsShowing text [] old) → (HasCleanDisk new → IsUnchanged old new ⊎ IsRolledBack old new)
      → (old.in_transaction ≡ false → new.in_transaction ≡ false) → WritesNothing old new
  writes_nothing survives ends mode = record {
    leaves = survives_weaker old new (CommitsShowing text [] old) (λ _. ⊥) (λ clean. commits_none) survives;
    was_open = λ clean live. elim (ends clean) [ inl same ↦ same.0.was_open | inr back ↦ back.was_open live ];
    stays = λ clean live settled. let now = shows clean live settled in (
      record {
        is_open = live;
        outside = mode settled.outside;
        committed = now.1 ∙ sym now.0;
        only = λ trees left. elim (survives.crash clean trees left) [
          | inl was ↦ settled.only trees was ∙ ap (λ d.
              d.trees) (sym now.0)
          | inr more ↦ absurd (commits_none trees more)
        ];
      },
      now.0,
    );
  }
    where
      shows : HasCleanDisk new → IsTrue new.is_open → IsSettled old → (new.now ≡ old.now) × (new.committed ≡ old.now)
      shows clean live settled = elim (ends clean) [
        | inl same ↦ (same.0.now_is, same.0.committed_is ∙ settled.committed)
        | inr back ↦ let it = back.undone live in (it.0 ∙ settled.committed, it.1 ∙ settled.committed)
      ]
