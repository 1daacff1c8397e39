-- What becomes of the desk of a file, line after line.
use Rattle.std.proofs.Common.{◌≡◌, ◌∙◌, ◌||◌, codes, ℕ, List, [], ◌∷◌, Option, None, Some, Result, Bool, IsTrue, true, false, is_some, refl, sym, ap, subst, inl, inr, arith}
use Rattle.std.proofs.Math.Logic.{∥∥₁_elim, ∥∥₁_map, ∥∥₁_prop}
use Rattle.std.specs.Prelude.{⊤, MatchOption}
use Rattle.sqlite.specs.Files.{HoldsDatabase}
use Rattle.sqlite_trees.specs.Tree.{Trees}
use Rattle.sqlite_trees.specs.declared.store.Store.{Ghosts}
use Rattle.sqlite_schema.specs.declared.schema.Schema.{Schema}
use Rattle.sqlite_schema.specs.Names.{index_named, view_named}
use Rattle.sqlite_catalog.specs.Change.{is_used}
use Rattle.sqlite.specs.Effect.{Database}
use Rattle.sqlite_wal.specs.Recovery.{Image}
use Rattle.sqlite.specs.Held.{Held, state}
use Rattle.sqlite.specs.State.{HasCleanDisk, Opens, Survives}
use Rattle.gr_core.specs.Desks.State.{State}
use Rattle.gr_core.specs.Desks.Valid.{IsValid}
use Rattle.gr_core.specs.Desks.Version1.{IsValid1, lifted}
use Rattle.gr_core.specs.Laws.MachineLaws.{CommandsKeepADeskValid}
use Rattle.gr_core.proofs.Validity.LiftedLemmas.{lifted_valid}
use Rattle.gr_core.proofs.Validity.ValidLemmas.{new_valid}
use Rattle.gr_store.specs.Commits.{LeavesDesk}
use Rattle.gr_store.specs.Content.{WritesNothing}
use Rattle.gr_store.specs.Holds.{Holds}
use Rattle.gr_store.specs.Schema.{desk_table, is_occupied}
use Rattle.gr_store.specs.Tabled.{HasTable}
use Rattle.gr_store.specs.Version1.{HoldsValid1, LeavesDesk1}
use Rattle.gr_store.proofs.Migration.DeskVersions.{holds_current, never_current}
use Rattle.gr_store.specs.Laws.{OneDeskIsHeld, OneDeskOfVersion1IsHeld, TablesMadeAreRight}
use Rattle.gr_core.specs.Columns.Stored.{DeskTable}
use Rattle.gr_store.proofs.Reading.RightTables.{columns1, one_header_row}
use Rattle.gr_office.specs.Crash.{AfterFinished, IsAfterPrefix}
use Rattle.gr_office.specs.History.{Attempt, AreMade}
use Rattle.gr_office.specs.Office.{IsOpenWith, Keeps, Office}
use Rattle.gr_office.proofs.HistoryLemmas.{every_stop_of, kept_left, leaves_its_state, valid_prefix}
use Rattle.gr_desk.specs.declared.ending.Ending.{Ending}
use Rattle.gr_desk.specs.declared.ending.Ending.TheVariants as ending
use Rattle.gr_desk.specs.declared.failure.Failure.{Failure}
use Rattle.gr_desk.specs.declared.line.Line.{Line}
use Rattle.gr_desk.specs.declared.line.Line.TheVariants.{Import, Init, Migrate, Once, Serve, Show}
use Rattle.gr_desk.specs.Connections.{Refusals}
use Rattle.gr_desk.specs.Host.{Bytes, Content, HasDesk, HoldsDesk, HoldsDesk1, IsConnected, IsDeskOf, KeepsDesk, KeepsDesk1, KeepsItsDesk, Known, NewDesk, StillHasDesk, StopsKeepDesk}
use Rattle.gr_desk.specs.Life.{HoldsOne, IsLeftOf, IsNext, IsRun, RunsLeadToAPrefix, attempts_of}
use Rattle.gr_desk.specs.Lines.{IsMigrated, Stopped, Unheard, Unopened}
use Rattle.gr_desk.specs.Program.{LineDoes, file_of}

-- ==== versions

-- a database with a desk of this version has none of version 1
pub never_desk1 : (s : State) (db : Database) → HasTable db.schema desk_table → IsValid s → Holds s db → ¬ (HoldsValid1 db)
never_desk1 s db has valid held desk1 = never_current db (one_header_row db has) desk1 (holds_current s db valid held)

-- a desk cannot be made where the table `desk` is
pub occupied : (schema : Schema) → HasTable schema desk_table → IsTrue (is_occupied schema)
occupied schema has =
    subst (λ (found : Option ℕ). IsTrue ((is_some found || is_some (index_named schema (codes "desk"))
    || is_some (view_named schema (codes "desk"))) || is_used schema (codes "developer")
    || is_used schema (codes "resolution") || is_used schema (codes "choice") || is_used schema (codes "sponsor")
    || is_used schema (codes "ballot2"))) (sym has.named) refl

-- ==== what is known of a file

-- what is said of each content is said of the one that is known
pub at_found : (known : Option Content) (found : Content) (P : Content → Type 0) → known ≡ Some found
    → MatchOption known ⊤ P → P found
at_found known found P is said = subst (λ k. MatchOption k ⊤ P) is said

module _ {S : Type 0} (g : Ghosts S) where
  -- ==== connections

  -- a connection over a file keeps its desk
  pub keeps_its : (known : Option Content) (conn : Held S) → IsConnected g known conn
      → (HasCleanDisk (state g conn) → Opens (state g conn) → (s : State) → LeavesDesk s (state g conn).now.trees → Keeps g s conn)
      → (HasCleanDisk (state g conn) → Opens (state g conn) → (s : State) → LeavesDesk1 s (state g conn).now.trees
      → KeepsDesk1 g s conn)
      → KeepsItsDesk g known conn
  keeps_its None conn connected current desk1 = record { current = λ clean. tt; desk1 = λ clean. tt }
  keeps_its (Some (Bytes image)) conn connected current desk1 = record {
    current = λ clean s (valid, (db, holds, leaves)).
        let found = connected.found clean in
        let there : (state g conn).now.trees ≡ db = ap (λ d. d.trees) found.0.clean ∙ found.2.holds db holds in
        (valid, current clean found.0 s (subst (LeavesDesk s) (sym there) leaves));
    desk1 = λ clean s (valid, (db, holds, leaves)).
        let found = connected.found clean in
        let there : (state g conn).now.trees ≡ db = ap (λ d. d.trees) found.0.clean ∙ found.2.holds db holds in
        (valid, desk1 clean found.0 s (subst (LeavesDesk1 s) (sym there) leaves));
  }
  keeps_its (Some NewDesk) conn connected current desk1 = record {
    current = λ clean s is. subst (λ t. IsValid t × Keeps g t conn) (sym is) (new_valid, connected.found clean);
    desk1 = λ clean s never. absurd never;
  }

  -- what a stop may leave of a connection that keeps a desk has it
  pub stops_keep : (s : State) (conn : Held S) → IsValid s → Keeps g s conn → StopsKeepDesk g s conn
  stops_keep s conn valid kept trees may = inl (valid, kept_left g s conn trees kept may)

  pub stops_keep_desk1 : (s : State) (conn : Held S) → IsValid1 s → KeepsDesk1 g s conn → StopsKeepDesk g (lifted s) conn
  stops_keep_desk1 s conn valid kept trees may =
      inr (s, refl, valid, ((state g conn).now, kept.tables, kept.holds, kept.settled.only trees may))

  -- so it is after a call that writes nothing
  pub spared : (s : State) (before after : Held S) → WritesNothing (state g before) (state g after)
      → HasCleanDisk (state g after) → StopsKeepDesk g s before → StopsKeepDesk g s after
  spared s before after none clean keeps trees may =
      elim (none.leaves.crash clean trees may) [ inl was ↦ keeps trees was | inr never ↦ absurd never ]

  -- a disk that is clean after what survives was clean before it
  pub survives_clean : (before after : Held S) (P : Trees → Type 0) → Survives (state g before) (state g after) P
      → HasCleanDisk (state g after) → HasCleanDisk (state g before)
  survives_clean before after P survives clean = omega (arith, survives.clean)

  -- over a file it has the desk of the file still, where each call that keeps a desk does so
  pub still_has : (known : Option Content) (before after : Held S)
      → (HasCleanDisk (state g after) → HasCleanDisk (state g before)) → KeepsItsDesk g known before
      → (HasCleanDisk (state g after) → (s : State) → IsValid s → Keeps g s before → StopsKeepDesk g s after)
      → (HasCleanDisk (state g after) → (s : State) → IsValid1 s → KeepsDesk1 g s before → StopsKeepDesk g (lifted s) after)
      → StillHasDesk g known after
  still_has None before after was keeps current desk1 clean = tt
  still_has (Some content) before after was keeps current desk1 clean = λ s has. elim has [
    | inl held ↦ let it = keeps.current (was clean) s held in current clean s it.0 it.1
    | inr (old, is, held) ↦
        let it = keeps.desk1 (was clean) old held in
        subst (λ t. StopsKeepDesk g t after) (sym is) (desk1 clean old it.0 it.1)
  ]

  -- a desk of the file is none of version 1, where no call keeps such a one
  pub none_desk1 : (known : Option Content) (conn : Held S) → HasCleanDisk (state g conn) → KeepsItsDesk g known conn
      → ((s : State) → IsValid1 s → ¬ (KeepsDesk1 g s conn))
      → MatchOption known ⊤ (λ content. (s : State) → ¬ (HoldsDesk1 content s))
  none_desk1 None conn clean keeps never = tt
  none_desk1 (Some content) conn clean keeps never = λ s held.
      let it = keeps.desk1 clean s held in never s it.0 it.1

  -- and none at all, where neither is kept
  pub none_there : (known : Option Content) (conn : Held S) → HasCleanDisk (state g conn) → KeepsItsDesk g known conn
      → ((s : State) → ¬ (Keeps g s conn)) → ((s : State) → ¬ (KeepsDesk1 g s conn))
      → MatchOption known ⊤ (λ content. (s : State) → ¬ (HasDesk content s))
  none_there None conn clean keeps current desk1 = tt
  none_there (Some content) conn clean keeps current desk1 = λ s has. elim has [
    | inl held ↦ current s (keeps.current clean s held).1
    | inr (old, is, held) ↦ desk1 old (keeps.desk1 clean old held).1
  ]

  -- ==== one desk

  -- a connection keeps one desk
  one_kept : TablesMadeAreRight → OneDeskIsHeld → (conn : Held S) (s t : State) → IsValid s → IsValid t
      → Keeps g s conn → Keeps g t conn → s ≡ t
  one_kept right one conn s t valid_s valid_t kept_s kept_t =
      let db = (state g conn).now in
      one db (right db kept_s.tables) s t valid_s valid_t kept_s.holds kept_t.holds

  one_kept1 : OneDeskOfVersion1IsHeld → (conn : Held S) (s t : State) → IsValid1 s → IsValid1 t
      → KeepsDesk1 g s conn → KeepsDesk1 g t conn → lifted s ≡ lifted t
  one_kept1 one conn s t valid_s valid_t kept_s kept_t =
      let db = (state g conn).now in
      one db (columns1 db.schema kept_s.tables.is kept_s.tables.has.own) s t valid_s valid_t kept_s.holds kept_t.holds

  -- not one of each version
  not_both : (conn : Held S) (s t : State) → IsValid s → IsValid1 t → Keeps g s conn → ¬ (KeepsDesk1 g t conn)
  not_both conn s t valid_s valid_t kept_s kept_t =
      never_desk1 s (state g conn).now (kept_s.tables.own DeskTable).has valid_s kept_s.holds (t, valid_t, kept_t.holds)

  -- so the file has one
  pub one_held : TablesMadeAreRight → OneDeskIsHeld → OneDeskOfVersion1IsHeld → (known : Option Content) (conn : Held S)
      → IsConnected g known conn → HasCleanDisk (state g conn) → KeepsItsDesk g known conn
      → MatchOption known ⊤ HoldsOne
  one_held right one one1 None conn connected clean keeps = tt
  one_held right one one1 (Some content) conn connected clean keeps = record {
    database = λ image is a b held_a held_b.
        let found = (subst (λ it. IsConnected g (Some it) conn) is connected).found clean in
        sym (found.2.holds a held_a) ∙ found.2.holds b held_b;
    desk = λ s t has_s has_t. elim has_s [
      | inl held_s ↦ elim has_t [
        | inl held_t ↦
            let (valid_s, kept_s) = keeps.current clean s held_s in
            let (valid_t, kept_t) = keeps.current clean t held_t in
            one_kept right one conn s t valid_s valid_t kept_s kept_t
        | inr (old, is, held_t) ↦
            let (valid_s, kept_s) = keeps.current clean s held_s in
            let (valid_t, kept_t) = keeps.desk1 clean old held_t in
            absurd (not_both conn s old valid_s valid_t kept_s kept_t)
      ]
      | inr (old_s, is_s, held_s) ↦ elim has_t [
        | inl held_t ↦
            let (valid_s, kept_s) = keeps.desk1 clean old_s held_s in
            let (valid_t, kept_t) = keeps.current clean t held_t in
            absurd (not_both conn t old_s valid_t valid_s kept_t kept_s)
        | inr (old_t, is_t, held_t) ↦
            let (valid_s, kept_s) = keeps.desk1 clean old_s held_s in
            let (valid_t, kept_t) = keeps.desk1 clean old_t held_t in
            is_s ∙ one_kept1 one1 conn old_s old_t valid_s valid_t kept_s kept_t ∙ sym is_t
      ]
    ];
  }

  -- ==== one line

  -- contents that hold the database of a desk have that desk
  has_desk : (t : State) (image : Image) (next : Content) (db : Trees) → next ≡ Bytes image → HoldsDatabase image db
      → KeepsDesk t db → HasDesk next t
  has_desk t image next db is holds keeps = subst (λ content. HasDesk content t) (sym is) (elim keeps [
    | inl (valid, leaves) ↦ inl (valid, (db, holds, leaves))
    | inr (old, lifts, valid, leaves) ↦ inr (old, lifts, (valid, (db, holds, leaves)))
  ])

  -- a valid desk is held
  held_valid : (content : Content) (s : State) → HoldsDesk content s → IsValid s
  held_valid (Bytes image) s held = held.0
  held_valid NewDesk s is = subst IsValid (sym is) new_valid

  -- an office that was opened over a file with a desk is open with it
  of_desk : (known : Known) (file : List ℕ) (found : Content) (office : Office S) (last : Held S) (s : State)
      → known.content file ≡ Some found → IsDeskOf g known file office last → HasCleanDisk (state g last) → HasDesk found s → IsValid s × IsOpenWith g s office
  of_desk known file found office last s is desk clean (inl held) =
      (held_valid found s held, at_found (known.content file) found _ is (desk.open_with clean) s held)
  of_desk known file found office last s is desk clean (inr (old, lifts, held)) =
      absurd (at_found (known.content file) found _ is (desk.not_desk1 clean) old held)

  -- what the next line finds in a file, after these attempts of a line on the desk s
  Finds : State → List Attempt → Content → Type 0
  Finds s attempts next = ∥ ((t : State) × IsAfterPrefix s attempts t × HasDesk next t) ∥₁

  -- a stop left one of these
  IsLeft : Held S → Content → Type 0
  IsLeft conn next = (image : Image) × (next ≡ Bytes image) × IsLeftOf g conn image

  -- after one that left no connection
  nothing_left : (s : State) (found next : Content) → HasDesk found s → ((t : State) → HasDesk found t → HasDesk next t)
      → Finds s [] next
  unfolding Finds
  nothing_left s found next has still = ∣ (s, AfterFinished refl, still s has) ∣₁

  -- after one that opened no office
  still_left : (known : Option Content) (found next : Content) (conn : Held S) (s : State) → known ≡ Some found
      → HasDesk found s → StillHasDesk g known conn → IsLeft conn next → Finds s [] next
  unfolding Finds IsLeft
  still_left known found next conn s is has still (image, same, of) =
      let keeps = at_found known found _ is (still of.clean) s has in
      ∥∥₁_map of.left (λ it. (s, AfterFinished refl, has_desk s image next it.0 same it.2 (keeps it.0 it.1)))

  -- contents that may be left of an open office have its desk
  pub opened_left : (s : State) (office : Office S) (conn : Held S) (image : Image) → IsValid s → IsOpenWith g s office
      → conn ≡ office.conn → IsLeftOf g conn image → ∥ HasDesk (Bytes image) s ∥₁
  opened_left s office conn image valid is_open same of = ∥∥₁_map of.left (λ left.
      let may : (state g office.conn).may_leave left.0 = subst (λ (c : Held S). (state g c).may_leave left.0) same left.1 in
      has_desk s image (Bytes image) left.0 refl left.2 (inl (valid, leaves_its_state g s office left.0 is_open may)))

  -- after one that opened an office, on which these attempts were made
  attempts_left : CommandsKeepADeskValid → (s : State) (attempts : List Attempt) (before after : Office S) (conn : Held S)
      (next : Content)
      → IsValid s → IsOpenWith g s before → AreMade g before attempts after → conn ≡ after.conn → IsLeft conn next
      → Finds s attempts next
  unfolding Finds IsLeft
  attempts_left keep s attempts before after conn next valid is_open made same (image, is, of) =
      let clean : HasCleanDisk (state g after.conn) = subst (λ (c : Held S). HasCleanDisk (state g c)) same of.clean in
      ∥∥₁_map of.left (λ left.
      let may : (state g after.conn).may_leave left.0 = subst (λ (c : Held S). (state g c).may_leave left.0) same left.1 in
      let it = every_stop_of g s before after attempts is_open made clean left.0 may in
      let valid_then : IsValid it.0 = valid_prefix keep s it.0 attempts valid it.1 in
      (it.0, it.1, has_desk it.0 image next left.0 is left.2 (inl (valid_then, it.2))))

  -- after a migration
  migrated_left : CommandsKeepADeskValid → (known : Known) (file : List ℕ) (found next : Content) (conn : Held S)
      (s : State) (up : Bool) (old new : Option (List ℕ)) (done : Result ⊤ Failure)
      → known.content file ≡ Some found → HasDesk found s → IsMigrated g known file up old new done conn → IsLeft conn next → Finds s [] next
  unfolding IsLeft
  migrated_left keep known file found next conn s up old new done is (inl held) it left =
      let stayed = at_found (known.content file) found _ is (it.stayed left.2.clean) s held in
      attempts_left keep s [] it.office it.office conn next (held_valid found s held) stayed.0 refl it.last left
  migrated_left keep known file found next conn s up old new done is (inr (desk1, lifted_is, held)) it left =
      let lifts = at_found (known.content file) found _ is (it.lifts left.2.clean) desk1 held in
      let valid : IsValid s = subst IsValid (sym lifted_is) (lifted_valid desk1 (valid1 found desk1 held)) in
      attempts_left keep s [] it.office it.office conn next valid
      (subst (λ t. IsOpenWith g t it.office) (sym lifted_is) lifts.0) refl it.last left
    where
      valid1 : (content : Content) (t : State) → HoldsDesk1 content t → IsValid1 t
      valid1 (Bytes image) t held = held.0
      valid1 NewDesk t never = absurd never

  module _ (keep : CommandsKeepADeskValid) (known : Known) (Refused : Refusals) (IsMoment : ℕ → Type 0)
      (coming old new : Option (List ℕ))
      (status : ℕ)
      (said : Option (List ℕ))
      (found next : Content)
      (s : State)
      (has : HasDesk found s) where
    one_line : (line : Line) (left : Ending S) (does : LineDoes g known Refused line IsMoment coming old new status said left)
        → known.content (file_of line) ≡ Some found → IsNext g found left next
        → Finds s (attempts_of g known Refused IsMoment coming old new status said line left does) next
    unfolding IsLeft
    one_line (Init file has_sums) ending.Nothing does is leaves = nothing_left s found next has leaves
    one_line (Init file has_sums) (ending.LetGo conn) (done, exits, (fault, failed, before, connected, fails, still, same)) is leaves =
        still_left _ found next conn s is has still leaves
    one_line (Init file has_sums) (ending.Close conn) (done, exits, made) is leaves =
        absurd (at_found _ found _ is (made.vacant leaves.2.clean) s has)
    one_line (Once file at) ending.Nothing does is leaves = nothing_left s found next has leaves
    one_line (Once file at) (ending.LetGo conn) (outcome, exits, (failure, failed, (fault, of, there, before, connected, fails, still), same)) is leaves =
        still_left _ found next conn s is has still leaves
    one_line (Once file at) (ending.Close conn) (outcome, exits, it) is leaves =
        let its = of_desk known file.now found it.before conn s is it.desk leaves.2.clean has in
        attempts_left keep s it.attempts it.before it.after conn next its.0 its.1 it.made it.last leaves
    one_line (Serve file port count at) ending.Nothing does is leaves = nothing_left s found next has leaves
    one_line (Serve file port count at) (ending.LetGo conn)
        (done, exits, Unopened (failure, failed, (fault, of, there, before, connected, fails, still), same)) is leaves =
        still_left _ found next conn s is has still leaves
    one_line (Serve file port count at) (ending.LetGo conn) (done, exits, Unheard it) is leaves =
        let its = of_desk known file.now found it.office conn s is it.desk leaves.2.clean has in
        attempts_left keep s [] it.office it.office conn next its.0 its.1 refl it.left leaves
    one_line (Serve file port count at) (ending.LetGo conn) (done, exits, Stopped err it) is leaves =
        let its = of_desk known file.now found it.before conn s is it.desk leaves.2.clean has in
        attempts_left keep s it.attempts it.before it.after conn next its.0 its.1 it.made it.left leaves
    one_line (Serve file port count at) (ending.Close conn) (done, exits, (ok, it)) is leaves =
        let its = of_desk known file.now found it.before conn s is it.desk leaves.2.clean has in
        attempts_left keep s it.attempts it.before it.after conn next its.0 its.1 it.made it.left leaves
    one_line (Import file roll at) ending.Nothing does is leaves = nothing_left s found next has leaves
    one_line (Import file roll at) (ending.LetGo conn)
        (done, exits, inl (failure, failed, (fault, of, there, before, connected, fails, still), same)) is leaves =
        still_left _ found next conn s is has still leaves
    one_line (Import file roll at) (ending.LetGo conn) (done, exits, inr (failure, failed, unread, nothing, same)) is leaves =
        absurd (cc)
    one_line (Import file roll at) (ending.Close conn) (done, exits, it) is leaves =
        let its = of_desk known file.now found it.before conn s is it.desk leaves.2.clean has in
        attempts_left keep s it.attempts it.before it.after conn next its.0 its.1 it.made it.last leaves
    one_line (Show file kind number) ending.Nothing does is leaves = nothing_left s found next has leaves
    one_line (Show file kind number) (ending.LetGo conn)
        (done, exits, inl (failure, failed, (fault, of, there, before, connected, fails, still), same)) is leaves =
        still_left _ found next conn s is has still leaves
    one_line (Show file kind number) (ending.LetGo conn) (done, exits, inr it) is leaves =
        let its = of_desk known file.now found it.office conn s is it.desk leaves.2.clean has in
        attempts_left keep s [] it.office it.office conn next its.0 its.1 refl it.last leaves
    one_line (Show file kind number) (ending.Close conn) (done, exits, (failure, failed, never, same)) is leaves = absurd never
    one_line (Migrate file) ending.Nothing does is leaves = nothing_left s found next has leaves
    one_line (Migrate file) (ending.LetGo conn) (done, exits, inl (fault, failed, there, before, connected, fails, still, same)) is leaves =
        still_left _ found next conn s is has still leaves
    one_line (Migrate file) (ending.LetGo conn) (done, exits, inr it) is leaves =
        migrated_left keep known file.now found next conn s false old new done is has it leaves
    one_line (Migrate file) (ending.Close conn) (done, exits, it) is leaves =
        migrated_left keep known file.now found next conn s true old new done is has it leaves

  -- ==== lines one after the other

  module _ (keep : CommandsKeepADeskValid) (Refused : Refusals) (IsMoment : ℕ → Type 0) where
    one_run : (file : List ℕ) (found next : Content) (attempts : List Attempt) (s : State) → HasDesk found s
        → IsRun g Refused IsMoment file found attempts next → Finds s attempts next
    one_run file found next attempts s has it =
        subst (λ life. Finds s life next) (sym it.its)
        (one_line keep it.known Refused IsMoment it.coming it.old it.new it.status it.said found next s has it.line it.left it.does
        (ap it.known.content it.over ∙ it.there) it.leaves)

    pub runs_lead : RunsLeadToAPrefix g Refused IsMoment
    unfolding Finds
    runs_lead file first last [] s has is = ∣ (s, refl, subst (λ content. HasDesk content s) (sym is) has) ∣₁
    runs_lead file first last (life ∷ lives) s has (next, run, runs) =
        ∥∥₁_elim (one_run file first next life s has run) ∥∥₁_prop (λ one.
        ∥∥₁_map (runs_lead file next last lives one.0 one.2 runs) (λ rest.
        (rest.0, (one.0, one.1, rest.1), rest.2)))
