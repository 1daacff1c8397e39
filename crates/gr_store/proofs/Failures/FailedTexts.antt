-- Why a text was not run, by what the engine says of it.
use Rattle.std.proofs.Common.{◌≡◌, ◌⊎◌, ◌||◌, ◌&&◌, not, ℕ, arith, ◌≤◌, List, [], length, append-nil, false, Option, Some, None, is_some, Result, Ok, Err, IfErr, IsTrue, sym, ap, subst, ◌∙◌, inl, inr}
use Rattle.std.proofs.lemmas.Bool.{cases_Bool}
use Rattle.sqlite_sql.specs.Term.{Term}
use Rattle.sqlite_value.specs.Order.{Row}
use Rattle.sqlite_trees.specs.declared.error.StoreError.{StoreError}
use Rattle.sqlite_trees.specs.declared.error.StoreError.TheVariants.{OutOfMemory, Io, Corrupt, Full, Broken, Unstorable}
use Rattle.sqlite_trees.specs.Tree.{Trees}
use Rattle.sqlite_schema.specs.declared.schema.Schema.{Schema}
use Rattle.sqlite_schema.specs.declared.schema.Table.{Table}
use Rattle.sqlite_schema.specs.declared.command.Command.{Command}
use Rattle.sqlite_schema.specs.declared.command.Command.TheVariants as command
use Rattle.sqlite_schema.specs.declared.command.Conflict.{Conflict}
use Rattle.sqlite_schema.specs.declared.command.Returning.{Returning}
use Rattle.sqlite_schema.specs.declared.command.Source.TheVariants.{Values}
use Rattle.sqlite_schema.specs.declared.command.Upsert.{Upsert}
use Rattle.sqlite_resolve.specs.declared.compiled.Compiled.{Compiled}
use Rattle.sqlite.specs.declared.error.Error.{Error}
use Rattle.sqlite.specs.Clock.{timed}
use Rattle.sqlite.specs.Does.{Does}
use Rattle.sqlite.specs.Effect.{RefusesToRead, is_query}
use Rattle.sqlite.specs.Listing.{understood}
use Rattle.sqlite.specs.State.{State, store_error, HasCause, Fails, HasCleanDisk, Survives, IsNotRun, IsStatement, IsMisplaced, Escapes, EndsScope, RunsCommand, ExecutesIn, ExecutesInside, FailsToQuery, FailsToShow, is_pragma, shows_rows, text_of}
use Rattle.sqlite.proofs.Callers.{IsPlain, command_of}
use Rattle.gr_store.specs.Causes.{DiskFails, IsCaused, writing, RefusesText, IsTextRefused, IsStopped}
use Rattle.gr_store.specs.Faults.{is_unreadable}
use Rattle.gr_store.specs.SelectedTables.{ReturnsNothing, StandsAlone}
use Rattle.gr_store.proofs.Writing.CompiledCreates.{IsCreateText, understood_made}
use Rattle.sqlite_resolve.specs.Compile.{first}
use Rattle.gr_store.specs.Tabled.{HasTable}
use Rattle.gr_store.proofs.Writing.DeleteLemmas.{DeletesIn, all_rows, deleting}
use Rattle.gr_store.proofs.Writing.InsertLemmas.{IsInsertText}
use Rattle.gr_store.proofs.Connections.SingleStatements.{IsOneText, ReadsWhole, whole}

-- ---- the disk

-- a disk that failed has failed after what comes then
pub fails_still : (old mid new : State) (P : Trees → Type 0) → Survives mid new P → DiskFails old mid → DiskFails old new
fails_still old mid new P later (inl more) = inl (omega (arith, later.counts))
fails_still old mid new P later (inr shut) = inr shut

-- and one that failed after something else failed since the beginning of both
pub failed_then : (old mid new : State) (P : Trees → Type 0) → Survives old mid P → HasCleanDisk mid → mid.faults ≤ new.faults
    → DiskFails mid new → DiskFails old new
failed_then old mid new P first clean up (inl more) = inl (omega (arith, first.counts))
failed_then old mid new P first clean up (inr shut) = elim (cases_Bool old.is_open) [
  | inl live ↦ elim (first.closes clean live) [
    | inl still ↦ absurd (let both = sym shut ∙ still in cc)
    | inr more ↦ inl (omega (arith, more, up))
  ]
  | inr closed ↦ inr closed
]

-- the same of an error: what it is told of from the middle on, by what has become of that since the beginning
pub caused_then : (old mid new : State) (P Q : Type 0) (e : Error) → Survives old mid (λ _. ⊥) → HasCleanDisk mid
    → mid.faults ≤ new.faults → (P → Q) → IsCaused mid new P e → IsCaused old new Q e
caused_then old mid new P Q e first clean up f (inl memory) = inl memory
caused_then old mid new P Q e first clean up f (inr (inl disk)) = inr (inl (failed_then old mid new (λ _. ⊥) first clean up disk))
caused_then old mid new P Q e first clean up f (inr (inr p)) = inr (inr (f p))

-- and what it is told of stays what it is told of, whatever comes then
pub caused_still : (old mid new : State) (P Q : Type 0) (e : Error) (C : Trees → Type 0) → Survives mid new C → (P → Q)
    → IsCaused old mid P e → IsCaused old new Q e
caused_still old mid new P Q e C later f (inl memory) = inl memory
caused_still old mid new P Q e C later f (inr (inl disk)) = inr (inl (fails_still old mid new C later disk))
caused_still old mid new P Q e C later f (inr (inr p)) = inr (inr (f p))

-- ---- a failure

fails_for : (old new : State) (too_big : Type 0) (e : Error) (cause : StoreError) → e ≡ store_error cause
    → HasCause old new too_big cause → IsCaused old new too_big e
fails_for old new too_big e OutOfMemory is has = inl is
fails_for old new too_big e Io is has = inr (inl (inl has))
fails_for old new too_big e Corrupt is has = inr (inl (inl has))
fails_for old new too_big e Full is has = inr (inl (inl has))
fails_for old new too_big e Broken is has = inr (inl (inr has))
fails_for old new too_big e Unstorable is has = inr (inr has)

-- what the engine tells of a failure
pub fails_caused : (old new : State) (too_big : Type 0) (e : Error) → Fails old new too_big e → IsCaused old new too_big e
fails_caused old new too_big e h = fails_for old new too_big e h.0 h.1 h.2

pub caused_weaker : (old new : State) (P Q : Type 0) (e : Error) → (P → Q) → IsCaused old new P e → IsCaused old new Q e
caused_weaker old new P Q e f (inl memory) = inl memory
caused_weaker old new P Q e f (inr (inl disk)) = inr (inl disk)
caused_weaker old new P Q e f (inr (inr p)) = inr (inr (f p))

-- ---- a text that writes

-- it makes a table, puts a row, or takes rows out
abbrev pub Writes : Command → Type 0
Writes command.CreateTable = Unit {0}
Writes (command.InsertOr at way from clauses) = Unit {0}
Writes (command.Delete at rows) = Unit {0}
Writes _ = ⊥

pub record IsWriting (text : List ℕ) (count : ℕ) (c : Compiled) : Type 0 where
  pub whole : ReadsWhole count text c
  pub returning : c.returning ≡ None
  pub formats : c.formats ≡ []
  pub writes : Writes c.command

shows_none : (k : Command) (r : Option Returning) → Writes k → r ≡ None
    → (is_query k || (not false && (is_pragma k || is_some r))) ≡ false
shows_none command.CreateTable r is none = ap is_some none
shows_none (command.InsertOr at way from clauses) r is none = ap is_some none
shows_none (command.Delete at rows) r is none = ap is_some none
shows_none _ r is none = absurd is

not_misplaced : (s : State) (k : Command) (e : Error) → Writes k → IsMisplaced s k e → ⊥
not_misplaced s k e is (inl (h, inl begun)) = subst Writes begun.0 is
not_misplaced s k e is (inl (h, inr (inl ends, out))) = subst Writes ends is
not_misplaced s k e is (inl (h, inr (inr ends, out))) = subst Writes ends is
not_misplaced s k e is (inr (h, name, inl ends, none)) = subst Writes ends is
not_misplaced s k e is (inr (h, name, inr ends, none)) = subst Writes ends is

stays_within : (s : State) (k : Command) → Writes k → Escapes 0 s k → ⊥
stays_within s k is (inl (inl ends)) = subst Writes ends is
stays_within s k is (inl (inr ends)) = subst Writes ends is
stays_within s k is (inr (name, inl ends, held)) = subst Writes ends is
stays_within s k is (inr (name, inr ends, held)) = subst Writes ends is

module _ (text : List ℕ) (values : Row) (old new : State)
    (is : (c : Compiled) → understood old.now.schema text ≡ Ok c → IsWriting text (length values) c) where
  abbrev Refused : Type 0
  Refused = IsTextRefused old.step_limit text values old.now

  refused_by : (c : Compiled) → understood old.now.schema text ≡ Ok c → (stop : Option Error)
      → Does old.step_limit writing values old.now (text_of text c) c.returning c.command (Err stop) → Refused
  refused_by c known stop does = subst (RefusesText old.step_limit text values old.now) (sym known) (stop, does)

  not_run : (e : Error) → IsNotRun old new text values e → IsCaused old new Refused e
  unfolding IsNotRun
  not_run e (inl (inl (fault, known, same), rest)) =
      inr (inr (subst (RefusesText old.step_limit text values old.now) (sym known) tt))
  not_run e (inl (inr (c, known, inl long), rest)) = absurd (long.0 (omega (arith, (is c known).whole.0)))
  not_run e (inl (inr (c, known, inr (inl other)), rest)) = absurd (other.0 (sym (is c known).whole.1))
  not_run e (inl (inr (c, known, inr (inr time)), rest)) = absurd (time.0 (is c known).formats)
  not_run e (inr h) = caused_weaker old new ⊥ Refused e (λ none. absurd none) (fails_caused old new ⊥ e h)

  module _ (c : Compiled) (it : IsStatement old text values c) where
    untimed : timed values c.formats it.now ≡ values
    untimed = ap (λ f. timed values f it.now) (is c it.is).formats ∙ append-nil values

    refused_so : (stop : Option Error) → Does old.step_limit writing (timed values c.formats it.now) old.now (text_of text c) c.returning c.command (Err stop)
        → Refused
    refused_so stop does =
        refused_by c it.is stop
        (subst (λ v. Does old.step_limit writing v old.now (text_of text c) c.returning c.command (Err stop)) untimed does)

    command_caused : (e : Error) → RunsCommand old new text c (timed values c.formats it.now) (Err e) → IsCaused old new Refused e
    command_caused e (inl (inl wrong, same)) = absurd (not_misplaced old c.command e (is c it.is).writes wrong)
    command_caused e (inl (inr (may, does), same)) = inr (inr (refused_so (Some e) does))
    command_caused e (inr failed) =
        caused_weaker old new _ Refused e (refused_so None) (fails_caused old new _ e failed)

  ran_caused : (e : Error) → ExecutesIn false text values old new (Err e) → IsCaused old new Refused e
  unfolding ExecutesIn
  ran_caused e (inl h) = not_run e h
  ran_caused e (inr (c, it, alone)) =
      let one = is c it.is in
      let shows : shows_rows false c ≡ false = shows_none c.command c.returning one.writes one.returning in
      command_caused c it e (rw shows at alone)

  inside_caused : (e : Error) → ExecutesInside 0 text values old new (Err e) → IsCaused old new Refused e
  unfolding EndsScope
  inside_caused e (inl h) = ran_caused e h.0
  inside_caused e (inr ((c, it, leaves), told, same)) = absurd (stays_within old c.command (is c it.is).writes leaves)

  pub write_caused : (r : Result ℕ Error) → ExecutesInside 0 text values old new r → IfErr r (IsCaused old new Refused)
  write_caused (Ok count) h = tt
  write_caused (Err e) h = inside_caused e h

-- a text that puts a row
pub insert_writes : (schema : Schema) (text : List ℕ) (at : ℕ) (way : Conflict) (terms : List Term) (clauses : List Upsert) (count : ℕ)
    → IsInsertText schema text at way terms clauses → IsOneText count text → (c : Compiled) → understood schema text ≡ Ok c
    → IsWriting text count c
insert_writes schema text at way terms clauses count is one c known =
    let command : c.command ≡ command.InsertOr at way (Values terms (length terms)) clauses = sym (ap command_of known) ∙ is.command in
    let plain = subst IsPlain known is.plain in
    record {
      whole = whole count text schema c one known;
      returning = plain.0;
      formats = plain.1;
      writes = subst Writes (sym command) tt;
    }

-- one that makes a table
pub create_writes : (schema : Schema) (text : List ℕ) → IsCreateText text → IsOneText 0 text → (c : Compiled)
    → understood schema text ≡ Ok c → IsWriting text 0 c
create_writes schema text is one c known =
    let made = understood_made text schema c is known in
    record {
      whole = whole 0 text schema c one known;
      returning = made.1;
      formats = made.2;
      writes = subst Writes (sym made.0) tt;
    }

-- one that takes all rows out of a table
pub delete_writes : (schema : Schema) (text : List ℕ) (table : Table) (has : HasTable schema table) → DeletesIn table (first text)
    → IsOneText 0 text → (c : Compiled) → understood schema text ≡ Ok c → IsWriting text 0 c
delete_writes schema text table has is one c known =
    let means = deleting schema table has text is in
    let command : c.command ≡ command.Delete has.at (all_rows has.tree) = sym (ap command_of known) ∙ means.0 in
    let plain = subst IsPlain known means.1 in
    record {
      whole = whole 0 text schema c one known;
      returning = plain.0;
      formats = plain.1;
      writes = subst Writes (sym command) tt;
    }

-- ---- a text that reads

-- a query that fails has no meaning under the schema, or a cause
pub query_caused : (text : List ℕ) (old new : State) → ReturnsNothing text → StandsAlone text → (e : Error) → FailsToQuery text [] old new e
    → IsTrue (is_unreadable e) ⊎ IsCaused old new (IsStopped old.step_limit text old.now) e
unfolding FailsToQuery IsNotRun
query_caused text old new plain alone e (inl (inl (inl (fault, known, same), rest))) = inl (ap is_unreadable same)
query_caused text old new plain alone e (inl (inl (inr (c, known, inl long), rest))) = absurd (long.0 (alone old.now.schema c known).0)
query_caused text old new plain alone e (inl (inl (inr (c, known, inr (inl other)), rest))) =
    absurd (other.0 (sym (alone old.now.schema c known).1))
query_caused text old new plain alone e (inl (inl (inr (c, known, inr (inr time)), rest))) =
    absurd (time.0 (alone old.now.schema c known).2)
query_caused text old new plain alone e (inl (inr h)) =
    inr (caused_weaker old new ⊥ _ e (λ none. absurd none) (fails_caused old new ⊥ e h))
query_caused text old new plain alone e (inr (c, it, shows)) =
    let none = plain old.now.schema c it.is in
    let failed = subst (FailsToShow old new text c (timed [] c.formats it.now) e) none shows in
    let untimed : timed [] c.formats it.now ≡ [] = ap (λ f. timed [] f it.now) (alone old.now.schema c it.is).2 in
    let refused = subst (λ v. RefusesToRead old.step_limit c.command failed.0 v e) untimed failed.2 in
    inr (inr (inr (c, it.is, failed.0, failed.1, e, refused)))
