-- What the program does, by the words of its command line.
use Rattle.std.specs.Prelude.{◌≡◌, ◌≢◌, ◌⊎◌, ⊤, ℕ, Bool, true, false, List, [], codes, Option, None, Some, Result, Ok, Err, MatchOption, IsSome, string_bytes, if◌then◌else◌, ◌==◌}
use Rattle.std.specs.Io.KnownBytes.{Appends}
use Rattle.sqlite_trees.specs.declared.store.Store.{Ghosts}
use Rattle.sqlite_trees.specs.declared.memory.MemStore.{MemStore}
use Rattle.sqlite.specs.Steps.{over_memory}
use Rattle.gr_http.specs.declared.answer.Served.{Served}
use Rattle.gr_store.specs.declared.fault.Fault.TheVariants as faults
use Rattle.gr_http.specs.Streams.{AppendsBeginning}
use Rattle.gr_desk.specs.declared.ending.Ending.{Ending}
use Rattle.gr_desk.specs.declared.ending.Ending.TheVariants as ending
use Rattle.gr_desk.specs.declared.failure.Failure.{Failure}
use Rattle.gr_desk.specs.declared.failure.Failure.TheVariants as failures
use Rattle.gr_desk.specs.declared.line.Line.{Line}
use Rattle.gr_desk.specs.declared.line.Line.TheVariants.{Init, Once, Serve, Import, Show, Migrate}
use Rattle.gr_desk.specs.declared.line.NoLine.{NoLine}
use Rattle.gr_desk.specs.declared.line.NoLine.TheVariants as no_lines
use Rattle.gr_desk.specs.Connections.{Refusals}
use Rattle.gr_desk.specs.Failure.{exit_of, said_of_done, status_of_done}
use Rattle.gr_desk.specs.Host.{Access, AsksBehind, AsksFor, Behind, Known, LeavesOthers, NewDesk, ToListen, ToMake, ToOpen, ToRead}
use Rattle.gr_desk.specs.Lines.{AsksForPortBehind, AsksForRollThen, ImportDoes, InitDoes, MigrateDoes, OnceDoes, ReadsRequest, ServeDoes, ShowDoes}
use Rattle.gr_desk.specs.Words.{AskFor, AskForHelp, AskForNone, AskForVersion, version}

-- the name of a line's file
abbrev pub file_of : Line → List ℕ
file_of (Init file has_sums) = file.now
file_of (Once file at) = file.now
file_of (Serve file port count at) = file.now
file_of (Import file roll at) = file.now
file_of (Show file kind number) = file.now
file_of (Migrate file) = file.now

-- it does nothing with a desk in memory
abbrev pub wants_a_file : Line → Bool
wants_a_file (Init file has_sums) = true
wants_a_file (Migrate file) = true
wants_a_file other = false

-- the words ask for this line; without words it is `once :memory:`
abbrev pub WordsAsk : List (List ℕ) → Line → Type 0
WordsAsk [] (Once file None) = file.now ≡ codes ":memory:"
WordsAsk [] other = ⊥
WordsAsk words line = AskFor words line

-- the exit status after a request: 0 for the status 200, 3 for 503 and for a failure, and else 1
abbrev pub status_of_outcome : Result Served Failure → ℕ
status_of_outcome (Ok served) = if served.status == 200 then 0 else (if served.status == 503 then 3 else 1)
status_of_outcome (Err failure) = exit_of failure

-- how a line ends that came to this: by its exit status, and what it says on error output
abbrev pub EndsBy : {T : Type 0} → Result T Failure → ℕ → Option (List ℕ) → Type 0
EndsBy done status said = (status ≡ status_of_done done) × (said ≡ said_of_done done)

-- so of one that came to this by a request; of a response, whatever its status, nothing is said
abbrev pub EndsByOutcome : Result Served Failure → ℕ → Option (List ℕ) → Type 0
EndsByOutcome outcome status said = (status ≡ status_of_outcome outcome) × (said ≡ said_of_done outcome)

-- the moment is the one that is given, or else one of the clock
abbrev pub at_moment : Option ℕ → (ℕ → Type 0) → ℕ → Type 0
at_moment at IsMoment t = MatchOption at (IsMoment t) (λ given. t ≡ given)

module _ {S : Type 0} (g : Ghosts S) (known : Known) (Refused : Refusals) where
  -- What a line does over a host of which this was known, at such moments by its clock: with these bytes that came, by
  -- what was written before and after. This is its exit status, what it says on error output, and what it leaves of its
  -- connection.
  abbrev pub LineDoes : Line → (ℕ → Type 0) → Option (List ℕ) → Option (List ℕ) → Option (List ℕ) → ℕ
      → Option (List ℕ) → Ending S → Type 0
  LineDoes (Init file has_sums) IsMoment coming old new status said left = (done : Result ⊤ Failure)
      × EndsBy done status said × InitDoes g known file.now has_sums old new done left
  LineDoes (Once file at) IsMoment coming old new status said left = (outcome : Result Served Failure)
      × EndsByOutcome outcome status said
      × OnceDoes g known file.now (at_moment at IsMoment) coming old new outcome left
  LineDoes (Serve file port count at) IsMoment coming old new status said left = (done : Result ⊤ Failure)
      × EndsBy done status said
      × ServeDoes g known file.now Refused (at_moment at IsMoment) port count old new done left
  LineDoes (Import file roll at) IsMoment coming old new status said left = (done : Result ⊤ Failure)
      × EndsBy done status said
      × ImportDoes g known file.now roll.now (at_moment at IsMoment) old new done left
  LineDoes (Show file kind number) IsMoment coming old new status said left = (done : Result ⊤ Failure)
      × EndsBy done status said × ShowDoes g known file.now kind number old new done left
  LineDoes (Migrate file) IsMoment coming old new status said left = (done : Result ⊤ Failure)
      × EndsBy done status said × MigrateDoes g known file.now old new done left

-- What is known of desks in memory: each name has a new one. Roll files and ports are those of the host behind it.
abbrev pub in_memory : Known → Known
in_memory behind = record behind { there = λ _. Some true; content = λ _. Some NewDesk }

-- What a line does whose file is `:memory:`: as over a file with a new desk, of which nothing is left; or nothing,
-- where it wants a file.
abbrev pub InMemoryDoes : Known → Refusals → Line → (ℕ → Type 0) → Option (List ℕ) → Option (List ℕ) → Option (List ℕ)
    → ℕ → Option (List ℕ) → Type 0
InMemoryDoes known Refused line IsMoment coming old new status said =
    ((wants_a_file line ≡ true) × EndsBy {T = ⊤} (Err failures.NoFile) status said × (new ≡ old))
    ⊎ ((wants_a_file line ≡ false) × ((left : Ending MemStore)
    × LineDoes over_memory (in_memory known) Refused line IsMoment coming old new status said left))

-- What a line asks of a host, by what was asked before it and after it: `init` makes its file; `import` asks for its
-- roll file before its file, and `serve` for its port after it; others ask for their file alone. Each asks for less
-- where it leaves no connection.
abbrev pub LineAsks : {S : Type 0} → Known → Line → Ending S → Option (List Access) → Option (List Access) → Type 0
LineAsks known (Init file has_sums) left was now = AsksFor left (ToMake file.now has_sums) was now
LineAsks known (Import file roll at) left was now =
    AsksForRollThen (known.there file.now) left roll.now file.now was now
LineAsks known (Serve file port count at) left was now = AsksForPortBehind left file.now port was now
LineAsks known line left was now = AsksFor left (ToOpen (file_of line)) was now

-- How far a line reads its input: `once` its request and no further, and others nothing.
abbrev pub LineReads : {S : Type 0} → Line → Ending S → Option (List (List ℕ)) → Option (List (List ℕ)) → Type 0
LineReads (Once file at) left old new = ReadsRequest left old new
LineReads line left old new = new ≡ old

-- What a line asks of a host behind its own: `import` for its roll file, and `serve` for its port; others for nothing.
abbrev pub LineAsksBehind : Line → Behind → Behind → Type 0
LineAsksBehind (Import file roll at) was now = AsksBehind was now (ToRead roll.now)
LineAsksBehind (Serve file port count at) was now = AsksBehind was now (ToListen port)
LineAsksBehind line was now = now ≡ was

-- What is printed of a text: all of it, or a beginning where a write failed, which is told then.
abbrev pub Shows : List ℕ → Option (List ℕ) → Option (List ℕ) → ℕ → Option (List ℕ) → Type 0
Shows text old new status said =
    (Appends old new text × EndsBy {T = ⊤} (Ok tt) status said)
    ⊎ (AppendsBeginning old new text × EndsBy {T = ⊤} (Err failures.Lost) status said)

-- What is printed where there is no line, the exit status, and what is said on error output: a text is printed; and
-- nothing where the words are called wrong, which is said by a text, or memory ran out.
abbrev pub Tells : NoLine → Option (List ℕ) → Option (List ℕ) → ℕ → Option (List ℕ) → Type 0
Tells (no_lines.Help text) old new status said = Shows (string_bytes text) old new status said
Tells (no_lines.Words text) old new status said = (status ≡ 2) × (said ≡ Some (string_bytes text)) × (new ≡ old)
Tells no_lines.Memory old new status said =
    EndsBy {T = ⊤} (Err (failures.Fault faults.Memory)) status said × (new ≡ old)

-- How words are answered that ask for no line: by a text, for which they ask, which is the version where they ask for
-- that; or by a beginning of it, where a write failed. Or they are called wrong on error output, and ask for no line,
-- nor for the version. Or memory ran out. Nothing is printed then.
abbrev pub RepliesTo : List (List ℕ) → Option (List ℕ) → Option (List ℕ) → ℕ → Option (List ℕ) → Type 0
RepliesTo words old new status said =
    (AskForHelp words × (text : List ℕ) × (AskForVersion words → text ≡ version) × Shows text old new status said)
    ⊎ (((status ≡ 2) × AskForNone words × (¬ (AskForVersion words)) × IsSome said × (new ≡ old))
    ⊎ (EndsBy {T = ⊤} (Err (failures.Fault faults.Memory)) status said × (new ≡ old)))

-- What the program does over a host of which this was known before and after, and of which this was asked: what the
-- line that the words ask for does, over the host or in memory. What was known of other files stays known, or is no
-- longer known; of a line in memory all that was known of files stays, and the host is asked for its roll file or its
-- port alone. Or there is no line, and nothing is asked of the host.
abbrev pub RunsOn : {S : Type 0} → Ghosts S → Known → Known → Refusals → Option (List Access) → Option (List Access)
    → List (List ℕ) → (ℕ → Type 0) → Option (List ℕ) → Option (List ℕ) → Option (List ℕ) → ℕ → Option (List ℕ)
    → Ending S → Type 0
RunsOn g known after Refused was now words IsMoment coming old new status said left =
    ((line : Line) × WordsAsk words line × (file_of line ≢ codes ":memory:") × LineAsks known line left was now
    × LineDoes g known Refused line IsMoment coming old new status said left
    × LeavesOthers (file_of line) known after)
    ⊎ (((line : Line) × WordsAsk words line × (file_of line ≡ codes ":memory:") × (left ≡ ending.Nothing)
    × LineAsksBehind line (record { known = known; asked = was; name = 0 })
    (record { known = after; asked = now; name = 0 })
    × InMemoryDoes known Refused line IsMoment coming old new status said)
    ⊎ ((left ≡ ending.Nothing) × (now ≡ was) × (after ≡ known) × RepliesTo words old new status said))
