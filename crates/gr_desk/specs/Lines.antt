-- What each line of the program does, over any host.
use Rattle.std.specs.Prelude.{◌≡◌, ◌⊎◌, ◌<◌, ◌≤◌, ⊤, Bool, true, false, ℕ, List, [], ◌∷◌, length, map, codes, decimal, Vec}
use Rattle.std.specs.Prelude.{Option, None, Some, Result, Ok, Err, IfErr, IfOk, IsErr, MatchOption}
use Rattle.std.specs.Io.KnownBytes.{Appends}
use Rattle.std.specs.List.{concat}
use Rattle.std.specs.declared.alloc.Global.{Global}
use Rattle.sqlite_trees.specs.declared.store.Store.{Ghosts}
use Rattle.sqlite.specs.Held.{Held, state}
use Rattle.sqlite.specs.State.{HasCleanDisk}
use Rattle.gr_core.specs.declared.import.RollRow as source
use Rattle.gr_core.specs.declared.reply.Reply.{Reply}
use Rattle.gr_core.specs.Desks.State.{State, new_state}
use Rattle.gr_core.specs.Desks.Valid.{IsValid}
use Rattle.gr_core.specs.Desks.Version1.{lifted}
use Rattle.gr_core.specs.Machine.Act.{ImportRoll}
use Rattle.gr_core.specs.Machine.Import.{RollRow, roll_row}
use Rattle.gr_store.specs.declared.fault.Fault.{Fault}
use Rattle.gr_store.specs.declared.fault.Fault.TheVariants as faults
use Rattle.gr_store.specs.Content.{WritesNothing}
use Rattle.gr_store.specs.Faults.{IsOfStore}
use Rattle.gr_store.specs.Makes.{AddsDesk}
use Rattle.gr_store.specs.Version1.{HoldsValid1}
use Rattle.gr_sheet.specs.declared.kind.Kind.{Kind}
use Rattle.gr_office.specs.declared.fault.ActFault.TheVariants as answered
use Rattle.gr_office.specs.Crash as crash
use Rattle.gr_office.specs.Crash.{Acknowledged, ReplyLost}
use Rattle.gr_office.specs.History.{Attempt, AreMade, act_attempt}
use Rattle.gr_office.specs.NotOpened.{FailsToMake, FailsToMigrate}
use Rattle.gr_office.specs.Office.{IsOpenWith, Office}
use Rattle.gr_http.specs.declared.limits.TheConstants.{MAX_BODY_BYTES}
use Rattle.gr_http.specs.Reads.{Reads, AreNeeded}
use Rattle.gr_http.specs.Request.{HasRequest}
use Rattle.gr_http.specs.RollFile.{roll_in}
use Rattle.gr_http.specs.Streams.{AppendsBeginning}
use Rattle.gr_http.specs.declared.answer.Lost.{Lost}
use Rattle.gr_http.specs.declared.answer.Lost.TheVariants as streams
use Rattle.gr_http.specs.Fates.{delivered, undelivered}
use Rattle.gr_http.specs.Response.{Response}
use Rattle.gr_http.specs.declared.answer.Served.{Served}
use Rattle.gr_desk.specs.declared.ending.Ending.{Ending}
use Rattle.gr_desk.specs.declared.ending.Ending.TheVariants as ending
use Rattle.gr_desk.specs.declared.failure.Failure.{Failure}
use Rattle.gr_desk.specs.declared.failure.Failure.TheVariants as failures
use Rattle.gr_desk.specs.Connections.{Between, AreAll, AreConnections, AreOfAll, AreOfResponse, Refusals}
use Rattle.gr_desk.specs.Host.{Access, HasDesk, HasRightSums, HasSumsAsAsked, HoldsDesk, HoldsDesk1, IsConnected, IsDeskOf, IsThere, IsUnconnected, IsUnopened, Known, StillHasDesk, ToListen, ToOpen, ToRead}
use Rattle.gr_desk.specs.Spans.{ComesNext}
use Rattle.gr_desk.specs.Steps.{ImportsRows, IsAnswered, PrintsSheet}

-- how a request was answered, as a line says it: which of the streams failed it does not say
abbrev pub outcome_of : Result Served Lost → Result Served Failure
outcome_of (Ok served) = Ok served
outcome_of (Err lost) = Err failures.Lost

-- What a request made that was answered so: by a whole response, a beginning of one, or none.
abbrev pub AreOfServed : {S : Type 0} → Office S → Office S → ℕ → Result Served Lost → List Attempt → Type 0
AreOfServed before after at (Ok served) attempts = (response : Response) × (served.status ≡ response.status)
    × AreOfResponse before after at response delivered attempts
AreOfServed before after at (Err streams.Write) attempts = (response : Response)
    × AreOfResponse before after at response undelivered attempts
AreOfServed before after at (Err streams.Read) attempts = attempts ≡ []

-- What an import made of the office: one attempt, with the fate of which its line tells.
abbrev pub AreOfImport : {S T : Type 0} → Office S → ℕ → List RollRow → Result T Failure → Office S → List Attempt
    → Type 0
AreOfImport before at rows (Ok done) after attempts =
    (reply : Reply) × (attempts ≡ record { command = (at, ImportRoll rows); fate = Acknowledged reply } ∷ [])
AreOfImport before at rows (Err failures.Lost) after attempts =
    (reply : Reply) × (attempts ≡ record { command = (at, ImportRoll rows); fate = ReplyLost reply } ∷ [])
AreOfImport before at rows (Err (failures.Refused refusal)) after attempts =
    attempts ≡ record { command = (at, ImportRoll rows); fate = crash.Refused refusal } ∷ []
AreOfImport before at rows (Err (failures.Fault fault)) after attempts =
    attempts ≡ act_attempt at (ImportRoll rows) (Err (answered.Fault fault)) after.desk ∷ []
AreOfImport before at rows (Err other) after attempts = ⊥

-- How far `once` reads its input: its request and no further; and nothing, if no desk was opened.
abbrev pub ReadsRequest : {S : Type 0} → Ending S → Option (List (List ℕ)) → Option (List (List ℕ)) → Type 0
ReadsRequest (ending.Close conn) old new = Reads old new (AreNeeded HasRequest [])
ReadsRequest other old new = new ≡ old

-- what was written of a text, by how that ended
abbrev pub Prints : {T : Type 0} → List ℕ → Option (List ℕ) → Option (List ℕ) → Result T Failure → Type 0
Prints text old new (Ok done) = Appends old new text
Prints text old new (Err failures.Lost) = AppendsBeginning old new text
Prints text old new (Err other) = ⊥

-- the line that says that connections are accepted
abbrev pub listening_line : ℕ → List ℕ
listening_line port = concat (codes "listening 127.0.0.1:" ∷ decimal port ∷ codes "\n" ∷ [])

-- Why a port was not listened on, and what was written: a beginning of its line where a write failed, and else nothing.
-- That it cannot be is never said where it is known what its connections bring.
abbrev pub IsUnheard : Option (List (List ℕ)) → ℕ → Option (List ℕ) → Option (List ℕ) → Failure → Type 0
IsUnheard awaited port old new failures.CannotListen = (awaited ≡ None) × (new ≡ old)
IsUnheard awaited port old new (failures.Fault fault) = (fault ≡ faults.Memory) × (new ≡ old)
IsUnheard awaited port old new failures.Lost = AppendsBeginning old new (listening_line port)
IsUnheard awaited port old new other = ⊥

-- these are what the roll file says, where it is known: its rows, or the number of its first bad record
abbrev pub IsReadOf : Option (List ℕ) → Result (List RollRow) ℕ → Type 0
IsReadOf None said = ⊤
IsReadOf (Some bytes) said = (length bytes ≤ MAX_BODY_BYTES) × (roll_in bytes ≡ said)

-- Why a roll file was not read. That it cannot be is never said where it is known what it has.
abbrev pub IsUnread : Option (List ℕ) → Failure → Type 0
IsUnread roll failures.CannotRead = roll ≡ None
IsUnread roll failures.TooLarge = MatchOption roll ⊤ (λ bytes. MAX_BODY_BYTES < length bytes)
IsUnread roll (failures.BadRoll number) = IsReadOf roll (Err number)
IsUnread roll (failures.Fault fault) = fault ≡ faults.Memory
IsUnread roll other = ⊥

-- what is read of a roll file
abbrev pub ReadsRows : Option (List ℕ) → Result (Vec source.RollRow Global) Failure → Type 0
ReadsRows roll (Ok rows) = IsReadOf roll (Ok (map roll_row rows.items))
ReadsRows roll (Err failure) = IsUnread roll failure

-- An import asks for the roll file, and then for the file, if a connection is left; otherwise for the roll file alone,
-- or for nothing. Where it is known that there is no file, it asks for nothing.
abbrev pub AsksForRollThen : {S : Type 0} → Option Bool → Ending S → List ℕ → List ℕ → Option (List Access)
    → Option (List Access)
    → Type 0
AsksForRollThen there ending.Nothing roll file was now =
    (now ≡ was) ⊎ (IsThere there × ComesNext was now (ToRead roll))
AsksForRollThen there other roll file was now =
    IsThere there
    × (mid : Option (List Access)) × ComesNext was mid (ToRead roll) × ComesNext mid now (ToOpen file)

-- It asks for the file, and then for the port; for the port not always, where the connection is let go.
abbrev pub AsksForPortBehind : {S : Type 0} → Ending S → List ℕ → ℕ → Option (List Access) → Option (List Access)
    → Type 0
AsksForPortBehind ending.Nothing file port was now = now ≡ was
AsksForPortBehind (ending.LetGo conn) file port was now =
    (mid : Option (List Access)) × ComesNext was mid (ToOpen file)
    × ((now ≡ mid) ⊎ ComesNext mid now (ToListen port))
AsksForPortBehind (ending.Close conn) file port was now =
    (mid : Option (List Access)) × ComesNext was mid (ToOpen file) × ComesNext mid now (ToListen port)

module _ {S : Type 0} (g : Ghosts S) (known : Known) (file : List ℕ) where
  -- No office was opened over the file, and nothing was written to the output.
  abbrev pub DoesNothing : {T : Type 0} → Option (List ℕ) → Option (List ℕ) → Result T Failure → Ending S → Type 0
  DoesNothing old new done left =
      (failure : Failure) × (done ≡ Err failure) × IsUnopened g known file failure left × (new ≡ old)

  -- `once`: one request came to the desk that the file held, at such a moment, and was answered so. These attempts are
  -- what it made of the office, and this is its connection then.
  pub record IsOnce (IsMoment : ℕ → Type 0) (coming old new : Option (List ℕ)) (outcome : Result Served Failure)
      (conn : Held S) : Type 0 where
    pub before : Office S
    pub after : Office S
    pub at : ℕ
    pub served : Result Served Lost
    pub desk : IsDeskOf g known file before conn
    pub moment : IsMoment at
    pub answered : IsAnswered g before at coming old new served after
    pub tells : outcome ≡ outcome_of served
    pub attempts : List Attempt
    pub made : AreMade g before attempts after
    pub its : AreOfServed before after at served attempts
    pub last : conn ≡ after.conn

  abbrev pub OnceDoes : (ℕ → Type 0) → Option (List ℕ) → Option (List ℕ) → Option (List ℕ) → Result Served Failure
      → Ending S → Type 0
  OnceDoes IsMoment coming old new outcome (ending.Close conn) = IsOnce IsMoment coming old new outcome conn
  OnceDoes IsMoment coming old new outcome left = DoesNothing old new outcome left

  -- `roll`, `status`, `tally`, `result`: a sheet of the desk that the file held was written, and its file stays as it
  -- was
  pub record IsShownFrom (kind : Kind) (number : ℕ) (old new : Option (List ℕ)) (done : Result ⊤ Failure)
      (conn : Held S) : Type 0 where
    pub office : Office S
    pub desk : IsDeskOf g known file office conn
    pub prints : PrintsSheet office.desk kind number old new done
    pub last : conn ≡ office.conn

  abbrev pub ShowDoes : Kind → ℕ → Option (List ℕ) → Option (List ℕ) → Result ⊤ Failure → Ending S → Type 0
  ShowDoes kind number old new done (ending.LetGo conn) =
      DoesNothing old new done (ending.LetGo conn) ⊎ IsShownFrom kind number old new done conn
  ShowDoes kind number old new done left = DoesNothing old new done left

  -- `init`: a desk was made in the file, with sums on its pages or without. This is its connection then.
  pub record IsMade (has_sums : Bool) (old new : Option (List ℕ)) (done : Result ⊤ Failure)
      (conn : Held S) : Type 0 where
    pub before : Held S
    pub office : Office S
    pub connected : IsConnected g (known.content file) before
    pub sums : HasSumsAsAsked g has_sums (known.content file) before
    pub new_desk : office.desk ≡ Some new_state
    pub kept : HasCleanDisk (state g conn) → IsOpenWith g new_state office
    pub adds : HasCleanDisk (state g conn) → AddsDesk (state g before).now (state g office.conn).now
    -- no desk was there
    pub vacant : HasCleanDisk (state g conn)
        → MatchOption (known.content file) ⊤ (λ content. (s : State) → ¬ (HasDesk content s))
    pub right_sums : HasCleanDisk (state g conn) → HasRightSums (known.content file)
    pub says : Prints (codes "ok\n") old new done
    pub last : conn ≡ office.conn

  abbrev pub InitDoes : Bool → Option (List ℕ) → Option (List ℕ) → Result ⊤ Failure → Ending S → Type 0
  InitDoes has_sums old new done ending.Nothing =
      (fault : Fault) × (done ≡ Err (failures.Fault fault)) × IsOfStore fault × (new ≡ old)
  InitDoes has_sums old new done (ending.LetGo conn) =
      (fault : Fault) × (done ≡ Err (failures.Fault fault))
      × (before : Held S) × IsConnected g (known.content file) before × FailsToMake g before conn fault
      × StillHasDesk g (known.content file) conn
      × (new ≡ old)
  InitDoes has_sums old new done (ending.Close conn) = IsMade has_sums old new done conn

  -- `migrate`: the desk of the file is of this version, and was upgraded to it or was of it before
  pub record IsMigrated (is_migrated : Bool) (old new : Option (List ℕ)) (done : Result ⊤ Failure)
      (conn : Held S) : Type 0 where
    pub before : Held S
    pub office : Office S
    pub there : IsThere (known.there file)
    pub connected : IsConnected g (known.content file) before
    pub found : HasCleanDisk (state g conn) → (s : State) × (office.desk ≡ Some s) × IsValid s
    pub untouched : ¬ (HoldsValid1 (state g before).now) → WritesNothing (state g before) (state g office.conn)
    pub stayed : HasCleanDisk (state g conn)
        → MatchOption (known.content file) ⊤ (λ content. (s : State) → HoldsDesk content s
        → IsOpenWith g s office × (is_migrated ≡ false))
    pub lifts : HasCleanDisk (state g conn)
        → MatchOption (known.content file) ⊤ (λ content. (s : State) → HoldsDesk1 content s
        → IsOpenWith g (lifted s) office × (is_migrated ≡ true))
    pub right_sums : HasCleanDisk (state g conn) → HasRightSums (known.content file)
    pub says : Prints (codes "ok schema 2\n") old new done
    pub last : conn ≡ office.conn

  abbrev pub MigrateDoes : Option (List ℕ) → Option (List ℕ) → Result ⊤ Failure → Ending S → Type 0
  MigrateDoes old new done ending.Nothing =
      (failure : Failure) × (done ≡ Err failure) × IsUnconnected (known.there file) (known.content file) failure
      × (new ≡ old)
  MigrateDoes old new done (ending.LetGo conn) =
      ((fault : Fault) × (done ≡ Err (failures.Fault fault)) × IsThere (known.there file)
      × (before : Held S) × IsConnected g (known.content file) before × FailsToMigrate g before conn fault
      × StillHasDesk g (known.content file) conn
      × (new ≡ old))
      ⊎ IsMigrated false old new done conn
  MigrateDoes old new done (ending.Close conn) = IsMigrated true old new done conn

  -- `import`: the rows of the roll file came to the desk that the file held by one command, at such a moment
  pub record IsImported (roll : List ℕ) (IsMoment : ℕ → Type 0) (old new : Option (List ℕ))
      (done : Result ⊤ Failure)
      (conn : Held S) : Type 0 where
    pub before : Office S
    pub after : Office S
    pub at : ℕ
    pub rows : List RollRow
    pub read : IsReadOf (known.roll roll) (Ok rows)
    pub desk : IsDeskOf g known file before conn
    pub moment : IsMoment at
    pub imports : ImportsRows g before at rows old new done after
    pub attempts : List Attempt
    pub made : AreMade g before attempts after
    pub its : AreOfImport before at rows done after attempts
    pub last : conn ≡ after.conn

  abbrev pub ImportDoes : List ℕ → (ℕ → Type 0) → Option (List ℕ) → Option (List ℕ) → Result ⊤ Failure
      → Ending S → Type 0
  ImportDoes roll IsMoment old new done (ending.Close conn) = IsImported roll IsMoment old new done conn
  ImportDoes roll IsMoment old new done left =
      DoesNothing old new done left
      ⊎ ((failure : Failure) × (done ≡ Err failure) × IsUnread (known.roll roll) failure × (left ≡ ending.Nothing)
      × (new ≡ old))

  -- `serve`: so many connections came to the desk that the file held, one after the other; or their door refused one,
  -- or a fault ended them
  pub record IsServed (Refused : Refusals) (IsMoment : ℕ → Type 0) (port count : ℕ) (old new : Option (List ℕ))
      (done : Result ⊤ Failure)
      (conn : Held S) : Type 0 where
    pub before : Office S
    pub after : Office S
    pub first : Between S
    pub betweens : List (Between S)
    pub last : Between S
    pub desk : IsDeskOf g known file before conn
    pub says : Appends old new (listening_line port)
    pub at_first : first.office ≡ before
    pub come : MatchOption (known.awaited port) ⊤ (λ all. first.awaited ≡ Some all)
    pub connections : AreConnections g IsMoment first betweens last
    pub at_last : last.office ≡ after
    pub attempts : List Attempt
    pub made : AreMade g before attempts after
    pub its : AreOfAll IsMoment first betweens attempts
    pub all : IfOk done (λ it. AreAll count betweens after)
    pub failed : IfErr done (λ failure. ((failure ≡ failures.CannotAccept)
        × Refused last.awaited last.ended)
        ⊎ ((failure ≡ failures.Fault faults.Closed) × (after.desk ≡ None)))
    pub left : conn ≡ after.conn

  -- the port was not listened on, and the file stays as it was
  pub record IsNotServed (port : ℕ) (old new : Option (List ℕ)) (done : Result ⊤ Failure) (conn : Held S) : Type 0 where
    pub office : Office S
    pub failure : Failure
    pub desk : IsDeskOf g known file office conn
    pub failed : done ≡ Err failure
    pub unheard : IsUnheard (known.awaited port) port old new failure
    pub left : conn ≡ office.conn

  -- what `serve` came to where its connection is let go: it opened no desk; or it did not listen; or it stopped
  pub data ServeLetsGo (Refused : Refusals) (IsMoment : ℕ → Type 0) (port count : ℕ) (old new : Option (List ℕ))
      (done : Result ⊤ Failure)
      (conn : Held S) : Type 0 where
    Unopened : DoesNothing old new done (ending.LetGo conn) → ServeLetsGo Refused IsMoment port count old new done conn
    Unheard : IsNotServed port old new done conn → ServeLetsGo Refused IsMoment port count old new done conn
    Stopped : IsErr done → IsServed Refused IsMoment port count old new done conn
        → ServeLetsGo Refused IsMoment port count old new done conn

  abbrev pub ServeDoes : Refusals → (ℕ → Type 0) → ℕ → ℕ → Option (List ℕ) → Option (List ℕ) → Result ⊤ Failure
      → Ending S → Type 0
  ServeDoes Refused IsMoment port count old new done ending.Nothing = DoesNothing old new done ending.Nothing
  ServeDoes Refused IsMoment port count old new done (ending.LetGo conn) =
      ServeLetsGo Refused IsMoment port count old new done conn
  ServeDoes Refused IsMoment port count old new done (ending.Close conn) =
      (done ≡ Ok tt) × IsServed Refused IsMoment port count old new done conn
