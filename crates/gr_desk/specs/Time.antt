-- The time that a connection has.
use Rattle.std.specs.Prelude.{◌≡◌, ◌⊎◌, ◌+◌, ◌-◌, ◌*◌, ◌<◌, ◌≤◌, ℕ, List, Option, None, Some, MatchOption, Result, IsErr}
use Rattle.std.specs.Duration.{as_nanos}
use Rattle.std.specs.declared.time.Duration.{Duration}
use Rattle.gr_desk.specs.Spans.{ComesNext}
use Rattle.gr_desk.specs.declared.timed.Deadline.{Deadline}
use Rattle.gr_desk.specs.declared.timed.TimedReader.{TimedReader}
use Rattle.gr_desk.specs.declared.timed.TimedWriter.{TimedWriter}

-- This is left at a moment of a span that began then. A clock that went back since has counted nothing.
abbrev pub IsLeft : Duration → Duration → Duration → Duration → Type 0
IsLeft span begun now left = (as_nanos left + (as_nanos now - as_nanos begun) ≡ as_nanos span) × (0 < as_nanos left)

-- Nothing is left.
abbrev pub IsOver : Duration → Duration → Duration → Type 0
IsOver span begun now = as_nanos span ≤ as_nanos now - as_nanos begun

-- so many seconds, from the moment on that the clock was asked for; no time, where it gave none
abbrev pub BeginsNow : {W : Type 0} → (W → Option (List (Option Duration))) → W → Deadline W → ℕ → Type 0
BeginsNow gave asked made seconds = ComesNext (gave asked) (gave made.watch) made.begun
    × MatchOption made.begun (as_nanos made.span ≡ 0) (λ _. as_nanos made.span ≡ seconds * 1_000_000_000)

-- The clock was asked once, and gave this moment now. The span had begun at the other one, or begins now.
abbrev pub IsAsked : {W : Type 0} → (W → Option (List (Option Duration))) → Deadline W → Deadline W
    → Duration → Duration → Type 0
IsAsked gave old new begun now = ComesNext (gave old.watch) (gave new.watch) (Some now)
    × MatchOption old.begun (begun ≡ now) (λ since. begun ≡ since)
    × (new.begun ≡ Some begun) × (new.span ≡ old.span)

-- The clock was asked once, and gave none.
abbrev pub GivesNone : {W : Type 0} → (W → Option (List (Option Duration))) → Deadline W → Deadline W → Type 0
GivesNone gave old new = ComesNext (gave old.watch) (gave new.watch) None
    × (new.begun ≡ old.begun) × (new.span ≡ old.span)

-- by one look at the clock, this is left
abbrev pub Leaves : {W : Type 0} → (W → Option (List (Option Duration))) → Deadline W → Deadline W → Duration → Type 0
Leaves gave old new left = (begun now : Duration) × IsAsked gave old new begun now × IsLeft old.span begun now left

-- by one look at the clock, nothing is left, or it cannot be told
abbrev pub LeavesNone : {W : Type 0} → (W → Option (List (Option Duration))) → Deadline W → Deadline W → Type 0
LeavesNone gave old new = GivesNone gave old new
    ⊎ ((begun now : Duration) × IsAsked gave old new begun now × IsOver old.span begun now)

-- One call was made, which was given exactly what is left; or none was, and that is told as an error, since nothing is
-- left, or it cannot be told.
abbrev pub IsTimed : {W E : Type 0} → (W → Option (List (Option Duration))) → Deadline W → Deadline W
    → Option (List Duration) → Option (List Duration) → Result ℕ E → Type 0
IsTimed gave old new spans given r = ((left : Duration) × Leaves gave old new left × ComesNext spans given left)
    ⊎ (LeavesNone gave old new × (given ≡ spans) × IsErr r)

-- of a reader: the stream below, and its time
abbrev pub stream_read : {R W : Type 0} → TimedReader R W → R
stream_read reader = reader.stream

abbrev pub time_to_read : {R W : Type 0} → TimedReader R W → Deadline W
time_to_read reader = reader.deadline

-- the same of a writer
abbrev pub stream_written : {S W : Type 0} → TimedWriter S W → S
stream_written writer = writer.stream

abbrev pub time_to_write : {S W : Type 0} → TimedWriter S W → Deadline W
time_to_write writer = writer.deadline
