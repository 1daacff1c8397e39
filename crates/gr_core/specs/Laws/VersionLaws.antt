-- What a reader expects of desks of version 1 and of what becomes of them in this version (this project's profile).
use Rattle.std.specs.Prelude.{◌≡◌, ◌+◌, ◌↔◌, ℕ, map}
use Rattle.std.specs.FinMap.{empty}
use Rattle.gr_core.specs.declared.limits.TheConstants.{MAX_RESOLUTIONS, VERSION_1}
use Rattle.gr_core.specs.Parts.Ballot.{ballots_of}
use Rattle.gr_core.specs.Desks.State.{State, with_ballots_before}
use Rattle.gr_core.specs.Desks.Valid.{IsValid}
use Rattle.gr_core.specs.Desks.Version1.{IsValid1, lifted}
use Rattle.gr_core.specs.Columns.Stored.{Stored}
use Rattle.gr_core.specs.Columns.Rows1.{HasRows1}
use Rattle.gr_core.specs.Machine.Row.{ballot_of_entry, put_all}

-- a desk of version 1 was valid just where what becomes of it is valid
abbrev pub LiftedDesksAreValid : Type 0
LiftedDesksAreValid = (s : State) → s.header.version ≡ VERSION_1 → IsValid1 s ↔ IsValid (lifted s)

-- two valid desks of version 1 with the same rows become the same
abbrev pub RowsOfVersion1TellTheLifted : Type 0
RowsOfVersion1TellTheLifted = (s t : State) (rows : Stored) → IsValid1 s → IsValid1 t → HasRows1 s rows
    → HasRows1 t rows → lifted s ≡ lifted t

-- Before the resolution 1 a valid desk has no ballots. The rows of a resolution's ballots put them after those of the
-- lesser ones. All ballots are those up to the greatest number of a resolution.
abbrev pub BallotsComeInTurn : Type 0
BallotsComeInTurn = (s : State) → IsValid s
    → (with_ballots_before 1 s ≡ record s { ballots = empty })
    × ((number : ℕ) → put_all (with_ballots_before number s) (map ballot_of_entry (ballots_of s.ballots number))
    ≡ with_ballots_before (number + 1) s)
    × (with_ballots_before (MAX_RESOLUTIONS + 1) s ≡ s)
