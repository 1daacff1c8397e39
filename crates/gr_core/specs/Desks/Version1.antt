-- Which states a desk could have in version 1, and what becomes of one in this version (this project's profile). A
-- ballot of version 1 does not say how often its voter voted: no rule of it speaks of `received`.
use Rattle.std.specs.Prelude.{⊤, ℕ, List, map}
use Rattle.std.specs.FinMap.{FinMap, entries, from_entries}
use Rattle.gr_core.specs.declared.limits.TheConstants.{VERSION, VERSION_1}
use Rattle.gr_core.specs.Parts.Header.{IsHeaderOfVersion}
use Rattle.gr_core.specs.Parts.Key.{ballot_cmp}
use Rattle.gr_core.specs.Parts.Ballot.{BallotModel, with_received}
use Rattle.gr_core.specs.Desks.State.{State}
use Rattle.gr_core.specs.Desks.Valid.{AreTables, AreVotesBy, IsBallotWith}

-- ==== valid desks of version 1

-- a ballot of version 1: nothing is said of how many votes were received
abbrev pub IsBallotIn1 : State → ℕ → List ℕ → BallotModel → Type 0
IsBallotIn1 = IsBallotWith (λ received. ⊤)

pub record IsValid1 (s : State) : Type 0 where
  pub header : IsHeaderOfVersion VERSION_1 s.header
  pub tables : AreTables s.header.clock s
  pub votes : AreVotesBy IsBallotIn1 s

-- ==== in this version

-- the ballots, with one vote received of each voter
abbrev pub received_once : FinMap ballot_cmp BallotModel → FinMap ballot_cmp BallotModel
received_once ballots = from_entries (map (λ entry. (entry.0, with_received 1 entry.1)) (entries ballots))

-- the same desk in this version: each voter is said to have voted once on the resolution
abbrev pub lifted : State → State
lifted s = record s {
  header = record s.header { version = VERSION };
  ballots = received_once s.ballots;
}
