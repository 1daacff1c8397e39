-- What a desk knows (this project's profile): a header, and five tables as finite maps from a row's key to the rest of
-- the row.
use Rattle.std.specs.Prelude.{ℕ, nat_lt}
use Rattle.std.specs.Ordering.{nat_cmp}
use Rattle.std.specs.FinMap.{FinMap, empty, retain_keys}
use Rattle.gr_core.specs.declared.limits.TheConstants.{VERSION}
use Rattle.gr_core.specs.declared.header.Header.{Header}
use Rattle.gr_core.specs.declared.resolution.Resolution.{Resolution}
use Rattle.gr_core.specs.declared.sponsor.Sponsorship.{Sponsorship}
use Rattle.gr_core.specs.Parts.Key.{text_cmp, choice_cmp, sponsor_cmp, ballot_cmp}
use Rattle.gr_core.specs.Parts.Developer.{DeveloperModel}
use Rattle.gr_core.specs.Parts.Choice.{ChoiceModel}
use Rattle.gr_core.specs.Parts.Ballot.{BallotModel}

pub record State : Type 0 where
  pub header : Header
  -- by login
  pub developers : FinMap text_cmp DeveloperModel
  -- by number
  pub resolutions : FinMap nat_cmp Resolution
  -- by the number of the resolution and their own
  pub choices : FinMap choice_cmp ChoiceModel
  -- by the choice and the login
  pub sponsors : FinMap sponsor_cmp Sponsorship
  -- by the number of the resolution and the login
  pub ballots : FinMap ballot_cmp BallotModel

-- a desk that has accepted nothing yet
abbrev pub new_state : State
new_state = record {
  header = record { version = VERSION; accepted = 0; clock = 0 };
  developers = empty;
  resolutions = empty;
  choices = empty;
  sponsors = empty;
  ballots = empty;
}

-- the state with no ballots but those on the resolutions of lesser numbers
abbrev pub with_ballots_before : ℕ → State → State
with_ballots_before number s = record s { ballots = retain_keys s.ballots (λ key. nat_lt key.0 number) }
