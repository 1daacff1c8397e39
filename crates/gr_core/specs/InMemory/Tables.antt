-- What a desk has in memory, as its state.
use Rattle.std.specs.Prelude.{ℕ, ◌^◌, ◌<◌, List, All, string_bytes, String}
use Rattle.std.specs.Ordering.{nat_cmp}
use Rattle.std.specs.FinMap.{FinMap}
use Rattle.std.specs.BTreeMap.{BTreeMap, IsOrdered, keys}
use Rattle.std.specs.declared.alloc.Global.{Global}
use Rattle.gr_core.specs.declared.header.Header.{Header}
use Rattle.gr_core.specs.declared.developer.Developer.{Developer}
use Rattle.gr_core.specs.declared.resolution.Resolution.{Resolution}
use Rattle.gr_core.specs.declared.choice.ChoiceKey.{ChoiceKey}
use Rattle.gr_core.specs.declared.choice.Choice.{Choice}
use Rattle.gr_core.specs.declared.sponsor.Sponsorship.{Sponsorship}
use Rattle.gr_core.specs.Parts.Developer.{DeveloperModel, developer_model}
use Rattle.gr_core.specs.Parts.Choice.{ChoiceModel, choice_model}
use Rattle.gr_core.specs.Parts.Key.{text_cmp, choice_cmp, sponsor_cmp, ballot_cmp}
use Rattle.gr_core.specs.Parts.Ballot.{BallotModel}
use Rattle.gr_core.specs.Desks.State.{State}
use Rattle.gr_core.specs.InMemory.Table.{entry_by, table_of}

-- the login and the row of an entry of the roll
abbrev pub developer_entry : String Global × Developer → List ℕ × DeveloperModel
developer_entry = entry_by string_bytes developer_model

-- the roll that the entries make
abbrev pub roll_of : BTreeMap (String Global) Developer → FinMap text_cmp DeveloperModel
roll_of = table_of text_cmp string_bytes developer_model

-- the resolutions that the entries make: their numbers and rows lie in memory as they are
abbrev pub resolution_map : BTreeMap ℕ Resolution → FinMap nat_cmp Resolution
resolution_map = table_of nat_cmp (λ number. number) (λ resolution. resolution)

-- the key and the row of a choice's entry
abbrev pub choice_entry : ChoiceKey × Choice → ChoiceKey × ChoiceModel
choice_entry = entry_by (λ key. key) choice_model

-- the choices that the entries make
abbrev pub choice_map : BTreeMap ChoiceKey Choice → FinMap choice_cmp ChoiceModel
choice_map = table_of choice_cmp (λ key. key) choice_model

-- The entries stand in the order of their keys, and the numbers of the choices are those that memory can hold: so the
-- choices of a resolution stand side by side, up to the greatest number.
pub record AreChoices (choices : BTreeMap ChoiceKey Choice) : Type 0 where
  pub ordered : IsOrdered choice_cmp choices
  pub numbers : All (λ key. key.number < 2 ^ 32) (keys choices)

-- the state with this header and these tables
abbrev pub state_of : Header → FinMap text_cmp DeveloperModel → FinMap nat_cmp Resolution
    → FinMap choice_cmp ChoiceModel → FinMap sponsor_cmp Sponsorship → FinMap ballot_cmp BallotModel → State
state_of header developers resolutions choices sponsors ballots = record {
  header = header;
  developers = developers;
  resolutions = resolutions;
  choices = choices;
  sponsors = sponsors;
  ballots = ballots;
}
