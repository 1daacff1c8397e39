-- A choice of a resolution (this project's profile), without where its texts lie in memory.
use Rattle.std.specs.Prelude.{ℕ, ◌≤◌, List, filter, Option, Some, None, option_map, string_bytes, nat_eq}
use Rattle.std.specs.FinMap.{FinMap, entries}
use Rattle.gr_count.specs.declared.limits.TheConstants.{MAX_RATIO}
use Rattle.gr_core.specs.declared.choice.Choice.{Choice}
use Rattle.gr_core.specs.declared.choice.ChoiceKey.{ChoiceKey}
use Rattle.gr_core.specs.declared.choice.Proposer as rust
use Rattle.gr_core.specs.declared.choice.Wording as rust_wording
use Rattle.gr_core.specs.Parts.Key.{choice_cmp}

-- who proposes it (Constitution, 4.2.1)
pub data Proposer : Type 0 where
  Developer : (login : List ℕ) → Proposer
  Leader Committee : Proposer

abbrev pub proposer_of : rust.Proposer → Proposer
proposer_of (rust.TheVariants.Developer login) = Developer (string_bytes login)
proposer_of rust.TheVariants.Leader = Leader
proposer_of rust.TheVariants.Committee = Committee

-- the login of a proposer who is a developer
abbrev pub login_of_proposer : Proposer → Option (List ℕ)
login_of_proposer (Developer login) = Some login
login_of_proposer Leader = None
login_of_proposer Committee = None

-- what a choice says: a line for the ballot, and what the project would resolve
pub record Wording : Type 0 where
  pub summary : List ℕ
  pub text : List ℕ

abbrev pub wording_of : rust_wording.Wording → Wording
wording_of wording = record { summary = string_bytes wording.summary; text = string_bytes wording.text }

-- a majority ratio: 1 where no more is asked for (Constitution, A.4.1), and MAX_RATIO at most (this project's profile)
abbrev pub IsRatio : ℕ → Type 0
IsRatio ratio = (1 ≤ ratio) × (ratio ≤ MAX_RATIO)

-- moments are seconds since 1970
pub record ChoiceModel : Type 0 where
  -- none, once the proposer withdrew (Constitution, A.2.1)
  pub proposer : Option Proposer
  pub wording : Wording
  -- the majority ratio, 1 for a simple majority (Constitution, A.4.1)
  pub ratio : ℕ
  -- when it was introduced (Constitution, 4.2.1)
  pub introduced : Option ℕ
  -- when a withdrawal left it in want of a proposer or of sponsors, if not remedied since (Constitution, A.2.3)
  pub short : Option ℕ
  -- its position on the ballot, from 1 (Constitution, A.3.2)
  pub place : Option ℕ

abbrev pub choice_model : Choice → ChoiceModel
choice_model choice = record {
  proposer = option_map proposer_of choice.proposer;
  wording = wording_of choice.wording;
  ratio = choice.ratio;
  introduced = choice.introduced;
  short = choice.short;
  place = choice.place;
}

abbrev pub choice_key : ℕ → ℕ → ChoiceKey
choice_key resolution number = record { resolution = resolution; number = number }

-- the choices of one resolution, in the order of their numbers
abbrev pub choices_of : FinMap choice_cmp ChoiceModel → ℕ → List (ChoiceKey × ChoiceModel)
choices_of choices resolution = filter (λ entry. nat_eq resolution entry.0.resolution) (entries choices)
