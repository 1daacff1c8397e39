-- Rules of a valid desk, where one check finds several of its conditions together (this project's profile).
use Rattle.std.specs.Prelude.{◌≡◌, ℕ, ◌<◌, ◌≤◌, length, is_some}
use Rattle.std.specs.List.{All}
use Rattle.std.specs.BTreeMap.{BTreeMap}
use Rattle.std.specs.FinMap.{FinMap, get}
use Rattle.gr_core.specs.declared.limits.TheConstants.{MAX_CHOICES}
use Rattle.gr_core.specs.Parts.Key.{choice_cmp}
use Rattle.gr_core.specs.Parts.Choice.{ChoiceModel, choice_key, choices_of}
use Rattle.gr_core.specs.Desks.Valid.{AreNumbered, places_of, up_to}

-- P holds of each entry of a table in memory
pub record HoldsOfEach {K V : Type 0} (P : K × V → Type 0) (table : BTreeMap K V) : Type 0 where
  pub each : All P table.entries

-- the choices of the resolution are numbered from 1, and there is one at least, and not too many
pub record HasNumberedChoices (choices : FinMap choice_cmp ChoiceModel) (resolution : ℕ) : Type 0 where
  pub some : 1 ≤ length (choices_of choices resolution)
  pub few : length (choices_of choices resolution) ≤ MAX_CHOICES
  pub numbered : AreNumbered (λ choice. is_some (get choices (choice_key resolution choice)))
      (length (choices_of choices resolution))

-- on the ballot of the resolution there are the places 1, 2, .. and at least one (Constitution, A.3.2), in the order of
-- the choices
pub record ArePlacesInOrder (choices : FinMap choice_cmp ChoiceModel) (resolution : ℕ) : Type 0 where
  pub places : places_of (choices_of choices resolution) ≡ up_to (length (places_of (choices_of choices resolution)))
  pub placed : 0 < length (places_of (choices_of choices resolution))
