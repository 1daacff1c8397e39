-- The sponsors of choices (Constitution, 4.2.1).
use Rattle.std.specs.Prelude.{ℕ, Bool, true, false, ◌&&◌, List, filter, count_by}
use Rattle.std.specs.Option.{option_map_or}
use Rattle.std.specs.Ordering.{eq_by_cmp}
use Rattle.std.specs.FinMap.{FinMap, get, entries}
use Rattle.gr_core.specs.declared.choice.ChoiceKey.{ChoiceKey}
use Rattle.gr_core.specs.declared.sponsor.Sponsorship.{Sponsorship}
use Rattle.gr_core.specs.declared.sponsor.Sponsorship.TheVariants.{Active, Withdrawn}
use Rattle.gr_core.specs.Parts.Key.{SponsorKey, sponsor_cmp, choice_cmp}

abbrev pub is_active : Sponsorship → Bool
is_active Active = true
is_active Withdrawn = false

-- the key is that of an active sponsor
abbrev pub is_active_sponsor : FinMap sponsor_cmp Sponsorship → SponsorKey → Bool
is_active_sponsor sponsors key = option_map_or is_active (get sponsors key) false

-- the sponsors of one choice, in the order of the logins, those who withdrew among them
abbrev pub sponsors_of_choice : FinMap sponsor_cmp Sponsorship → ChoiceKey → List (SponsorKey × Sponsorship)
sponsors_of_choice sponsors choice = filter (λ entry. eq_by_cmp choice_cmp choice entry.0.0) (entries sponsors)

-- the entry is an active sponsor of the choice
abbrev pub sponsors_choice : ChoiceKey → SponsorKey × Sponsorship → Bool
sponsors_choice choice entry = eq_by_cmp choice_cmp choice entry.0.0 && is_active entry.1

-- how many active sponsors the choice has
abbrev pub sponsor_count : FinMap sponsor_cmp Sponsorship → ChoiceKey → ℕ
sponsor_count sponsors choice = count_by (sponsors_choice choice) (entries sponsors)
