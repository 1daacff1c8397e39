use Rattle.std.proofs.Common.{◌≡◌, ℕ, Option, ap, sym, ◌∙◌, option_map, string_bytes, count_by}
use Rattle.std.specs.Prelude.{unwrap_or}
use Rattle.std.specs.Option.{option_copied}
use Rattle.std.specs.BTreeMap.{get_by, values}
use Rattle.gr_core.specs.declared.choice.ChoiceKey.{ChoiceKey}
use Rattle.gr_core.specs.Parts.Key.{choice_cmp}
use Rattle.gr_core.specs.Parts.Sponsor.{is_active, sponsor_count}
use Rattle.gr_core.specs.InMemory.Sponsors.{ByLogin, ByChoice, AreSponsorsOrdered, sponsors_of}
use Rattle.gr_core.proofs.Collections.CountLemmas.{count-map}
use Rattle.gr_core.proofs.Collections.TextKeys.{text_total, text_only}
use Rattle.gr_core.proofs.Collections.PairKeys.{choice_total, choice_only}
use Rattle.gr_core.proofs.Collections.TwoLevels.{count-two_levels}
use Rattle.gr_core.proofs.sponsors.Sponsors.active_count.Goals as goal

-- how many sponsors are active, where the choice has a table
abbrev active_in : Option ByLogin → ℕ
active_in found = unwrap_or (option_map (λ sponsors. count_by is_active (values sponsors)) found) 0

-- the active sponsors of a choice stand in its table
count-sponsors_of : (m : ByChoice) → AreSponsorsOrdered m → (choice : ChoiceKey)
    → active_in (get_by (choice_cmp choice) m) ≡ sponsor_count (sponsors_of m) choice
count-sponsors_of m ordered choice =
    (λ i. unwrap_or (option_map (λ sponsors. count-map is_active (λ entry. entry.1) sponsors.entries i) (get_by (choice_cmp choice) m)) 0)
    ∙ sym (count-two_levels choice_total choice_only text_total text_only (λ key. key) string_bytes (λ row. row)
    (λ row. is_active row.1) choice m ordered)

pub returns-in-Some-clause-count : goal.returns-in-Some-clause-count
returns-in-Some-clause-count c =
    c.active_among.ensures.count
    ∙ ap active_in (sym (ap option_copied c.in-Some.is) ∙ c.get.ensures.value)
    ∙ count-sponsors_of c.self.inside.by_choice c.self.invariant c.args.choice
    ∙ ap (λ sponsors. sponsor_count sponsors c.args.choice) c.self.view_is

pub returns-in-None-clause-count : goal.returns-in-None-clause-count
returns-in-None-clause-count c =
    ap active_in (sym (ap option_copied c.in-None.is) ∙ c.get.ensures.value)
    ∙ count-sponsors_of c.self.inside.by_choice c.self.invariant c.args.choice
    ∙ ap (λ sponsors. sponsor_count sponsors c.args.choice) c.self.view_is
