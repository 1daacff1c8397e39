use Rattle.std.proofs.Common.{◌≡◌, ◌∙◌, Option, Some, None, ap, map, refl, sym, string_bytes}
use denote.Ref.{Bor}
use Rattle.std.specs.Option.{option_copied}
use Rattle.gr_core.specs.declared.choice.ChoiceKey.{ChoiceKey}
use Rattle.gr_core.specs.Parts.Sponsor.{sponsors_of_choice}
use Rattle.gr_core.specs.InMemory.Sponsors.{ByLogin, sponsor_entry}
use Rattle.gr_core.specs.InMemory.Table.{entries_in}
use Rattle.gr_core.proofs.Collections.PairKeys.{choice_total, choice_only}
use Rattle.gr_core.proofs.Collections.TextKeys.{text_total, text_only}
use Rattle.gr_core.proofs.Collections.TwoLevels.{rows_in, filter-two_levels}
use Rattle.gr_core.proofs.sponsors.Sponsors.of_choice.Goals as goal

rows_found : (choice : ChoiceKey) (found : Option (Bor ByLogin))
    → map (sponsor_entry choice) (entries_in found) ≡ rows_in string_bytes (λ row. row) choice (option_copied found)
rows_found choice None = refl
rows_found choice (Some table) = refl

pub returns : goal.returns
returns c =
    rows_found c.args.choice c.get.result
    ∙ ap (rows_in string_bytes (λ row. row) c.args.choice) c.get.ensures.value
    ∙ sym (filter-two_levels choice_total choice_only text_total text_only (λ key. key) string_bytes (λ row. row)
    c.args.choice c.self.inside.by_choice c.self.invariant)
    ∙ ap (λ sponsors. sponsors_of_choice sponsors c.args.choice) c.self.view_is
