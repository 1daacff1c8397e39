use Rattle.std.proofs.Common.{◌≡◌, Bool, is_some, IsSome, length, sym, ap, ◌∙◌, rules, tests}
use Rattle.std.specs.Prelude.{nat_eq}
use Rattle.std.specs.List.{list_any}
use Rattle.std.specs.Cmp.{nat_eq_equiv}
use Rattle.std.specs.FinMap.{get}
use Rattle.std.specs.Map.Iter.{TakesFirst, deref_pair}
use Rattle.std.proofs.lemmas.Iterator.Consumers.{YieldsList-from_shown}
use Rattle.std.proofs.lemmas.Iterator.Search.{any_from_yields_List}
use Rattle.std.proofs.lemmas.List.Elements.{recursion_from_All}
use Rattle.gr_core.specs.Parts.Choice.{ChoiceModel, choice_key, choices_of}
use Rattle.gr_core.specs.Parts.Key.{choice_cmp}
use Rattle.gr_core.specs.InMemory.Tables.{choice_entry}
use Rattle.gr_core.proofs.Contents.ChoiceLemmas.{IsChoiceOf, all_choices_of}
use Rattle.gr_core.proofs.Collections.EntryLemmas.{find-passing}
use Rattle.gr_core.proofs.Collections.ListLemmas.{list_any-map}
use Rattle.gr_core.proofs.Collections.PresenceLemmas.{given, taken}
use Rattle.gr_core.proofs.Collections.PairKeys.{choice_total, choice_only}
use Rattle.gr_core.proofs.Contents.PlacesInOrder.{passes_some, some_passes}
use Rattle.gr_core.proofs.valid.resolutions.has_introduced.Goals as goal

abbrev introduced : ChoiceModel → Bool
introduced choice = is_some choice.introduced

pub returns : goal.returns
returns c =
    let s = c.args.tables.now in
    let resolution = c.args.resolution in
    let range = c.of_resolution.result in
    let these = choices_of s.choices resolution in
    let shown = YieldsList-from_shown (TakesFirst deref_pair) deref_pair (λ rest. rest)
    (λ s t none. ap length none.0) (λ s item t some. some) range in
    let is : c.any.result ≡ list_any (λ entry. introduced entry.1) these =
    any_from_yields_List (λ entry. introduced (choice_entry entry).1) _ _ c.any.result c.any.ensures.ran shown
    (λ x b q k. search (rules, tests))
    ∙ list_any-map choice_entry (λ entry. introduced entry.1) range
    ∙ ap (list_any (λ entry. introduced entry.1)) c.of_resolution.ensures.entries
    ∙ ap (λ choices. list_any (λ entry. introduced entry.1) (choices_of choices resolution)) c.choices.ensures in (
      λ yes.
          let one = passes_some (λ entry. introduced entry.1) (IsChoiceOf s.choices resolution) these (sym is ∙ yes)
          (recursion_from_All (IsChoiceOf s.choices resolution) these (all_choices_of s.choices resolution)) in
          let key : choice_key resolution one.0.0.number ≡ one.0.0 =
          λ i. record { resolution = one.2.0 i; number = one.0.0.number } in record {
            number = one.0.0.number;
            found = given (get s.choices (choice_key resolution one.0.0.number)) (λ choice. IsSome choice.introduced) one.0.1
                (ap (get s.choices) key ∙ one.2.1) one.1;
          },
      λ has.
          let one = taken (get s.choices (choice_key resolution has.number)) (λ choice. IsSome choice.introduced) has.found in
          is ∙ some_passes choice_cmp introduced (choice_key resolution has.number) one.0 these
          (find-passing choice_total choice_only (λ key. nat_eq resolution key.resolution) s.choices
          (choice_key resolution has.number) (nat_eq_equiv.refl resolution) ∙ one.1) one.2,
    )
