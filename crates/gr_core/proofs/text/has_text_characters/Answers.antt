use Rattle.std.proofs.Common.{◌≡◌, sym, ◌∙◌, rules, tests}
use Rattle.std.specs.List.{list_all}
use Rattle.std.specs.Str.{chars}
use Rattle.std.proofs.lemmas.Iterator.{YieldsList-from_chars}
use Rattle.std.proofs.lemmas.Iterator.Search.{all_from_yields_List}
use Rattle.std.proofs.lemmas.List.Sums.{AllPass-from_list_all, list_all-from_AllPass}
use Rattle.gr_core.specs.Parts.Text.{is_text_character}
use Rattle.gr_core.proofs.text.has_text_characters.Goals as goal

pub returns : goal.returns
returns c =
    let text = c.args.text.now in
    let is : c.all.result ≡ list_all is_text_character (chars text) =
    all_from_yields_List is_text_character _ _ c.all.result c.all.ensures.ran
    (YieldsList-from_chars text c.utf8.text c.chars.ensures.rest) (λ x b q k. search (rules, tests)) in
    (λ yes. AllPass-from_list_all _ (chars text) (sym is ∙ yes), λ all. is ∙ list_all-from_AllPass _ (chars text) all)
