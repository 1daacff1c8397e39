use Rattle.std.proofs.Common.{◌≡◌, Bor, Option, Some, None, option_map, refl, sym, ap, ◌∙◌}
use Rattle.std.specs.Option.{option_copied}
use Rattle.std.specs.FinMap as finite
use Rattle.gr_core.specs.declared.choice.Choice.{Choice}
use Rattle.gr_core.specs.Parts.Choice.{choice_model}
use Rattle.gr_core.proofs.Collections.PairKeys.{choice_total, choice_only}
use Rattle.gr_core.proofs.Collections.TableLemmas.{get-table_of}
use Rattle.gr_core.proofs.choices.Choices.get.Goals as goal

-- the row of what is borrowed
row_of : (o : Option (Bor Choice)) → option_map (λ choice. choice_model choice.now) o ≡ option_map choice_model (option_copied o)
row_of None = refl
row_of (Some choice) = refl

pub returns : goal.returns
returns c =
    row_of c.get.result
    ∙ ap (option_map choice_model) c.get.ensures.value
    ∙ sym (get-table_of choice_total choice_only (λ key. key) choice_model c.self.inside.by_key c.args.key)
    ∙ ap (λ choices. finite.get choices c.args.key) c.self.view_is
