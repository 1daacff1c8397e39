use Rattle.std.proofs.Common.{sym, ap, ◌∙◌}
use Rattle.std.specs.FinMap as finite
use Rattle.gr_core.specs.Parts.Choice.{choice_model}
use Rattle.gr_core.proofs.Collections.PairKeys.{choice_total, choice_only}
use Rattle.gr_core.proofs.Collections.TableLemmas.{entries-table_of}
use Rattle.gr_core.proofs.choices.Choices.by_key.Goals as goal

pub returns : goal.returns
returns c =
    sym (entries-table_of choice_total choice_only (λ key. key) choice_model c.self.inside.by_key c.self.invariant.ordered)
    ∙ ap finite.entries c.self.view_is
