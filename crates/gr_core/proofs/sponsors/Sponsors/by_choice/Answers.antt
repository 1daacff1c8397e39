use Rattle.std.proofs.Common.{sym, ap, ◌∙◌, string_bytes}
use Rattle.std.specs.FinMap as finite
use Rattle.gr_core.proofs.Collections.PairKeys.{choice_total, choice_only}
use Rattle.gr_core.proofs.Collections.TextKeys.{text_total, text_only}
use Rattle.gr_core.proofs.Collections.TwoLevels.{entries-two_levels}
use Rattle.gr_core.proofs.sponsors.Sponsors.by_choice.Goals as goal

pub returns : goal.returns
returns c =
    sym (entries-two_levels choice_total choice_only text_total text_only (λ choice. choice) string_bytes
    (λ sponsorship. sponsorship) c.self.inside.by_choice c.self.invariant)
    ∙ ap finite.entries c.self.view_is
