use Rattle.std.proofs.Common.{sym, ap, ◌∙◌, string_bytes}
use Rattle.std.specs.Cmp.{nat_cmp_total}
use Rattle.std.specs.FinMap as finite
use Rattle.std.specs.FinMap.{nat_cmp-IsAntisymmetric}
use Rattle.gr_core.specs.Parts.Ballot.{ballot_model}
use Rattle.gr_core.proofs.Collections.TextKeys.{text_total, text_only}
use Rattle.gr_core.proofs.Collections.TwoLevels.{entries-two_levels}
use Rattle.gr_core.proofs.ballots.Ballots.by_resolution.Goals as goal

pub returns : goal.returns
returns c =
    sym (entries-two_levels nat_cmp_total nat_cmp-IsAntisymmetric text_total text_only (λ number. number) string_bytes
    ballot_model c.self.inside.by_resolution c.self.invariant)
    ∙ ap finite.entries c.self.view_is
