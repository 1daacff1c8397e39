use Rattle.std.proofs.Common.{◌≤◌, ap, ◌∙◌, subst}
use Rattle.std.specs.FinMap.{len}
use Rattle.gr_count.specs.declared.limits.TheConstants.{MAX_DEVELOPERS}
use Rattle.gr_core.proofs.valid.developers.are_developers.Goals as goal

pub returns-then-len : goal.returns-then-len
returns-then-len c = (
  λ each. (
    subst (λ n. n ≤ MAX_DEVELOPERS) (c.len.ensures ∙ ap len c.roll.ensures) c.if-len.true,
    c.each_is_developer.ensures.0 each,
  ),
  λ both. c.each_is_developer.ensures.1 both.1,
)
