use Rattle.std.proofs.Common.{subst, length, ◌≤◌}
use Rattle.std.specs.List.{All}
use Rattle.gr_core.specs.Parts.Choice.{choices_of}
use Rattle.gr_core.specs.declared.limits.TheConstants.{MAX_CHOICES}
use Rattle.gr_core.specs.Desks.Valid.{IsChoiceIn}
use Rattle.gr_core.proofs.Contents.ElectionLemmas.{choices_in, few_choices}
use Rattle.gr_core.proofs.desk.Desk.choices.Goals as goal

pub returns-clause-each : goal.returns-clause-each
returns-clause-each c =
    subst (λ s. All (IsChoiceIn s c.args.resolution) (choices_of s.choices c.args.resolution)) c.self.view_is
    (choices_in c.self.inside.tables c.self.invariant.0.tables c.args.resolution)

pub returns-clause-bound : goal.returns-clause-bound
returns-clause-bound c =
    subst (λ s. length (choices_of s.choices c.args.resolution) ≤ MAX_CHOICES) c.self.view_is
    (few_choices c.self.inside.tables c.self.invariant.0.tables c.args.resolution)
