use Rattle.gr_count.specs.Rounds.{DefeatStandsAfter}
use Rattle.gr_count.proofs.Paths.{goes_on}
use Rattle.gr_count.proofs.laws.transitive_defeats_go_on.Goals as goal

pub returns : goal.returns
returns c = λ e k a d. goes_on (DefeatStandsAfter e k) a d
