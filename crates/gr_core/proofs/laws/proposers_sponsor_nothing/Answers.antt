use Rattle.gr_core.proofs.ResolutionLaws.ProposerLemmas.{proposer_sponsors_nothing}
use Rattle.gr_core.proofs.laws.proposers_sponsor_nothing.Goals as goal

pub returns : goal.returns
returns c = proposer_sponsors_nothing
