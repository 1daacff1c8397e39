use Rattle.gr_core.proofs.Effects.ApartLemmas.{keys_differ}
use Rattle.gr_core.proofs.laws.rows_have_different_keys.Goals as goal

pub returns : goal.returns
returns c = keys_differ
