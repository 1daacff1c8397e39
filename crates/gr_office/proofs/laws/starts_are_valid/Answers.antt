use Rattle.gr_office.proofs.HistoryLemmas.{valid_start}
use Rattle.gr_office.proofs.laws.starts_are_valid.Goals as goal

pub returns : goal.returns
returns c = valid_start c.lifted_desks_are_valid.ensures
