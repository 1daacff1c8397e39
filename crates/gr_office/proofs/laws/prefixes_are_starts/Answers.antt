use Rattle.gr_office.proofs.HistoryLemmas as lemmas
use Rattle.gr_office.proofs.laws.prefixes_are_starts.Goals as goal

pub returns : goal.returns
returns c = lemmas.prefixes_are_starts c.lifted_desks_are_valid.ensures c.commands_keep_a_desk_valid.ensures
