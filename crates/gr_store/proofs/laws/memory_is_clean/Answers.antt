use Rattle.sqlite.proofs.Callers.{memory_is_clean}
use Rattle.gr_store.proofs.laws.memory_is_clean.Goals as goal

pub returns : goal.returns
returns c = memory_is_clean c.args._conn.now
