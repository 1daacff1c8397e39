use Rattle.std.proofs.Common.{◌≡◌, map}
use Rattle.gr_core.specs.Machine.Row.{row_of, put_all}
use Rattle.gr_core.proofs.tables.Tables.with_all.Given as goal

abbrev pub invariant-loop-change : goal.invariant-loop-change
invariant-loop-change l = l.tables ≡ put_all l.fn.self (map row_of l.yielded)
