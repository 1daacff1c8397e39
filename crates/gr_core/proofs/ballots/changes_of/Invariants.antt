use Rattle.std.proofs.Common.{◌≡◌, ◌++◌, map}
use Rattle.gr_core.specs.InMemory.Ballots.{ballot_entry}
use Rattle.gr_core.specs.Machine.Row.{row_of, ballot_of_entry}
use Rattle.gr_core.proofs.ballots.changes_of.Given as goal

-- the changes so far and those of the ballots that are left are all of them
abbrev pub invariant-loop-login : goal.invariant-loop-login
invariant-loop-login l =
    map row_of l.changes.items ++ map ballot_of_entry (map (ballot_entry l.resolution) l.login-iterator)
    ≡ map ballot_of_entry (map (ballot_entry l.resolution) l.fn.ballots.entries)
