use Rattle.std.proofs.Common.{◌≡◌, ◌≤◌, map, [], length}
use Rattle.std.specs.Prelude.{take, vec_len, vec_capacity}
use Rattle.gr_office.specs.Crash.{NotDone}
use Rattle.gr_core.specs.Desks.State.{State}
use Rattle.sqlite.specs.Held.{state}
use Rattle.sqlite.specs.State.{HasCleanDisk}
use Rattle.gr_office.specs.History.{AcceptedArePut, AreMade, list_attempts}
use Rattle.gr_office.specs.Office.{Spares, command_of}
use Rattle.gr_office.proofs.RunLemmas.{RanTo}
use Rattle.gr_office.proofs.office.Office.run.Given as goal

-- the commands so far are answered, and there is room for the other answers
abbrev pub invariant-loop-at : goal.invariant-loop-at
invariant-loop-at g l = record {
  answered : length l.answers.items ≡ l.at-index;
  len : vec_len l.answers ≡ l.at-index;
  room : length l.commands ≤ vec_capacity l.answers;
  ran : RanTo l.fn.self.desk (take l.at-index (map command_of l.commands)) l.answers.items l.self.desk;
  first : l.answers.items ≡ [] → l.self ≡ l.fn.self;
  makes : AreMade g.S.Store l.fn.self (list_attempts (take l.at-index (map command_of l.commands)) l.answers.items NotDone) l.self;
  spares : Spares g.S.Store l.fn.self l.self;
  put : HasCleanDisk (state g.S.Store l.self.conn) → (s : State)
      → AcceptedArePut g.S.Store s l.fn.self (take l.at-index (map command_of l.commands)) l.answers.items l.self;
  remembers : l.self.closed_by ≡ l.fn.self.closed_by;
}
