use Rattle.std.proofs.Common.{inl, inr}
use Rattle.gr_desk.proofs.failure.Failure.say.Goals as goal

pub returns-in-CannotRead : goal.returns-in-CannotRead
returns-in-CannotRead g c = rw c.in-CannotRead.is c.say-in-CannotRead.ensures

pub returns-in-CannotListen : goal.returns-in-CannotListen
returns-in-CannotListen g c = elim c.in-CannotListen.is [
  | inl is ↦ rw is c.say-in-CannotListen.ensures
  | inr is ↦ rw is c.say-in-CannotListen.ensures
]
