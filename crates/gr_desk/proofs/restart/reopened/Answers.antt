use Rattle.std.proofs.Math.Logic.{∥∥₁_map}
use Rattle.sqlite.specs.Files.{over_files}
use Rattle.gr_core.specs.Desks.State.{State}
use Rattle.gr_office.specs.Crash.{IsAfterPrefix}
use Rattle.gr_store.specs.Faults.{IsOfStore}
use Rattle.gr_office.specs.Office.{IsOpenWith, StillKeeps}
use Rattle.gr_desk.proofs.restart.reopened.Goals as goal

pub returns-in-Ok-clause-found : goal.returns-in-Ok-clause-found
returns-in-Ok-clause-found g c now = (
  c.in-Ok.ensures.clean now,
  λ opens last behind s first attempts start is made.
      ∥∥₁_map (behind s first attempts is made) (λ left.
      let found : (t : State) × IsAfterPrefix s attempts t × IsOpenWith over_files t c.in-Ok.office
      = c.in-Ok.ensures.opened opens s start attempts left now in found),
)

pub returns-in-Err-clause-failed : goal.returns-in-Err-clause-failed
returns-in-Err-clause-failed g c = rw c.from.ensures λ now. (
  c.in-Err.ensures.clean now,
  λ opens last behind s first attempts start is made.
      ∥∥₁_map (behind s first attempts is made) (λ left.
      let it = c.in-Err.ensures.failed opens s start attempts left now in
      let found : (t : State) × IsAfterPrefix s attempts t × IsOfStore c.in-Err.not_opened.fault
      × StillKeeps over_files t c.in-Err.not_opened.conn
      = (it.1.0, it.1.1, it.0, it.1.2) in found),
)
