use Rattle.std.proofs.Common.{refl}
use Rattle.gr_desk.specs.Failure.{said_of_done}
use Rattle.gr_desk.proofs.program.do_line.Goals as goal

pub returns-in-Init-clause-does : goal.returns-in-Init-clause-does
returns-in-Init-clause-does g c =
    let done = c.init.result.0 in
    rw c.in-Init.is (
      said_of_done done,
      c.with_status.ensures.said,
      (
        done,
        (c.with_status.ensures.status, refl),
        rw c.with_status.ensures.left c.init.ensures.does,
      ),
    )

pub returns-in-Once-clause-does : goal.returns-in-Once-clause-does
returns-in-Once-clause-does g c =
    let outcome = c.once-outcome.result.0 in
    rw c.in-Once.is (
      said_of_done outcome,
      c.status_behind_response.ensures.said,
      (
        outcome,
        (c.status_behind_response.ensures.status, refl),
        c.once-outcome.ensures.does,
      ),
    )

pub returns-in-Serve-clause-does : goal.returns-in-Serve-clause-does
returns-in-Serve-clause-does g c =
    let done = c.serve.result.0 in
    rw c.in-Serve.is (
      said_of_done done,
      c.with_status-in-Serve.ensures.said,
      (
        done,
        (c.with_status-in-Serve.ensures.status, refl),
        rw c.with_status-in-Serve.ensures.left c.serve.ensures.does,
      ),
    )

pub returns-in-Import-clause-does : goal.returns-in-Import-clause-does
returns-in-Import-clause-does g c =
    let done = c.import.result.0 in
    rw c.in-Import.is (
      said_of_done done,
      c.with_status-in-Import.ensures.said,
      (
        done,
        (c.with_status-in-Import.ensures.status, refl),
        rw c.with_status-in-Import.ensures.left c.import.ensures.does,
      ),
    )

pub returns-in-Show-clause-does : goal.returns-in-Show-clause-does
returns-in-Show-clause-does g c =
    let done = c.show.result.0 in
    rw c.in-Show.is (
      said_of_done done,
      c.with_status-in-Show.ensures.said,
      (
        done,
        (c.with_status-in-Show.ensures.status, refl),
        rw c.with_status-in-Show.ensures.left c.show.ensures.does,
      ),
    )

pub returns-in-Migrate-clause-does : goal.returns-in-Migrate-clause-does
returns-in-Migrate-clause-does g c =
    let done = c.migrate.result.0 in
    rw c.in-Migrate.is (
      said_of_done done,
      c.with_status-in-Migrate.ensures.said,
      (
        done,
        (c.with_status-in-Migrate.ensures.status, refl),
        rw c.with_status-in-Migrate.ensures.left c.migrate.ensures.does,
      ),
    )
