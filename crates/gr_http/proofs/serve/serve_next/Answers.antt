-- The connection that came is the one that is answered and ended.
use Rattle.std.proofs.Common.{◌≡◌, ℕ, ◌+◌, [], Err, arith}
use Rattle.std.specs.Prelude.{take}
use Rattle.gr_http.specs.declared.answer.Lost.{Lost}
use Rattle.gr_http.specs.declared.answer.Lost.TheVariants.{Read, Write}
use Rattle.gr_http.specs.Answer.{lost_reads, lost_writes}
use Rattle.gr_http.specs.Response.{response_bytes}
use Rattle.gr_http.proofs.DoorLemmas.{brought, appends_nothing, ended_so}
use Rattle.gr_http.proofs.serve.serve_next.Goals as goal

-- what failed where a write was lost
no_read : (begun failed : ℕ) (lost : Lost) → begun ≡ 0 → failed ≡ begun + lost_reads (Err lost) → lost ≡ Write → failed ≡ 0
no_read begun failed Read fresh is write = absurd (let w = write in cc)
no_read begun failed Write fresh is write = omega (arith, fresh, is)

one_write : (begun failed : ℕ) (lost : Lost) → begun ≡ 0 → failed ≡ begun + lost_writes (Err lost) → lost ≡ Write → failed ≡ 1
one_write begun failed Read fresh is write = absurd (let w = write in cc)
one_write begun failed Write fresh is write = omega (arith, fresh, is)

-- what failed where a read was lost
one_read : (begun failed : ℕ) (lost : Lost) → begun ≡ 0 → failed ≡ begun + lost_reads (Err lost) → lost ≡ Read → failed ≡ 1
one_read begun failed Read fresh is read = omega (arith, fresh, is)
one_read begun failed Write fresh is read = absurd (let r = read in cc)

no_write : (begun failed : ℕ) (lost : Lost) → begun ≡ 0 → failed ≡ begun + lost_writes (Err lost) → lost ≡ Read → failed ≡ 0
no_write begun failed Read fresh is read = omega (arith, fresh, is)
no_write begun failed Write fresh is read = absurd (let r = read in cc)

pub returns-in-Ok-answer-clause-served : goal.returns-in-Ok-answer-clause-served
returns-in-Ok-answer-clause-served g c =
    let (response, status, written, exchange) = c.in-Ok-answer.ensures.served in
    let came = c.in-Ok.ensures.came in
    let fresh = c.in-Ok.ensures.fresh in (
      _,
      c.now-at.result,
      c.now-at.ensures,
      response,
      status,
      brought _ _ _ _ c.end.ensures.awaited came,
      ended_so _ _ _ _ _ _ _ (response_bytes response) _ _ 0 0 c.in-Ok.ensures.ended (fresh.2, fresh.3) c.in-Ok-answer.ensures.needed written
          (let f = fresh.0 in let r = c.in-Ok-answer.ensures.reads_failed in omega arith)
          (let f = fresh.1 in let w = c.in-Ok-answer.ensures.writes_failed in omega arith) c.end.ensures.ended,
      exchange,
    )

pub returns-in-Err-clause-lost_write : goal.returns-in-Err-clause-lost_write
returns-in-Err-clause-lost_write g c lost =
    let is_write : c.in-Err.lost ≡ Write = (let l = lost in cc) in
    let (response, begun, exchange) = c.in-Err.ensures.lost_write (let l = lost in cc) in
    let came = c.in-Ok.ensures.came in
    let fresh = c.in-Ok.ensures.fresh in (
      _,
      c.now-at.result,
      c.now-at.ensures,
      response,
      brought _ _ _ _ c.end-in-Err.ensures.awaited came,
      (
        begun.0,
        begun.1,
        ended_so _ _ _ _ _ _ _ (take begun.0 (response_bytes response)) _ _ 0 1 c.in-Ok.ensures.ended (fresh.2, fresh.3) c.in-Err.ensures.needed begun.2
            (no_read _ _ _ fresh.0 c.in-Err.ensures.reads_failed is_write) (one_write _ _ _ fresh.1 c.in-Err.ensures.writes_failed is_write)
            c.end-in-Err.ensures.ended,
      ),
      exchange,
    )

pub returns-in-Err-clause-lost_read : goal.returns-in-Err-clause-lost_read
returns-in-Err-clause-lost_read g c lost =
    let is_read : c.in-Err.lost ≡ Read = (let l = lost in cc) in
    let (alone, same) = c.in-Err.ensures.lost_read (let l = lost in cc) in
    let came = c.in-Ok.ensures.came in
    let fresh = c.in-Ok.ensures.fresh in (
      _,
      brought _ _ _ _ c.end-in-Err.ensures.awaited came,
      ended_so _ _ _ _ _ _ _ [] _ _ 1 0 c.in-Ok.ensures.ended (fresh.2, fresh.3) c.in-Err.ensures.needed (appends_nothing _ _ same)
          (one_read _ _ _ fresh.0 c.in-Err.ensures.reads_failed is_read) (no_write _ _ _ fresh.1 c.in-Err.ensures.writes_failed is_read)
          c.end-in-Err.ensures.ended,
      alone,
    )
