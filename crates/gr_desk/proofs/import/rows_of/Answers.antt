use Rattle.std.proofs.Common.{rules, ◌≡◌, ◌<◌, Ok, Err, length, map, subst}
use Rattle.gr_core.specs.Machine.Import.{roll_row}
use Rattle.gr_http.specs.RollFile.{roll_in}
use Rattle.gr_http.specs.declared.limits.TheConstants.{MAX_BODY_BYTES}
use Rattle.gr_desk.proofs.LineLemmas.{is_roll, too_large, unread}
use Rattle.gr_desk.proofs.import.rows_of.Goals as goal

pub returns-then-len-gt-MAX_BODY_BYTES-clause-reads : goal.returns-then-len-gt-MAX_BODY_BYTES-clause-reads
returns-then-len-gt-MAX_BODY_BYTES-clause-reads g c =
    let longer : MAX_BODY_BYTES < length c.in-Ok.bytes.items = search rules in
    too_large ((g.H.Host.known c.args.host.now).roll c.args.roll.now) c.in-Ok.bytes.items MAX_BODY_BYTES c.in-Ok.ensures.bytes longer

pub returns-in-Ok-read_roll-clause-reads : goal.returns-in-Ok-read_roll-clause-reads
returns-in-Ok-read_roll-clause-reads g c =
    let short : ¬ (MAX_BODY_BYTES < length c.in-Ok.bytes.items) = search rules in
    is_roll ((g.H.Host.known c.args.host.now).roll c.args.roll.now) c.in-Ok.bytes.items
    (Ok (map roll_row c.in-Ok-read_roll.rows.items)) c.in-Ok.ensures.bytes short
    (subst (λ bytes. roll_in bytes ≡ Ok (map roll_row c.in-Ok-read_roll.rows.items)) c.as_slice.ensures.value c.in-Ok-read_roll.ensures)

pub returns-in-Err-BadLine-clause-reads : goal.returns-in-Err-BadLine-clause-reads
returns-in-Err-BadLine-clause-reads g c =
    let short : ¬ (MAX_BODY_BYTES < length c.in-Ok.bytes.items) = search rules in
    is_roll ((g.H.Host.known c.args.host.now).roll c.args.roll.now) c.in-Ok.bytes.items
    (Err c.in-Err-BadLine.record) c.in-Ok.ensures.bytes short
    (subst (λ bytes. roll_in bytes ≡ Err c.in-Err-BadLine.record) c.as_slice.ensures.value (rw c.in-Err-BadLine.field-0-is at c.in-Err-BadLine.ensures))

pub returns-in-Err-clause-reads : goal.returns-in-Err-clause-reads
returns-in-Err-clause-reads g c =
    unread ((g.H.Host.known c.args.host.now).roll c.args.roll.now) c.in-Err.failure c.in-Err.ensures.failed
