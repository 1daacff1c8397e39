use Rattle.std.proofs.Common.{ap, is_some}
use Rattle.gr_desk_tests.proofs.WitnessLemmas.{led, of_some}
use Rattle.gr_desk_tests.proofs.witness.vote_over_a_stop.Goals as goal

pub returns : goal.returns
returns g c =
    let known = g.H.Host.known in
    led ((known c.args.host.now).roll c.args.roll.now) (known c.hold_vote.new.host) (known c.ask.new.host) c.args.file.now
    c.in_ok-sheet.sheet.items c.in_ok-further.further (c.hold_vote.ensures (ap is_some c.in_ok-ok_or.ensures.ok_part))
    (of_some _ c.ask.result c.in_ok-further.further c.in_ok-further.ensures.ok_part c.ask.ensures)
    (of_some _ c.result_of.result c.in_ok-sheet.sheet c.in_ok-sheet.ensures.ok_part c.result_of.ensures)
