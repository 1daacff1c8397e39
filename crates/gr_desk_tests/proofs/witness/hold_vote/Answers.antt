use Rattle.std.proofs.Common.{refl}
use Rattle.gr_desk_tests.proofs.WitnessLemmas.{held}
use Rattle.gr_desk_tests.proofs.witness.hold_vote.Goals as goal

pub returns : goal.returns
returns g c some =
    let known = g.H.Host.known in
    held (known c.args.host.now) (known c.make.new.host) (known c.import_roll.new.host) (known c.act.new.host) (known c.act-2.new.host)
    (known c.act-3.new.host) (known c.act-4.new.host) c.args.file.now c.args.roll.now c.make.ensures.rolls (c.in_ok-make.ensures.made refl)
    (c.in_ok-import_roll.ensures refl) (c.in_ok-act.ensures refl) (c.in_ok-act-2.ensures refl) (c.in_ok-act-3.ensures refl)
    (c.act-4.ensures some)
