use Rattle.std.proofs.Common.{◌≡◌, rules}
use Rattle.gr_desk_tests.proofs.WitnessLemmas.{granted_one}
use Rattle.gr_desk_tests.proofs.witness.act.Goals as goal

pub returns-in-Some-Ok : goal.returns-in-Some-Ok
returns-in-Some-Ok g c some =
    let ok : c.in-Some-Ok.served.status ≡ 200 = search rules in
    granted_one c.ask.result c.in-Some-Ok.field-0 c.in-Some-Ok.served (g.H.Host.known c.args.host.now) (g.H.Host.known c.ask.new.host)
    c.args.at c.args.request.now c.args.file.now c.in-Some-Ok.is c.in-Some-Ok.field-0-is ok c.ask.ensures
