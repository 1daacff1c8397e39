use Rattle.std.specs.FinMap.{get}
use Rattle.gr_core.specs.Desks.Outcome.{election_at, place_count, IsCountOf}
use Rattle.gr_sheet.proofs.ResultLemmas.{result_told, of_poll}
use Rattle.gr_sheet.proofs.TestLemmas.{timely}
use Rattle.gr_sheet.proofs.result_sheet.result_of.Goals as goal

pub add_head-requires-clause-poll : goal.add_head-requires-clause-poll
add_head-requires-clause-poll c = timely c.args.desk.now c.args.number c.args.poll c.in-Some.ensures.valid c.requires.poll

pub returns : goal.returns
returns c =
    let s = c.args.desk.now in
    let number = c.args.number in
    let count = c.in-Some-count.count in
    result_told s number c.args.poll c.args.chosen count
    (of_poll c.args.poll (λ poll. IsCountOf (election_at s number poll) (place_count s.choices number) count)
    (get s.resolutions number) c.requires.poll c.in-Some-count.ensures.count)
    c.in_ok-text.ensures.ok c.in_ok-add_head.ensures c.in_ok-add_count.ensures c.in_ok-add_last_line.ensures
