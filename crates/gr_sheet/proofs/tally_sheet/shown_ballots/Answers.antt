use Rattle.std.proofs.Common.{map, ap, ◌∙◌}
use Rattle.gr_sheet.specs.TallySheet.{shown, shown_ballot}
use Rattle.gr_sheet.proofs.TallyLemmas.{are_shown, values_shown}
use Rattle.gr_sheet.proofs.tally_sheet.shown_ballots.Goals as goal
use Rattle.gr_sheet.proofs.tally_sheet.shown_ballots.Goals.{in-Some+in_ok-shown-in-Some, in-None}

pub returns : goal.returns
returns c =
    are_shown c.args.desk.now c.args.number shown_ballot c.match-ballots.shown.items c.sort_unstable.new.self.items
    (elim c.match-ballots.branch [
      | in-Some+in_ok-shown-in-Some w ↦ ap (λ shown. map shown_ballot shown.items) w.shown-is ∙ w.in_ok-shown-in-Some.ensures
          ∙ values_shown c.args.number w.in-Some.ballots.now.entries (rw w.in-Some.is at c.ballots.ensures.rows)
      | in-None w ↦ ap (λ shown. map shown_ballot shown.items) w.shown-is ∙ ap (map shown_ballot) w.new-shown.ensures.items
          ∙ ap (map shown) (rw w.in-None.is at c.ballots.ensures.rows)
    ])
    c.sort_unstable.ensures.permutation c.sort_unstable.ensures.sorted
