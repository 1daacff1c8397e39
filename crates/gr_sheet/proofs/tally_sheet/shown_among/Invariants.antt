use Rattle.std.proofs.Common.{◌≡◌, ◌++◌, map}
use Rattle.std.specs.BTreeMap.{values}
use Rattle.gr_core.specs.Parts.Ballot.{ballot_model}
use Rattle.gr_sheet.specs.TallySheet.{shown_ballot, shown_row}
use Rattle.gr_sheet.proofs.tally_sheet.shown_among.Given as goal

-- the ballots so far and those that are left are all of them
abbrev pub invariant-loop-ballot : goal.invariant-loop-ballot
invariant-loop-ballot l =
    map shown_ballot l.shown.items ++ map (λ ballot. shown_row (ballot_model ballot)) l.ballot-iterator
    ≡ map (λ ballot. shown_row (ballot_model ballot)) (values l.fn.ballots)
