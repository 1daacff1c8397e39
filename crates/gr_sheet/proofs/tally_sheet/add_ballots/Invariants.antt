use Rattle.std.proofs.Common.{◌≡◌, ◌++◌, map, take, string_bytes}
use Rattle.std.specs.List.{flat_map}
use Rattle.gr_sheet.specs.TallySheet.{ballot_line, shown_ballot}
use Rattle.gr_sheet.proofs.tally_sheet.add_ballots.Given as goal

-- the lines of the ballots so far were added
abbrev pub invariant-loop-ballot : goal.invariant-loop-ballot
invariant-loop-ballot l =
    string_bytes l.text ≡ string_bytes l.fn.text ++ flat_map ballot_line (map shown_ballot (take l.ballot-index l.ballots))
