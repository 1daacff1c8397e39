use Rattle.std.proofs.Common.{map, ◌∙◌, sym}
use Rattle.std.proofs.lemmas.List.{length-map}
use Rattle.gr_sheet.specs.TallySheet.{shown_ballot}
use Rattle.gr_sheet.proofs.TallyLemmas.{tally_told}
use Rattle.gr_sheet.proofs.tally_sheet.tally.Goals as goal

pub returns : goal.returns
returns c =
    let ballots = c.in_ok-ballots.ballots.items in
    let long = c.in_ok-ballots.ballots.ok.0 in
    tally_told c.args.desk.now c.args.number (map shown_ballot ballots) c.len-count.result c.in_ok-ballots.ensures
    (c.len-count.ensures ∙ long ∙ sym (length-map ballots shown_ballot))
    c.in_ok-text.ensures.ok
    c.in_ok-add_options.ensures
    c.in_ok-write.ensures.bytes
    (rw c.as_slice.ensures.value at c.in_ok-add_ballots.ensures)
