use Rattle.std.proofs.Common.{◌++◌, [], ap, ◌∙◌, codes, string_bytes}
use Rattle.std.specs.List.{flat_map}
use Rattle.gr_core.specs.Parts.Choice.{choice_model}
use Rattle.gr_sheet.specs.StatusSheet.{title_lines, proposer_line, sponsors_line, active_sponsors, moment_line, place_line, bar_line, lines_of}
use Rattle.gr_sheet.proofs.AppendLemmas.{on_ok_then, then, last}
use Rattle.gr_sheet.proofs.choice.add_choice.Goals as goal

pub returns : goal.returns
returns c =
    let row = choice_model c.args.choice.now in
    let title = title_lines (c.args.key, row) in
    let proposer = proposer_line row.proposer in
    let sponsors = sponsors_line (active_sponsors c.args.desk.now.sponsors c.args.key) in
    let introduced = moment_line (codes "Introduced") row.introduced in
    let short = moment_line (codes "Short since") row.short in
    let place = place_line row.place in
    let lines = flat_map bar_line (lines_of row.wording.text) in
    on_ok_then c.add_text.result (λ is.
    then (string_bytes c.args.text.now) title (proposer ++ (sponsors ++ (introduced ++ (short ++ (place ++ (lines ++ [])))))) c.in_ok-add_title.ensures
    (then (string_bytes c.add_title.new.text) proposer (sponsors ++ (introduced ++ (short ++ (place ++ (lines ++ []))))) c.in_ok-add_proposer.ensures
    (then (string_bytes c.add_proposer.new.text) sponsors (introduced ++ (short ++ (place ++ (lines ++ [])))) c.in_ok-add_sponsors.ensures
    (then (string_bytes c.add_sponsors.new.text) introduced (short ++ (place ++ (lines ++ []))) c.in_ok-add_moment.ensures
    (then (string_bytes c.add_moment.new.text) short (place ++ (lines ++ [])) c.in_ok-add_moment-2.ensures
    (then (string_bytes c.add_moment-2.new.text) place (lines ++ []) c.in_ok-add_place.ensures
    (last (string_bytes c.add_place.new.text) lines
    (is ∙ ap (λ words. string_bytes c.add_place.new.text ++ flat_map bar_line (lines_of words)) c.as_str.ensures.value))))))))
    c.add_text.ensures
