use Rattle.std.proofs.Common.{◌≡◌, ◌++◌, List, map, sym, ap, ◌∙◌, subst, append-nil}
use Rattle.std.specs.Prelude.{OnOk}
use Rattle.std.proofs.lemmas.Simd.{map-map}
use Rattle.gr_core.specs.declared.rows.Rows.{Rows}
use Rattle.gr_core.specs.Columns.Fields.{Field}
use Rattle.gr_core.specs.Columns.Stored.{fields_of_ballot, stored}
use Rattle.gr_core.specs.Columns.Intake.{HasTaken, joined}
use Rattle.gr_core.specs.Columns.Rows1.{fields_of_ballot1, lifted_fields, stored1}
use Rattle.gr_core.proofs.intake.Intake.take_all_1.Goals as goal

pub returns : goal.returns
returns c taken has =
    let rows = c.args.rows in
    let others : Rows = record {
      desk = rows.desk;
      developers = rows.developers;
      resolutions = rows.resolutions;
      choices = rows.choices;
      sponsors = rows.sponsors;
      ballots = c.new.result;
    } in
    let lifted = map (λ row. lifted_fields (fields_of_ballot1 row)) rows.ballots.items in
    let same : (taken.ballots ++ map fields_of_ballot c.new.result.items) ++ lifted
    ≡ taken.ballots ++ map lifted_fields (map fields_of_ballot1 rows.ballots.items)
    = ap (λ items. (taken.ballots ++ map fields_of_ballot items) ++ lifted) c.new.ensures.items
    ∙ ap (λ before. before ++ lifted) (append-nil taken.ballots)
    ∙ ap (λ more. taken.ballots ++ more) (sym (map-map lifted_fields fields_of_ballot1 rows.ballots.items)) in
    subst (λ (ballots : List (List Field)). OnOk c.take_table.result
    (HasTaken (record (joined taken (stored1 rows)) { ballots = ballots }) c.take_table.new.self)) same
    (c.take_table.ensures (joined taken (stored others)) (c.in_ok-take_all.ensures taken has))
