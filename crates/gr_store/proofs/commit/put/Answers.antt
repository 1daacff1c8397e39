use Rattle.gr_core.specs.Columns.Stored.{DeskTable, DeveloperTable, ResolutionTable, ChoiceTable, SponsorTable, BallotTable}
use Rattle.std.proofs.Common.{◌≡◌, Err, map, sym, ap, ◌∙◌, subst, rules}
use Rattle.gr_store.specs.Causes.{IsCaused, FitsColumns, put_text, IsTextRefused}
use Rattle.gr_store.specs.Rows.{value_of}
use Rattle.gr_store.specs.Puts.{desk_put, developer_put, resolution_put, choice_put, sponsor_put, ballot_put}
use Rattle.gr_store.proofs.Failures.StoreFaults.{put_told, great_told}
use Rattle.gr_core.specs.Columns.Fields.{row_fields}
use Rattle.gr_core.specs.Machine.Row.{row_of}
use Rattle.gr_core.specs.Columns.Stored.{fields_of_header, fields_of_developer, fields_of_resolution}
use Rattle.gr_core.specs.Columns.Stored.{fields_of_choice, fields_of_sponsor, fields_of_ballot}
use Rattle.gr_store.specs.Own.{in_its_tree}
use Rattle.gr_store.specs.Puts.{Puts}
use Rattle.gr_store.specs.Commits.{table_for}
use Rattle.sqlite.specs.Held.{state}
use Rattle.gr_store.proofs.commit.put.Goals as goal

pub returns-in_ok-put-in-Header-clause-puts : goal.returns-in_ok-put-in-Header-clause-puts
returns-in_ok-put-in-Header-clause-puts g c = λ clean inside schema own has.
    let old = (state g.S.Store c.args.tx.now.conn.now).now in
    let new = (state g.S.Store c.put.new.tx.conn.now).now in
    let fields : fields_of_header c.in_ok-row-in-Header.row ≡ row_fields (row_of c.args.change.now) = search rules in
    subst (λ change. Puts (table_for own (row_of change)) (row_fields (row_of c.args.change.now)) old new)
    (sym c.in-Header.is) (subst (λ f. Puts (in_its_tree (own DeskTable)) f old new) fields
    (c.in_ok-put-in-Header.ensures.puts clean inside schema (own DeskTable) has))

pub returns-in_ok-put-in-Developer-clause-puts : goal.returns-in_ok-put-in-Developer-clause-puts
returns-in_ok-put-in-Developer-clause-puts g c = λ clean inside schema own has.
    let old = (state g.S.Store c.args.tx.now.conn.now).now in
    let new = (state g.S.Store c.put-in-Developer.new.tx.conn.now).now in
    let fields : fields_of_developer c.in_ok-row-in-Developer.row ≡ row_fields (row_of c.args.change.now) = search rules in
    subst (λ change. Puts (table_for own (row_of change)) (row_fields (row_of c.args.change.now)) old new)
    (sym c.in-Developer.is) (subst (λ f. Puts (in_its_tree (own DeveloperTable)) f old new) fields
    (c.in_ok-put-in-Developer.ensures.puts clean inside schema (own DeveloperTable) has))

pub returns-in_ok-put-in-Resolution-clause-puts : goal.returns-in_ok-put-in-Resolution-clause-puts
returns-in_ok-put-in-Resolution-clause-puts g c = λ clean inside schema own has.
    let old = (state g.S.Store c.args.tx.now.conn.now).now in
    let new = (state g.S.Store c.put-in-Resolution.new.tx.conn.now).now in
    let fields : fields_of_resolution c.in_ok-row-in-Resolution.row ≡ row_fields (row_of c.args.change.now) = search rules in
    subst (λ change. Puts (table_for own (row_of change)) (row_fields (row_of c.args.change.now)) old new)
    (sym c.in-Resolution.is) (subst (λ f. Puts (in_its_tree (own ResolutionTable)) f old new) fields
    (c.in_ok-put-in-Resolution.ensures.puts clean inside schema (own ResolutionTable) has))

pub returns-in_ok-put-in-Choice-clause-puts : goal.returns-in_ok-put-in-Choice-clause-puts
returns-in_ok-put-in-Choice-clause-puts g c = λ clean inside schema own has.
    let old = (state g.S.Store c.args.tx.now.conn.now).now in
    let new = (state g.S.Store c.put-in-Choice.new.tx.conn.now).now in
    let fields : fields_of_choice c.in_ok-row-in-Choice.row ≡ row_fields (row_of c.args.change.now) = search rules in
    subst (λ change. Puts (table_for own (row_of change)) (row_fields (row_of c.args.change.now)) old new)
    (sym c.in-Choice.is) (subst (λ f. Puts (in_its_tree (own ChoiceTable)) f old new) fields
    (c.in_ok-put-in-Choice.ensures.puts clean inside schema (own ChoiceTable) has))

pub returns-in_ok-put-in-Sponsor-clause-puts : goal.returns-in_ok-put-in-Sponsor-clause-puts
returns-in_ok-put-in-Sponsor-clause-puts g c = λ clean inside schema own has.
    let old = (state g.S.Store c.args.tx.now.conn.now).now in
    let new = (state g.S.Store c.put-in-Sponsor.new.tx.conn.now).now in
    let fields : fields_of_sponsor c.in_ok-row-in-Sponsor.row ≡ row_fields (row_of c.args.change.now) = search rules in
    subst (λ change. Puts (table_for own (row_of change)) (row_fields (row_of c.args.change.now)) old new)
    (sym c.in-Sponsor.is) (subst (λ f. Puts (in_its_tree (own SponsorTable)) f old new) fields
    (c.in_ok-put-in-Sponsor.ensures.puts clean inside schema (own SponsorTable) has))

pub returns-in_ok-put-in-Ballot-clause-puts : goal.returns-in_ok-put-in-Ballot-clause-puts
returns-in_ok-put-in-Ballot-clause-puts g c = λ clean inside schema own has.
    let old = (state g.S.Store c.args.tx.now.conn.now).now in
    let new = (state g.S.Store c.put-in-Ballot.new.tx.conn.now).now in
    let fields : fields_of_ballot c.in_ok-row-in-Ballot.row ≡ row_fields (row_of c.args.change.now) = search rules in
    subst (λ change. Puts (table_for own (row_of change)) (row_fields (row_of c.args.change.now)) old new)
    (sym c.in-Ballot.is) (subst (λ f. Puts (in_its_tree (own BallotTable)) f old new) fields
    (c.in_ok-put-in-Ballot.ensures.puts clean inside schema (own BallotTable) has))

pub returns-in_err-put-in-Header-clause-caused : goal.returns-in_err-put-in-Header-clause-caused
returns-in_err-put-in-Header-clause-caused g c = λ clean inside schema own has.
    let old = state g.S.Store c.args.tx.now.conn.now in
    let new = state g.S.Store c.put.new.tx.conn.now in
    let e = c.in_err-put-in-Header.field-0.0 in
    let fields : fields_of_header c.in_ok-row-in-Header.row ≡ row_fields (row_of c.args.change.now) = search rules in
    put_told (row_of c.args.change.now) old new c.from_residual-in_err-put-in-Header.result e
    c.from_residual-in_err-put-in-Header.ensures.1
    (subst (λ change. IsCaused old new (IsTextRefused old.step_limit (put_text (row_of change))
    (map value_of (row_fields (row_of c.args.change.now))) old.now) e) (sym c.in-Header.is)
    (subst (λ f. IsCaused old new (IsTextRefused old.step_limit desk_put (map value_of f) old.now) e) fields
    (c.in_err-put-in-Header.ensures.caused clean inside schema (own DeskTable) has)))

pub returns-in_err-put-in-Developer-clause-caused : goal.returns-in_err-put-in-Developer-clause-caused
returns-in_err-put-in-Developer-clause-caused g c = λ clean inside schema own has.
    let old = state g.S.Store c.args.tx.now.conn.now in
    let new = state g.S.Store c.put-in-Developer.new.tx.conn.now in
    let e = c.in_err-put-in-Developer.field-0.0 in
    let fields : fields_of_developer c.in_ok-row-in-Developer.row ≡ row_fields (row_of c.args.change.now) = search rules in
    put_told (row_of c.args.change.now) old new c.from_residual-in_err-put-in-Developer.result e
    c.from_residual-in_err-put-in-Developer.ensures.1
    (subst (λ change. IsCaused old new (IsTextRefused old.step_limit (put_text (row_of change))
    (map value_of (row_fields (row_of c.args.change.now))) old.now) e) (sym c.in-Developer.is)
    (subst (λ f. IsCaused old new (IsTextRefused old.step_limit developer_put (map value_of f) old.now) e) fields
    (c.in_err-put-in-Developer.ensures.caused clean inside schema (own DeveloperTable) has)))

pub returns-in_err-put-in-Resolution-clause-caused : goal.returns-in_err-put-in-Resolution-clause-caused
returns-in_err-put-in-Resolution-clause-caused g c = λ clean inside schema own has.
    let old = state g.S.Store c.args.tx.now.conn.now in
    let new = state g.S.Store c.put-in-Resolution.new.tx.conn.now in
    let e = c.in_err-put-in-Resolution.field-0.0 in
    let fields : fields_of_resolution c.in_ok-row-in-Resolution.row ≡ row_fields (row_of c.args.change.now) = search rules in
    put_told (row_of c.args.change.now) old new c.from_residual-in_err-put-in-Resolution.result e
    c.from_residual-in_err-put-in-Resolution.ensures.1
    (subst (λ change. IsCaused old new (IsTextRefused old.step_limit (put_text (row_of change))
    (map value_of (row_fields (row_of c.args.change.now))) old.now) e) (sym c.in-Resolution.is)
    (subst (λ f. IsCaused old new (IsTextRefused old.step_limit resolution_put (map value_of f) old.now) e) fields
    (c.in_err-put-in-Resolution.ensures.caused clean inside schema (own ResolutionTable) has)))

pub returns-in_err-put-in-Choice-clause-caused : goal.returns-in_err-put-in-Choice-clause-caused
returns-in_err-put-in-Choice-clause-caused g c = λ clean inside schema own has.
    let old = state g.S.Store c.args.tx.now.conn.now in
    let new = state g.S.Store c.put-in-Choice.new.tx.conn.now in
    let e = c.in_err-put-in-Choice.field-0.0 in
    let fields : fields_of_choice c.in_ok-row-in-Choice.row ≡ row_fields (row_of c.args.change.now) = search rules in
    put_told (row_of c.args.change.now) old new c.from_residual-in_err-put-in-Choice.result e
    c.from_residual-in_err-put-in-Choice.ensures.1
    (subst (λ change. IsCaused old new (IsTextRefused old.step_limit (put_text (row_of change))
    (map value_of (row_fields (row_of c.args.change.now))) old.now) e) (sym c.in-Choice.is)
    (subst (λ f. IsCaused old new (IsTextRefused old.step_limit choice_put (map value_of f) old.now) e) fields
    (c.in_err-put-in-Choice.ensures.caused clean inside schema (own ChoiceTable) has)))

pub returns-in_err-put-in-Sponsor-clause-caused : goal.returns-in_err-put-in-Sponsor-clause-caused
returns-in_err-put-in-Sponsor-clause-caused g c = λ clean inside schema own has.
    let old = state g.S.Store c.args.tx.now.conn.now in
    let new = state g.S.Store c.put-in-Sponsor.new.tx.conn.now in
    let e = c.in_err-put-in-Sponsor.field-0.0 in
    let fields : fields_of_sponsor c.in_ok-row-in-Sponsor.row ≡ row_fields (row_of c.args.change.now) = search rules in
    put_told (row_of c.args.change.now) old new c.from_residual-in_err-put-in-Sponsor.result e
    c.from_residual-in_err-put-in-Sponsor.ensures.1
    (subst (λ change. IsCaused old new (IsTextRefused old.step_limit (put_text (row_of change))
    (map value_of (row_fields (row_of c.args.change.now))) old.now) e) (sym c.in-Sponsor.is)
    (subst (λ f. IsCaused old new (IsTextRefused old.step_limit sponsor_put (map value_of f) old.now) e) fields
    (c.in_err-put-in-Sponsor.ensures.caused clean inside schema (own SponsorTable) has)))

pub returns-in_err-put-in-Ballot-clause-caused : goal.returns-in_err-put-in-Ballot-clause-caused
returns-in_err-put-in-Ballot-clause-caused g c = λ clean inside schema own has.
    let old = state g.S.Store c.args.tx.now.conn.now in
    let new = state g.S.Store c.put-in-Ballot.new.tx.conn.now in
    let e = c.in_err-put-in-Ballot.field-0.0 in
    let fields : fields_of_ballot c.in_ok-row-in-Ballot.row ≡ row_fields (row_of c.args.change.now) = search rules in
    put_told (row_of c.args.change.now) old new c.from_residual-in_err-put-in-Ballot.result e
    c.from_residual-in_err-put-in-Ballot.ensures.1
    (subst (λ change. IsCaused old new (IsTextRefused old.step_limit (put_text (row_of change))
    (map value_of (row_fields (row_of c.args.change.now))) old.now) e) (sym c.in-Ballot.is)
    (subst (λ f. IsCaused old new (IsTextRefused old.step_limit ballot_put (map value_of f) old.now) e) fields
    (c.in_err-put-in-Ballot.ensures.caused clean inside schema (own BallotTable) has)))

pub returns-in_err-row-in-Resolution-clause-caused : goal.returns-in_err-row-in-Resolution-clause-caused
returns-in_err-row-in-Resolution-clause-caused g c = λ clean inside schema own has.
    great_told (row_of c.args.change.now) (state g.S.Store c.args.tx.now.conn.now)
    c.from_residual-in_err-row-in-Resolution.result c.in_err-row-in-Resolution.field-0.0
    c.from_residual-in_err-row-in-Resolution.ensures.1 (λ great.
    subst (λ change. ¬ (FitsColumns (row_of change))) (sym c.in-Resolution.is) c.in_err-row-in-Resolution.ensures.err.1)

pub returns-in_err-row-in-Choice-clause-caused : goal.returns-in_err-row-in-Choice-clause-caused
returns-in_err-row-in-Choice-clause-caused g c = λ clean inside schema own has.
    great_told (row_of c.args.change.now) (state g.S.Store c.args.tx.now.conn.now)
    c.from_residual-in_err-row-in-Choice.result c.in_err-row-in-Choice.field-0.0
    c.from_residual-in_err-row-in-Choice.ensures.1 (λ great.
    subst (λ change. ¬ (FitsColumns (row_of change))) (sym c.in-Choice.is)
    (c.of-in-Choice.ensures.great (c.in_err-row-in-Choice.was ∙ ap Err great)))
