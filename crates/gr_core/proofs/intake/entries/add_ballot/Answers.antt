use Rattle.std.proofs.Common.{◌++◌, ◌∷◌, [], refl, sym, ◌∙◌}
use Rattle.std.specs.Prelude.{string_bytes}
use Rattle.gr_core.specs.Parts.Ballot.{ballot_model}
use Rattle.gr_core.specs.Columns.Fields.{ballot_fields}
use Rattle.gr_core.specs.Columns.Stored.{FitsVoter, fields_of_ballot}
use Rattle.gr_core.proofs.Contents.BallotKeys.{ballot_total, ballot_only}
use Rattle.gr_core.proofs.Columns.StoredLemmas.{row_added, not_read, key_twice}
use Rattle.gr_core.proofs.Columns.FieldLemmas.{ballot_fields-key}
use Rattle.gr_core.proofs.intake.entries.add_ballot.Goals as goal

pub returns-in_err-resolution-clause-damaged : goal.returns-in_err-resolution-clause-damaged
returns-in_err-resolution-clause-damaged c rows behind are damaged table of =
    not_read ballot_total ballot_only ballot_fields FitsVoter (rows ++ fields_of_ballot c.args.row ∷ behind) rows
    (fields_of_ballot c.args.row) behind refl
    (λ key value fit. c.in_err-resolution.ensures.err refl key.0 key.1 value fit) table of

pub returns-then-earlier-clause-damaged : goal.returns-then-earlier-clause-damaged
returns-then-earlier-clause-damaged c rows behind are damaged table of =
    key_twice ballot_total ballot_only ballot_fields FitsVoter ballot_fields-key c.args.ballots.now
    (rows ++ fields_of_ballot c.args.row ∷ behind) rows (fields_of_ballot c.args.row) behind refl
    (c.in_ok-resolution.resolution, string_bytes c.in_ok-resolution.login) (ballot_model c.in_ok-resolution.ballot)
    c.in_ok-resolution.ensures.ok.0
    (sym c.in_ok-earlier.ensures.earlier ∙ c.if-earlier.true)
    are table of

pub returns-clause-ok : goal.returns-clause-ok
returns-clause-ok c rows are =
    row_added ballot_total ballot_only ballot_fields FitsVoter ballot_fields-key c.args.ballots.now c.put.new.self
    rows (rows ++ fields_of_ballot c.args.row ∷ [])
    (c.in_ok-resolution.resolution, string_bytes c.in_ok-resolution.login) (ballot_model c.in_ok-resolution.ballot)
    (fields_of_ballot c.args.row)
    (sym c.in_ok-earlier.ensures.earlier ∙ c.if-earlier.false)
    c.in_ok-resolution.ensures.ok.1 c.in_ok-resolution.ensures.ok.0 c.in_ok-earlier.ensures.ok refl are
