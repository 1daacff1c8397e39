-- The rows of a state tell the state.
use Rattle.std.proofs.Common.{◌≡◌, [], ◌∷◌, sym, ◌∙◌}
use Rattle.std.specs.Cmp.{nat_cmp_total}
use Rattle.std.specs.FinMap.{nat_cmp-IsAntisymmetric}
use Rattle.gr_core.specs.Desks.State.{State}
use Rattle.gr_core.specs.InMemory.Tables.{state_of}
use Rattle.gr_core.specs.Columns.Fields.{header_fields, developer_fields, resolution_fields, choice_fields, sponsor_fields, ballot_fields, FitsResolution, FitsChoice}
use Rattle.gr_core.specs.Columns.Stored.{Stored, HasRows, Fits, FitsDeveloper, FitsSponsor, FitsVoter, RowsTellTheState}
use Rattle.gr_core.proofs.Collections.TextKeys.{text_total, text_only}
use Rattle.gr_core.proofs.Collections.PairKeys.{choice_total, choice_only}
use Rattle.gr_core.proofs.Contents.SponsorLemmas.{sponsor_total, sponsor_only}
use Rattle.gr_core.proofs.Contents.BallotKeys.{ballot_total, ballot_only}
use Rattle.gr_core.proofs.Columns.FieldLemmas.{header_fields-injective, developer_fields-injective, resolution_fields-injective, choice_fields-injective, sponsor_fields-injective, ballot_fields-injective}
use Rattle.gr_core.proofs.Columns.StoredLemmas.{same_rows}
use Rattle.gr_core.proofs.Columns.FitLemmas.{fits}

-- two states that columns can keep are one where they have the same rows
pub same_state : (s t : State) (rows : Stored) → Fits s → Fits t → HasRows s rows → HasRows t rows → s ≡ t
same_state s t rows fit_s fit_t has_s has_t =
    let one : header_fields s.header ∷ [] ≡ header_fields t.header ∷ [] = sym has_s.desk ∙ has_t.desk in
    let fields : header_fields s.header ≡ header_fields t.header = cc in
    let header = header_fields-injective s.header t.header fields in
    let developers = same_rows text_total text_only developer_fields FitsDeveloper
    (λ a b _ _ same. developer_fields-injective a b same) s.developers t.developers rows.developers
    (record { rows = has_s.developers; fits = λ key value there. tt })
    (record { rows = has_t.developers; fits = λ key value there. tt }) in
    let resolutions = same_rows nat_cmp_total nat_cmp-IsAntisymmetric resolution_fields FitsResolution
    resolution_fields-injective s.resolutions t.resolutions rows.resolutions
    (record { rows = has_s.resolutions; fits = fit_s.resolutions })
    (record { rows = has_t.resolutions; fits = fit_t.resolutions }) in
    let choices = same_rows choice_total choice_only choice_fields FitsChoice
    choice_fields-injective s.choices t.choices rows.choices
    (record { rows = has_s.choices; fits = fit_s.choices })
    (record { rows = has_t.choices; fits = fit_t.choices }) in
    let sponsors = same_rows sponsor_total sponsor_only sponsor_fields FitsSponsor
    (λ a b _ _ same. sponsor_fields-injective a b same) s.sponsors t.sponsors rows.sponsors
    (record { rows = has_s.sponsors; fits = fit_s.sponsors })
    (record { rows = has_t.sponsors; fits = fit_t.sponsors }) in
    let ballots = same_rows ballot_total ballot_only ballot_fields FitsVoter
    ballot_fields-injective s.ballots t.ballots rows.ballots
    (record { rows = has_s.ballots; fits = fit_s.ballots })
    (record { rows = has_t.ballots; fits = fit_t.ballots }) in
    let states : state_of s.header s.developers s.resolutions s.choices s.sponsors s.ballots
    ≡ state_of t.header t.developers t.resolutions t.choices t.sponsors t.ballots = cc in
    states

pub rows_tell : RowsTellTheState
rows_tell s t rows valid_s valid_t = same_state s t rows (fits s valid_s) (fits t valid_t)
