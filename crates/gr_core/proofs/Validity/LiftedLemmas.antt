-- A desk of version 1 is valid just where what becomes of it is, and its rows tell that.
use Rattle.std.proofs.Common.{◌≡◌, ℕ, zero, suc, ◌<◌, ◌⊎◌, List, [], ◌∷◌, map, Some, IsSome, IfSome, Result, Ok, Err, IfOk, option_map, refl, sym, ap, ◌∙◌, subst, arith}
use Rattle.std.specs.Prelude.{nat_eq, option_and_then, slice_index}
use Rattle.std.specs.FinMap.{FinMap, get, entries, from_entries}
use Rattle.gr_count.specs.Election.{Election}
use Rattle.gr_count.specs.Rounds.{IsInOutcome}
use Rattle.gr_count.specs.Shown.{election_by_voters}
use Rattle.gr_core.specs.declared.limits.TheConstants.{VERSION, VERSION_1}
use Rattle.gr_core.specs.declared.header.Header.{Header}
use Rattle.gr_core.specs.declared.resolution.Poll.{Poll}
use Rattle.gr_core.specs.declared.resolution.Resolution.{Resolution}
use Rattle.gr_core.specs.declared.resolution.Resolution.TheVariants.{Draft, Discussing, Voting, Closed, Cancelled}
use Rattle.gr_core.specs.Parts.Key.{BallotKey, ballot_cmp}
use Rattle.gr_core.specs.Parts.Resolution.{discussion_of, poll_of, chosen_of}
use Rattle.gr_core.specs.Parts.Ballot.{BallotModel, with_received, ballots_of, voter_of, vote_of}
use Rattle.gr_core.specs.Desks.State.{State}
use Rattle.gr_core.specs.Desks.Outcome.{place_count, ratios_on_ballot, election_at, option_at, HasWinner, IsPlace}
use Rattle.gr_core.specs.Desks.Valid.{IsValid, AreTables, IsDiscussion, IsBallotIn, IsRightlyChosen}
use Rattle.gr_core.specs.Desks.Version1.{IsBallotIn1, IsValid1, received_once, lifted}
use Rattle.gr_core.specs.Columns.Stored.{Stored, Fits, HasRows}
use Rattle.gr_core.specs.declared.intake.Intake.{Intake}
use Rattle.gr_core.specs.Columns.Intake.{IsHeaderOf, taken_with}
use Rattle.gr_core.specs.Columns.Rows1.{HasRows1, IsLiftedOf, lifted_rows}
use Rattle.gr_core.specs.Laws.VersionLaws.{LiftedDesksAreValid, RowsOfVersion1TellTheLifted}
use Rattle.gr_core.proofs.Collections.PresenceLemmas.{not_false, each, unmapped}
use Rattle.gr_core.proofs.Contents.KeptRowLemmas.{altered, entries-altered, filter-altered}
use Rattle.gr_core.proofs.Collections.EntryLemmas.{passing}
use Rattle.gr_core.proofs.Contents.BallotKeys.{ballot_total, ballot_only}
use Rattle.gr_core.proofs.Contents.ElectionLemmas.{with_poll}
use Rattle.gr_core.proofs.Columns.FitLemmas.{fits}
use Rattle.gr_core.proofs.Columns.SameRowsLemmas.{same_state}
use Rattle.gr_core.proofs.Columns.Rows1Lemmas.{get-received_once, lifted_ballots, lifted_has, has_rows1, received_already}
use Rattle.gr_core.proofs.Columns.IntakeLemmas.{kept_state}
use Rattle.gr_core.proofs.Validity.AlteredLemmas.{resolution-same}

-- header and ballots are no part of the tables that these rules speak of
tables-with : (clock : ℕ) (s : State) (header : Header) (ballots : FinMap ballot_cmp BallotModel) → AreTables clock s
    → AreTables clock (record s { header = header; ballots = ballots })
tables-with clock s header ballots valid = record {
  few = valid.few;
  developers = valid.developers;
  numbered = record { few = valid.numbered.few; numbered = valid.numbered.numbered };
  resolutions = λ number resolution is.
      resolution-same clock s (record s { header = header; ballots = ballots }) number resolution (λ key on. refl)
      (valid.resolutions number resolution is);
  choices = valid.choices;
  sponsors = valid.sponsors;
}

-- ==== the votes

abbrev once : BallotKey → BallotModel → BallotModel
once key ballot = with_received 1 ballot

voters-once : (es : List (BallotKey × BallotModel)) → map voter_of (map (altered once) es) ≡ map voter_of es
voters-once [] = refl
voters-once (e ∷ es) = ap (λ rest. voter_of e ∷ rest) (voters-once es)

-- how often developers voted is no part of a vote
vote-once : (ballots : FinMap ballot_cmp BallotModel) (number : ℕ)
    → vote_of (received_once ballots) number ≡ vote_of ballots number
vote-once ballots number =
    let these = entries-altered ballot_total ballot_only once ballots (received_once ballots) (get-received_once ballots) in
    let test = λ (key : BallotKey). nat_eq number key.0 in
    let among = ap (λ (es : List (BallotKey × BallotModel)). passing test es) these
    ∙ filter-altered ballot_total ballot_only once test (entries ballots) in
    ap (λ es. from_entries (map voter_of es)) among ∙ ap from_entries (voters-once (ballots_of ballots number))

-- so the election is the same
election-once : (s : State) (number : ℕ) (poll : Poll) → election_at (lifted s) number poll ≡ election_at s number poll
election-once s number poll =
    ap (λ vote. election_by_voters (place_count s.choices number) vote poll.developers
    (slice_index (ratios_on_ballot s.choices number))) (vote-once s.ballots number)

-- the place cannot be chosen in this election
abbrev IsOut : State → ℕ → ℕ → Election → Type 0
IsOut s number place e = HasWinner e ⊎ (¬ (IsPlace s number place × IsInOutcome e (option_at place)))

chosen-once : (s : State) (number : ℕ) (resolution : Resolution) → IsRightlyChosen s number resolution
    → IsRightlyChosen (lifted s) number resolution
chosen-once s number resolution =
    each (poll_of resolution) _ _ (λ poll. each (chosen_of resolution) _ _ (λ place may out.
    may (subst (IsOut s number place) (election-once s number poll) out)))

chosen-before : (s : State) (number : ℕ) (resolution : Resolution) → IsRightlyChosen (lifted s) number resolution
    → IsRightlyChosen s number resolution
chosen-before s number resolution =
    each (poll_of resolution) _ _ (λ poll. each (chosen_of resolution) _ _ (λ place may out.
    may (subst (IsOut s number place) (sym (election-once s number poll)) out)))

-- ==== each ballot

-- the clock of a desk with a poll does not stand at 0
polled : (clock : ℕ) (resolution : Resolution) → IsSome (poll_of resolution)
    → IfSome (discussion_of resolution) (IsDiscussion clock) → 0 < clock
polled clock Draft some timely = absurd (not_false some)
polled clock (Discussing discussion) some timely = absurd (not_false some)
polled clock (Voting discussion poll) some timely = let start = timely.start in omega (arith, start.0, start.1)
polled clock (Closed discussion poll chosen) some timely = let start = timely.start in omega (arith, start.0, start.1)
polled clock (Cancelled discussion) some timely = absurd (not_false some)

-- a desk with a ballot has accepted something
some_accepted : (s : State) → IsValid1 s → (number : ℕ) → IsSome (option_and_then poll_of (get s.resolutions number))
    → 0 < s.header.accepted
some_accepted s valid number poll =
    let found = with_poll (get s.resolutions number) poll in
    let late : 0 < s.header.clock = polled s.header.clock found.0 found.2
    (valid.tables.resolutions number found.0 found.1).discussion in
    elim s.header.accepted as (λ n. s.header.accepted ≡ n → 0 < n) [
      | zero ↦ λ none. let still : s.header.clock ≡ 0 = valid.header.unused.1 none in absurd (omega arith)
      | suc n ↦ λ is. omega arith
    ] refl

ballot-once : (s : State) → IsValid1 s → (number : ℕ) (login : List ℕ) (ballot : BallotModel)
    → get (received_once s.ballots) (number, login) ≡ Some ballot → IsBallotIn (lifted s) number login ballot
ballot-once s valid number login ballot is =
    let key : BallotKey = (number, login) in
    let was = unmapped (with_received 1) (get s.ballots key) ballot (sym (get-received_once s.ballots key) ∙ is) in
    let old : IsBallotIn1 s number login was.0 = valid.votes.ballots number login was.0 was.1 in
    let some : 0 < s.header.accepted = some_accepted s valid number old.poll in
    subst (IsBallotIn (lifted s) number login) (sym was.2) (record {
      poll = old.poll;
      on_roll = old.on_roll;
      ranks = old.ranks;
      receipt = old.receipt;
      received = (omega arith, omega arith);
    })

ballot-before : (s : State) → IsValid (lifted s) → (number : ℕ) (login : List ℕ) (ballot : BallotModel)
    → get s.ballots (number, login) ≡ Some ballot → IsBallotIn1 s number login ballot
ballot-before s valid number login ballot is =
    let key : BallotKey = (number, login) in
    let new = valid.votes.ballots number login (with_received 1 ballot)
    (get-received_once s.ballots key ∙ ap (option_map (with_received 1)) is) in
    record { poll = new.poll; on_roll = new.on_roll; ranks = new.ranks; receipt = new.receipt; received = tt }

-- ==== desks

pub lifted_valid : (s : State) → IsValid1 s → IsValid (lifted s)
lifted_valid s valid = record {
  header = record {
    version = refl;
    accepted = valid.header.accepted;
    clock = valid.header.clock;
    unused = valid.header.unused;
  };
  tables = tables-with s.header.clock s (lifted s).header (received_once s.ballots) valid.tables;
  votes = record {
    ballots = ballot-once s valid;
    chosen = λ number resolution is. chosen-once s number resolution (valid.votes.chosen number resolution is);
  };
}

pub valid1 : (s : State) → s.header.version ≡ VERSION_1 → IsValid (lifted s) → IsValid1 s
valid1 s version valid = record {
  header = record {
    version = version;
    accepted = valid.header.accepted;
    clock = valid.header.clock;
    unused = valid.header.unused;
  };
  tables = tables-with s.header.clock (lifted s) s.header s.ballots valid.tables;
  votes = record {
    ballots = ballot-before s valid;
    chosen = λ number resolution is. chosen-before s number resolution (valid.votes.chosen number resolution is);
  };
}

pub lifts_valid : LiftedDesksAreValid
lifts_valid s version = (lifted_valid s, valid1 s version)

-- ==== rows

-- columns can keep it
pub lifted_fits : (s : State) → IsValid1 s → Fits (lifted_ballots s)
lifted_fits s valid =
    let fit = fits (lifted s) (lifted_valid s valid) in
    let version : s.header.version ≡ VERSION_1 = valid.header.version in
    record {
      header = record {
        version = omega arith;
        accepted = fit.header.accepted;
        clock = fit.header.clock;
      };
      resolutions = fit.resolutions;
      choices = fit.choices;
      sponsors = fit.sponsors;
      ballots = fit.ballots;
    }

-- the state in this version
abbrev pub in_this_version : State → State
in_this_version s = record s { header = record s.header { version = VERSION } }

-- a valid desk of version 1 with these rows becomes the state that has them as an intake takes them
pub lifted_is : (s t : State) (rows : Stored) → IsValid1 s → HasRows1 s rows → Fits t → HasRows t (lifted_rows rows)
    → lifted s ≡ in_this_version t
lifted_is s t rows valid has fit_t has_t =
    ap in_this_version (same_state (lifted_ballots s) t (lifted_rows rows) (lifted_fits s valid) fit_t
    (lifted_has s rows has) has_t)

pub rows1_tell : RowsOfVersion1TellTheLifted
rows1_tell s t rows valid_s valid_t has_s has_t =
    lifted_is s (lifted_ballots t) rows valid_s has_s (lifted_fits t valid_t) (lifted_has t rows has_t)

-- ==== what an intake took

module _ (intake : Intake) (rows : Stored) (header now : Header) (of : IsHeaderOf (lifted_rows rows) intake header)
    (is : now ≡ record header { version = VERSION }) where
  -- the tables with the header in this version are what becomes of the desk with these rows
  taken_lifts : header.version ≡ VERSION_1 → IsValid (taken_with now intake) → IsLiftedOf rows (taken_with now intake)
  taken_lifts version valid =
      let desk1 : State = taken_with header intake in
      let has : HasRows desk1 (lifted_rows rows) = (kept_state intake (lifted_rows rows) header of).1 in
      let ballots : received_once desk1.ballots ≡ desk1.ballots = received_already desk1 rows has in
      let lifts : lifted desk1 ≡ taken_with now intake =
      ap (λ these. record (in_this_version desk1) { ballots = these }) ballots ∙ ap (λ h. taken_with h intake) (sym is) in
      record {
        desk1 = desk1;
        valid = valid1 desk1 version (subst IsValid (sym lifts) valid);
        rows_of = has_rows1 desk1 rows has;
        lifts = sym lifts;
      }

  pub finished_lifts : header.version ≡ VERSION_1 → {E : Type 0} (made : Result State E)
      → IfOk made (λ desk. desk ≡ taken_with now intake) → IfOk made IsValid → IfOk made (IsLiftedOf rows)
  finished_lifts version (Ok desk) same valid =
      subst (IsLiftedOf rows) (sym same) (taken_lifts version (subst IsValid same valid))
  finished_lifts version (Err e) same valid = tt

  -- and where they break a rule no valid desk of version 1 had the rows
  pub none_lifts : ¬ (IsValid (taken_with now intake)) → (s : State) → IsValid1 s → HasRows1 s rows → ⊥
  none_lifts broken s valid has =
      let it = kept_state intake (lifted_rows rows) header of in
      let same : lifted s ≡ in_this_version (taken_with header intake) =
      lifted_is s (taken_with header intake) rows valid has it.0 it.1 in
      broken (subst IsValid (same ∙ ap (λ h. taken_with h intake) (sym is)) (lifted_valid s valid))
