-- The rows of version 1, and those that an intake takes of them.
use Rattle.std.proofs.Common.{◌≡◌, ℕ, List, [], ◌∷◌, ◌++◌, map, Option, Some, None, option_map, refl, sym, ap, ◌∙◌, subst}
use Rattle.std.specs.List.{Contains, slice_get}
use Rattle.std.specs.declared.cmp.Ordering.{Ordering}
use Rattle.std.specs.FinMap.{FinMap, get, entries, get-entries, get-from_entries, same_map}
use Rattle.std.proofs.lemmas.List.{append_cancel_right}
use Rattle.std.proofs.lemmas.Option.{slice_get-map}
use Rattle.gr_core.specs.Parts.Key.{BallotKey, ballot_cmp}
use Rattle.gr_core.specs.Parts.Ballot.{BallotModel, with_received}
use Rattle.gr_core.specs.Desks.State.{State}
use Rattle.gr_core.specs.Desks.Version1.{received_once}
use Rattle.gr_core.specs.Columns.Fields.{Field, natural, ballot_fields}
use Rattle.gr_core.specs.Columns.Stored.{Stored, AreRowsOf, HasRows}
use Rattle.gr_core.specs.Columns.Rows1.{ballot_fields1, lifted_fields, lifted_rows, HasRows1}
use Rattle.gr_core.proofs.Collections.PresenceLemmas.{unmapped}
use Rattle.gr_core.proofs.Contents.KeptRowLemmas.{altered, find-altered}
use Rattle.gr_core.proofs.Contents.BallotKeys.{ballot_total, ballot_only}
use Rattle.gr_core.proofs.Columns.StoredLemmas.{place_of, contained}

-- ==== rows with one field more

no_end : (ys : List Field) (y : Field) → [] ≡ ys ++ y ∷ [] → ⊥
no_end [] y e = cc
no_end (z ∷ ys) y e = cc

-- two rows that are one are so up to their last fields, and in these
last_told : (xs ys : List Field) (x y : Field) → xs ++ x ∷ [] ≡ ys ++ y ∷ [] → (xs ≡ ys) × (x ≡ y)
last_told [] [] x y e = (refl, cc)
last_told [] (b ∷ ys) x y e = absurd (no_end ys y (cc))
last_told (a ∷ xs) [] x y e = absurd (no_end xs x (cc))
last_told (a ∷ xs) (b ∷ ys) x y e =
    let first : a ≡ b = cc in
    let rest : xs ++ x ∷ [] ≡ ys ++ y ∷ [] = cc in
    let told = last_told xs ys x y rest in
    ((λ i. first i ∷ told.0 i), told.1)

-- where a row stands, there it stands with its field more
there-lifted : (rows : List (List Field)) (row : List Field) (i : ℕ) → slice_get rows i ≡ Some row
    → slice_get (map lifted_fields rows) i ≡ Some (lifted_fields row)
there-lifted rows row i at = slice_get-map lifted_fields rows i ∙ ap (option_map lifted_fields) at

-- and a row with a field more stands where one stood
there-row1 : (rows : List (List Field)) (row : List Field) (i : ℕ)
    → slice_get (map lifted_fields rows) i ≡ Some row
    → (row1 : List Field) × (slice_get rows i ≡ Some row1) × (row ≡ lifted_fields row1)
there-row1 rows row i at =
    unmapped lifted_fields (slice_get rows i) row (sym (slice_get-map lifted_fields rows i) ∙ at)

module _ {K V : Type 0} {cmp : K → K → Ordering} (fields fields1 : K × V → List Field) where
  -- the rows of a table, each with its field more, are those of the table whose rows tell it
  pub rows_lifted : (lift : V → V) → ((key : K) (value : V) → fields (key, lift value) ≡ lifted_fields (fields1 (key, value)))
      → (table after : FinMap cmp V) → ((key : K) → get after key ≡ option_map lift (get table key))
      → (rows : List (List Field)) → AreRowsOf fields1 table rows → AreRowsOf fields after (map lifted_fields rows)
  rows_lifted lift same table after is rows are = record {
    known = λ row has.
        let at = place_of (map lifted_fields rows) row has in
        let was = there-row1 rows row at.0 at.1 in
        let entry = are.known was.0 (contained rows was.0 at.0 was.1) in (
          entry.0,
          lift entry.1,
          is entry.0 ∙ ap (option_map lift) entry.2,
          same entry.0 entry.1 ∙ ap lifted_fields entry.3 ∙ sym was.2,
        );
    whole = λ key value there.
        let was = unmapped lift (get table key) value (sym (is key) ∙ there) in
        let row : List Field = fields1 (key, was.0) in
        let at = place_of rows row (are.whole key was.0 was.1) in
        subst (Contains (map lifted_fields rows)) (sym (same key was.0) ∙ ap (λ v. fields (key, v)) (sym was.2))
        (contained (map lifted_fields rows) (lifted_fields row) at.0 (there-lifted rows row at.0 at.1));
    once = λ i j row at_i at_j.
        let first = there-row1 rows row i at_i in
        let second = there-row1 rows row j at_j in
        let one : first.0 ≡ second.0 =
        append_cancel_right first.0 second.0 (natural 1 ∷ []) (sym first.2 ∙ second.2) in
        are.once i j first.0 first.1 (second.1 ∙ ap Some (sym one));
  }

  module _ (IsLifted : V → Type 0) (tells : (key : K) (value : V) (row : List Field)
      → fields (key, value) ≡ lifted_fields row → (fields1 (key, value) ≡ row) × IsLifted value)
      (table : FinMap cmp V) (rows : List (List Field)) (are : AreRowsOf fields table (map lifted_fields rows)) where
    -- and the other way round
    pub are_rows1 : AreRowsOf fields1 table rows
    are_rows1 = record {
      known = λ row has.
          let at = place_of rows row has in
          let entry = are.known (lifted_fields row)
          (contained (map lifted_fields rows) (lifted_fields row) at.0 (there-lifted rows row at.0 at.1)) in
          (entry.0, entry.1, entry.2, (tells entry.0 entry.1 row entry.3).0);
      whole = λ key value there.
          let at = place_of (map lifted_fields rows) (fields (key, value)) (are.whole key value there) in
          let was = there-row1 rows (fields (key, value)) at.0 at.1 in
          subst (Contains rows) (sym (tells key value was.0 was.2).0) (contained rows was.0 at.0 was.1);
      once = λ i j row at_i at_j.
          are.once i j (lifted_fields row) (there-lifted rows row i at_i) (there-lifted rows row j at_j);
    }

    -- what the table has tells the field
    pub rows_told : (key : K) (value : V) → get table key ≡ Some value → IsLifted value
    rows_told key value there =
        let at = place_of (map lifted_fields rows) (fields (key, value)) (are.whole key value there) in
        let was = there-row1 rows (fields (key, value)) at.0 at.1 in
        (tells key value was.0 was.2).1

-- ==== ballots

-- a ballot with one vote received, under each key
pub get-received_once : (ballots : FinMap ballot_cmp BallotModel) (key : BallotKey)
    → get (received_once ballots) key ≡ option_map (with_received 1) (get ballots key)
get-received_once ballots key =
    let once = λ (k : BallotKey) (ballot : BallotModel). with_received 1 ballot in
    get-from_entries ballot_total (map (altered once) (entries ballots)) key
    ∙ find-altered ballot_total ballot_only once key (entries ballots)
    ∙ ap (option_map (with_received 1)) (sym (get-entries ballots key))

fields-lifted : (key : BallotKey) (ballot : BallotModel)
    → ballot_fields (key, with_received 1 ballot) ≡ lifted_fields (ballot_fields1 (key, ballot))
fields-lifted (resolution, login) ballot = refl

fields-told : (key : BallotKey) (ballot : BallotModel) (row : List Field)
    → ballot_fields (key, ballot) ≡ lifted_fields row
    → (ballot_fields1 (key, ballot) ≡ row) × (ballot.received ≡ 1)
fields-told (resolution, login) ballot row same =
    let told = last_told (ballot_fields1 ((resolution, login), ballot)) row (natural ballot.received) (natural 1) same in
    let number : natural ballot.received ≡ natural 1 = told.1 in
    (told.0, cc)

-- ==== desks

-- the desk in this version, but for its header
abbrev pub lifted_ballots : State → State
lifted_ballots s = record s { ballots = received_once s.ballots }

-- it has the rows that an intake takes
pub lifted_has : (s : State) (rows : Stored) → HasRows1 s rows → HasRows (lifted_ballots s) (lifted_rows rows)
lifted_has s rows has = record {
  desk = has.desk;
  developers = has.developers;
  resolutions = has.resolutions;
  choices = has.choices;
  sponsors = has.sponsors;
  ballots = rows_lifted ballot_fields ballot_fields1 (with_received 1) fields-lifted s.ballots (received_once s.ballots)
      (get-received_once s.ballots) rows.ballots has.ballots;
}

-- and one with these rows had them in version 1
pub has_rows1 : (s : State) (rows : Stored) → HasRows s (lifted_rows rows) → HasRows1 s rows
has_rows1 s rows has = record {
  desk = has.desk;
  developers = has.developers;
  resolutions = has.resolutions;
  choices = has.choices;
  sponsors = has.sponsors;
  ballots = are_rows1 ballot_fields ballot_fields1 (λ ballot. ballot.received ≡ 1) fields-told s.ballots rows.ballots
      has.ballots;
}

once_already : (o : Option BallotModel) → ((ballot : BallotModel) → o ≡ Some ballot → ballot.received ≡ 1)
    → option_map (with_received 1) o ≡ o
once_already None each = refl
once_already (Some ballot) each = λ i. Some (with_received (sym (each ballot refl) i) ballot)

-- its ballots have one vote received each
pub received_already : (s : State) (rows : Stored) → HasRows s (lifted_rows rows) → received_once s.ballots ≡ s.ballots
received_already s rows has =
    same_map ballot_total ballot_only (received_once s.ballots) s.ballots (λ key.
    get-received_once s.ballots key
    ∙ once_already (get s.ballots key) (rows_told ballot_fields ballot_fields1 (λ ballot. ballot.received ≡ 1) fields-told
    s.ballots rows.ballots has.ballots key))
