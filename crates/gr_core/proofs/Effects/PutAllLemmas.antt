-- Rows that are put one after the other: those of an act make its state.
use Rattle.std.proofs.Common.{◌≡◌, ℕ, ◌+◌, Some, None, option_map, true, false, cond, not, List, [], ◌∷◌, ◌++◌, map, refl, sym, ap, ◌∙◌}
use Rattle.std.specs.Prelude.{option_to_list}
use Rattle.std.specs.declared.cmp.Ordering.{Ordering}
use Rattle.std.specs.Cmp.{nat_cmp_total}
use Rattle.std.specs.FinMap.{FinMap, get, insert, nat_cmp-IsAntisymmetric}
use Rattle.gr_core.specs.declared.header.Header.{Header}
use Rattle.gr_core.specs.declared.import.Novelty.TheVariants.{Same}
use Rattle.gr_core.specs.declared.refusal.Refusal.TheVariants.{BadRoll}
use Rattle.gr_core.specs.declared.change.Change.{Change}
use Rattle.gr_core.specs.Parts.Key.{text_cmp}
use Rattle.gr_core.specs.Parts.Developer.{DeveloperModel}
use Rattle.gr_core.specs.Machine.Import.{RollRow, developer_in, novelty, is_same_novelty, imported, news_of, HasNoBadRow}
use Rattle.gr_core.specs.Desks.State.{State}
use Rattle.gr_core.specs.Machine.Act.{Act, ImportRoll}
use Rattle.gr_core.specs.Machine.Refusal.{IsAccepted}
use Rattle.gr_core.specs.Machine.Row.{RowModel, HeaderOf, ResolutionOf, ChoiceOf, SponsorOf, BallotOf, row_of, put, put_all}
use Rattle.gr_core.specs.Machine.Effect.{own, gaining, losing, effect, counted, imported_row, developer_rows, resolutions_put, choices_put, sponsors_put, ballots_put, rows_at, puts_by, rows_by}
use Rattle.gr_core.specs.Laws.MachineLaws.{RowsMakeTheStep}
use Rattle.gr_core.proofs.Collections.TextKeys.{text_total, text_only}
use Rattle.gr_core.proofs.Collections.PairKeys.{choice_total, choice_only}
use Rattle.gr_core.proofs.Collections.RowPutLemmas.{get-put_other, insert-there}
use Rattle.gr_core.proofs.Effects.LeftTableLemmas.{header-effect, developers-booked}
use Rattle.gr_core.proofs.Collections.RowsPutLemmas.{with_where, with_found, with_found-covers}
use Rattle.gr_core.proofs.Contents.SponsorLemmas.{sponsor_total, sponsor_only}
use Rattle.gr_core.proofs.Contents.BallotKeys.{ballot_total, ballot_only}
use Rattle.gr_core.proofs.Effects.LeftRowLemmas.{resolutions_left, resolutions_stay, choices_left, choices_stay, sponsors_left, sponsors_stay, ballots_left, ballots_stay}
use Rattle.gr_core.proofs.Effects.ImportLemmas.{same_row, logins_differ, no_bad_row-rest, no_bad_row-from_none}

-- the rows of some changes and then of one more
pub put_all-one_more : (s : State) (changes : List Change) (change : Change)
    → put_all s (map row_of (changes ++ change ∷ [])) ≡ put (put_all s (map row_of changes)) (row_of change)
put_all-one_more s [] change = refl
put_all-one_more s (first ∷ changes) change = put_all-one_more (put s (row_of first)) changes change

pub put_all-append : (s : State) (xs ys : List RowModel) → put_all s (xs ++ ys) ≡ put_all (put_all s xs) ys
put_all-append s [] ys = refl
put_all-append s (x ∷ xs) ys = put_all-append (put s x) xs ys

-- what the roll had under the logins of some rows is there still
abbrev AreAsBefore : FinMap text_cmp DeveloperModel → FinMap text_cmp DeveloperModel → List RollRow → Type 0
AreAsBefore base now rows = (others : List RollRow) (row : RollRow) (later : List RollRow) → rows ≡ others ++ row ∷ later
    → get now row.login ≡ get base row.login

-- the rows that the roll does not have yet make, put, the same roll as all of them
put_all-news : (s : State) (base now : FinMap text_cmp DeveloperModel) (rows : List RollRow) → AreAsBefore base now rows → HasNoBadRow rows
    → put_all (record s { developers = now }) (map imported_row (news_of base rows)) ≡ record s { developers = imported now rows }
put_all-news s base now [] as_before good = refl
put_all-news s base now (row ∷ rows) as_before good =
    let entry = developer_in row in
    let next = insert now row.login entry in
    let behind : AreAsBefore base now rows = λ others other later whole. as_before (row ∷ others) other later (ap (λ rs. row ∷ rs) whole) in
    let behind_next : AreAsBefore base next rows = λ others other later whole.
    get-put_other text_total text_only now row.login other.login entry (logins_differ row rows good others other later whole) ∙ behind others other later whole
    in
    let there : get now row.login ≡ get base row.login = as_before [] row rows refl in
    elim (is_same_novelty (novelty base row) Same) as (λ b. is_same_novelty (novelty base row) Same ≡ b
    → put_all (record s { developers = now }) (map imported_row (cond (not b) (row ∷ news_of base rows) (news_of base rows)))
    ≡ record s { developers = imported next rows }) [
      | true ↦ λ same.
          put_all-news s base now rows behind (no_bad_row-rest row rows good)
          ∙ ap (λ m. record s { developers = imported m rows })
          (sym (insert-there text_total text_only now row.login entry (there ∙ same_row (get base row.login) entry same)))
      | false ↦ λ other. put_all-news s base next rows behind_next (no_bad_row-rest row rows good)
    ] refl

-- the rows that a map has under some keys, put into a table of the state
put_all-found : {J R : Type 0} {cmp : J → J → Ordering} (row : J → R → RowModel) (table : FinMap cmp R → State)
    → ((m : FinMap cmp R) (key : J) (value : R) → put (table m) (row key value) ≡ table (insert m key value))
    → (m n : FinMap cmp R) (keys : List J) → put_all (table m) (rows_at row n keys) ≡ table (with_found m n keys)
put_all-found row table puts m n [] = refl
put_all-found row table puts m n (key ∷ keys) =
    elim (get n key) as (λ o. put_all (table m) (option_to_list (option_map (row key) o) ++ rows_at row n keys)
    ≡ table (with_found (with_where m key o) n keys)) [
      | None ↦ put_all-found row table puts m n keys
      | Some value ↦ ap (λ s. put_all s (rows_at row n keys)) (puts m key value)
          ∙ put_all-found row table puts (insert m key value) n keys
    ]

-- the developers that an act puts
put_all-developers : (s : State) (at : ℕ) (act : Act) → IsAccepted s at act
    → put_all s (developer_rows s act) ≡ record s { developers = (own s at act).developers }
put_all-developers s at (ImportRoll rows) accepted =
    put_all-news s s.developers s.developers rows (λ others row later whole. refl) (no_bad_row-from_none rows (λ line. accepted (BadRoll line)))
put_all-developers s at other accepted = refl

-- the rows that an accepted act puts make the state with all that it puts
put_all-puts_by : (s : State) (at : ℕ) (act : Act) → IsAccepted s at act → put_all s (puts_by s at act) ≡ effect s at act
put_all-puts_by s at act accepted =
    let t = effect s at act in
    let resolutions = rows_at ResolutionOf t.resolutions (resolutions_put s at act) in
    let choices = rows_at ChoiceOf t.choices (choices_put s at act) in
    let sponsors = rows_at SponsorOf t.sponsors (sponsors_put s act) in
    let ballots = rows_at BallotOf t.ballots (ballots_put act) in
    let roll : State = record s { developers = (own s at act).developers } in
    let resolved : State = record roll { resolutions = with_found s.resolutions t.resolutions (resolutions_put s at act) } in
    let chosen : State = record resolved { choices = with_found s.choices t.choices (choices_put s at act) } in
    let sponsored : State = record chosen { sponsors = with_found s.sponsors t.sponsors (sponsors_put s act) } in
    put_all-append s (developer_rows s act ++ resolutions ++ choices ++ sponsors) ballots
    ∙ ap (λ u. put_all u ballots)
    (put_all-append s (developer_rows s act ++ resolutions ++ choices) sponsors
    ∙ ap (λ u. put_all u sponsors)
    (put_all-append s (developer_rows s act ++ resolutions) choices
    ∙ ap (λ u. put_all u choices)
    (put_all-append s (developer_rows s act) resolutions
    ∙ ap (λ u. put_all u resolutions) (put_all-developers s at act accepted)
    ∙ put_all-found ResolutionOf (λ m. record roll { resolutions = m }) (λ m key row. refl) s.resolutions t.resolutions (resolutions_put s at act))
    ∙ put_all-found ChoiceOf (λ m. record resolved { choices = m }) (λ m key row. refl) s.choices t.choices (choices_put s at act))
    ∙ put_all-found SponsorOf (λ m. record chosen { sponsors = m }) (λ m key row. refl) s.sponsors t.sponsors
    (sponsors_put s act))
    ∙ put_all-found BallotOf (λ m. record sponsored { ballots = m }) (λ m key row. refl) s.ballots t.ballots
    (ballots_put act)
    ∙ (λ i. record {
      header = sym (header-effect s at act) i;
      developers = sym (developers-booked (gaining s act) (losing act) at (own s at act)) i;
      resolutions = with_found-covers nat_cmp_total nat_cmp-IsAntisymmetric s.resolutions t.resolutions (resolutions_put s at act)
          (resolutions_left s at act) (resolutions_stay s at act) i;
      choices = with_found-covers choice_total choice_only s.choices t.choices (choices_put s at act) (choices_left s at act) (choices_stay s at act) i;
      sponsors = with_found-covers sponsor_total sponsor_only s.sponsors t.sponsors (sponsors_put s act) (sponsors_left s at act) (sponsors_stay s at act) i;
      ballots = with_found-covers ballot_total ballot_only s.ballots t.ballots (ballots_put act) (ballots_left s at act)
          (ballots_stay s at act) i;
    })

-- the rows of an accepted act make the state after it
pub put_all-rows_by : (s : State) (at : ℕ) (act : Act) → IsAccepted s at act → put_all s (rows_by s at act) ≡ counted (effect s at act) at
put_all-rows_by s at act accepted =
    let header = (counted s at).header in
    put_all-append s (puts_by s at act) (HeaderOf header ∷ [])
    ∙ ap (λ t. put t (HeaderOf header)) (put_all-puts_by s at act accepted)
    ∙ ap (λ (old : Header). record (effect s at act) { header = record old { accepted = old.accepted + 1; clock = at } }) (sym (header-effect s at act))

pub rows_make_steps : RowsMakeTheStep
rows_make_steps s at act accepted = (accepted, refl, put_all-rows_by s at act accepted)
