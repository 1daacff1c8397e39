-- The ballots of a desk are put resolution by resolution.
use Rattle.std.proofs.Common.{◌≡◌, ℕ, ◌+◌, ◌<◌, ◌≤◌, true, false, cond, List, [], ◌∷◌, map, Option, Some, None, refl, sym, ap, ◌∙◌, arith}
use Rattle.std.specs.Prelude.{nat_eq, nat_lt}
use Rattle.std.specs.Option.{option_or}
use Rattle.std.specs.FinMap.{FinMap, get, insert, entries, entries_sorted, find, retain_keys, get-retain_keys, get-entries, get-empty, same_map, is_sorted}
use Rattle.std.specs.FinMap.Entries.{find-where_key}
use lib.Dec.{T}
use Rattle.std.specs.declared.cmp.Ordering.TheVariants.{Equal}
use Rattle.gr_core.specs.declared.limits.TheConstants.{MAX_RESOLUTIONS}
use Rattle.gr_core.specs.Parts.Key.{BallotKey, ballot_cmp}
use Rattle.gr_core.specs.Parts.Ballot.{BallotModel, ballots_of}
use Rattle.gr_core.specs.Desks.State.{State, with_ballots_before}
use Rattle.gr_core.specs.Desks.Valid.{IsValid}
use Rattle.gr_core.specs.Machine.Map.{with_rows}
use Rattle.gr_core.specs.Machine.Row.{ballot_of_entry, put_all}
use Rattle.gr_core.specs.Laws.VersionLaws.{BallotsComeInTurn}
use Rattle.gr_core.proofs.Collections.PresenceLemmas.{is_given}
use Rattle.gr_core.proofs.Collections.RowsInOrderLemmas.{is_sorted-filter, get-with_rows}
use Rattle.gr_core.proofs.Contents.BallotKeys.{ballot_total, ballot_only}
use Rattle.gr_core.proofs.Contents.ElectionLemmas.{with_poll}

-- ballots that are put one after the other
put_ballots : (s : State) (es : List (BallotKey × BallotModel))
    → put_all s (map ballot_of_entry es) ≡ record s { ballots = with_rows s.ballots es }
put_ballots s [] = refl
put_ballots s (e ∷ es) = put_ballots (record s { ballots = insert s.ballots e.0 e.1 }) es

-- a number is below the next one where it is below this one, or is this one
next_below : (n number : ℕ) (o : Option BallotModel)
    → option_or (cond (nat_eq number n) o None) (cond (nat_lt n number) o None) ≡ cond (nat_lt n (number + 1)) o None
next_below n number o =
    elim (nat_eq number n) as (λ b. nat_eq number n ≡ b
    → option_or (cond b o None) (cond (nat_lt n number) o None) ≡ cond (nat_lt n (number + 1)) o None) [
      | true ↦ λ same. let above : nat_lt n (number + 1) ≡ true = grind arith in
          let not_below : nat_lt n number ≡ false = grind arith in
          elim o as (λ p. option_or p (cond (nat_lt n number) p None) ≡ cond (nat_lt n (number + 1)) p None) [
            | Some ballot ↦ sym (ap (λ b. cond b (Some ballot) None) above)
            | None ↦ ap (λ b. cond b None None) not_below ∙ sym (ap (λ b. cond b None None) above)
          ]
      | false ↦ λ other. let like : nat_lt n number ≡ nat_lt n (number + 1) = grind arith in
          ap (λ b. cond b o None) like
    ] refl

alike_before : (number : ℕ) (q x : BallotKey) → ballot_cmp q x ≡ Equal
    → nat_lt x.0 number ≡ nat_lt q.0 number
alike_before number q x tie = ap (λ (k : BallotKey). nat_lt k.0 number) (sym (ballot_only q x tie))

get-before : (ballots : FinMap ballot_cmp BallotModel) (number : ℕ) (q : BallotKey)
    → get (retain_keys ballots (λ key. nat_lt key.0 number)) q ≡ cond (nat_lt q.0 number) (get ballots q) None
get-before ballots number q =
    get-retain_keys ballots (λ key. nat_lt key.0 number) q (alike_before number q)

find-on : (ballots : FinMap ballot_cmp BallotModel) (number : ℕ) (q : BallotKey)
    → find ballot_cmp q (ballots_of ballots number) ≡ cond (nat_eq number q.0) (get ballots q) None
find-on ballots number q =
    find-where_key ballot_cmp (λ (key : BallotKey). nat_eq number key.0) q
    (λ x tie. ap (λ (k : BallotKey). nat_eq number k.0) (sym (ballot_only q x tie))) (entries ballots)
    ∙ ap (λ o. cond (nat_eq number q.0) o None) (sym (get-entries ballots q))

-- those of one resolution after those of the lesser ones
with_turn : (ballots : FinMap ballot_cmp BallotModel) (number : ℕ)
    → with_rows (retain_keys ballots (λ key. nat_lt key.0 number)) (ballots_of ballots number)
    ≡ retain_keys ballots (λ key. nat_lt key.0 (number + 1))
with_turn ballots number =
    let before = retain_keys ballots (λ key. nat_lt key.0 number) in
    let sorted : T (is_sorted ballot_cmp (ballots_of ballots number)) =
    is_sorted-filter ballot_cmp (λ entry. nat_eq number entry.0.0) (entries ballots) (entries_sorted ballots) in
    same_map ballot_total ballot_only _ _ (λ q.
    get-with_rows ballot_total ballot_only (ballots_of ballots number) before q sorted
    ∙ (λ i. option_or (find-on ballots number q i) (get-before ballots number q i))
    ∙ next_below q.0 number (get ballots q)
    ∙ sym (get-before ballots (number + 1) q))

-- the changes of a resolution's ballots put them
turn_puts : (s : State) (number : ℕ)
    → put_all (with_ballots_before number s) (map ballot_of_entry (ballots_of s.ballots number))
    ≡ with_ballots_before (number + 1) s
turn_puts s number =
    put_ballots (with_ballots_before number s) (ballots_of s.ballots number)
    ∙ ap (λ ballots. record s { ballots = ballots }) (with_turn s.ballots number)

-- ==== the first and the last

-- the number of a resolution with a ballot
numbered : (s : State) → IsValid s → (q : BallotKey) (ballot : BallotModel) → get s.ballots q ≡ Some ballot
    → (0 < q.0) × (q.0 ≤ MAX_RESOLUTIONS)
numbered s valid q ballot is =
    let found = with_poll (get s.resolutions q.0) (valid.votes.ballots q.0 q.1 ballot is).poll in
    let within = (valid.tables.numbered.numbered q.0).0 (is_given (get s.resolutions q.0) found.0 found.1) in
    let few = valid.tables.numbered.few in
    (within.0, omega arith)

none_before : (n : ℕ) (o : Option BallotModel) → ((ballot : BallotModel) → o ≡ Some ballot → 0 < n)
    → cond (nat_lt n 1) o None ≡ None
none_before n None each = elim (nat_lt n 1) as (λ b. cond {A = Option BallotModel} b None None ≡ None) [ true ↦ refl | false ↦ refl ]
none_before n (Some ballot) each =
    let late : 0 < n = each ballot refl in
    let not_below : nat_lt n 1 ≡ false = grind arith in
    ap (λ b. cond b (Some ballot) None) not_below

all_before : (n : ℕ) (o : Option BallotModel) → ((ballot : BallotModel) → o ≡ Some ballot → n ≤ MAX_RESOLUTIONS)
    → cond (nat_lt n (MAX_RESOLUTIONS + 1)) o None ≡ o
all_before n None each = elim (nat_lt n (MAX_RESOLUTIONS + 1)) as (λ b. cond {A = Option BallotModel} b None None ≡ None) [ true ↦ refl | false ↦ refl ]
all_before n (Some ballot) each =
    let few : n ≤ MAX_RESOLUTIONS = each ballot refl in
    let below : nat_lt n (MAX_RESOLUTIONS + 1) ≡ true = grind arith in
    ap (λ b. cond b (Some ballot) None) below

pub come_in_turn : BallotsComeInTurn
come_in_turn s valid = (
  ap (λ ballots. record s { ballots = ballots }) (same_map ballot_total ballot_only _ _ (λ q.
      get-before s.ballots 1 q
      ∙ none_before q.0 (get s.ballots q) (λ ballot is. (numbered s valid q ballot is).0)
      ∙ sym (get-empty ballot_cmp q))),
  turn_puts s,
  ap (λ ballots. record s { ballots = ballots }) (same_map ballot_total ballot_only _ _ (λ q.
      get-before s.ballots (MAX_RESOLUTIONS + 1) q
      ∙ all_before q.0 (get s.ballots q) (λ ballot is. (numbered s valid q ballot is).1))),
)
