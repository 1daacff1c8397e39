-- The voters of a resolution: each has one ballot on it, and is on the roll.
use Rattle.std.proofs.Common.{◌≡◌, ℕ, ◌≤◌, true, false, List, [], ◌∷◌, map, length, Some, is_some, IsSome, refl, sym, ap, ◌∙◌, subst}
use Rattle.std.specs.Prelude.{◌||◌, nat_eq}
use lib.Dec.{T}
use Rattle.std.specs.declared.cmp.Ordering.TheVariants.{Equal}
use Rattle.std.specs.Ordering.{nat_cmp, is_eq, eq_by_cmp, ordering_then}
use Rattle.std.specs.Cmp.{nat_cmp_total, tied_itself, eq_by_cmp_equiv}
use Rattle.std.specs.FinMap.{FinMap, nat_cmp-IsAntisymmetric, entries, entries_sorted, get, get-entries, len, len-entries, is_sorted}
use Rattle.std.specs.FinMap.Entries.{below_all}
use Rattle.std.specs.List.{AllByRecursion, IsDistinct, list_any}
use Rattle.std.proofs.lemmas.List.{length-map}
use Rattle.std.proofs.lemmas.Map.Steps.{length-le_from_keys}
use Rattle.gr_core.specs.Parts.Key.{BallotKey, text_cmp, ballot_cmp}
use Rattle.gr_core.specs.Parts.Ballot.{BallotModel, ballots_of}
use Rattle.gr_core.specs.Parts.Developer.{DeveloperModel}
use Rattle.gr_core.proofs.Contents.ChoiceKeys.{same_number}
use Rattle.gr_core.proofs.Collections.EntryLemmas.{all_passing}
use Rattle.gr_core.proofs.Collections.RowsInOrderLemmas.{is_sorted-filter}
use Rattle.gr_core.proofs.Collections.PairKeys.{pair_total, pair_only}
use Rattle.gr_core.proofs.Collections.TableLemmas.{former, latter, less, tied, find-lookup}
use Rattle.gr_core.proofs.Collections.TextKeys.{text_total, text_only}
use Rattle.gr_core.proofs.Collections.ListLemmas.{each_more}

abbrev Entry : Type 0
Entry = BallotKey × BallotModel

-- the logins of voters
abbrev logins : List Entry → List (List ℕ)
logins ballots = map (λ entry. entry.0.1) ballots

-- the ballots are of this resolution
abbrev AreOf : ℕ → List Entry → Type 0
AreOf resolution = AllByRecursion (λ entry. resolution ≡ entry.0.0)

apart_behind : (resolution : ℕ) (key : BallotKey) (es : List Entry) → resolution ≡ key.0 → AreOf resolution es
    → T (below_all ballot_cmp key es)
    → AllByRecursion (λ login. eq_by_cmp text_cmp key.1 login ≡ false) (logins es)
apart_behind resolution key [] is these below = tt
apart_behind resolution key (e ∷ es) is these below =
    let tie : nat_cmp key.0 e.0.0 ≡ Equal = ap (nat_cmp key.0) (sym these.0 ∙ is) ∙ tied_itself nat_cmp_total key.0 in
    let less_then = less _ (former _ _ below) in (
      ap is_eq (ap (λ r. ordering_then r (text_cmp key.1 e.0.1)) (sym tie) ∙ less_then),
      apart_behind resolution key es is these.1 (latter _ _ below),
    )

-- ballots of one resolution in order have different logins
distinct_logins : (resolution : ℕ) (es : List Entry) → AreOf resolution es → T (is_sorted ballot_cmp es)
    → IsDistinct (eq_by_cmp text_cmp) (logins es)
unfolding IsDistinct
distinct_logins resolution [] these sorted = tt
distinct_logins resolution (e ∷ es) these sorted = (
  apart_behind resolution e.0 es these.0 these.1 (former _ _ sorted),
  distinct_logins resolution es these.1 (latter _ _ sorted),
)

module _ (developers : FinMap text_cmp DeveloperModel) where
  -- each login of these ballots is on the roll
  abbrev pub AreOnRoll : List Entry → Type 0
  AreOnRoll = AllByRecursion (λ entry. IsSome (get developers entry.0.1))

  login_on_roll : (es : List Entry) → AreOnRoll es → (q : List ℕ)
      → list_any (eq_by_cmp text_cmp q) (logins es) ≡ true → IsSome (get developers q)
  login_on_roll [] these q among = absurd (let never : false ≡ true = among in cc)
  login_on_roll (e ∷ es) these q among =
      elim (eq_by_cmp text_cmp q e.0.1) as (λ b. eq_by_cmp text_cmp q e.0.1 ≡ b
      → (b || list_any (eq_by_cmp text_cmp q) (logins es)) ≡ true
      → IsSome (get developers q)) [
        | true ↦ λ same one.
            subst (λ login. IsSome (get developers login)) (sym (text_only q e.0.1 (tied _ same))) these.0
        | false ↦ λ other others. login_on_roll es these.1 q others
      ] refl among

  -- so there are no more ballots than developers on the roll
  pub few_voters : (resolution : ℕ) (es : List Entry) → AreOf resolution es → T (is_sorted ballot_cmp es)
      → AreOnRoll es → length es ≤ len developers
  few_voters resolution es these sorted on_roll =
      subst (λ n. n ≤ len developers) (length-map es (λ entry. entry.0.1))
      (subst (λ n. length (logins es) ≤ n) (sym (len-entries developers))
      (length-le_from_keys (eq_by_cmp_equiv text_total) (logins es) (entries developers)
      (distinct_logins resolution es these sorted)
      (λ q among. ap is_some (sym (find-lookup text_cmp q (entries developers)) ∙ sym (get-entries developers q))
      ∙ login_on_roll es on_roll q among)))

module _ (ballots : FinMap ballot_cmp BallotModel) (resolution : ℕ) where
  -- a ballot of the resolution, as the table has it
  abbrev pub IsBallotOf : Entry → Type 0
  IsBallotOf entry = (resolution ≡ entry.0.0) × (get ballots entry.0 ≡ Some entry.1)

  -- each of them is
  pub all_ballots_of : AllByRecursion IsBallotOf (ballots_of ballots resolution)
  all_ballots_of =
      each_more (λ entry. (nat_eq resolution entry.0.0 ≡ true) × (get ballots entry.0 ≡ Some entry.1)) IsBallotOf
      (λ entry is. (same_number resolution entry.0.0 is.0, is.1)) (ballots_of ballots resolution)
      (all_passing (pair_total nat_cmp_total text_total) (pair_only nat_cmp-IsAntisymmetric text_only)
      (λ key. nat_eq resolution key.0) ballots)

  -- they stand in order
  pub sorted_ballots_of : T (is_sorted ballot_cmp (ballots_of ballots resolution))
  sorted_ballots_of =
      is_sorted-filter ballot_cmp (λ entry. nat_eq resolution entry.0.0) (entries ballots) (entries_sorted ballots)
