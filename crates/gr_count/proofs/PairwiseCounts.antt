-- Preference counts with one ballot more.
use Rattle.std.proofs.Common.{◌≡◌, ◌≢◌, ℕ, zero, suc, ◌+◌, ◌-◌, ◌<◌, ◌≤◌, Bool, true, false, cond, List, [], ◌∷◌, length, Option, Some, None, ltb, ◌⊎◌, refl, sym, ◌∙◌, ap, subst, inl, inr, arith, add-zero, count_by}
use Rattle.std.specs.Prelude.{slice_get}
use Rattle.std.proofs.lemmas.Bool.{cases_lt, cases_eq, false≢true, ltb-true}
use Rattle.gr_count.proofs.Sets.{none_past}
use Rattle.gr_count.specs.declared.mark.Mark.{Mark}
use Rattle.gr_count.specs.declared.mark.Mark.TheVariants.{Ranked, Unranked}
use Rattle.std.specs.List.Sorted.{IsPermutation}
use Rattle.std.proofs.lemmas.List.Sorted.{length_permutation, sum_by-IsPermutation}
use Rattle.std.proofs.lemmas.List.Sums.{sum_by-cons}
use Rattle.gr_count.specs.declared.pairs.Pairs.{Pairs}
use Rattle.gr_count.specs.Ballot.{is_above, prefers}
use Rattle.gr_count.specs.Shown.{ballots_in, options_of_pairs, voters_above}
use Rattle.gr_count.specs.PairwiseCount.{AddsBallots, HoldsBallot, IsSamePairwiseCount}

slice_get-past : {X : Type 0} (xs : List X) (i : ℕ) → length xs ≤ i → slice_get xs i ≡ None
slice_get-past [] i h = refl
slice_get-past (x ∷ xs) zero h = absurd (omega arith)
slice_get-past (x ∷ xs) (suc i) h = slice_get-past xs i (omega arith)

pub is_above-none : (mark : Option Mark) → is_above mark None ≡ false
is_above-none None = refl
is_above-none (Some Unranked) = refl
is_above-none (Some (Ranked rank)) = refl

-- a ballot prefers nothing that is no option of it, and to nothing
pub prefers-past_first : (ranks : List Mark) (a b : ℕ) → length ranks ≤ a → prefers ranks a b ≡ false
prefers-past_first ranks a b h = ap (λ mark. is_above mark (slice_get ranks b)) (slice_get-past ranks a h)

pub prefers-past_second : (ranks : List Mark) (a b : ℕ) → length ranks ≤ b → prefers ranks a b ≡ false
prefers-past_second ranks a b h = ap (is_above (slice_get ranks a)) (slice_get-past ranks b h) ∙ is_above-none (slice_get ranks a)

-- counts of options that grow by the ballot's preferences between options grow by them everywhere
pub counts_more : (ranks : List Mark) (n : ℕ) (old new : ℕ → ℕ → ℕ) → length ranks ≡ n → ((a b : ℕ) → 0 < old a b → (a < n) × (b < n))
    → ((a b : ℕ) → 0 < new a b → (a < n) × (b < n)) → ((a b : ℕ) → a < n → b < n → new a b ≡ old a b + cond (prefers ranks a b) 1 0) → (a b : ℕ)
    → new a b ≡ old a b + cond (prefers ranks a b) 1 0
counts_more ranks n old new long before after within a b =
    elim (cases_lt a n) as (λ _. new a b ≡ old a b + cond (prefers ranks a b) 1 0) [
      | inl first ↦ elim (cases_lt b n) as (λ _. new a b ≡ old a b + cond (prefers ranks a b) 1 0) [
        | inl second ↦ within a b first second
        | inr second ↦
            let no : ◌≡◌ {A = ℕ} (cond (prefers ranks a b) 1 0) 0 = ap (λ t. cond t 1 0) (prefers-past_second ranks a b (omega arith)) in
            omega (arith, none_past n old before a b (inr second), none_past n new after a b (inr second))
      ]
      | inr first ↦
          let no : ◌≡◌ {A = ℕ} (cond (prefers ranks a b) 1 0) 0 = ap (λ t. cond t 1 0) (prefers-past_first ranks a b (omega arith)) in
          omega (arith, none_past n old before a b (inl first), none_past n new after a b (inl first))
    ]

-- numbers that change between options alone stay those of options
pub below_updated : (n : ℕ) (old new : ℕ → ℕ → ℕ) → ((a b : ℕ) → 0 < old a b → (a < n) × (b < n))
    → ((a b : ℕ) → (n ≤ a) ⊎ (n ≤ b) → new a b ≡ old a b) → (a b : ℕ) → 0 < new a b → (a < n) × (b < n)
below_updated n old new before same a b more =
    elim (cases_lt a n) as (λ _. (a < n) × (b < n)) [
      | inl first ↦ elim (cases_lt b n) as (λ _. (a < n) × (b < n)) [
        | inl second ↦ (first, second)
        | inr second ↦ before a b (omega (arith, same a b (inr second)))
      ]
      | inr first ↦ before a b (omega (arith, same a b (inl first)))
    ]

-- a ballot prefers no option to itself, and of two options at most one to the other
ltb_level : (r : ℕ) → ltb r r ≡ false
ltb_level r = elim (ltb r r) as (λ t. ltb r r ≡ t → t ≡ false) [
  | true ↦ λ is. absurd (let h : r < r = ltb-true r r is in omega arith)
  | false ↦ λ _. refl
] refl

is_above-level : (mark : Option Mark) → is_above mark mark ≡ false
is_above-level None = refl
is_above-level (Some Unranked) = refl
is_above-level (Some (Ranked rank)) = ltb_level rank

pub prefers-level : (ranks : List Mark) (a : ℕ) → prefers ranks a a ≡ false
prefers-level ranks a = is_above-level (slice_get ranks a)

ltb_one_way : (r s : ℕ) (t u : Bool) → ltb r s ≡ t → ltb s r ≡ u → cond t 1 0 + cond u 1 0 ≤ 1
ltb_one_way r s true true is back = absurd (let h : r < s = ltb-true r s is in let k : s < r = ltb-true s r back in omega arith)
ltb_one_way r s true false is back = omega arith
ltb_one_way r s false true is back = omega arith
ltb_one_way r s false false is back = omega arith

is_above-one_way : (one other : Option Mark) → cond (is_above one other) 1 0 + cond (is_above other one) 1 0 ≤ 1
is_above-one_way None None = omega arith
is_above-one_way None (Some Unranked) = omega arith
is_above-one_way None (Some (Ranked s)) = omega arith
is_above-one_way (Some Unranked) None = omega arith
is_above-one_way (Some Unranked) (Some Unranked) = omega arith
is_above-one_way (Some Unranked) (Some (Ranked s)) = omega arith
is_above-one_way (Some (Ranked r)) None = omega arith
is_above-one_way (Some (Ranked r)) (Some Unranked) = omega arith
is_above-one_way (Some (Ranked r)) (Some (Ranked s)) = ltb_one_way r s (ltb r s) (ltb s r) refl refl

pub prefers-one_way : (ranks : List Mark) (a b : ℕ) → cond (prefers ranks a b) 1 0 + cond (prefers ranks b a) 1 0 ≤ 1
prefers-one_way ranks a b = is_above-one_way (slice_get ranks a) (slice_get ranks b)

-- Where the pairs hold a ballot, what is left without it still adds up to no more than the ballots that are left.
module _ (marks : List Mark) (pairs : Pairs) (held : HoldsBallot marks pairs) (left : ℕ → ℕ → ℕ)
    (counts : (a b : ℕ) → voters_above pairs a b ≡ left a b + cond (prefers marks a b) 1 0) where
  counted_level : (a b : ℕ) → a ≢ b → prefers marks a b ≡ false → prefers marks b a ≡ false → left a b + left b a ≤ ballots_in pairs - 1
  counted_level a b other neither back =
      let some : 1 ≤ ballots_in pairs = held.some in
      let fewer : voters_above pairs a b + voters_above pairs b a < ballots_in pairs
      = elim (cases_lt a (options_of_pairs pairs)) as (λ _. voters_above pairs a b + voters_above pairs b a < ballots_in pairs) [
        | inl first ↦ elim (cases_lt b (options_of_pairs pairs)) as (λ _. voters_above pairs a b + voters_above pairs b a < ballots_in pairs) [
          | inl second ↦ (held.each a b first second).1 other (λ is. false≢true (sym neither ∙ is)) (λ is. false≢true (sym back ∙ is))
          | inr second ↦ omega (
            arith,
            none_past _ (voters_above pairs) pairs.below a b (inr second),
            none_past _ (voters_above pairs) pairs.below b a (inl second),
          )
        ]
        | inr first ↦ omega (
          arith,
          none_past _ (voters_above pairs) pairs.below a b (inl first),
          none_past _ (voters_above pairs) pairs.below b a (inr first),
        )
      ] in
      omega (arith, counts a b, counts b a)

  counted_cases : (a b : ℕ) → a ≢ b → (t u : Bool) → prefers marks a b ≡ t → prefers marks b a ≡ u → left a b + left b a ≤ ballots_in pairs - 1
  counted_cases a b other true u is back =
      let one : ◌≡◌ {A = ℕ} (cond (prefers marks a b) 1 0) 1 = ap (λ t. cond t 1 0) is in
      omega (arith, counts a b, counts b a, pairs.counted a b)
  counted_cases a b other false true is back =
      let one : ◌≡◌ {A = ℕ} (cond (prefers marks b a) 1 0) 1 = ap (λ t. cond t 1 0) back in
      omega (arith, counts a b, counts b a, pairs.counted a b)
  counted_cases a b other false false is back = counted_level a b other is back

  pub counted_left : (a b : ℕ) → left a b + left b a ≤ ballots_in pairs - 1
  counted_left a b =
      elim (cases_eq a b) as (λ _. left a b + left b a ≤ ballots_in pairs - 1) [
        | inl same ↦
            let none : left a a ≡ 0 = omega (arith, counts a a, pairs.alone a) in
            subst (λ x. left a x + left x a ≤ ballots_in pairs - 1) same (omega arith)
        | inr other ↦ counted_cases a b other (prefers marks a b) (prefers marks b a) refl refl
      ]

-- what ballots add together
pub record IsSumOf (ballots : List (List Mark)) (old new : Pairs) : Type 0 where
  pub options : options_of_pairs new ≡ options_of_pairs old
  pub number : ballots_in new ≡ ballots_in old + length ballots
  pub counts : (a b : ℕ) → voters_above new a b ≡ voters_above old a b + count_by (λ marks. prefers marks a b) ballots

pub IsSumOf-added : (ballots : List (List Mark)) (old new : Pairs) → AddsBallots ballots old new → IsSumOf ballots old new
IsSumOf-added [] old new same = record {
  options = ap options_of_pairs same;
  number = ap ballots_in same ∙ sym (add-zero (ballots_in old));
  counts = λ a b. ap (λ pairs. voters_above pairs a b) same ∙ sym (add-zero (voters_above old a b));
}
IsSumOf-added (marks ∷ others) old new added =
    let first = added.1 in
    let rest : IsSumOf others added.0 new = IsSumOf-added others added.0 new added.2 in
    record {
      options = rest.options ∙ first.options;
      number = omega (arith, rest.number, first.ballots);
      counts = λ a b. omega (arith, rest.counts a b, first.counts a b, sum_by-cons (λ m. cond (prefers m a b) 1 0) marks others);
    }

-- the same ballots in another order add the same
pub same_tally : (ballots others : List (List Mark)) (pairs one other : Pairs) → IsPermutation ballots others → AddsBallots ballots pairs one
    → AddsBallots others pairs other → IsSamePairwiseCount one other
same_tally ballots others pairs one other moved added added_others =
    let sum : IsSumOf ballots pairs one = IsSumOf-added ballots pairs one added in
    let sum_others : IsSumOf others pairs other = IsSumOf-added others pairs other added_others in
    record {
      options = sum.options ∙ sym sum_others.options;
      ballots = omega (arith, sum.number, sum_others.number, length_permutation ballots others moved);
      counts = λ a b. omega (arith, sum.counts a b, sum_others.counts a b, sum_by-IsPermutation (λ m. cond (prefers m a b) 1 0) ballots others moved);
    }
