-- Each election has a number of rounds: a round that is not the last drops a defeat, and there are finitely many.
use Rattle.std.proofs.Common.{ℕ, zero, suc, ◌<◌, ◌≤◌, ◌↔◌, Bool, inl, inr, arith}
use Rattle.std.specs.Prelude.{IsTrue}
use Rattle.std.proofs.lemmas.Bool.{cases_lt}
use Rattle.gr_count.specs.Election.{Election, IsKept, Defeats}
use Rattle.gr_count.specs.Schwartz.{IsInnerDefeat}
use Rattle.gr_count.specs.Rounds.{IsDropped, IsDroppedIn, DefeatStandsAfter, IsSettledAfter, IsNumberOfRounds}
use Rattle.gr_count.proofs.Decided.{decided, pairs_decided, test_of, test_of-is}
use Rattle.gr_count.proofs.Finite.{not_true}
use Rattle.gr_count.proofs.PairSizes.{pairs_below, pairs_below-more}
use Rattle.gr_count.proofs.Standings.{stood_before, settled_later}
use Rattle.gr_count.proofs.Weakest.{some_weakest}

module _ (e : Election) where
  pub kept_below : (a : ℕ) → IsKept e a → a < suc e.default
  kept_below a is_kept =
      elim is_kept as (λ _. a < suc e.default) [ inl same ↦ omega arith | inr tests ↦ let h : a < e.default = tests.0 in omega arith ]

  standing_below : (k a b : ℕ) → DefeatStandsAfter e k a b → (a < suc e.default) × (b < suc e.default)
  standing_below k a b stands =
      let defeats : Defeats e a b = stood_before e k a b stands in (kept_below a defeats.0, kept_below b defeats.1)

  inner_below : (k a b : ℕ) → IsInnerDefeat (IsKept e) (DefeatStandsAfter e k) a b → (a < suc e.default) × (b < suc e.default)
  inner_below k a b inner = standing_below k a b inner.stands

  -- where a round drops a defeat, fewer stand after it
  fewer : (k : ℕ) (before after : ℕ → ℕ → Bool) → ((a b : ℕ) → IsTrue (before a b) ↔ DefeatStandsAfter e k a b)
      → ((a b : ℕ) → IsTrue (after a b) ↔ DefeatStandsAfter e (suc k) a b) → (a b : ℕ) → IsDropped e (DefeatStandsAfter e k) a b
      → pairs_below (suc e.default) (suc e.default) after < pairs_below (suc e.default) (suc e.default) before
  fewer k before after are_before are_after a b dropped =
      let inside = inner_below k a b dropped.among in
      pairs_below-more (suc e.default) (suc e.default) after before (λ x y is. (are_before x y).1 ((are_after x y).0 is).0) a b inside.0 inside.1
      (not_true (after a b) (λ is. ((are_after a b).0 is).1 dropped)) ((are_before a b).1 dropped.among.stands)

  -- where fewer than so many defeats stand, some number of rounds settles the Schwartz set
  settles : (more k : ℕ) (standing : ℕ → ℕ → Bool) → ((a b : ℕ) → IsTrue (standing a b) ↔ DefeatStandsAfter e k a b)
      → pairs_below (suc e.default) (suc e.default) standing < more → ¬ (¬ ((j : ℕ) × IsSettledAfter e j))
  settles zero k standing are_standing few = λ no. omega arith
  settles (suc more) k standing are_standing few = λ no. no (
    k,
    λ a b inner.
        some_weakest e.preference (IsInnerDefeat (IsKept e) (DefeatStandsAfter e k)) (suc e.default) (inner_below k) a b inner (λ weakest.
        pairs_decided (suc e.default) (DefeatStandsAfter e (suc k)) (standing_below (suc k)) (λ known.
        let after : ℕ → ℕ → Bool = λ x y. test_of (DefeatStandsAfter e (suc k) x y) (known x y) in
        let are_after : (x y : ℕ) → IsTrue (after x y) ↔ DefeatStandsAfter e (suc k) x y = λ x y. test_of-is (DefeatStandsAfter e (suc k) x y) (known x y) in
        settles more (suc k) after are_after (omega (arith, fewer k standing after are_standing are_after weakest.0 weakest.1 weakest.2)) no)),
  )

  -- and of such numbers one is the least
  least_settled : (k : ℕ) → IsSettledAfter e k → ¬ (¬ ((rounds : ℕ) × IsNumberOfRounds e rounds))
  least_settled zero settled = λ no. no (0, record { settled = settled; least = λ j _. omega arith })
  least_settled (suc k) settled = λ no. decided (IsSettledAfter e k) (λ either. elim either as (λ _. ⊥) [
    | inl before ↦ least_settled k before no
    | inr not_before ↦ no (
      suc k,
      record {
        settled = settled;
        least = λ j sooner. elim (cases_lt j (suc k)) as (λ _. suc k ≤ j)
            [ inl h ↦ absurd (not_before (settled_later e j k sooner (omega arith))) | inr h ↦ h ];
      },
    )
  ])

  pub has_number_of_rounds : ¬ (¬ ((rounds : ℕ) × IsNumberOfRounds e rounds))
  has_number_of_rounds = λ no.
      pairs_decided (suc e.default) (DefeatStandsAfter e 0) (standing_below 0) (λ known.
      let standing : ℕ → ℕ → Bool = λ x y. test_of (DefeatStandsAfter e 0 x y) (known x y) in
      settles (suc (pairs_below (suc e.default) (suc e.default) standing)) 0 standing (λ x y. test_of-is (DefeatStandsAfter e 0 x y) (known x y)) (omega arith)
      (λ some. least_settled some.0 some.1 no))

  module _ (rounds : ℕ) (number : IsNumberOfRounds e rounds) where
    -- no round drops a defeat after the last
    pub dropped_below : (round a b : ℕ) → IsDroppedIn e round a b → (round < suc rounds) × (a < suc e.default) × (b < suc e.default)
    dropped_below zero a b never = absurd never
    dropped_below (suc k) a b dropped =
        let inside = inner_below k a b dropped.among in (
          elim (cases_lt k rounds) as (λ _. suc k < suc rounds)
              [ inl before ↦ omega arith | inr later ↦ absurd (settled_later e rounds k number.settled later a b dropped.among) ],
          inside.0,
          inside.1,
        )
