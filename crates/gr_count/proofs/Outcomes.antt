-- Laws of the outcome set.
use Rattle.std.proofs.Common.{◌≡◌, ◌≢◌, ℕ, zero, suc, ◌-◌, ◌*◌, ◌<◌, nat_le, nat_lt, Bool, ◌↔◌, inl, inr, refl, sym, subst, arith}
use Rattle.std.specs.Prelude.{IsTrue}
use Rattle.std.proofs.lemmas.Bool.{cases_eq, ltb-true, and_parts}
use Rattle.gr_count.specs.Election.{Election, HasMajority, IsKept, Defeats}
use Rattle.gr_count.specs.Path.{TransitivelyDefeats}
use Rattle.gr_count.specs.Rounds.{IsDropped, IsDroppedIn, DefeatStandsAfter, IsInSchwartzSetAfter, IsNumberOfRounds, IsInOutcome}
use Rattle.gr_count.proofs.Paths.{one_step, first_step, last_step}
use Rattle.gr_count.proofs.Standings.{IsCounted, stood_before, one_number}

module _ (e : Election) where
  -- no option defeats itself
  not_itself : (a b : ℕ) → a ≡ b → ¬ Defeats e a b
  not_itself a b same = λ defeats.
      let itself : e.preference a a < e.preference a a = subst (λ x. e.preference x a < e.preference a x) (sym same) defeats.2 in
      omega arith

  -- an option with its majority has more voters above the default one than below it
  above_default : (a : ℕ) → HasMajority e a → e.preference e.default a < e.preference a e.default
  above_default a has =
      let above = e.preference a e.default in
      let below = e.preference e.default a in
      ltb-true below above (and_parts (nat_le (e.ratio a * below) above) (nat_lt below above) has).1

  -- an option that is kept beside the default one defeats it
  beats_default : (a : ℕ) → IsKept e a → a ≢ e.default → Defeats e a e.default
  beats_default a is_kept other =
      elim is_kept as (λ _. Defeats e a e.default) [ inl same ↦ absurd (other same) | inr tests ↦ (is_kept, inl refl, above_default a tests.2) ]

  -- the default option defeats none
  default_beats_none : (a : ℕ) → ¬ Defeats e e.default a
  default_beats_none a = λ defeats.
      elim (cases_eq a e.default) as (λ _. ⊥) [
        | inl same ↦ not_itself e.default a (sym same) defeats
        | inr other ↦ let back = (beats_default a defeats.1 other).2 in let there = defeats.2 in omega arith
      ]

  -- while it is defeated, the default option is not in the Schwartz set
  default_outside : (k a : ℕ) → IsKept e a → DefeatStandsAfter e k a e.default → ¬ IsInSchwartzSetAfter e k e.default
  default_outside k a is_kept stands = λ member.
      elim (member.against_each a is_kept) as (λ _. ⊥) [
        | inl way ↦ elim (first_step (DefeatStandsAfter e k) e.default a way) as (λ _. ⊥) [
          | inl step ↦ default_beats_none a (stood_before e k e.default a step)
          | inr more ↦ default_beats_none more.0 (stood_before e k e.default more.0 more.1)
        ]
        | inr none ↦ none (one_step (DefeatStandsAfter e k) a e.default stands)
      ]

  -- so its defeats are never dropped
  default_stays_defeated : (a : ℕ) → IsKept e a → a ≢ e.default → (k : ℕ) → DefeatStandsAfter e k a e.default
  default_stays_defeated a is_kept other zero = beats_default a is_kept other
  default_stays_defeated a is_kept other (suc k) =
      let before = default_stays_defeated a is_kept other k in
      (before, λ dropped. default_outside k a is_kept before dropped.among.loser)

  alone : ((a : ℕ) → IsKept e a → a ≡ e.default) → (a b : ℕ) → ¬ Defeats e a b
  alone only a b = λ defeats.
      let first : a ≡ e.default = only a defeats.0 in
      let second : b ≡ e.default = only b defeats.1 in
      not_itself a b (omega arith) defeats

  -- the default option is in the outcome set just where no other option is kept
  pub default_in_outcome : IsInOutcome e e.default ↔ ((a : ℕ) → IsKept e a → a ≡ e.default)
  default_in_outcome = (
    λ outcome a is_kept.
        elim (cases_eq a e.default) as (λ _. a ≡ e.default) [
          | inl same ↦ same
          | inr other ↦ absurd (default_outside outcome.rounds a is_kept (default_stays_defeated a is_kept other outcome.rounds) outcome.member)
        ],
    λ only. record {
      rounds = 0;
      number = record { settled = λ a b inner. alone only a b inner.stands; least = λ j settled. omega arith };
      member = record {
        kept = inl refl;
        against_each = λ b kept_b. inr (λ way. let last = last_step (Defeats e) b e.default way in alone only last.0 e.default last.1);
      };
    },
  )

  module _ (a : ℕ) (is_kept : IsKept e a) (beats : (b : ℕ) → IsKept e b → b ≢ a → Defeats e a b) where
    unbeaten : (b : ℕ) → ¬ Defeats e b a
    unbeaten b = λ defeats.
        elim (cases_eq b a) as (λ _. ⊥) [
          | inl same ↦ not_itself b a same defeats
          | inr other ↦ let back = (beats b defeats.0 other).2 in let there = defeats.2 in omega arith
        ]

    never_reached : (b : ℕ) → ¬ TransitivelyDefeats (Defeats e) b a
    never_reached b = λ way. let last = last_step (Defeats e) b a way in unbeaten last.0 last.1

    favourite_alone : (b : ℕ) → IsInSchwartzSetAfter e 0 b ↔ (b ≡ a)
    favourite_alone b = (
      λ member. elim (cases_eq b a) as (λ _. b ≡ a) [
        | inl same ↦ same
        | inr other ↦ absurd (elim (member.against_each a is_kept) as (λ _. ⊥) [
          | inl way ↦ never_reached b way
          | inr none ↦ none (one_step (Defeats e) a b (beats b member.kept other))
        ])
      ],
      λ same. subst (λ x. IsInSchwartzSetAfter e 0 x) (sym same) (record { kept = is_kept; against_each = λ x kept_x. inr (never_reached x) }),
    )

    pub favourite_number : IsNumberOfRounds e 0
    favourite_number = record {
      settled = λ x y inner.
          let first : x ≡ a = (favourite_alone x).0 inner.winner in
          let second : y ≡ a = (favourite_alone y).0 inner.loser in
          not_itself x y (omega arith) inner.stands;
      least = λ j settled. omega arith;
    }

    -- it alone is the outcome, and there is no round
    pub favourite_outcome : (b : ℕ) → IsInOutcome e b ↔ (b ≡ a)
    favourite_outcome b = (
      λ outcome. (favourite_alone b).0
          (subst (λ k. IsInSchwartzSetAfter e k b) (one_number e outcome.rounds 0 outcome.number favourite_number) outcome.member),
      λ same. record { rounds = 0; number = favourite_number; member = (favourite_alone b).1 same },
    )

-- what a round drops is among the defeats that stand before it
dropped_before : (e : Election) (round a b : ℕ) → IsDroppedIn e round a b → IsDropped e (DefeatStandsAfter e (round - 1)) a b
dropped_before e zero a b never = absurd never
dropped_before e (suc k) a b dropped =
    let before : k ≡ suc k - 1 = omega arith in subst (λ j. IsDropped e (DefeatStandsAfter e j) a b) before dropped

module _ (e : Election) (kept members : ℕ → Bool) (drop : ℕ → ℕ → ℕ) (rounds : ℕ) (counted : IsCounted e kept members drop rounds) where
  member_at_end : (a : ℕ) → IsTrue (members a) → IsInSchwartzSetAfter e rounds a
  member_at_end a is =
      let outcome = (counted.outcome a).0 is in
      subst (λ k. IsInSchwartzSetAfter e k a) (one_number e outcome.rounds rounds outcome.number counted.number) outcome.member

  pub members_are_kept : (a : ℕ) → IsTrue (members a) → IsTrue (kept a)
  members_are_kept a is = (counted.are_kept a).1 (member_at_end a is).kept

  pub members_are_apart : (a b : ℕ) → IsTrue (members a) → IsTrue (members b) → ¬ DefeatStandsAfter e rounds a b
  members_are_apart a b one other = λ stands.
      counted.number.settled a b (record { stands = stands; winner = member_at_end a one; loser = member_at_end b other })

  pub drops_are_inside : (a b : ℕ) → 0 < drop a b → IsInSchwartzSetAfter e (drop a b - 1) a × IsInSchwartzSetAfter e (drop a b - 1) b
  drops_are_inside a b some =
      let dropped = dropped_before e (drop a b) a b ((counted.dropped (drop a b) a b).1 (some, refl)) in
      (dropped.among.winner, dropped.among.loser)

  pub default_is_last : IsTrue (members e.default) ↔ ((a : ℕ) → IsTrue (kept a) → a ≡ e.default)
  default_is_last = (
    λ is a is_kept. (default_in_outcome e).0 ((counted.outcome e.default).0 is) a ((counted.are_kept a).0 is_kept),
    λ only. (counted.outcome e.default).1 ((default_in_outcome e).1 (λ a is_kept. only a ((counted.are_kept a).1 is_kept))),
  )

  pub favourite_is_alone : (a : ℕ) → IsKept e a → ((b : ℕ) → IsKept e b → b ≢ a → Defeats e a b) → (rounds ≡ 0)
      × ((b : ℕ) → IsTrue (members b) ↔ (b ≡ a))
  favourite_is_alone a is_kept beats = (
    one_number e rounds 0 counted.number (favourite_number e a is_kept beats),
    λ b. (
      λ is. (favourite_outcome e a is_kept beats b).0 ((counted.outcome b).0 is),
      λ same. (counted.outcome b).1
          ((favourite_outcome e a is_kept beats b).1 same),
    ),
  )
