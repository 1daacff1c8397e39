-- The defeats that stand round after round.
use Rattle.std.proofs.Common.{◌≡◌, ℕ, zero, suc, ◌+◌, ◌*◌, ◌<◌, ◌≤◌, ◌↔◌, Bool, true, false, cond, inl, inr, refl, sym, ◌∙◌, ap, subst, arith, add-one}
use Rattle.std.specs.Prelude.{IsTrue}
use Rattle.std.proofs.lemmas.Bool.{cases_lt, cases_eq, false≢true}
use Rattle.gr_count.specs.declared.options.OptionSet.{OptionSet}
use Rattle.gr_count.specs.declared.relation.Relation.{Relation}
use Rattle.gr_count.specs.declared.numbers.PairNumbers.{PairNumbers}
use Rattle.gr_count.specs.Election.{Election, IsKept, Defeats}
use Rattle.gr_count.specs.Options.{Member, Related, IsRelationBelow, has, relates, number_at}
use Rattle.gr_count.specs.Schwartz.{IsInSchwartzSet, IsInnerDefeat}
use Rattle.gr_count.specs.Strength.{IsWeakest}
use Rattle.gr_count.specs.Rounds.{IsDropped, IsDroppedIn, DefeatStandsAfter, IsInSchwartzSetAfter, IsSettledAfter, IsNumberOfRounds, IsInOutcome}
use Rattle.gr_count.proofs.PairSizes.{pairs_below, pairs_below-le, pairs_below-more}
use Rattle.gr_count.proofs.SchwartzSets.{IsInSchwartzSet-map, IsInnerDefeat-map, IsWeakest-map}

module _ (e : Election) where
  -- a defeat that stands was one from the first
  pub stood_before : (k a b : ℕ) → DefeatStandsAfter e k a b → Defeats e a b
  stood_before zero a b stands = stands
  stood_before (suc k) a b stands = stood_before k a b stands.0

  -- a defeat that a round dropped stands no more
  pub dropped_for_good : (j k a b : ℕ) → j < k → IsDropped e (DefeatStandsAfter e j) a b → ¬ DefeatStandsAfter e k a b
  dropped_for_good j zero a b before dropped = λ _. omega arith
  dropped_for_good j (suc k) a b before dropped = λ stands.
      elim (cases_eq j k) as (λ _. ⊥) [
        | inl same ↦ stands.1 (subst (λ x. IsDropped e (DefeatStandsAfter e x) a b) same dropped)
        | inr other ↦ dropped_for_good j k a b (omega arith) dropped stands.0
      ]

  -- where the same defeats stand, those inside the Schwartz set are the same
  inner_before : (k j : ℕ) → ((x y : ℕ) → DefeatStandsAfter e k x y ↔ DefeatStandsAfter e j x y) → (a b : ℕ)
      → IsInnerDefeat (IsKept e) (DefeatStandsAfter e j) a b
      → IsInnerDefeat (IsKept e) (DefeatStandsAfter e k) a b
  inner_before k j same =
      IsInnerDefeat-map (IsKept e) (IsKept e) (DefeatStandsAfter e j) (DefeatStandsAfter e k) (λ x. (λ is. is, λ is. is)) (λ x y. ((same x y).1, (same x y).0))

  -- once there is no defeat inside the Schwartz set, nothing changes any more
  stays : (k j : ℕ) → IsSettledAfter e k → k ≤ j → (a b : ℕ) → DefeatStandsAfter e k a b ↔ DefeatStandsAfter e j a b
  stays k zero settled later a b =
      let same : k ≡ 0 = omega arith in
      (subst (λ x. DefeatStandsAfter e x a b) same, subst (λ x. DefeatStandsAfter e x a b) (sym same))
  stays k (suc j) settled later a b =
      elim (cases_eq k (suc j)) as (λ _. DefeatStandsAfter e k a b ↔ DefeatStandsAfter e (suc j) a b) [
        | inl same ↦ (subst (λ x. DefeatStandsAfter e x a b) same, subst (λ x. DefeatStandsAfter e x a b) (sym same))
        | inr other ↦
            let before : (x y : ℕ) → DefeatStandsAfter e k x y ↔ DefeatStandsAfter e j x y = stays k j settled (omega arith) in (
              λ stands. ((before a b).0 stands, λ dropped. settled a b (inner_before k j before a b dropped.among)),
              λ stands. (before a b).1 stands.0,
            )
      ]

  pub settled_later : (k j : ℕ) → IsSettledAfter e k → k ≤ j → IsSettledAfter e j
  settled_later k j settled later a b inner =
      let same : (x y : ℕ) → DefeatStandsAfter e k x y ↔ DefeatStandsAfter e j x y = stays k j settled later in
      settled a b (inner_before k j same a b inner)

  -- there is one number of rounds
  pub one_number : (j k : ℕ) → IsNumberOfRounds e j → IsNumberOfRounds e k → j ≡ k
  one_number j k one other =
      let low : j ≤ k = one.least k other.settled in
      let high : k ≤ j = other.least j one.settled in
      omega arith

-- after so many rounds these defeats stand, and each other one is noted with the round that dropped it
pub record IsStandingAfter (e : Election) (n : ℕ) (defeats : Relation) (dropped : PairNumbers) (rounds : ℕ) : Type 0 where
  pub standing : (a b : ℕ) → Related defeats a b ↔ DefeatStandsAfter e rounds a b
  pub below : IsRelationBelow n defeats
  pub noted : (j a b : ℕ) → (number_at dropped a b ≡ suc j) ↔ ((j < rounds) × IsDropped e (DefeatStandsAfter e j) a b)
  pub unsettled : (j : ℕ) → j < rounds → ¬ IsSettledAfter e j
  pub room : rounds + pairs_below n n (relates defeats) ≤ n * n

-- before any round
pub IsStandingAfter-none : (e : Election) (n : ℕ) (defeats : Relation) (dropped : PairNumbers) → ((a b : ℕ) → Related defeats a b ↔ Defeats e a b)
    → IsRelationBelow n defeats → ((a b : ℕ) → number_at dropped a b ≡ 0) → IsStandingAfter e n defeats dropped 0
IsStandingAfter-none e n defeats dropped standing below none = record {
  standing = standing;
  below = below;
  noted = λ j a b. (λ is. absurd (omega (arith, none a b)), λ is. absurd (let h : j < 0 = is.0 in omega arith));
  unsettled = λ j h. absurd (omega arith);
  room = omega (arith, pairs_below-le n n (relates defeats));
}

-- no number of a round is past the last
pub noted_at_most : (e : Election) (n : ℕ) (defeats : Relation) (dropped : PairNumbers) (rounds : ℕ) → IsStandingAfter e n defeats dropped rounds
    → (a b : ℕ) → number_at dropped a b ≤ rounds
noted_at_most e n defeats dropped rounds now a b =
    elim (number_at dropped a b) as (λ k. number_at dropped a b ≡ k → k ≤ rounds) [
      | zero ↦ λ _. omega arith
      | suc j ↦ λ is. let before : j < rounds = ((now.noted j a b).0 is).0 in omega arith
    ] refl

-- a count that is that of the definitions
pub record IsCounted (e : Election) (kept members : ℕ → Bool) (drop : ℕ → ℕ → ℕ) (rounds : ℕ) : Type 0 where
  pub are_kept : (a : ℕ) → IsTrue (kept a) ↔ IsKept e a
  pub number : IsNumberOfRounds e rounds
  pub dropped : (round a b : ℕ) → IsDroppedIn e round a b ↔ ((0 < round) × (drop a b ≡ round))
  pub outcome : (a : ℕ) → IsTrue (members a) ↔ IsInOutcome e a

module _ (e : Election) (n : ℕ) (kept : OptionSet) (defeats : Relation) (dropped : PairNumbers) (rounds : ℕ)
    (now : IsStandingAfter e n defeats dropped rounds) (are_kept : (a : ℕ) → Member kept a ↔ IsKept e a)
    (members : OptionSet) (are_members : (a : ℕ) → Member members a ↔ IsInSchwartzSet (Member kept) (Related defeats) a)
    (inner : Relation) (are_inner : (a b : ℕ) → Related inner a b ↔ (Related defeats a b × Member members a × Member members b)) where
  -- the members are the Schwartz set after these rounds
  member_after : (a : ℕ) → Member members a ↔ IsInSchwartzSetAfter e rounds a
  member_after a = (
    λ is. IsInSchwartzSet-map (Member kept) (IsKept e) (Related defeats) (DefeatStandsAfter e rounds) are_kept now.standing a ((are_members a).0 is),
    λ is. (are_members a).1
        (IsInSchwartzSet-map (IsKept e) (Member kept) (DefeatStandsAfter e rounds) (Related defeats) (λ x. ((are_kept x).1, (are_kept x).0))
        (λ x y. ((now.standing x y).1, (now.standing x y).0)) a is),
  )

  -- and these are the defeats inside it
  inner_after : (a b : ℕ) → Related inner a b ↔ IsInnerDefeat (IsKept e) (DefeatStandsAfter e rounds) a b
  inner_after a b = (
    λ is.
        let h = (are_inner a b).0 is in
        record { stands = (now.standing a b).0 h.0; winner = (member_after a).0 h.1; loser = (member_after b).0 h.2 },
    λ is. (are_inner a b).1 ((now.standing a b).1 is.stands, (member_after a).1 is.winner, (member_after b).1 is.loser),
  )

  -- where there is none the rounds are over
  number_of_rounds : ((a b : ℕ) → ¬ Related inner a b) → IsNumberOfRounds e rounds
  number_of_rounds none = record {
    settled = λ a b is. none a b ((inner_after a b).1 is);
    least = λ j settled. elim (cases_lt j rounds) as (λ _. rounds ≤ j) [ inl before ↦ absurd (now.unsettled j before settled) | inr later ↦ later ];
  }

  outcome_after : ((a b : ℕ) → ¬ Related inner a b) → (a : ℕ) → Member members a ↔ IsInOutcome e a
  outcome_after none a = (
    λ is. record { rounds = rounds; number = number_of_rounds none; member = (member_after a).0 is },
    λ is. (member_after a).1 (subst (λ k. IsInSchwartzSetAfter e k a) (one_number e is.rounds rounds is.number (number_of_rounds none)) is.member),
  )

  noted_round : ((a b : ℕ) → ¬ Related inner a b) → (j a b : ℕ) → (number_at dropped a b ≡ suc j) ↔ IsDropped e (DefeatStandsAfter e j) a b
  noted_round none j a b = (
    λ is. ((now.noted j a b).0 is).1,
    λ is. (now.noted j a b).1 (
      elim (cases_lt j rounds) as (λ _. j < rounds)
          [ inl before ↦ before | inr later ↦ absurd (settled_later e rounds j (number_of_rounds none).settled later a b is.among) ],
      is,
    ),
  )

  noted_after : ((a b : ℕ) → ¬ Related inner a b) → (round a b : ℕ) → IsDroppedIn e round a b ↔ ((0 < round) × (number_at dropped a b ≡ round))
  noted_after none zero a b = (λ never. absurd never, λ is. absurd (let h : 0 < 0 = is.0 in omega arith))
  noted_after none (suc j) a b = (λ is. (omega arith, (noted_round none j a b).1 is), λ is. (noted_round none j a b).0 is.1)

  -- and the count is that of the definitions
  pub counted : ((a b : ℕ) → ¬ Related inner a b) → IsCounted e (has kept) (has members) (number_at dropped) rounds
  counted none = record {
    are_kept = are_kept;
    number = number_of_rounds none;
    dropped = noted_after none;
    outcome = outcome_after none;
  }

  module _ (weakest : Relation) (are_weakest : (a b : ℕ) → Related weakest a b ↔ IsWeakest e.preference (Related inner) a b)
      (some : (a : ℕ) × (b : ℕ) × Related weakest a b)
      (left : Relation) (are_left : (a b : ℕ) → Related left a b ↔ (Related defeats a b × (¬ Related weakest a b)))
      (left_below : IsRelationBelow n left)
      (noted : PairNumbers) (are_noted : (a b : ℕ) → number_at noted a b ≡ cond (relates weakest a b) (suc rounds) (number_at dropped a b)) where
    -- the weakest are those that the round drops
    dropped_now : (a b : ℕ) → Related weakest a b ↔ IsDropped e (DefeatStandsAfter e rounds) a b
    dropped_now a b = (
      λ is. IsWeakest-map e.preference (Related inner) (IsInnerDefeat (IsKept e) (DefeatStandsAfter e rounds)) (λ x y. (inner_after x y).0)
          (λ x y. (inner_after x y).1) a b ((are_weakest a b).0 is),
      λ is. (are_weakest a b).1
          (IsWeakest-map e.preference (IsInnerDefeat (IsKept e) (DefeatStandsAfter e rounds)) (Related inner) (λ x y. (inner_after x y).1)
          (λ x y. (inner_after x y).0) a b is),
    )

    stands_next : (a b : ℕ) → Related left a b ↔ DefeatStandsAfter e (suc rounds) a b
    stands_next a b = (
      λ is. let h = (are_left a b).0 is in ((now.standing a b).0 h.0, λ dropped. h.1 ((dropped_now a b).1 dropped)),
      λ is. (are_left a b).1 ((now.standing a b).1 is.0, λ weakest. is.1 ((dropped_now a b).0 weakest)),
    )

    noted_dropped : (j a b : ℕ) → relates weakest a b ≡ true → (number_at noted a b ≡ suc j) ↔ ((j < suc rounds) × IsDropped e (DefeatStandsAfter e j) a b)
    noted_dropped j a b is =
        let this : number_at noted a b ≡ suc rounds = are_noted a b ∙ ap (λ t. cond t (suc rounds) (number_at dropped a b)) is in
        let drop : IsDropped e (DefeatStandsAfter e rounds) a b = (dropped_now a b).0 is in (
          λ same. let here : rounds ≡ j = omega arith in (omega arith, subst (λ x. IsDropped e (DefeatStandsAfter e x) a b) here drop),
          λ other. elim (cases_eq j rounds) as (λ _. number_at noted a b ≡ suc j) [
            | inl same ↦ omega arith
            | inr before ↦ absurd (dropped_for_good e j rounds a b (let h : j < suc rounds = other.0 in omega arith) other.1 drop.among.stands)
          ],
        )

    noted_before : (j a b : ℕ) → relates weakest a b ≡ false → (number_at noted a b ≡ suc j) ↔ ((j < suc rounds) × IsDropped e (DefeatStandsAfter e j) a b)
    noted_before j a b is =
        let this : number_at noted a b ≡ number_at dropped a b = are_noted a b ∙ ap (λ t. cond t (suc rounds) (number_at dropped a b)) is in (
          λ same. let before = (now.noted j a b).0 (sym this ∙ same) in (let h : j < rounds = before.0 in omega arith, before.1),
          λ other. elim (cases_eq j rounds) as (λ _. number_at noted a b ≡ suc j) [
            | inl same ↦ absurd (false≢true (sym is ∙ (dropped_now a b).1 (subst (λ x. IsDropped e (DefeatStandsAfter e x) a b) same other.1)))
            | inr before ↦ this ∙ (now.noted j a b).1 (let h : j < suc rounds = other.0 in omega arith, other.1)
          ],
        )

    noted_next : (j a b : ℕ) → (number_at noted a b ≡ suc j) ↔ ((j < suc rounds) × IsDropped e (DefeatStandsAfter e j) a b)
    noted_next j a b =
        elim (relates weakest a b) as (λ t. relates weakest a b ≡ t → (number_at noted a b ≡ suc j)
        ↔ ((j < suc rounds) × IsDropped e (DefeatStandsAfter e j) a b)) [
          | true ↦ noted_dropped j a b
          | false ↦ noted_before j a b
        ] refl

    unsettled_next : (j : ℕ) → j < suc rounds → ¬ IsSettledAfter e j
    unsettled_next j before =
        elim (cases_eq j rounds) as (λ _. ¬ IsSettledAfter e j) [
          | inl same ↦ λ settled. settled some.0 some.1
              (subst (λ x. IsInnerDefeat (IsKept e) (DefeatStandsAfter e x) some.0 some.1) (sym same) ((dropped_now some.0 some.1).0 some.2).among)
          | inr other ↦ now.unsettled j (omega arith)
        ]

    fewer : pairs_below n n (relates left) < pairs_below n n (relates defeats)
    fewer =
        let inside : IsDropped e (DefeatStandsAfter e rounds) some.0 some.1 = (dropped_now some.0 some.1).0 some.2 in
        let stood : Related defeats some.0 some.1 = (now.standing some.0 some.1).1 inside.among.stands in
        let gone : relates left some.0 some.1 ≡ false
        = elim (relates left some.0 some.1) as (λ t. relates left some.0 some.1 ≡ t → t ≡ false) [
          | true ↦ λ is. absurd (((are_left some.0 some.1).0 is).1 some.2)
          | false ↦ λ _. refl
        ] refl in
        pairs_below-more n n (relates left) (relates defeats) (λ a b is. ((are_left a b).0 is).0) some.0 some.1 (now.below some.0 some.1 stood).0
        (now.below some.0 some.1 stood).1 gone stood

    -- one round more
    next_round : IsStandingAfter e n left noted (rounds + 1)
    next_round = subst (IsStandingAfter e n left noted) (sym (add-one rounds)) (record {
      standing = stands_next;
      below = left_below;
      noted = noted_next;
      unsettled = unsettled_next;
      room = let room : rounds + pairs_below n n (relates defeats) ≤ n * n = now.room in omega (arith, fewer);
    })

    -- it has fewer defeats
    pub another_round : (pairs_below n n (relates left) < pairs_below n n (relates defeats)) × IsStandingAfter e n left noted (rounds + 1)
    another_round = (fewer, next_round)
