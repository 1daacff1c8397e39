-- Schwartz sets, and the defeats inside them, under other names of the same options and defeats.
use Rattle.std.proofs.Common.{◌≡◌, ℕ, ◌<◌, ◌⊎◌, ◌↔◌, true, false, sym, ◌∙◌, refl, inl, inr}
use Rattle.std.proofs.lemmas.Bool.{false≢true}
use Rattle.gr_count.specs.declared.options.OptionSet.{OptionSet}
use Rattle.gr_count.specs.declared.relation.Relation.{Relation}
use Rattle.gr_count.specs.Options.{Member, Related, has, relates}
use Rattle.gr_count.specs.Path.{TransitivelyDefeats}
use Rattle.gr_count.specs.Schwartz.{IsInSchwartzSet, IsInnerDefeat}
use Rattle.gr_count.specs.Strength.{IsWeakest}
use Rattle.gr_count.proofs.Paths.{transitively-map, two_paths}
use Rattle.gr_count.proofs.Maximal.{maximal}

module _ (kept : OptionSet) (defeats beats : Relation) (closed : (a c : ℕ) → Related beats a c ↔ TransitivelyDefeats (Related defeats) a c) where
  pub schwartz_from_test : (a : ℕ) → Member kept a → ((b : ℕ) → Member kept b → Related beats b a → Related beats a b)
      → IsInSchwartzSet (Member kept) (Related defeats) a
  schwartz_from_test a is_kept back = record {
    kept = is_kept;
    against_each = λ b kept_b.
        elim (relates beats b a) as (λ t. relates beats b a ≡ t → TransitivelyDefeats (Related defeats) a b
        ⊎ (¬ TransitivelyDefeats (Related defeats) b a)) [
          | true ↦ λ beaten. inl ((closed a b).0 (back b kept_b beaten))
          | false ↦ λ not_beaten. inr (λ way. false≢true (sym not_beaten ∙ (closed b a).1 way))
        ] refl;
  }

  pub test_from_schwartz : (a : ℕ) → IsInSchwartzSet (Member kept) (Related defeats) a → (b : ℕ) → Member kept b → Related beats b a
      → Related beats a b
  test_from_schwartz a member b kept_b beaten =
      elim (member.against_each b kept_b) as (λ _. Related beats a b) [
        | inl way ↦ (closed a b).1 way
        | inr none ↦ absurd (none ((closed b a).0 beaten))
      ]

  -- where an option is kept, one is in the set
  pub schwartz_not_empty : (n k : ℕ) → k < n → Member kept k → ((b : ℕ) → Member kept b → b < n) → (m : ℕ) × (m < n)
      × IsInSchwartzSet (Member kept) (Related defeats) m
  schwartz_not_empty n k inside is_kept below =
      let joins : (a b c : ℕ) → relates beats a b ≡ true → relates beats b c ≡ true → relates beats a c ≡ true
      = λ a b c one other. (closed a c).1 (two_paths (Related defeats) a b c ((closed a b).0 one) ((closed b c).0 other)) in
      let m = maximal n (has kept) (relates beats) joins k inside is_kept in
      (m.0, m.1.inside, schwartz_from_test m.0 m.1.is_kept (λ b kept_b. m.1.beats_back b (below b kept_b) kept_b))

module _ (K L : ℕ → Type 0) (R S : ℕ → ℕ → Type 0) (kl : (a : ℕ) → K a ↔ L a) (rs : (a b : ℕ) → R a b ↔ S a b) where
  pub IsInSchwartzSet-map : (a : ℕ) → IsInSchwartzSet K R a → IsInSchwartzSet L S a
  IsInSchwartzSet-map a member = record {
    kept = (kl a).0 member.kept;
    against_each = λ b kept_b.
        elim (member.against_each b ((kl b).1 kept_b)) as (λ _. TransitivelyDefeats S a b ⊎ (¬ TransitivelyDefeats S b a)) [
          | inl way ↦ inl (transitively-map R S (λ x y. (rs x y).0) a b way)
          | inr none ↦ inr (λ way. none (transitively-map S R (λ x y. (rs x y).1) b a way))
        ];
  }

  pub IsInnerDefeat-map : (a b : ℕ) → IsInnerDefeat K R a b → IsInnerDefeat L S a b
  IsInnerDefeat-map a b inner = record {
    stands = (rs a b).0 inner.stands;
    winner = IsInSchwartzSet-map a inner.winner;
    loser = IsInSchwartzSet-map b inner.loser;
  }

-- a weakest of some defeats is one of the same defeats
pub IsWeakest-map : (V : ℕ → ℕ → ℕ) (R S : ℕ → ℕ → Type 0) → ((a b : ℕ) → R a b → S a b) → ((a b : ℕ) → S a b → R a b) → (a b : ℕ)
    → IsWeakest V R a b → IsWeakest V S a b
IsWeakest-map V R S there back a b weakest = record {
  among = there a b weakest.among;
  none_weaker = λ x y is. weakest.none_weaker x y (back x y is);
}
