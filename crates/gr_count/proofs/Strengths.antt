-- The least of some strengths.
use Rattle.std.proofs.Common.{◌≡◌, ℕ, ◌+◌, ◌<◌, ◌≢◌, ◌⊎◌, Option, Some, None, sym, ◌∙◌, subst, inl, inr, arith, refl}
use Rattle.std.specs.Prelude.{IfSome}
use Rattle.gr_count.specs.declared.strength.Strength.{Strength}
use Rattle.std.proofs.lemmas.Bool.{cases_eq}
use Rattle.gr_count.specs.declared.relation.Relation.{Relation}
use Rattle.gr_count.specs.declared.options.OptionSet.{OptionSet}
use Rattle.gr_count.specs.Options.{IsTakenOut, Member, Related}
use Rattle.gr_count.specs.Strength.{IsWeaker, IsWeakerOf, IsWeakest, IsLeastOf, IsStrengthIn, IsStrengthOver, strength_of}

-- not weaker than what is not weaker
pub not_weaker_trans : (s t u : Strength) → (¬ IsWeaker s t) → (¬ IsWeaker t u) → ¬ IsWeaker s u
not_weaker_trans s t u st tu = λ su. grind (arith, st, tu, su)

pub not_weaker_self : (s : Strength) → ¬ IsWeaker s s
not_weaker_self s = λ h. grind (arith, h)

-- the least of the same strengths
pub IsLeastOf-map : (P Q : Strength → Type 0) (o : Option Strength) → ((s : Strength) → P s → Q s) → ((s : Strength) → Q s → P s) → IsLeastOf P o
    → IsLeastOf Q o
IsLeastOf-map P Q None there back least = λ s q. least s (back s q)
IsLeastOf-map P Q (Some m) there back least = (there m least.0, λ s q. least.1 s (back s q))

pub IsLeastOf-one : (m : Strength) → IsLeastOf (λ s. s ≡ m) (Some m)
IsLeastOf-one m = (refl, λ s is. subst (λ x. ¬ IsWeaker x m) (sym is) (not_weaker_self m))

from_one : (P : Strength → Type 0) (o : Option Strength) (w : Strength) → IsLeastOf P o → o ≡ Some w → P w
from_one P None w least is = cc
from_one P (Some m) w least is = let same : m ≡ w = cc in subst P same least.0

above_one : (P : Strength → Type 0) (o : Option Strength) (w s : Strength) → IsLeastOf P o → IfSome o (λ m. ¬ IsWeaker m w) → P s → ¬ IsWeaker s w
above_one P None w s least not_weaker p = absurd (least s p)
above_one P (Some m) w s least not_weaker p = not_weaker_trans s m w (least.1 s p) not_weaker

none_of : (P : Strength → Type 0) (o : Option Strength) → o ≡ None → IsLeastOf P o → (s : Strength) → ¬ P s
none_of P None is least = least
none_of P (Some m) is least = cc

-- the least of two kinds of strengths together
pub IsLeastOf-both : (P Q : Strength → Type 0) (one other result : Option Strength) → IsLeastOf P one → IsLeastOf Q other
    → IsWeakerOf one other result → IsLeastOf (λ s. P s ⊎ Q s) result
IsLeastOf-both P Q one other None first second is =
    λ s either. elim either as (λ _. ⊥) [ inl p ↦ none_of P one is.0 first s p | inr q ↦ none_of Q other is.1 second s q ]
IsLeastOf-both P Q one other (Some w) first second is = (
  elim is.0 as (λ _. P w ⊎ Q w) [ inl e ↦ inl (from_one P one w first e) | inr e ↦ inr (from_one Q other w second e) ],
  λ s either. elim either as (λ _. ¬ IsWeaker s w) [ inl p ↦ above_one P one w s first is.1 p | inr q ↦ above_one Q other w s second is.2 q ],
)

-- what is left after a member that was taken out was there before
pub still_left : (rest fewer : OptionSet) (i : ℕ) → IsTakenOut rest fewer i → (b : ℕ) → Member fewer b → Member rest b
still_left rest fewer i taken b member =
    sym (taken.others b (λ same. taken.gone (subst (Member fewer) same member))) ∙ member

module _ (V : ℕ → ℕ → ℕ) (a : ℕ) (losers : OptionSet) where
  -- the strengths over the options that are not left
  abbrev pub IsStrengthSoFar : OptionSet → Strength → Type 0
  IsStrengthSoFar rest = IsStrengthOver V a (λ b. Member losers b × (¬ Member rest b))

  -- all are left
  pub row_begins : IsLeastOf (IsStrengthSoFar losers) None
  row_begins = λ s over. over.among.1 over.among.0

  -- one more is looked at
  pub row_goes_on : (rest fewer : OptionSet) (i : ℕ) (least next : Option Strength) → IsLeastOf (IsStrengthSoFar rest) least → Member losers i
      → IsTakenOut rest fewer i → IsWeakerOf least (Some (strength_of V a i)) next → IsLeastOf (IsStrengthSoFar fewer) next
  row_goes_on rest fewer i least next so_far member taken weaker =
      IsLeastOf-map (λ s. IsStrengthSoFar rest s ⊎ (s ≡ strength_of V a i)) (IsStrengthSoFar fewer) next
      (λ s either. elim either as (λ _. IsStrengthSoFar fewer s) [
        | inl over ↦
            let other : over.loser ≢ i = λ same. over.among.1 (subst (Member rest) (sym same) taken.had) in
            record {
              loser = over.loser;
              among = (over.among.0, λ is. over.among.1 (sym (taken.others over.loser other) ∙ is));
              is = over.is;
            }
        | inr is ↦ record { loser = i; among = (member, taken.gone); is = is }
      ])
      (λ s over. elim (cases_eq over.loser i) as (λ _. IsStrengthSoFar rest s ⊎ (s ≡ strength_of V a i)) [
        | inl same ↦ inr (subst (λ x. s ≡ strength_of V a x) same over.is)
        | inr other ↦ inl (record {
          loser = over.loser;
          among = (over.among.0, λ is. over.among.1 (taken.others over.loser other ∙ is));
          is = over.is;
        })
      ])
      (IsLeastOf-both (IsStrengthSoFar rest) (λ s. s ≡ strength_of V a i) least (Some (strength_of V a i)) next so_far
      (IsLeastOf-one (strength_of V a i)) weaker)

  -- none is left
  pub row_ends : (rest : OptionSet) (least : Option Strength) → IsLeastOf (IsStrengthSoFar rest) least → ((b : ℕ) → ¬ Member rest b)
      → IsLeastOf (IsStrengthOver V a (Member losers)) least
  row_ends rest least so_far none =
      IsLeastOf-map (IsStrengthSoFar rest) (IsStrengthOver V a (Member losers)) least
      (λ s over. record { loser = over.loser; among = over.among.0; is = over.is })
      (λ s over. record { loser = over.loser; among = (over.among, none over.loser); is = over.is }) so_far

module _ (V : ℕ → ℕ → ℕ) (defeats : Relation) where
  -- the defeats by the next option
  pub all_more : (i : ℕ) (o q r : Option Strength) → IsLeastOf (IsStrengthIn V defeats i) o
      → IsLeastOf (IsStrengthOver V i (Related defeats i)) q → IsWeakerOf o q r → IsLeastOf (IsStrengthIn V defeats (i + 1)) r
  all_more i o q r least row weaker =
      IsLeastOf-map (λ s. IsStrengthIn V defeats i s ⊎ IsStrengthOver V i (Related defeats i) s) (IsStrengthIn V defeats (i + 1)) r
      (λ s either. elim either as (λ _. IsStrengthIn V defeats (i + 1) s) [
        | inl among ↦ record {
          winner = among.winner;
          loser = among.loser;
          below = let h : among.winner < i = among.below in omega arith;
          stands = among.stands;
          is = among.is;
        }
        | inr over ↦ record { winner = i; loser = over.loser; below = omega arith; stands = over.among; is = over.is }
      ])
      (λ s among.
      let h : among.winner < i + 1 = among.below in
      elim (cases_eq among.winner i) as (λ _. IsStrengthIn V defeats i s ⊎ IsStrengthOver V i (Related defeats i) s) [
        | inl same ↦ inr (record {
          loser = among.loser;
          among = subst (λ x. Related defeats x among.loser) same among.stands;
          is = subst (λ x. s ≡ strength_of V x among.loser) same among.is;
        })
        | inr other ↦ inl (record { winner = among.winner; loser = among.loser; below = omega arith; stands = among.stands; is = among.is })
      ])
      (IsLeastOf-both (IsStrengthIn V defeats i) (IsStrengthOver V i (Related defeats i)) o q r least row weaker)

  -- a defeat is a weakest one where it is not stronger than the least strength
  pub weakest_from_least : (n : ℕ) (m : Strength) → ((a b : ℕ) → Related defeats a b → a < n) → IsLeastOf (IsStrengthIn V defeats n) (Some m)
      → (a b : ℕ) → Related defeats a b → (¬ IsWeaker m (strength_of V a b)) → IsWeakest V (Related defeats) a b
  weakest_from_least n m below least a b stands not_weaker = record {
    among = stands;
    none_weaker = λ x y is. not_weaker_trans (strength_of V x y) m (strength_of V a b)
        (least.1 (strength_of V x y) (record { winner = x; loser = y; below = below x y is; stands = is; is = refl })) not_weaker;
  }

  pub least_from_weakest : (n : ℕ) (m : Strength) → IsLeastOf (IsStrengthIn V defeats n) (Some m) → (a b : ℕ) → IsWeakest V (Related defeats) a b
      → ¬ IsWeaker m (strength_of V a b)
  least_from_weakest n m least a b weakest =
      subst (λ s. ¬ IsWeaker s (strength_of V a b)) (sym least.0.is) (weakest.none_weaker least.0.winner least.0.loser least.0.stands)
