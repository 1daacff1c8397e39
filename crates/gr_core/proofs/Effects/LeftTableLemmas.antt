-- The tables that an act leaves as they were: the header, the ballots, unless it puts one, and the roll, unless it is one
-- that changes the roll.
use Rattle.std.proofs.Common.{◌≡◌, ℕ, Bool, true, false, cond, List, [], ◌∷◌, Option, Some, None, refl, ◌∙◌}
use Rattle.gr_core.specs.declared.bookkeeping.Gain.{Gain}
use Rattle.gr_core.specs.declared.bookkeeping.Gain.TheVariants.{Nothing, Introduction, Remedy}
use Rattle.gr_core.specs.declared.choice.ChoiceKey.{ChoiceKey}
use Rattle.gr_core.specs.Parts.Key.{BallotKey}
use Rattle.gr_core.specs.Desks.State.{State}
use Rattle.gr_core.specs.Machine.Bookkeeping.{with_gain, gain_at, becomes_short, shortened}
use Rattle.gr_core.specs.Machine.Map.{changed_at}
use Rattle.gr_core.specs.Machine.Act.{Act, SetDeveloper, ImportRoll, Vote}
use Rattle.gr_core.specs.Laws.MachineLaws.{changes_roll}
use Rattle.gr_core.specs.Machine.Effect.{own, booked, effect, gaining, losing, ballots_put}

-- a part of the state that bookkeeping leaves
abbrev IsLeft : {A : Type 0} → (State → A) → Type 0
IsLeft part = (gaining losing : Option ChoiceKey) (at : ℕ) (s : State) → part (booked gaining losing at s) ≡ part s

-- bookkeeping changes resolutions and choices alone
module _ {A : Type 0} (part : State → A)
    (resolutions : (s : State) (key : ChoiceKey) (at : ℕ) → part (with_gain Introduction s at key) ≡ part s)
    (choices : (s : State) (key : ChoiceKey) (at : ℕ) → part (with_gain Remedy s at key) ≡ part s)
    (short : (s : State) (key : ChoiceKey) (at : ℕ) → part (record s { choices = changed_at s.choices key (shortened at) }) ≡ part s) where
  left-gain : (gain : Gain) (s : State) (at : ℕ) (key : ChoiceKey) → part (with_gain gain s at key) ≡ part s
  left-gain Nothing s at key = refl
  left-gain Introduction s at key = resolutions s key at
  left-gain Remedy s at key = choices s key at

  left-loss : (is : Bool) (s : State) (at : ℕ) (key : ChoiceKey)
      → part (cond is (record s { choices = changed_at s.choices key (shortened at) }) s) ≡ part s
  left-loss true s at key = short s key at
  left-loss false s at key = refl

  pub left-booked : IsLeft part
  left-booked (Some choice) losing at s = left-gain (gain_at s choice) s at choice
  left-booked None (Some choice) at s = left-loss (becomes_short s choice) s at choice
  left-booked None None at s = refl

pub header-booked : IsLeft (λ s. s.header)
header-booked = left-booked (λ s. s.header) (λ s key at. refl) (λ s key at. refl) (λ s key at. refl)

pub developers-booked : IsLeft (λ s. s.developers)
developers-booked = left-booked (λ s. s.developers) (λ s key at. refl) (λ s key at. refl) (λ s key at. refl)

pub sponsors-booked : IsLeft (λ s. s.sponsors)
sponsors-booked = left-booked (λ s. s.sponsors) (λ s key at. refl) (λ s key at. refl) (λ s key at. refl)

pub ballots-booked : IsLeft (λ s. s.ballots)
ballots-booked = left-booked (λ s. s.ballots) (λ s key at. refl) (λ s key at. refl) (λ s key at. refl)

header-own : (s : State) (at : ℕ) (act : Act) → (own s at act).header ≡ s.header
header-own s at (SetDeveloper login name standing) = refl
header-own s at other = refl

-- what an act puts is never the header
pub header-effect : (s : State) (at : ℕ) (act : Act) → (effect s at act).header ≡ s.header
header-effect s at act = header-booked (gaining s act) (losing act) at (own s at act) ∙ header-own s at act

ballots-own : (s : State) (at : ℕ) (act : Act) → ballots_put act ≡ [] → (own s at act).ballots ≡ s.ballots
ballots-own s at (Vote resolution login ranks token) none =
    absurd (let never : ◌≡◌ {A = List BallotKey} ((resolution, login) ∷ []) [] = none in cc)
ballots-own s at other none = refl

-- an act that puts no ballot leaves them
pub ballots-effect : (s : State) (at : ℕ) (act : Act) → ballots_put act ≡ [] → (effect s at act).ballots ≡ s.ballots
ballots-effect s at act none =
    ballots-booked (gaining s act) (losing act) at (own s at act) ∙ ballots-own s at act none

-- an act that is no change of the roll leaves it
developers-own : (s : State) (at : ℕ) (act : Act) → changes_roll act ≡ false → (own s at act).developers ≡ s.developers
developers-own s at (SetDeveloper login name standing) not_roll = absurd (let never : true ≡ false = not_roll in cc)
developers-own s at (ImportRoll rows) not_roll = absurd (let never : true ≡ false = not_roll in cc)
developers-own s at other not_roll = refl

pub developers-effect : (s : State) (at : ℕ) (act : Act) → changes_roll act ≡ false → (effect s at act).developers ≡ s.developers
developers-effect s at act other = developers-booked (gaining s act) (losing act) at (own s at act) ∙ developers-own s at act other
