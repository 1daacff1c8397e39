-- Ballots added up. Constitution, A.5.3.1.
use Rattle.std.specs.Prelude.{◌≡◌, ◌≢◌, ℕ, ◌+◌, ◌<◌, ◌≤◌, IsTrue, List, [], ◌∷◌, if◌then◌else◌}
use Rattle.std.specs.FinMap.{len}
use Rattle.gr_count.specs.declared.mark.Mark.{Mark}
use Rattle.gr_count.specs.declared.pairs.Pairs.{Pairs}
use Rattle.gr_count.specs.Ballot.{Vote, prefers, preference_count}
use Rattle.gr_count.specs.Shown.{ballots_in, options_of_pairs, voters_above}

-- the pairs are those of the vote: as many ballots as voters, and each preference count
pub record IsPairwiseCountOf (pairs : Pairs) (vote : Vote) : Type 0 where
  pub ballots : ballots_in pairs ≡ len vote
  pub counts : (a b : ℕ) → voters_above pairs a b ≡ preference_count vote a b

-- A ballot with these marks was added: there is one ballot more, and one voter more exactly where it prefers an option
-- to another.
pub record AddsBallot (marks : List Mark) (old new : Pairs) : Type 0 where
  pub options : options_of_pairs new ≡ options_of_pairs old
  pub ballots : ballots_in new ≡ ballots_in old + 1
  pub counts : (a b : ℕ) → voters_above new a b ≡ voters_above old a b + (if prefers marks a b then 1 else 0)

-- ballots with these marks were added, one after another
abbrev pub AddsBallots : List (List Mark) → Pairs → Pairs → Type 0
AddsBallots [] old new = new ≡ old
AddsBallots (marks ∷ others) old new = (next : Pairs) × AddsBallot marks old next × AddsBallots others next new

-- the one pairs count what the other ones do
pub record IsSamePairwiseCount (one other : Pairs) : Type 0 where
  pub options : options_of_pairs one ≡ options_of_pairs other
  pub ballots : ballots_in one ≡ ballots_in other
  pub counts : (a b : ℕ) → voters_above one a b ≡ voters_above other a b

-- Of these two options, the pairs may have counted a ballot with these marks: there is a voter who prefers as it does,
-- and where it leaves both level, a voter who does too.
abbrev pub HoldsPair : List Mark → Pairs → ℕ → ℕ → Type 0
HoldsPair marks pairs a b =
    (IsTrue (prefers marks a b) → 1 ≤ voters_above pairs a b)
    × (a ≢ b → ¬ IsTrue (prefers marks a b) → ¬ IsTrue (prefers marks b a)
    → voters_above pairs a b + voters_above pairs b a < ballots_in pairs)

-- the pairs may have counted a ballot with these marks, as far as numbers tell
pub record HoldsBallot (marks : List Mark) (pairs : Pairs) : Type 0 where
  pub some : 1 ≤ ballots_in pairs
  pub each : (a b : ℕ) → a < options_of_pairs pairs → b < options_of_pairs pairs → HoldsPair marks pairs a b
