-- The keys of the tables and their orders: first part first, texts by their bytes (this project's profile).
use Rattle.std.specs.Prelude.{ℕ, List}
use Rattle.std.specs.Ordering.{nat_cmp, ordering_then}
use Rattle.std.specs.declared.cmp.Ordering.{Ordering}
use Rattle.std.specs.Cmp.Lexicographic.{slice_cmp}
use Rattle.gr_core.specs.declared.choice.ChoiceKey.{ChoiceKey}

-- texts in the order of their bytes
abbrev pub text_cmp : List ℕ → List ℕ → Ordering
text_cmp = slice_cmp nat_cmp

-- pairs in the order of their first parts, and then of their second parts
abbrev pub pair_cmp : {A B : Type 0} → (A → A → Ordering) → (B → B → Ordering) → A × B → A × B → Ordering
pair_cmp first second a b = ordering_then (first a.0 b.0) (second a.1 b.1)

abbrev pub choice_cmp : ChoiceKey → ChoiceKey → Ordering
choice_cmp a b = ordering_then (nat_cmp a.resolution b.resolution) (nat_cmp a.number b.number)

-- a sponsor: the choice, and the login
abbrev pub SponsorKey : Type 0
SponsorKey = ChoiceKey × List ℕ

abbrev pub sponsor_cmp : SponsorKey → SponsorKey → Ordering
sponsor_cmp = pair_cmp choice_cmp text_cmp

-- a ballot: the number of the resolution, and the login
abbrev pub BallotKey : Type 0
BallotKey = ℕ × List ℕ

abbrev pub ballot_cmp : BallotKey → BallotKey → Ordering
ballot_cmp = pair_cmp nat_cmp text_cmp
