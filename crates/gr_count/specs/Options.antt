-- Sets of options, relations between options and numbers of them, as the program keeps them.
use Rattle.std.specs.Prelude.{◌≡◌, ◌≢◌, ℕ, ◌<◌, Bool, ◌==◌, IsTrue, List, [], slice_index, slice_index_or}
use Rattle.std.specs.Int.{bit_at}
use Rattle.std.specs.List.{count_by, range_with_len}
use Rattle.gr_count.specs.declared.options.OptionSet.{OptionSet}
use Rattle.gr_count.specs.declared.relation.Relation.{Relation}
use Rattle.gr_count.specs.declared.numbers.OptionNumbers.{OptionNumbers}
use Rattle.gr_count.specs.declared.numbers.PairNumbers.{PairNumbers}

-- the set has this option: the bit of its number is 1
abbrev pub has : OptionSet → ℕ → Bool
has set option = bit_at set.members option == 1

-- the options that this one is related to
abbrev pub related_to : Relation → ℕ → OptionSet
related_to relation a = slice_index_or relation.rows a (record { members = 0 })

-- the relation has this pair of options
abbrev pub relates : Relation → ℕ → ℕ → Bool
relates relation a b = has (related_to relation a) b

-- the same as a set and as a relation of the definitions
abbrev pub Member : OptionSet → ℕ → Type 0
Member set option = IsTrue (has set option)

abbrev pub Related : Relation → ℕ → ℕ → Type 0
Related relation a b = IsTrue (relates relation a b)

-- the set loses this option, which it had, and keeps the others
pub record IsTakenOut (old new : OptionSet) (option : ℕ) : Type 0 where
  pub had : Member old option
  pub gone : ¬ Member new option
  pub others : (a : ℕ) → a ≢ option → has new a ≡ has old a

-- the options of a vote with so many, in their order
abbrev pub options_below : ℕ → List ℕ
options_below n = range_with_len 0 n

-- how many of these options are in a set
abbrev pub size_below : ℕ → (ℕ → Bool) → ℕ
size_below n is_in = count_by is_in (options_below n)

-- the number of an option, and of a pair of options; 0 for what is no option
abbrev pub number_of : OptionNumbers → ℕ → ℕ
number_of numbers option = slice_index numbers.numbers option

abbrev pub number_at : PairNumbers → ℕ → ℕ → ℕ
number_at numbers a b = number_of (slice_index_or numbers.rows a (record { numbers = [] })) b

-- a set, a relation and numbers of the options below n
abbrev pub IsSetBelow : ℕ → OptionSet → Type 0
IsSetBelow n set = (a : ℕ) → Member set a → a < n

abbrev pub IsRelationBelow : ℕ → Relation → Type 0
IsRelationBelow n relation = (a b : ℕ) → Related relation a b → (a < n) × (b < n)

abbrev pub AreNumbersBelow : ℕ → PairNumbers → Type 0
AreNumbersBelow n numbers = (a b : ℕ) → 0 < number_at numbers a b → (a < n) × (b < n)
