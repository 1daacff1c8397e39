-- Ballots and votes. Constitution, A.5.1 and A.5.3.1; the characters of a ballot are this project's profile.
use Rattle.std.specs.Prelude.{◌≡◌, ℕ, ◌+◌, ◌-◌, ◌≤◌, ◌⊎◌, Bool, true, false, if◌then◌else◌, ◌==◌, nat_lt, nat_le, List, length, slice_get, Option, Some}
use Rattle.std.specs.List.{All, count_by}
use Rattle.std.specs.Ordering.{nat_cmp}
use Rattle.std.specs.Cmp.Lexicographic.{slice_cmp}
use Rattle.std.specs.FinMap.{FinMap, entries}
use Rattle.gr_count.specs.declared.limits.TheConstants.{FIRST_DIGIT, LAST_DIGIT, FIRST_LETTER, LAST_LETTER, DIGIT_RANKS, RANKS, UNRANKED}
use Rattle.gr_count.specs.declared.mark.Mark.{Mark}
use Rattle.gr_count.specs.declared.mark.Mark.TheVariants.{Ranked, Unranked}

-- the characters of ranks, in falling preference: digits, and after them letters (this project's profile)
abbrev pub IsDigit : ℕ → Type 0
IsDigit c = (FIRST_DIGIT ≤ c) × (c ≤ LAST_DIGIT)

abbrev pub IsLetter : ℕ → Type 0
IsLetter c = (FIRST_LETTER ≤ c) × (c ≤ LAST_LETTER)

-- the character of a rank, or of an option that is not ranked (this project's profile)
abbrev pub IsMarkCharacter : ℕ → Type 0
IsMarkCharacter c = IsDigit c ⊎ (IsLetter c ⊎ (c ≡ UNRANKED))

-- a text that is a ballot: one such character for each option, the default option last (this project's profile)
abbrev pub IsBallot : ℕ → List ℕ → Type 0
IsBallot options text = (length text ≡ options) × All IsMarkCharacter text

-- which rank a digit or a letter is; the first one is 1 (this project's profile)
abbrev pub rank_of : ℕ → ℕ
rank_of c = if nat_le c LAST_DIGIT then c - (FIRST_DIGIT - 1) else c - FIRST_LETTER + (DIGIT_RANKS + 1)

-- what a character of a ballot says of its option (this project's profile)
abbrev pub mark_of : ℕ → Mark
mark_of c = if c == UNRANKED then Unranked else Ranked (rank_of c)

-- the character that says it
abbrev pub character_of : Mark → ℕ
character_of Unranked = UNRANKED
character_of (Ranked rank) =
    if nat_le rank DIGIT_RANKS then rank + (FIRST_DIGIT - 1) else rank - (DIGIT_RANKS + 1) + FIRST_LETTER

-- the mark of a rank as ballots keep it: 0 is for an option that is not ranked
abbrev pub mark_of_rank : ℕ → Mark
mark_of_rank rank = if rank == 0 then Unranked else Ranked rank

-- the mark has a character: its rank, if it has one, is one of those that there are
abbrev pub HasCharacter : Mark → Type 0
HasCharacter mark = (rank : ℕ) → mark ≡ Ranked rank → (1 ≤ rank) × (rank ≤ RANKS)

-- what the ballot says of an option; None for what is no option of it
abbrev pub mark_at : List Mark → ℕ → Option Mark
mark_at marks option = slice_get marks option

-- One mark is preferred to another. A voter may leave options without a rank: such an option comes after
-- each that has one, and is level with the others that have none (Constitution, A.5.1).
abbrev pub is_above : Option Mark → Option Mark → Bool
is_above (Some (Ranked r)) (Some (Ranked s)) = nat_lt r s
is_above (Some (Ranked r)) (Some Unranked) = true
is_above _ _ = false

-- the ballot prefers option a to option b (Constitution, A.5.1)
abbrev pub prefers : List Mark → ℕ → ℕ → Bool
prefers marks a b = is_above (mark_at marks a) (mark_at marks b)

-- A vote: a set of pairs of a login (its bytes) and what its one ballot says of each option (that a voter is a login is
-- this project's profile).
abbrev pub Vote : Type 0
Vote = FinMap (slice_cmp nat_cmp) (List Mark)

-- V(A,B): the number of voters who prefer option a to option b (Constitution, A.5.3.1)
abbrev pub preference_count : Vote → ℕ → ℕ → ℕ
preference_count vote a b = count_by (λ voter. prefers voter.1 a b) (entries vote)
