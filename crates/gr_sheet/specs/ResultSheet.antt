-- The result of a resolution whose vote is closed, as exact text: each step of the count, and who won (Constitution,
-- 4.2.4 and A.5; the form is this project's profile).
use Rattle.std.specs.Prelude.{◌≡◌, ℕ, ◌+◌, ◌-◌, ◌<◌, Bool, ◌&&◌, if◌then◌else◌, nat_lt, nat_eq, IsSomeAnd, List, [], ◌∷◌, ◌++◌, map, filter, Option, Some, None, codes, decimal}
use Rattle.std.specs.List.{concat, flat_map, join_by, range_with_len}
use Rattle.std.specs.FinMap.{get}
use Rattle.gr_count.specs.declared.outcome.Count.{Count}
use Rattle.gr_count.specs.declared.pairs.Pairs.{Pairs}
use Rattle.gr_count.specs.Threshold.{meets_quorum, meets_majority}
use Rattle.gr_count.specs.Election.{Election}
use Rattle.gr_count.specs.Findings.{Findings, AreFindings}
use Rattle.gr_count.specs.Options.{options_below}
use Rattle.gr_count.specs.Shown.{options_of_pairs, voters_above, keeps, rounds_in, round_of_drop, is_member}
use Rattle.gr_core.specs.declared.resolution.Poll.{Poll}
use Rattle.gr_core.specs.declared.resolution.Resolution.{Resolution}
use Rattle.gr_core.specs.declared.resolution.Resolution.TheVariants.{Closed}
use Rattle.gr_core.specs.Parts.Resolution.{poll_of}
use Rattle.gr_core.specs.Parts.Choice.{choices_of}
use Rattle.gr_core.specs.Parts.Ballot.{votes_received}
use Rattle.gr_core.specs.Desks.Outcome.{place_count, option_at, election_at}
use Rattle.gr_core.specs.Desks.Valid.{places_of}
use Rattle.gr_core.specs.Desks.State.{State}
use Rattle.gr_sheet.specs.declared.option_pair.OptionPair.{OptionPair}
use Rattle.gr_sheet.specs.declared.ballot_test.BallotTest.{BallotTest}
use Rattle.gr_sheet.specs.Ballot.{called_lines, option_lines}
use Rattle.gr_sheet.specs.TallySheet.{ballots_line}

-- ==== options and pairs of them

-- Options are numbers from 0, the default option last; their places on the ballot are from 1.
abbrev pub place_of_option : ℕ → ℕ
place_of_option option = option + 1

-- the pairs of an option with each of so many
abbrev pub pairs_from : ℕ → ℕ → List OptionPair
pairs_from options first = map (λ second. record { first = first; second = second }) (options_below options)

-- the pairs of so many options, by the first one and then by the second
abbrev pub pairs_below : ℕ → List OptionPair
pairs_below options = flat_map (pairs_from options) (options_below options)

-- both options of the pair are among so many
abbrev pub IsPairBelow : ℕ → OptionPair → Type 0
IsPairBelow options pair = (pair.first < options) × (pair.second < options)

-- ==== the lines

abbrev pub met_or_failed : Bool → List ℕ
met_or_failed is_met = if is_met then codes "met" else codes "failed"

abbrev pub kept_or_dropped : Bool → List ℕ
kept_or_dropped is_kept = if is_kept then codes "kept" else codes "dropped"

-- whether the choice of this place has the quorum and its majority, and so is kept (Constitution, A.5.2 and A.5.3)
abbrev pub test_at : Election → Findings → ℕ → BallotTest
test_at e found place = record {
  place = place;
  above = e.preference (option_at place) e.default;
  below = e.preference e.default (option_at place);
  ratio = e.ratio (option_at place);
  quorum = found.quorum (option_at place);
  majority = found.majority (option_at place);
  kept = found.kept (option_at place);
}

abbrev pub test_line : BallotTest → List ℕ
test_line test = concat (
    codes "Test " ∷ decimal test.place
    ∷ codes ": above " ∷ decimal test.above
    ∷ codes ", below " ∷ decimal test.below
    ∷ codes ", ratio " ∷ decimal test.ratio
    ∷ codes ", quorum " ∷ met_or_failed test.quorum
    ∷ codes ", majority " ∷ met_or_failed test.majority
    ∷ codes ", " ∷ kept_or_dropped test.kept ∷ codes "\n" ∷ [])

-- the line of a choice: none where it is not on the ballot
abbrev pub test_line_if : Election → Findings → Option ℕ → List ℕ
test_line_if e found None = []
test_line_if e found (Some place) = test_line (test_at e found place)

-- each two kept options stand in one pair, the one with the lower place first
abbrev pub is_compared : (ℕ → Bool) → OptionPair → Bool
is_compared kept pair = nat_lt pair.first pair.second && (kept pair.first && kept pair.second)

-- how many voters prefer the one to the other, and the other to the one (Constitution, A.5.3.1): V are the preference
-- counts
abbrev pub pair_line : (ℕ → ℕ → ℕ) → OptionPair → List ℕ
pair_line V pair = concat (
    codes "Pair " ∷ decimal (place_of_option pair.first) ∷ codes " " ∷ decimal (place_of_option pair.second)
    ∷ codes ": " ∷ decimal (V pair.first pair.second) ∷ codes " " ∷ decimal (V pair.second pair.first)
    ∷ codes "\n" ∷ [])

-- a defeat that a round drops, by its support and its opposition (Constitution, A.5.7.1)
abbrev pub drop_text : (ℕ → ℕ → ℕ) → OptionPair → List ℕ
drop_text V pair = concat (
    decimal (place_of_option pair.first) ∷ codes ">" ∷ decimal (place_of_option pair.second)
    ∷ codes " " ∷ decimal (V pair.first pair.second) ∷ codes ":" ∷ decimal (V pair.second pair.first) ∷ [])

-- the defeats that a round drops together (Constitution, A.5.7)
abbrev pub round_line : (ℕ → ℕ → ℕ) → (ℕ → ℕ → ℕ → Bool) → List OptionPair → ℕ → List ℕ
round_line V dropped pairs round = concat (
    codes "Round " ∷ decimal round ∷ codes ": drop "
    ∷ join_by (drop_text V) (codes ", ") (filter (λ pair. dropped round pair.first pair.second) pairs)
    ∷ codes "\n" ∷ [])

-- the numbers of the rounds
abbrev pub round_numbers : ℕ → List ℕ
round_numbers rounds = range_with_len 1 rounds

-- the members of a set of so many options by place
abbrev pub members_of : (ℕ → Bool) → ℕ → List ℕ
members_of is_in options = filter is_in (options_below options)

-- the outcome set (Constitution, A.5.8)
abbrev pub schwartz_line : List ℕ → List ℕ
schwartz_line members = concat (
    codes "Schwartz:" ∷ flat_map (λ member. codes " " ++ decimal (place_of_option member)) members ∷ codes "\n" ∷ [])

-- the place that the casting vote chose, or none yet (Constitution, A.5.8)
abbrev pub cast_line : Option ℕ → List ℕ
cast_line (Some place) = concat (codes "Winner: " ∷ decimal place ∷ codes " by casting vote\n" ∷ [])
cast_line None = codes "Casting vote needed\n"

-- who won: the only member of the outcome set, or the one of several that the casting vote chose (Constitution, A.5.8)
abbrev pub last_line : List ℕ → Option ℕ → List ℕ
last_line (member ∷ []) chosen = concat (codes "Winner: " ∷ decimal (place_of_option member) ∷ codes "\n" ∷ [])
last_line members chosen = cast_line chosen

-- ==== the whole

-- votes were called for on the resolution, by this poll
abbrev pub IsPollOf : State → ℕ → Poll → Type 0
IsPollOf s number poll = IsSomeAnd (get s.resolutions number) (λ row. poll_of row ≡ Some poll)

-- what the result says of the count: the tests, the comparisons, the rounds and the outcome
abbrev pub count_lines : Election → Findings → List ℕ → ℕ → List ℕ
count_lines e found places options = concat (
    flat_map (λ place. test_line (test_at e found place)) places
    ∷ flat_map (pair_line e.preference) (filter (is_compared found.kept) (pairs_below options))
    ∷ flat_map (round_line e.preference found.dropped (pairs_below options)) (round_numbers found.rounds)
    ∷ schwartz_line (members_of found.outcome options) ∷ [])

-- how many votes were accepted: each ballot says how often its voter voted (this project's profile)
abbrev pub received_line : State → ℕ → List ℕ
received_line s number = concat (
    codes "Received: " ∷ decimal (votes_received s.ballots number) ∷ codes "\n" ∷ [])

-- what it says above that: when votes were taken, how many ballots there are, how many votes were accepted, and the
-- options
abbrev pub vote_lines : State → ℕ → Poll → List ℕ
vote_lines s number poll = concat (
    called_lines poll ∷ ballots_line s number ∷ received_line s number ∷ option_lines s number ∷ [])

-- the whole, with who won at the end
abbrev pub result_sheet : State → ℕ → Poll → Option ℕ → Findings → List ℕ
result_sheet s number poll chosen found = concat (
    codes "Result of resolution " ∷ decimal number ∷ codes "\n"
    ∷ vote_lines s number poll
    ∷ count_lines (election_at s number poll) found (places_of (choices_of s.choices number))
    (place_count s.choices number)
    ∷ last_line (members_of found.outcome (place_count s.choices number)) chosen ∷ [])

-- The text is the result of the resolution with this number, by this poll and with this place chosen, if any.
abbrev pub IsResult : State → ℕ → Poll → Option ℕ → List ℕ → Type 0
IsResult s number poll chosen text = (found : Findings) × AreFindings (election_at s number poll) found
    × (text ≡ result_sheet s number poll chosen found)

-- it is the result of a resolution that is closed
abbrev pub IsResultOf : State → ℕ → Resolution → List ℕ → Type 0
IsResultOf s number (Closed discussion poll chosen) text = IsResult s number poll chosen text
IsResultOf s number other text = ⊥

-- ==== findings as a count tells them

-- the round of this number drops the defeat of the second option by the first one
abbrev pub is_dropped_in : Count → ℕ → ℕ → ℕ → Bool
is_dropped_in count round a b = nat_lt 0 round && nat_eq (round_of_drop count a b) round

abbrev pub findings_of : Election → Count → Findings
findings_of e count = record {
  quorum = λ a. meets_quorum (e.preference a e.default) e.developers;
  majority = λ a. meets_majority (e.preference a e.default) (e.preference e.default a) (e.ratio a);
  kept = keeps count;
  rounds = rounds_in count;
  dropped = is_dropped_in count;
  outcome = is_member count;
}

-- the election that these pairs show, with so many developers and these ratios
abbrev pub election_shown : Pairs → ℕ → (ℕ → ℕ) → Election
election_shown pairs developers ratio = record {
  default = options_of_pairs pairs - 1;
  preference = voters_above pairs;
  developers = developers;
  ratio = ratio;
}
