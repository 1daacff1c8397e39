-- What the public types show, and the election that they describe.
use Rattle.std.specs.Prelude.{ℕ, ◌-◌, Bool, List, length, map, take}
use Rattle.gr_count.specs.declared.mark.Mark.{Mark}
use Rattle.gr_count.specs.declared.ranks.Ranks.{Ranks}
use Rattle.gr_count.specs.declared.pairs.Pairs.{Pairs}
use Rattle.gr_count.specs.declared.ratios.Ratios.{Ratios}
use Rattle.gr_count.specs.declared.outcome.Count.{Count}
use Rattle.gr_count.specs.Ballot.{Vote, mark_of_rank, preference_count}
use Rattle.gr_count.specs.Election.{Election}
use Rattle.gr_count.specs.Options.{has, number_of, number_at, size_below}

-- what the ballot says of each option
abbrev pub marks_in : Ranks → List Mark
marks_in ranks = map mark_of_rank (take ranks.options ranks.ranks)

-- how many options the ballot is for, the default option counted: it says something of each
abbrev pub options_of_ranks : Ranks → ℕ
options_of_ranks ranks = length (marks_in ranks)

-- how many options the ballots have, the default option counted
abbrev pub options_of_pairs : Pairs → ℕ
options_of_pairs pairs = pairs.options

-- how many ballots were added and not taken out
abbrev pub ballots_in : Pairs → ℕ
ballots_in pairs = pairs.ballots

-- how many of these ballots prefer option a to option b
abbrev pub voters_above : Pairs → ℕ → ℕ → ℕ
voters_above pairs a b = number_at pairs.above a b

-- how many options the ratios are for, the default option counted, and the ratio of an option
abbrev pub options_of_ratios : Ratios → ℕ
options_of_ratios ratios = ratios.options

abbrev pub ratio_at : Ratios → ℕ → ℕ
ratio_at ratios option = number_of ratios.ratios option

-- the election of these pairs and ratios, with so many current developers
abbrev pub election_of : Pairs → ℕ → Ratios → Election
election_of pairs developers ratios = record {
  default = options_of_pairs pairs - 1;
  preference = voters_above pairs;
  developers = developers;
  ratio = ratio_at ratios;
}

-- the election of a vote with so many options, of so many current developers, and with these ratios
abbrev pub election_by_voters : ℕ → Vote → ℕ → (ℕ → ℕ) → Election
election_by_voters options vote developers ratio = record {
  default = options - 1;
  preference = preference_count vote;
  developers = developers;
  ratio = ratio;
}

-- what a count found: how many options it is of, which it keeps, the number of rounds, the round that
-- dropped the defeat of b by a (0 for none), which options are in the outcome set, and how many
abbrev pub options_of_count : Count → ℕ
options_of_count count = count.options

abbrev pub keeps : Count → ℕ → Bool
keeps count option = has count.kept option

abbrev pub rounds_in : Count → ℕ
rounds_in count = count.rounds

abbrev pub round_of_drop : Count → ℕ → ℕ → ℕ
round_of_drop count a b = number_at count.dropped a b

abbrev pub is_member : Count → ℕ → Bool
is_member count option = has count.outcome option

abbrev pub member_count : Count → ℕ
member_count count = size_below count.options (has count.outcome)
