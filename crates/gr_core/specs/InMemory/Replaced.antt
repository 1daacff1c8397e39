-- A ballot in the place of an earlier one, in the preference counts of a vote. Constitution, 4.2.6 and A.5.3.1.
use Rattle.std.specs.Prelude.{◌≡◌, ℕ, ◌<◌, List, length, Option, option_map, MatchOption}
use Rattle.std.specs.FinMap.{get, insert}
use Rattle.gr_count.specs.declared.limits.TheConstants.{MAX_BALLOTS}
use Rattle.gr_count.specs.declared.pairs.Pairs.{Pairs}
use Rattle.gr_count.specs.declared.ranks.Ranks.{Ranks}
use Rattle.gr_count.specs.Ballot.{Vote}
use Rattle.gr_count.specs.Shown.{ballots_in, marks_in, options_of_pairs}
use Rattle.gr_count.specs.PairwiseCount.{HoldsBallot, IsPairwiseCountOf}

-- The later ballot is over these options. So is the earlier one, which the counts hold; where there is none, there is
-- room.
pub record MayReplace (earlier : Option Ranks) (ranks : Ranks) (pairs : Pairs) : Type 0 where
  pub same : length (marks_in ranks) ≡ options_of_pairs pairs
  pub room : MatchOption earlier (ballots_in pairs < MAX_BALLOTS) (λ earlier_one.
      (length (marks_in earlier_one) ≡ options_of_pairs pairs) × HoldsBallot (marks_in earlier_one) pairs)

-- the counts of a vote become those of the vote with the later ballot in the place of the earlier one
pub record ReplacesBallot (earlier : Option Ranks) (ranks : Ranks) (old new : Pairs) : Type 0 where
  pub options : options_of_pairs new ≡ options_of_pairs old
  pub vote : (vote : Vote) (login : List ℕ) → IsPairwiseCountOf old vote
      → get vote login ≡ option_map marks_in earlier
      → IsPairwiseCountOf new (insert vote login (marks_in ranks))
