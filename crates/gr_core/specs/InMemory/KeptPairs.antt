-- What a desk keeps of votes beside their ballots, by the number of the resolution: the preference counts
-- (Constitution, A.5.3.1), and how many votes were accepted (this project's profile).
use Rattle.std.specs.Prelude.{◌≡◌, ℕ, ◌↔◌, Option, Some, None, IsSome, IfSome, option_and_then}
use Rattle.std.specs.Ordering.{nat_cmp}
use Rattle.std.specs.BTreeMap.{get_by}
use Rattle.std.specs.FinMap.{get}
use Rattle.gr_count.specs.declared.pairs.Pairs.{Pairs}
use Rattle.gr_count.specs.Shown.{options_of_pairs}
use Rattle.gr_count.specs.PairwiseCount.{IsPairwiseCountOf}
use Rattle.gr_core.specs.declared.counting.Counting.{Counting}
use Rattle.gr_core.specs.declared.kept_pairs.KeptPairs.{KeptPairs}
use Rattle.gr_core.specs.declared.kept_vote.KeptVote.{KeptVote}
use Rattle.gr_core.specs.Parts.Resolution.{poll_of}
use Rattle.gr_core.specs.Parts.Ballot.{vote_of, votes_received}
use Rattle.gr_core.specs.Desks.State.{State}
use Rattle.gr_core.specs.Desks.Outcome.{place_count}
use Rattle.gr_core.specs.Desks.Valid.{IsValid}
use Rattle.gr_core.specs.Machine.Act.{Act}
use Rattle.gr_core.specs.Machine.Refusal.{IsAccepted}
use Rattle.gr_core.specs.Machine.Effect.{counted, effect}
use Rattle.gr_core.specs.Machine.Counting.{Counts}

-- what is kept of the vote on the resolution with this number
abbrev pub vote_at : KeptPairs → ℕ → Option KeptVote
vote_at kept resolution = get_by (nat_cmp resolution) kept.by_resolution

-- how many votes are said to have been accepted by that
abbrev pub received_at : Option KeptVote → ℕ
received_at None = 0
received_at (Some vote) = vote.received

-- votes are taken on the resolution with this number, or were (Constitution, 4.2.3)
abbrev pub HasPoll : State → ℕ → Type 0
HasPoll s number = IsSome (option_and_then poll_of (get s.resolutions number))

-- the counts are those of the vote on the resolution, over the places of its ballot
pub record ArePairsOf (s : State) (resolution : ℕ) (pairs : Pairs) : Type 0 where
  pub options : options_of_pairs pairs ≡ place_count s.choices resolution
  pub tally : IsPairwiseCountOf pairs (vote_of s.ballots resolution)

-- and their number is that of the votes that were accepted on it
pub record IsKeptOf (s : State) (resolution : ℕ) (vote : KeptVote) : Type 0 where
  pub pairs : ArePairsOf s resolution vote.pairs
  pub received : vote.received ≡ votes_received s.ballots resolution

-- just the resolutions that have a poll have a kept vote, each what its ballots say
pub record KeepsPairs (s : State) (kept : KeptPairs) : Type 0 where
  pub polled : (resolution : ℕ) → IsSome (vote_at kept resolution) ↔ HasPoll s resolution
  pub votes : (resolution : ℕ) → IfSome (vote_at kept resolution) (IsKeptOf s resolution)

-- This is kept of a valid state before an act that it accepted. The act is counted so, and t is the state after it.
pub record IsCountedBehind (kept : KeptPairs) (counting : Counting) (t : State) : Type 0 where
  pub before : State
  pub at : ℕ
  pub act : Act
  pub valid : IsValid before
  pub keeps : KeepsPairs before kept
  pub accepted : IsAccepted before at act
  pub counts : Counts before at act counting
  pub behind : t ≡ counted (effect before at act) at
