-- The ballot of a developer on a resolution (Constitution, 4.2.3), with its marks as a list. Its key has the number of
-- the resolution and the login.
use Rattle.std.specs.Prelude.{◌≡◌, ℕ, ◌+◌, List, map, filter, length, nat_eq, Option, Some, None}
use Rattle.std.specs.List.{All, sum_by}
use Rattle.std.specs.FinMap.{FinMap, entries, from_entries}
use Rattle.gr_count.specs.declared.mark.Mark.{Mark}
use Rattle.gr_count.specs.Ballot.{IsMarkCharacter, mark_of, Vote}
use Rattle.gr_count.specs.Shown.{marks_in}
use Rattle.gr_core.specs.declared.receipt.Receipt.{Receipt}
use Rattle.gr_core.specs.declared.ballot.Ballot.{Ballot}
use Rattle.gr_core.specs.Parts.Key.{BallotKey, ballot_cmp}
use Rattle.gr_core.specs.Parts.Receipt.{receipt_of}

-- The last ballot of a developer is the one that stands, and each has a receipt (this project's profile).
pub record BallotModel : Type 0 where
  -- what it says of the option of each place, that of the default option last (Constitution, A.5.1)
  pub ranks : List Mark
  pub receipt : Receipt
  -- how many votes of the developer were accepted on the resolution (this project's profile)
  pub received : ℕ

abbrev pub ballot_model : Ballot → BallotModel
ballot_model ballot = record {
  ranks = marks_in ballot.ranks;
  receipt = ballot.receipt;
  received = ballot.received;
}

-- how many votes were accepted of the developer whose ballot this is
abbrev pub received_of : Option BallotModel → ℕ
received_of None = 0
received_of (Some ballot) = ballot.received

-- the ballot with this number in the place of its own
abbrev pub with_received : ℕ → BallotModel → BallotModel
with_received received ballot = record ballot { received = received }

-- the ballot that this text of ranks says, with the receipt for the token, in the place of the one that stood
abbrev pub new_ballot : Option BallotModel → ℕ → (login ranks token : List ℕ) → BallotModel
new_ballot stood resolution login ranks token = record {
  ranks = map mark_of ranks;
  receipt = receipt_of resolution login token;
  received = received_of stood + 1;
}

-- what some character of a ballot says
abbrev pub IsMark : Mark → Type 0
IsMark mark = (c : ℕ) × IsMarkCharacter c × (mark_of c ≡ mark)

-- ranks that a ballot with so many places may have: what some character says, for each of them
pub record AreRanks (places : ℕ) (ranks : List Mark) : Type 0 where
  pub whole : length ranks ≡ places
  pub marks : All IsMark ranks

-- the ballots of one resolution, in the order of the logins
abbrev pub ballots_of : FinMap ballot_cmp BallotModel → ℕ → List (BallotKey × BallotModel)
ballots_of ballots resolution = filter (λ entry. nat_eq resolution entry.0.0) (entries ballots)

-- who voted, and how
abbrev pub voter_of : BallotKey × BallotModel → List ℕ × List Mark
voter_of entry = (entry.0.1, entry.1.ranks)

-- the vote on a resolution: the set of its voters, each with the ranks of their ballot (Constitution, A.5.1)
abbrev pub vote_of : FinMap ballot_cmp BallotModel → ℕ → Vote
vote_of ballots resolution = from_entries (map voter_of (ballots_of ballots resolution))

-- how many votes were accepted on a resolution: of each voter as many as the ballot says (this project's profile)
abbrev pub votes_received : FinMap ballot_cmp BallotModel → ℕ → ℕ
votes_received ballots resolution = sum_by (λ entry. entry.1.received) (ballots_of ballots resolution)
