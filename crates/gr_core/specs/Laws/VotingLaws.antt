-- What voters expect of ballots, of the count and of the casting vote, from one state to the next and over lists of
-- acts.
use Rattle.std.specs.Prelude.{◌≡◌, ◌≢◌, ℕ, ◌+◌, ◌<◌, ◌≤◌, ◌&&◌, if◌then◌else◌, Bool, false, List, Option, Some, None, IsSome, IsSomeAnd, is_some, IsTrue, nat_eq, map}
use Rattle.std.specs.List.{All, count_by, fold}
use Rattle.std.specs.Str.{bytes_eq}
use Rattle.std.specs.FinMap.{get, insert}
use Rattle.gr_count.specs.Ballot.{IsBallot, mark_of, prefers, preference_count}
use Rattle.gr_core.specs.declared.limits.TheConstants.{MAX_ACCEPTED}
use Rattle.gr_core.specs.declared.developer.Standing.TheVariants.{Current}
use Rattle.gr_core.specs.declared.discussion.Discussion.{Discussion}
use Rattle.gr_core.specs.declared.resolution.Poll.{Poll}
use Rattle.gr_core.specs.declared.resolution.Resolution.{Resolution}
use Rattle.gr_core.specs.declared.resolution.Resolution.TheVariants.{Voting, Closed}
use Rattle.gr_core.specs.declared.receipt.Receipt as rust
use Rattle.gr_core.specs.declared.reply.Reply.{Reply}
use Rattle.gr_core.specs.declared.reply.Note.TheVariants.{Receipt}
use Rattle.gr_core.specs.Parts.Key.{BallotKey}
use Rattle.gr_core.specs.Parts.Moment.{IsMoment}
use Rattle.gr_core.specs.Parts.Token.{IsToken}
use Rattle.gr_core.specs.Parts.Developer.{DeveloperModel}
use Rattle.gr_core.specs.Parts.Resolution.{poll_of, is_closed, end_of_voting}
use Rattle.gr_core.specs.Parts.Receipt.{receipt_of}
use Rattle.gr_core.specs.Parts.Choice.{choices_of}
use Rattle.gr_core.specs.Parts.Ballot.{BallotModel, new_ballot, ballots_of, vote_of, received_of}
use Rattle.gr_core.specs.Desks.State.{State, new_state}
use Rattle.gr_core.specs.Desks.Outcome.{place_count, election_at, IsAmongTheTied}
use Rattle.gr_core.specs.Desks.Valid.{IsValid, IsBallotIn}
use Rattle.gr_core.specs.Desks.Version1.{lifted}
use Rattle.gr_core.specs.Machine.Act.{Act, Vote, Cast}
use Rattle.gr_core.specs.Machine.Refusal.{IsAccepted}
use Rattle.gr_core.specs.Machine.Effect.{counted}
use Rattle.gr_core.specs.Machine.Step.{Answer, Accepted, Step}
use Rattle.gr_core.specs.Machine.Run.{After, accepted_acts}
use Rattle.gr_core.specs.Laws.ResolutionLaws.{AreAlikeUnder}

-- ==== ballots

-- the act brings a ballot on this resolution
abbrev pub votes_in : ℕ → Act → Bool
votes_in resolution (Vote number login ranks token) = nat_eq resolution number
votes_in resolution other = false

-- the act brings this voter's ballot in it
abbrev pub votes_as : ℕ → List ℕ → Act → Bool
votes_as resolution voter (Vote number login ranks token) = nat_eq resolution number && bytes_eq voter login
votes_as resolution voter other = false

-- the ballot that stands after one more accepted act, where this one stood: that of the last vote (this project's
-- profile)
abbrev pub voted : ℕ → List ℕ → Option BallotModel → ℕ × Act → Option BallotModel
voted resolution voter stood (at, Vote number login ranks token) =
    if votes_as resolution voter (Vote number login ranks token)
    then Some (new_ballot stood number login ranks token)
    else stood
voted resolution voter stood (at, other) = stood

-- the ballot of the last of these acts by which the voter votes on the resolution, or else the one that stood
abbrev pub last_vote : ℕ → List ℕ → Option BallotModel → List (ℕ × Act) → Option BallotModel
last_vote resolution voter stood acts = fold (voted resolution voter) stood acts

-- Whatever acts a desk has answered, the ballots are just the last accepted votes, or stood before them; and before the
-- first act there is none.
abbrev pub BallotsAreTheLastVotes : Type 0
BallotsAreTheLastVotes = ((s : State) (acts : List (ℕ × Act)) (answers : List Answer) (t : State) (resolution : ℕ)
    (voter : List ℕ) → After s acts answers t
    → get t.ballots (resolution, voter)
    ≡ last_vote resolution voter (get s.ballots (resolution, voter)) (accepted_acts acts answers))
    × ((key : BallotKey) → get new_state.ballots key ≡ None)

-- Whatever acts a desk has answered, `received` of a ballot rose by one with each accepted vote of its voter on the
-- resolution. On a new desk it began at 0, with no ballot: so it is the number of these votes. On one that came of
-- version 1 it began at 1 with each ballot that was there.
abbrev pub ReceivedCountsTheVotes : Type 0
ReceivedCountsTheVotes =
    ((s : State) (acts : List (ℕ × Act)) (answers : List Answer) (t : State) (resolution : ℕ) (voter : List ℕ)
    → After s acts answers t
    → received_of (get t.ballots (resolution, voter))
    ≡ received_of (get s.ballots (resolution, voter))
    + count_by (λ act. votes_as resolution voter act.1) (accepted_acts acts answers))
    × ((key : BallotKey) → received_of (get new_state.ballots key) ≡ 0)
    × ((s : State) (key : BallotKey) → received_of (get (lifted s).ballots key)
    ≡ (if is_some (get s.ballots key) then 1 else 0))

-- An accepted vote raises it by one.
abbrev pub VotesRaiseReceivedByOne : Type 0
VotesRaiseReceivedByOne = (s : State) (at resolution : ℕ) (login ranks token : List ℕ) (reply : Reply) (t : State)
    → Step s at (Vote resolution login ranks token) (Accepted reply) t
    → received_of (get t.ballots (resolution, login)) ≡ received_of (get s.ballots (resolution, login)) + 1

-- A vote puts the voter's ballot, in the place of an earlier one, is counted, and touches nothing else.
abbrev pub VotesPutTheirBallot : Type 0
VotesPutTheirBallot = (s : State) (at resolution : ℕ) (login ranks token : List ℕ) (reply : Reply) (t : State)
    → Step s at (Vote resolution login ranks token) (Accepted reply) t
    → (get t.ballots (resolution, login)
    ≡ Some (new_ballot (get s.ballots (resolution, login)) resolution login ranks token))
    × ((other : BallotKey) → other ≢ (resolution, login) → get t.ballots other ≡ get s.ballots other)
    × (t.developers ≡ s.developers) × (t.resolutions ≡ s.resolutions) × (t.choices ≡ s.choices)
    × (t.sponsors ≡ s.sponsors) × (t.header ≡ (counted s at).header)

-- no other act touches a ballot
abbrev pub OnlyVotesTouchBallots : Type 0
OnlyVotesTouchBallots = (s : State) (at : ℕ) (act : Act) (reply : Reply) (t : State) (resolution : ℕ) (voter : List ℕ)
    → Step s at act (Accepted reply) t → votes_as resolution voter act ≡ false
    → get t.ballots (resolution, voter) ≡ get s.ballots (resolution, voter)

-- From the end of voting on no act changes a ballot, whether the vote was closed or not (Constitution, 4.2.3).
abbrev pub BallotsStayFromTheEndOfVoting : Type 0
BallotsStayFromTheEndOfVoting = (s : State) (acts : List (ℕ × Act)) (answers : List Answer) (t : State) (number : ℕ)
    (resolution : Resolution) (poll : Poll) (voter : List ℕ)
    → IsValid s → get s.resolutions number ≡ Some resolution → poll_of resolution ≡ Some poll
    → end_of_voting poll ≤ s.header.clock
    → After s acts answers t → get t.ballots (number, voter) ≡ get s.ballots (number, voter)

-- nor is an act at or after that moment a vote on the resolution, or changes a ballot of it
abbrev pub NoVoteFromTheEndOfVoting : Type 0
NoVoteFromTheEndOfVoting = (s : State) (at : ℕ) (act : Act) (reply : Reply) (t : State) (number : ℕ)
    (resolution : Resolution) (poll : Poll) (voter : List ℕ)
    → get s.resolutions number ≡ Some resolution → poll_of resolution ≡ Some poll → end_of_voting poll ≤ at
    → Step s at act (Accepted reply) t
    → (votes_in number act ≡ false) × (get t.ballots (number, voter) ≡ get s.ballots (number, voter))

-- nor does any act change one once the vote is closed
abbrev pub BallotsStayOnceClosed : Type 0
BallotsStayOnceClosed = (s : State) (acts : List (ℕ × Act)) (answers : List Answer) (t : State) (number : ℕ)
    (resolution : Resolution) (voter : List ℕ)
    → IsValid s → get s.resolutions number ≡ Some resolution → IsTrue (is_closed resolution)
    → After s acts answers t → get t.ballots (number, voter) ≡ get s.ballots (number, voter)

-- Nothing that is counted of a closed resolution changes any more: its poll, its choices and its ballots stay. At most
-- a place is chosen, once.
abbrev pub ClosedVotesStay : Type 0
ClosedVotesStay = (s : State) (acts : List (ℕ × Act)) (answers : List Answer) (t : State) (number : ℕ)
    (discussion : Discussion) (poll : Poll) (chosen : Option ℕ)
    → IsValid s → get s.resolutions number ≡ Some (Closed discussion poll chosen) → After s acts answers t
    → ((later : Option ℕ) × (get t.resolutions number ≡ Some (Closed discussion poll later))
    × (IsSome chosen → later ≡ chosen))
    × (choices_of t.choices number ≡ choices_of s.choices number)
    × (ballots_of t.ballots number ≡ ballots_of s.ballots number)

-- a command may come at this moment: it is one, the clock is not past it, and one more command can be counted
pub record IsDue (s : State) (at : ℕ) : Type 0 where
  pub moment : IsMoment at
  pub clock : s.header.clock ≤ at
  pub room : s.header.accepted < MAX_ACCEPTED

-- The developer is on the roll and current, votes are taken in the resolution and their time is not over, and the token
-- and the ranks, one character for each place, are well formed.
pub record CanVote (s : State) (at number : ℕ) (login ranks token : List ℕ) : Type 0 where
  pub developer : DeveloperModel
  pub on_roll : get s.developers login ≡ Some developer
  pub current : developer.standing ≡ Current
  pub discussion : Discussion
  pub poll : Poll
  pub held : get s.resolutions number ≡ Some (Voting discussion poll)
  pub time : at < end_of_voting poll
  pub well_formed : IsToken token
  pub whole : IsBallot (place_count s.choices number) ranks

-- such a vote is not refused (Constitution, 4.2.3)
abbrev pub VotesInTimeAreAccepted : Type 0
VotesInTimeAreAccepted = (s : State) (at number : ℕ) (login ranks token : List ℕ)
    → IsValid s → IsDue s at → CanVote s at number login ranks token
    → IsAccepted s at (Vote number login ranks token)

-- ==== receipts

-- a vote is answered with the receipt of its ballot, which stands in the voter's row until the voter's next accepted
-- vote on the resolution
abbrev pub ReceiptsStandUntilTheNextVote : Type 0
ReceiptsStandUntilTheNextVote = (s : State) (at resolution : ℕ) (login ranks token : List ℕ) (reply : Reply) (t : State)
    (acts : List (ℕ × Act)) (answers : List Answer) (u : State)
    → Step s at (Vote resolution login ranks token) (Accepted reply) t
    → After t acts answers u
    → All (λ act. votes_as resolution login act.1 ≡ false) (accepted_acts acts answers)
    → IsSomeAnd (get u.ballots (resolution, login)) (λ ballot. reply.note ≡ Receipt ballot.receipt)

-- what an accepted vote with this receipt leaves: of its token there is the receipt alone
abbrev pub left_by_vote : State → ℕ → ℕ → (login ranks : List ℕ) → rust.Receipt → State
left_by_vote s at resolution login ranks receipt = counted (record s {
  ballots = insert s.ballots (resolution, login) (record {
    ranks = map mark_of ranks;
    receipt = receipt;
    received = received_of (get s.ballots (resolution, login)) + 1;
  });
}) at

-- and what it is answered
abbrev pub receipt_reply : State → rust.Receipt → Reply
receipt_reply s receipt = record { accepted = s.header.accepted + 1; note = Receipt receipt }

-- The token is kept nowhere: what an accepted vote leaves, and what it is answered, have its receipt and nothing else
-- of its token. So each other token with this receipt leaves the same state, with the same reply.
abbrev pub TokensLeaveNoTrace : Type 0
TokensLeaveNoTrace = (s : State) (at resolution : ℕ) (login ranks token : List ℕ) (reply : Reply) (t : State)
    → Step s at (Vote resolution login ranks token) (Accepted reply) t
    → (t ≡ left_by_vote s at resolution login ranks (receipt_of resolution login token))
    × (reply ≡ receipt_reply s (receipt_of resolution login token))
    × ((other : List ℕ) → IsToken other → receipt_of resolution login other ≡ receipt_of resolution login token
    → Step s at (Vote resolution login ranks other) (Accepted reply) t)

-- ==== what is counted

-- Once a vote is called for, what is counted of the resolution changes by votes on it alone: so a ballot counts whether
-- its developer is retired later or not, and the quorum is that of the call (this project's profile; Constitution,
-- 4.2.4).
abbrev pub ElectionsChangeByVotesAlone : Type 0
ElectionsChangeByVotesAlone = (s : State) (acts : List (ℕ × Act)) (answers : List Answer) (t : State) (number : ℕ)
    (resolution : Resolution) (poll : Poll)
    → IsValid s → get s.resolutions number ≡ Some resolution → poll_of resolution ≡ Some poll → After s acts answers t
    → All (λ act. votes_in number act.1 ≡ false) (accepted_acts acts answers)
    → IsSomeAnd (get t.resolutions number) (λ later. poll_of later ≡ Some poll)
    × (election_at t number poll ≡ election_at s number poll)

-- Each ballot on a resolution of a valid desk is one that its voter may have there.
abbrev pub BallotsAreRight : Type 0
BallotsAreRight = (s : State) (resolution : ℕ) → IsValid s
    → All (λ entry. IsBallotIn s resolution entry.0.1 entry.1) (ballots_of s.ballots resolution)

-- The preference counts of a vote are those of its ballots, whoever cast them (Constitution, A.5.3.1).
abbrev pub VotesCountTheirBallots : Type 0
VotesCountTheirBallots = (s : State) (resolution a b : ℕ)
    → preference_count (vote_of s.ballots resolution) a b
    ≡ count_by (λ entry. prefers entry.1.ranks a b) (ballots_of s.ballots resolution)

-- ==== the casting vote

-- A casting vote chooses, in a closed resolution in which nothing was chosen, a place that it can choose: that of one
-- of several options in the outcome set (Constitution, A.5.8).
abbrev pub CastingVotesChooseAmongTheTied : Type 0
CastingVotesChooseAmongTheTied = (s : State) (at resolution place : ℕ) (reply : Reply) (t : State)
    → Step s at (Cast resolution place) (Accepted reply) t
    → (discussion : Discussion) × (poll : Poll)
    × (get s.resolutions resolution ≡ Some (Closed discussion poll None))
    × (get t.resolutions resolution ≡ Some (Closed discussion poll (Some place)))
    × IsAmongTheTied s resolution poll place

-- It does so once: nothing of a resolution changes any more from then on.
abbrev pub ChosenPlacesStay : Type 0
ChosenPlacesStay = (s : State) (acts : List (ℕ × Act)) (answers : List Answer) (t : State) (number : ℕ)
    (discussion : Discussion) (poll : Poll) (place : ℕ)
    → IsValid s → get s.resolutions number ≡ Some (Closed discussion poll (Some place)) → After s acts answers t
    → AreAlikeUnder s t number × (election_at t number poll ≡ election_at s number poll)

-- and what was chosen is one of the tied
abbrev pub ChosenPlacesAreTied : Type 0
ChosenPlacesAreTied = (s : State) (number : ℕ) (discussion : Discussion) (poll : Poll) (place : ℕ)
    → IsValid s → get s.resolutions number ≡ Some (Closed discussion poll (Some place))
    → IsAmongTheTied s number poll place

-- While nothing was chosen in a closed resolution, a casting vote for one of the tied is not refused (Constitution,
-- A.5.8).
abbrev pub CastingVotesAmongTheTiedAreAccepted : Type 0
CastingVotesAmongTheTiedAreAccepted = (s : State) (at number place : ℕ) (discussion : Discussion) (poll : Poll)
    → IsDue s at → get s.resolutions number ≡ Some (Closed discussion poll None) → IsAmongTheTied s number poll place
    → IsAccepted s at (Cast number place)
