-- What nothing reveals before a vote is closed (Constitution, 4.2.3): its ballots, what they say, whose they are and
-- whether there are any.
use Rattle.std.specs.Prelude.{◌≡◌, ℕ, ⊤, List, map, option_and_then, IsSome, ◌≢◌}
use Rattle.std.specs.List.{All}
use Rattle.std.specs.FinMap.{get}
use Rattle.gr_count.specs.Ballot.{IsBallot}
use Rattle.gr_core.specs.declared.reply.Reply.{Reply}
use Rattle.gr_core.specs.declared.plan.Plan.{Plan}
use Rattle.gr_core.specs.declared.plan.NoPlan.{NoPlan}
use Rattle.gr_core.specs.Parts.Resolution.{present_poll}
use Rattle.gr_core.specs.Parts.Ballot.{ballots_of, with_received}
use Rattle.gr_core.specs.Desks.State.{State}
use Rattle.gr_core.specs.Desks.Outcome.{place_count}
use Rattle.gr_core.specs.Desks.Valid.{IsValid}
use Rattle.gr_core.specs.Machine.Act.{Act, Close, Vote}
use Rattle.gr_core.specs.Machine.Plan.{IsPlanFor, HasRowsOf, IsNoPlanFor, rows_of, reply_of}
use Rattle.gr_core.specs.Machine.Step.{Answer, Accepted, Step}
use Rattle.gr_core.specs.Machine.Run.{After, accepted_acts}
use Rattle.gr_core.specs.Machine.Map.{changed_at}
use Rattle.gr_core.specs.Machine.Row.{RowModel, BallotOf, put_all}
use Rattle.gr_core.specs.Machine.Effect.{rows_by}

-- votes are taken on the resolution, or their time is over and the close awaited
abbrev pub IsHeldIn : State → ℕ → Type 0
IsHeldIn s resolution = IsSome (option_and_then present_poll (get s.resolutions resolution))

-- both have the same rows, but for ballots of votes that are not closed
pub record AreAlike (s t : State) : Type 0 where
  pub header : t.header ≡ s.header
  pub developers : t.developers ≡ s.developers
  pub resolutions : t.resolutions ≡ s.resolutions
  pub choices : t.choices ≡ s.choices
  pub sponsors : t.sponsors ≡ s.sponsors
  pub ballots : (resolution : ℕ) (login : List ℕ) → ¬ (IsHeldIn s resolution)
      → get t.ballots (resolution, login) ≡ get s.ballots (resolution, login)

-- so they have the same ballots on each resolution whose vote is not being held
abbrev pub AlikeDesksHaveTheSameOtherBallots : Type 0
AlikeDesksHaveTheSameOtherBallots = (s t : State) (resolution : ℕ) → AreAlike s t → ¬ (IsHeldIn s resolution)
    → ballots_of t.ballots resolution ≡ ballots_of s.ballots resolution

-- Wherever a vote is accepted there are alike desks that differ: with other ranks for the same ballot it is accepted
-- too, with the same reply. The states after the two votes are valid and alike, and they are not the same.
abbrev pub OtherRanksLeaveAnAlikeDesk : Type 0
OtherRanksLeaveAnAlikeDesk = (s : State) (at resolution : ℕ) (login ranks others token : List ℕ) (reply : Reply)
    (t : State) → IsValid s → Step s at (Vote resolution login ranks token) (Accepted reply) t
    → IsBallot (place_count s.choices resolution) others → others ≢ ranks
    → (u : State) × Step s at (Vote resolution login others token) (Accepted reply) u
    × IsValid t × IsValid u × AreAlike t u × (u ≢ t)

-- So there are two such states.
abbrev pub SomeDesksAreAlike : Type 0
SomeDesksAreAlike = (s : State) × (t : State) × IsValid s × IsValid t × AreAlike s t × (t ≢ s)

-- ==== plans, but for how often a developer voted

-- the state with this number in the ballot that the act puts, if it is a vote
abbrev pub put_with : ℕ → Act → State → State
put_with received (Vote resolution login ranks token) s =
    record s { ballots = changed_at s.ballots (resolution, login) (with_received received) }
put_with received other s = s

-- the row with this number, if it is one of a ballot
abbrev pub row_with : ℕ → RowModel → RowModel
row_with received (BallotOf key ballot) = BallotOf key (with_received received ballot)
row_with received other = other

-- the rows of the act with this number in the ballot that it puts, if it is a vote
abbrev pub rows_with : ℕ → Act → List RowModel → List RowModel
rows_with received (Vote resolution login ranks token) rows = map (row_with received) rows
rows_with received other rows = rows

-- The plan's reply answers the act at this moment. Its rows are those of the act, in their order, and put, make the
-- state after it, both but for `received` in the one ballot that a vote puts.
pub record IsPlanButForReceived (s : State) (at : ℕ) (act : Act) (plan : Plan) : Type 0 where
  pub received : ℕ
  pub after : State
  pub step : Step s at act (Accepted (reply_of plan)) after
  pub puts : put_all s (rows_of plan) ≡ put_with received act after
  pub rows : rows_of plan ≡ rows_with received act (rows_by s at act)

-- Nothing is revealed by a plan, but to its own rows how often the developer voted: what is right to answer on the one
-- is right on the other, but for that.
abbrev pub PlansRevealNothing : Type 0
PlansRevealNothing = (s t : State) (at : ℕ) (act : Act) → AreAlike s t
    → ((plan : Plan) → IsPlanFor s at act plan → HasRowsOf s at act plan → IsPlanButForReceived t at act plan)
    × ((no_plan : NoPlan) → IsNoPlanFor s at act no_plan → IsNoPlanFor t at act no_plan)

-- the vote that the act ends, if it ends one, has the same ballots in both states
abbrev pub ClosesTheSame : State → State → Act → Type 0
ClosesTheSame s t (Close resolution) =
    (login : List ℕ) → get t.ballots (resolution, login) ≡ get s.ballots (resolution, login)
ClosesTheSame s t other = ⊤

-- Nor by all answers to a list of acts, until it closes a vote whose ballots differed before the list: that vote is
-- then revealed.
abbrev pub AnswersRevealNothing : Type 0
AnswersRevealNothing = (s t : State) (acts : List (ℕ × Act)) (answers : List Answer) (u : State)
    → IsValid s → AreAlike s t → All (λ act. ClosesTheSame s t act.1) (accepted_acts acts answers)
    → After s acts answers u
    → (v : State) × After t acts answers v × AreAlike u v
