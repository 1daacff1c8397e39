-- The crash theorem, over any machine: what is left where commands come to what keeps a machine, one after the other,
-- and a stop falls.
--
-- A stop is looked at where a command ends: one inside a write where the command ends because that write failed, and
-- one between two writes where the next one failed at its very beginning. A process that dies in a command has told its
-- caller nothing: what stands is then what stands at that exit.
use Rattle.std.specs.Prelude.{◌≡◌, ◌⊎◌, Bool, true, false, List, [], ◌∷◌, ◌++◌, map, filter}

-- A machine. In a state a command is accepted with a reply, and leads to another state; or it is refused, and does
-- nothing.
pub record Machine : Type 1 where
  pub State : Type 0
  pub Command : Type 0
  pub Reply : Type 0
  pub Refusal : Type 0
  pub Accepts : State → Command → Reply → State → Type 0
  pub Refuses : State → Command → Refusal → Type 0

-- What keeps a machine: it takes commands while it is open, until a fault shuts it.
pub record Keeper (m : Machine) : Type 1 where
  pub Place : Type 0
  -- it is open, and has this state
  pub IsOpen : m.State → Place → Type 0
  pub IsShut : Place → Type 0
  -- so far its disk has returned what was written
  pub IsClean : Place → Type 0
  -- a stop may leave this now
  pub Content : Type 0
  pub MayLeave : Place → Content → Type 0
  -- what is left has this state
  pub Holds : m.State → Content → Type 0

-- ==== what becomes of a command
-- The theorem is about the fates of commands, and not about calls. Each call says which commands it had
-- and what became of them. So a new kind of call joins the law by its contract, and the law stays as it
-- is. Requests did so, and for their sake one fate is that a reply is lost on its way.

-- what became of a command
pub data FateOf (m : Machine) : Type 0 where
  -- it was accepted, and its caller has this reply
  Acknowledged : m.Reply → FateOf m
  -- it was accepted, and this reply was lost on its way to the caller
  ReplyLost : m.Reply → FateOf m
  -- it was refused, and nothing was done
  Refused : m.Refusal → FateOf m
  -- nothing was done, and it was not refused
  NotDone : FateOf m
  -- the stop fell in it: no refusal met it, and a fault shut the keeper before there was a reply
  Interrupted : FateOf m

-- a command, and what became of it
pub record AttemptOf (m : Machine) : Type 0 where
  pub command : m.Command
  pub fate : FateOf m

-- each of the commands is accepted, and they lead from s to t
abbrev pub AllAccepted : (m : Machine) → m.State → List m.Command → m.State → Type 0
AllAccepted m s [] t = t ≡ s
AllAccepted m s (command ∷ commands) t =
    (reply : m.Reply) × (mid : m.State) × m.Accepts s command reply mid × AllAccepted m mid commands t

module _ {m : Machine} where
  -- accepted and finished: acknowledged, or only its reply was lost
  abbrev pub is_finished : FateOf m → Bool
  is_finished (Acknowledged reply) = true
  is_finished (ReplyLost reply) = true
  is_finished other = false

  -- accepted, and what a stop may leave done: finished, or interrupted
  abbrev pub may_be_done : FateOf m → Bool
  may_be_done Interrupted = true
  may_be_done other = is_finished other

  -- the finished commands, in their order
  abbrev pub finished : List (AttemptOf m) → List m.Command
  finished attempts =
      map (λ (one : AttemptOf m). one.command) (filter (λ (one : AttemptOf m). is_finished one.fate) attempts)

  -- the accepted commands, in their order
  abbrev pub possibly_done : List (AttemptOf m) → List m.Command
  possibly_done attempts =
      map (λ (one : AttemptOf m). one.command) (filter (λ (one : AttemptOf m). may_be_done one.fate) attempts)

  -- From s the state t is reached by the finished commands of these attempts, and by no other; or by these and one
  -- more, and then that is all that was accepted. The finished ones are each that was acknowledged and each of which
  -- only the reply was lost.
  pub data IsAfterPrefix (s : m.State) (attempts : List (AttemptOf m)) (t : m.State) : Type 0 where
    AfterFinished : AllAccepted m s (finished attempts) t → IsAfterPrefix s attempts t
    AfterOneMore : (command : m.Command) → possibly_done attempts ≡ finished attempts ++ command ∷ []
        → AllAccepted m s (possibly_done attempts) t → IsAfterPrefix s attempts t

-- ==== what a command makes of a keeper

module _ {m : Machine} (k : Keeper m) where
  -- What a command that met this fate made of a keeper that was open with the state s. Where a stop fell in it, the
  -- keeper is shut, and whatever may be left has the state before the command or the state after it.
  abbrev pub Meets : m.State → m.Command → FateOf m → k.Place → Type 0
  Meets s command (Acknowledged reply) after = (t : m.State) × m.Accepts s command reply t × k.IsOpen t after
  Meets s command (ReplyLost reply) after = (t : m.State) × m.Accepts s command reply t × k.IsOpen t after
  Meets s command (Refused refusal) after = m.Refuses s command refusal × k.IsOpen s after
  Meets s command NotDone after = k.IsOpen s after
  Meets s command Interrupted after =
      (reply : m.Reply) × (t : m.State) × m.Accepts s command reply t × k.IsShut after
      × ((left : k.Content) → k.MayLeave after left → k.Holds s left ⊎ k.Holds t left)

  -- What an attempt makes of a keeper. Of one that is open, but with a database that does not keep its state, it says
  -- nothing.
  pub record MakesOn (before : k.Place) (attempt : AttemptOf m) (after : k.Place) : Type 0 where
    -- a disk that returns what was written has done so before
    pub clean : k.IsClean after → k.IsClean before
    pub from_open : k.IsClean after → (s : m.State) → k.IsOpen s before → Meets s attempt.command attempt.fate after
    pub from_shut : k.IsShut before → (after ≡ before) × (attempt.fate ≡ NotDone)

  -- the attempts are made one after the other, and lead from the first place to the last one
  abbrev pub AreMadeOn : k.Place → List (AttemptOf m) → k.Place → Type 0
  AreMadeOn first [] last = last ≡ first
  AreMadeOn first (one ∷ others) last = (next : k.Place) × MakesOn first one next × AreMadeOn next others last

  -- ==== the theorem

  -- what a stop may leave of an open keeper has its state
  abbrev pub LeavesItsState : Type 0
  LeavesItsState = (s : m.State) (place : k.Place) (left : k.Content) → k.IsOpen s place → k.MayLeave place left
      → k.Holds s left

  -- Whatever came to a keeper that was open with the state s: what a stop may leave now has the state after a prefix of
  -- the accepted commands.
  abbrev pub EveryStopLeavesAPrefix : Type 0
  EveryStopLeavesAPrefix = (s : m.State) (first last : k.Place) (attempts : List (AttemptOf m)) → k.IsOpen s first
      → AreMadeOn first attempts last → k.IsClean last → (left : k.Content) → k.MayLeave last left
      → (t : m.State) × IsAfterPrefix s attempts t × k.Holds t left

  -- A keeper that is still open has the state after the finished commands, and no command was interrupted.
  abbrev pub OpenHasTheFinished : Type 0
  OpenHasTheFinished = (s : m.State) (first last : k.Place) (attempts : List (AttemptOf m)) → k.IsOpen s first
      → AreMadeOn first attempts last → k.IsClean last → ¬ (k.IsShut last)
      → (t : m.State) × AllAccepted m s (finished attempts) t × (possibly_done attempts ≡ finished attempts)
      × k.IsOpen t last

  -- attempts that are made after others are made with these as one list
  abbrev pub AttemptsGoOn : Type 0
  AttemptsGoOn = (first mid last : k.Place) (xs ys : List (AttemptOf m)) → AreMadeOn first xs mid
      → AreMadeOn mid ys last → AreMadeOn first (xs ++ ys) last
