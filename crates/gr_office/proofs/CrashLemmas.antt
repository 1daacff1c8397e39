-- The crash theorem, over any machine.
use Rattle.std.proofs.Common.{◌≡◌, ◌⊎◌, List, [], ◌∷◌, ◌++◌, inl, inr, refl, sym, ap, subst, ◌∙◌}
use Rattle.gr_office.specs.Crash.{Machine, Keeper, FateOf, Acknowledged, ReplyLost, Refused, NotDone, Interrupted, AttemptOf, finished, possibly_done}
use Rattle.gr_office.specs.Crash.{AllAccepted, IsAfterPrefix, AfterFinished, AfterOneMore, Meets, AreMadeOn, LeavesItsState, EveryStopLeavesAPrefix, OpenHasTheFinished, AttemptsGoOn}

module _ {m : Machine} where
  -- one command more in front
  in_front : (s mid t : m.State) (command : m.Command) (reply : m.Reply) (fate : FateOf m) (attempts : List (AttemptOf m))
      → m.Accepts s command reply mid
      → finished (record { command = command; fate = fate } ∷ attempts) ≡ command ∷ finished attempts
      → possibly_done (record { command = command; fate = fate } ∷ attempts) ≡ command ∷ possibly_done attempts
      → IsAfterPrefix mid attempts t → IsAfterPrefix s (record { command = command; fate = fate } ∷ attempts) t
  in_front s mid t command reply fate attempts accepts is all (AfterFinished after) =
      AfterFinished (subst (λ l. AllAccepted m s l t) (sym is) (reply, mid, accepts, after))
  in_front s mid t command reply fate attempts accepts is all (AfterOneMore more same after) =
      AfterOneMore more (all ∙ ap (λ l. command ∷ l) same ∙ ap (λ l. l ++ more ∷ []) (sym is))
      (subst (λ l. AllAccepted m s l t) (sym all) (reply, mid, accepts, after))

  -- one in front of which nothing was done
  with_nothing : (s t : m.State) (attempt : AttemptOf m) (attempts : List (AttemptOf m))
      → finished (attempt ∷ attempts) ≡ finished attempts → possibly_done (attempt ∷ attempts) ≡ possibly_done attempts
      → IsAfterPrefix s attempts t → IsAfterPrefix s (attempt ∷ attempts) t
  with_nothing s t attempt attempts is all (AfterFinished after) = AfterFinished (subst (λ l. AllAccepted m s l t) (sym is) after)
  with_nothing s t attempt attempts is all (AfterOneMore more same after) =
      AfterOneMore more (all ∙ same ∙ ap (λ l. l ++ more ∷ []) (sym is)) (subst (λ l. AllAccepted m s l t) (sym all) after)

module _ {m : Machine} (k : Keeper m) where
  pub made_clean : (first last : k.Place) (attempts : List (AttemptOf m)) → AreMadeOn k first attempts last → k.IsClean last → k.IsClean first
  made_clean first last [] made clean = subst k.IsClean made clean
  made_clean first last (attempt ∷ attempts) made clean = made.1.clean (made_clean made.0 last attempts made.2 clean)

  -- after a fault nothing is done
  pub shut_made : (first last : k.Place) (attempts : List (AttemptOf m)) → AreMadeOn k first attempts last → k.IsShut first
      → (last ≡ first) × (finished attempts ≡ []) × (possibly_done attempts ≡ [])
  shut_made first last [] made shut = (made, refl, refl)
  shut_made first last (attempt ∷ attempts) made shut =
      let it = made.1.from_shut shut in
      let rest = shut_made made.0 last attempts made.2 (subst k.IsShut (sym it.0) shut) in
      (rest.0 ∙ it.0, rw (it.1) rest.1, rw (it.1) rest.2)

  pub go_on : AttemptsGoOn k
  go_on first mid last [] ys one two = subst (λ place. AreMadeOn k place ys last) one two
  go_on first mid last (x ∷ xs) ys one two = (one.0, one.1, go_on one.0 mid last xs ys one.2 two)

  -- What stands: it is open with the state after the finished commands, or shut, and what may be left then is known.
  data Stands (s : m.State) (attempts : List (AttemptOf m)) (last : k.Place) : Type 0 where
    StandsOpen : (t : m.State) → AllAccepted m s (finished attempts) t → possibly_done attempts ≡ finished attempts → k.IsOpen t last
        → Stands s attempts last
    StandsShut : k.IsShut last
        → ((left : k.Content) → k.MayLeave last left → (t : m.State) × IsAfterPrefix s attempts t × k.Holds t left)
        → Stands s attempts last

  stands_in_front : (s mid : m.State) (command : m.Command) (reply : m.Reply) (fate : FateOf m) (attempts : List (AttemptOf m)) (last : k.Place)
      → m.Accepts s command reply mid
      → finished (record { command = command; fate = fate } ∷ attempts) ≡ command ∷ finished attempts
      → possibly_done (record { command = command; fate = fate } ∷ attempts) ≡ command ∷ possibly_done attempts
      → Stands mid attempts last → Stands s (record { command = command; fate = fate } ∷ attempts) last
  stands_in_front s mid command reply fate attempts last accepts is all (StandsOpen t after same still) =
      StandsOpen t (subst (λ l. AllAccepted m s l t) (sym is) (reply, mid, accepts, after)) (all ∙ ap (λ l. command ∷ l) same ∙ sym is) still
  stands_in_front s mid command reply fate attempts last accepts is all (StandsShut shut leaves) = StandsShut shut (λ left may.
      let it = leaves left may in (it.0, in_front s mid it.0 command reply fate attempts accepts is all it.1, it.2))

  stands_with_nothing : (s : m.State) (attempt : AttemptOf m) (attempts : List (AttemptOf m)) (last : k.Place)
      → finished (attempt ∷ attempts) ≡ finished attempts → possibly_done (attempt ∷ attempts) ≡ possibly_done attempts
      → Stands s attempts last → Stands s (attempt ∷ attempts) last
  stands_with_nothing s attempt attempts last is all (StandsOpen t after same still) =
      StandsOpen t (subst (λ l. AllAccepted m s l t) (sym is) after) (all ∙ same ∙ sym is) still
  stands_with_nothing s attempt attempts last is all (StandsShut shut leaves) = StandsShut shut (λ left may.
      let it = leaves left may in (it.0, with_nothing s it.0 attempt attempts is all it.1, it.2))

  stands_interrupted : (s t : m.State) (command : m.Command) (reply : m.Reply) (attempts : List (AttemptOf m)) (next last : k.Place)
      → m.Accepts s command reply t → k.IsShut next → last ≡ next → finished attempts ≡ [] → possibly_done attempts ≡ []
      → ((left : k.Content) → k.MayLeave next left → k.Holds s left ⊎ k.Holds t left)
      → Stands s (record { command = command; fate = Interrupted } ∷ attempts) last
  stands_interrupted s t command reply attempts next last accepts shut same none no_more leaves =
      StandsShut (subst k.IsShut (sym same) shut) (λ left may.
      elim (leaves left (subst (λ place. k.MayLeave place left) same may)) [
        | inl before ↦ (s, AfterFinished (subst (λ l. AllAccepted m s l s) (sym none) refl), before)
        | inr after ↦ (
          t,
          AfterOneMore command (ap (λ l. command ∷ l) no_more ∙ ap (λ l. l ++ command ∷ []) (sym none))
              (reply, t, accepts, subst (λ l. AllAccepted m t l t) (sym no_more) refl),
          after,
        )
      ])

  -- one more in front, by its fate
  met : (s : m.State) (next last : k.Place) (command : m.Command) (fate : FateOf m) (attempts : List (AttemptOf m)) → Meets k s command fate next
      → AreMadeOn k next attempts last → ((t : m.State) → k.IsOpen t next → Stands t attempts last)
      → Stands s (record { command = command; fate = fate } ∷ attempts) last
  met s next last command (Acknowledged reply) attempts meets made behind =
      stands_in_front s meets.0 command reply (Acknowledged reply) attempts last meets.1 refl refl (behind meets.0 meets.2)
  met s next last command (ReplyLost reply) attempts meets made behind =
      stands_in_front s meets.0 command reply (ReplyLost reply) attempts last meets.1 refl refl (behind meets.0 meets.2)
  met s next last command (Refused refusal) attempts meets made behind =
      stands_with_nothing s (record { command = command; fate = Refused refusal }) attempts last refl refl (behind s meets.1)
  met s next last command NotDone attempts meets made behind =
      stands_with_nothing s (record { command = command; fate = NotDone }) attempts last refl refl (behind s meets)
  met s next last command Interrupted attempts meets made behind =
      let rest = shut_made next last attempts made meets.3 in
      stands_interrupted s meets.1 command meets.0 attempts next last meets.2 meets.3 rest.0 rest.1 rest.2 meets.4

  stands : (s : m.State) (first last : k.Place) (attempts : List (AttemptOf m)) → k.IsOpen s first → AreMadeOn k first attempts last
      → k.IsClean last → Stands s attempts last
  stands s first last [] is made clean = StandsOpen s refl refl (subst (k.IsOpen s) (sym made) is)
  stands s first last (attempt ∷ attempts) is made clean =
      met s made.0 last attempt.command attempt.fate attempts
      (made.1.from_open (made_clean made.0 last attempts made.2 clean) s is) made.2
      (λ t still. stands t made.0 last attempts still made.2 clean)

  left_by : (s : m.State) (attempts : List (AttemptOf m)) (last : k.Place) → LeavesItsState k → Stands s attempts last
      → (left : k.Content) → k.MayLeave last left → (t : m.State) × IsAfterPrefix s attempts t × k.Holds t left
  left_by s attempts last own (StandsOpen t after same still) left may = (t, AfterFinished after, own t last left still may)
  left_by s attempts last own (StandsShut shut leaves) left may = leaves left may

  pub every_stop : LeavesItsState k → EveryStopLeavesAPrefix k
  every_stop own s first last attempts is made clean left may =
      left_by s attempts last own (stands s first last attempts is made clean) left may

  still_open : (s : m.State) (attempts : List (AttemptOf m)) (last : k.Place) → ¬ (k.IsShut last) → Stands s attempts last
      → (t : m.State) × AllAccepted m s (finished attempts) t × (possibly_done attempts ≡ finished attempts) × k.IsOpen t last
  still_open s attempts last unshut (StandsOpen t after same still) = (t, after, same, still)
  still_open s attempts last unshut (StandsShut shut leaves) = absurd (unshut shut)

  pub open_has : OpenHasTheFinished k
  open_has s first last attempts is made clean unshut = still_open s attempts last unshut (stands s first last attempts is made clean)
