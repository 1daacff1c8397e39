-- Lists of commands: their answers, their attempts, and where they stop.
use Rattle.std.proofs.Common.{◌≡◌, ◌<◌, ◌≤◌, ℕ, suc, ◌+◌, List, [], ◌∷◌, ◌++◌, length, map, Option, Some, None, Result, Ok, Err, inl, inr, refl, sym, ap, subst, ◌∙◌, arith}
use Rattle.std.specs.Prelude.{IfSome, IsSome, Vec, take, drop}
use Rattle.std.specs.List.{AllByRecursion}
use Rattle.std.specs.declared.alloc.Global.{Global}
use Rattle.std.proofs.Math.ListN.{get_or, get_or-map}
use Rattle.std.proofs.Math.Seq.{take-append_seam, drop-append_seam, take-suc, drop-cons}
use Rattle.std.proofs.lemmas.List.{map-append, length-map, length-take-le, take-append-drop}
use Rattle.gr_core.specs.declared.reply.Reply.{Reply}
use Rattle.gr_core.specs.declared.refusal.Refusal.{Refusal}
use Rattle.gr_core.specs.Desks.State.{State}
use Rattle.gr_core.specs.Machine.Act.{Act}
use Rattle.gr_core.specs.Machine.Run.{After}
use Rattle.gr_core.specs.Machine.Step as step
use Rattle.gr_store.specs.declared.fault.Fault.{Fault}
use Rattle.gr_store.specs.declared.fault.Fault.TheVariants.{Memory, Closed}
use Rattle.sqlite.specs.Held.{state}
use Rattle.sqlite.specs.State.{HasCleanDisk}
use Rattle.sqlite_trees.specs.declared.store.Store.{Ghosts}
use Rattle.gr_office.specs.declared.fault.ActFault.{ActFault}
use Rattle.gr_office.specs.declared.fault.ActFault.TheVariants as answered
use Rattle.gr_office.specs.declared.run.Stopped.{Stopped}
use Rattle.gr_office.specs.Office.{Office, Acts, IsOpenWith, Runs, StopsAt, answer_of, fault_of_act, remembered}
use Rattle.gr_office.specs.Crash.{NotDone}
use Rattle.gr_office.specs.History.{keeper, Fate, Makes, AreMade, act_attempt, fate_of, list_attempts, listed_fate}
use Rattle.gr_office.proofs.CrashLemmas.{go_on, open_has}
use Rattle.gr_office.proofs.HistoryLemmas.{IsNotDone, makes_nothing}
use Rattle.gr_office.proofs.OpenLemmas.{same_state}

-- commands without answers were not tried
pub list_not_done : (commands : List (ℕ × Act)) → AllByRecursion IsNotDone (list_attempts commands [] NotDone)
list_not_done [] = tt
list_not_done (command ∷ commands) = (refl, list_not_done commands)

-- one more command, with its answer
pub attempts_last : (commands : List (ℕ × Act)) (answers : List (Result Reply Refusal)) (command : ℕ × Act) (answer : Result Reply Refusal)
    → length answers ≡ length commands
    → list_attempts (commands ++ command ∷ []) (answers ++ answer ∷ []) NotDone
    ≡ list_attempts commands answers NotDone ++ record { command = command; fate = listed_fate answer } ∷ []
attempts_last [] [] command answer same = refl
attempts_last [] (a ∷ answers) command answer same = absurd (cc)
attempts_last (c ∷ commands) [] command answer same = absurd (cc)
attempts_last (c ∷ commands) (a ∷ answers) command answer same =
    ap (λ attempts. record { command = c; fate = listed_fate a } ∷ attempts)
    (attempts_last commands answers command answer (let less : length answers ≡ length commands = omega arith in less))

-- the command at which a list stops, and those after it
pub attempts_stopped : (commands : List (ℕ × Act)) (answers : List (Result Reply Refusal)) (command : ℕ × Act) (behind : List (ℕ × Act))
    (next : Fate) → length answers ≡ length commands
    → list_attempts (commands ++ command ∷ behind) answers next
    ≡ list_attempts commands answers NotDone ++ record { command = command; fate = next } ∷ list_attempts behind [] NotDone
attempts_stopped [] [] command behind next same = refl
attempts_stopped [] (a ∷ answers) command behind next same = absurd (cc)
attempts_stopped (c ∷ commands) [] command behind next same = absurd (cc)
attempts_stopped (c ∷ commands) (a ∷ answers) command behind next same =
    ap (λ attempts. record { command = c; fate = listed_fate a } ∷ attempts)
    (attempts_stopped commands answers command behind next (let less : length answers ≡ length commands = omega arith in less))

-- one more command after a list
pub after_last : (s t u : State) (commands : List (ℕ × Act)) (answers : List step.Answer) (command : ℕ × Act) (answer : step.Answer)
    → After s commands answers t → step.Step t command.0 command.1 answer u → After s (commands ++ command ∷ []) (answers ++ answer ∷ []) u
after_last s t u [] [] command answer before last =
    (u, subst (λ from. step.Step from command.0 command.1 answer u) before last, refl)
after_last s t u [] (a ∷ answers) command answer before last = absurd before
after_last s t u (c ∷ commands) [] command answer before last = absurd before
after_last s t u (c ∷ commands) (a ∷ answers) command answer before last =
    (before.0, before.1, after_last before.0 t u commands answers command answer before.2 last)

-- where an act met a fault, a list stops
pub stops_at : (answers : List (Result Reply Refusal)) (t : State) (command : ℕ × Act) (behind : List (ℕ × Act)) (fault : Fault)
    (after : Option State) → Acts (Some t) command.0 command.1 (Err (answered.Fault fault)) after
    → StopsAt answers t (command ∷ behind) fault after
stops_at answers t command behind fault after (accepted, inl memory) = rw (memory.1) (memory.0, refl, inr accepted)
stops_at answers t command behind fault after (accepted, inr closed) = rw (closed.1) (closed.0, accepted)

-- the answer to an act that is no fault
abbrev pub as_act : Result Reply Refusal → Result Reply ActFault
as_act (Ok reply) = Ok reply
as_act (Err refusal) = Err (answered.Refused refusal)

-- what a list has answered so far, and where it leaves the desk
abbrev pub RanTo : Option State → List (ℕ × Act) → List (Result Reply Refusal) → Option State → Type 0
RanTo start commands answers now =
    IfSome start (λ s. (t : State) × After s commands (map answer_of answers) t × (now ≡ Some t))

pub ran_nothing : (start : Option State) (answers : List (Result Reply Refusal)) → answers ≡ [] → RanTo start [] answers start
ran_nothing (Some s) answers none = (s, rw (none) refl, refl)
ran_nothing None answers none = tt

act_steps : (t : State) (command : ℕ × Act) (answer : Result Reply Refusal) (after : Option State)
    → Acts (Some t) command.0 command.1 (as_act answer) after
    → (u : State) × step.Step t command.0 command.1 (answer_of answer) u × (after ≡ Some u)
act_steps t command (Ok reply) after acts = acts
act_steps t command (Err refusal) after acts = (t, acts.0, acts.1)

pub ran_one_more : (start now after : Option State) (commands : List (ℕ × Act)) (answers : List (Result Reply Refusal)) (command : ℕ × Act)
    (answer : Result Reply Refusal) → RanTo start commands answers now → Acts now command.0 command.1 (as_act answer) after
    → RanTo start (commands ++ command ∷ []) (answers ++ answer ∷ []) after
ran_one_more (Some s) now after commands answers command answer ran acts =
    let next = act_steps ran.0 command answer after (subst (λ desk. Acts desk command.0 command.1 (as_act answer) after) ran.2 acts) in (
      next.0,
      subst (λ l. After s (commands ++ command ∷ []) l next.0) (sym (map-append answer_of answers (answer ∷ [])))
          (after_last s ran.0 next.0 commands (map answer_of answers) command (answer_of answer) ran.1 next.1),
      next.2,
    )
ran_one_more None now after commands answers command answer ran acts = tt

-- a list that was answered whole
pub ran_whole : (start now : Option State) (commands : List (ℕ × Act)) (answers : Vec (Result Reply Refusal) Global)
    → ¬ (start ≡ None) → RanTo start commands answers.items now → Runs start commands (Ok answers) now
ran_whole (Some s) now commands answers some ran = ran
ran_whole None now commands answers some ran = absurd (some refl)

-- a list that was stopped in a command
pub ran_until : (start now after : Option State) (done : List (ℕ × Act)) (command : ℕ × Act) (behind : List (ℕ × Act)) (stopped : Stopped)
    → ¬ (start ≡ None) → length stopped.answers.items ≡ length done → RanTo start done stopped.answers.items now
    → Acts now command.0 command.1 (Err (answered.Fault stopped.fault)) after
    → Runs start (done ++ command ∷ behind) (Err stopped) after
ran_until (Some s) now after done command behind stopped some same ran acts =
    let beginning : take (length stopped.answers.items) (done ++ command ∷ behind) ≡ done
    = ap (λ n. take n (done ++ command ∷ behind)) same ∙ take-append_seam done (command ∷ behind) in
    let ahead : drop (length stopped.answers.items) (done ++ command ∷ behind) ≡ command ∷ behind
    = ap (λ n. drop n (done ++ command ∷ behind)) same ∙ drop-append_seam done (command ∷ behind) in
    let stops = stops_at stopped.answers.items ran.0 command behind stopped.fault after
    (subst (λ desk. Acts desk command.0 command.1 (Err (answered.Fault stopped.fault)) after) ran.2 acts) in (
      ran.0,
      subst (λ l. After s l (map answer_of stopped.answers.items) ran.0) (sym beginning) ran.1,
      subst (λ l. StopsAt stopped.answers.items ran.0 l stopped.fault after) (sym ahead) stops,
    )
ran_until None now after done command behind stopped some same ran acts = absurd (some refl)

-- a list for which there was no room
pub ran_without_room : (start : Option State) (commands : List (ℕ × Act)) (stopped : Stopped) → ¬ (start ≡ None)
    → stopped.answers.items ≡ [] → stopped.fault ≡ Memory → Runs start commands (Err stopped) start
ran_without_room (Some s) commands stopped some none memory =
    (s, rw (none) refl, (memory, refl, inl none))
ran_without_room None commands stopped some none memory = absurd (some refl)

-- ==== the fault that is remembered

-- a call that leaves the desk as it was has closed nothing
pub remembers_same : (met : Option Fault) (desk : Option State) (was : Option Fault) → was ≡ remembered met desk desk was
remembers_same (Some fault) (Some s) was = refl
remembers_same (Some fault) None was = refl
remembers_same None desk was = refl

-- the fault that closed an open office
pub remembers_closing : (met : Option Fault) (fault : Fault) (before after : Option State) (was now : Option Fault) → met ≡ Some fault
    → IsSome before → after ≡ None → now ≡ Some fault → now ≡ remembered met before after was
remembers_closing met fault (Some s) after was now is some shut told = rw (is, shut) told
remembers_closing met fault None after was now is some shut told = absurd (let never = some in cc)

-- an answer that is no fault
pub remembers_answer : (answer : Result Reply Refusal) (before after : Option State) (was : Option Fault)
    → remembered (fault_of_act (as_act answer)) before after was ≡ was
remembers_answer (Ok reply) before after was = refl
remembers_answer (Err refusal) before after was = refl

-- a fault that stopped a list on an office that was open
pub remembers_stop : (fault : Fault) (start now after : Option State) (was : Option Fault) → ¬ (start ≡ None) → ¬ (now ≡ None)
    → remembered (Some fault) now after was ≡ remembered (Some fault) start after was
remembers_stop fault (Some s) (Some t) (Some u) was some still = refl
remembers_stop fault (Some s) (Some t) None was some still = refl
remembers_stop fault (Some s) None after was some still = absurd (still refl)
remembers_stop fault None now after was some still = absurd (some refl)

-- after answers an office is open
pub ran_is_open : (start now : Option State) (commands : List (ℕ × Act)) (answers : List (Result Reply Refusal)) → ¬ (start ≡ None)
    → RanTo start commands answers now → ¬ (now ≡ None)
ran_is_open (Some s) now commands answers some ran none = absurd (let both = sym ran.2 ∙ none in cc)
ran_is_open None now commands answers some ran none = some refl

-- ==== attempts

-- running out of memory that leaves the office open has done nothing
pub memory_fate : (desk : Option State) (fault : Fault) → ¬ (desk ≡ None) → fault ≡ Memory
    → fate_of (Err (answered.Fault fault)) desk ≡ NotDone
memory_fate (Some s) fault some memory = rw (memory) refl
memory_fate None fault some memory = absurd (some refl)

pub closed_fate : (desk : Option State) (fault : Fault) → fault ≡ Closed → fate_of (Err (answered.Fault fault)) desk ≡ NotDone
closed_fate desk fault closed = rw (closed) refl

-- an act that is no fault has the attempt of its answer
pub act_fate : (answer : Result Reply Refusal) (after : Option State) → fate_of (as_act answer) after ≡ listed_fate answer
act_fate (Ok reply) after = refl
act_fate (Err refusal) after = refl

module _ {S : Type 0} (g : Ghosts S) where
  -- a list of which nothing was done
  pub list_makes_nothing : (office : Office S) (commands : List (ℕ × Act)) (answers : List (Result Reply Refusal)) (fate : Fate)
      → answers ≡ [] → fate ≡ NotDone → AreMade g office (list_attempts commands answers fate) office
  list_makes_nothing office commands answers fate none nothing =
      rw (none, nothing) (makes_nothing g office (list_attempts commands [] NotDone) (list_not_done commands))

  -- one more command that is answered
  pub list_makes_one_more : (first now after : Office S) (commands : List (ℕ × Act)) (answers : List (Result Reply Refusal)) (command : ℕ × Act)
      (answer : Result Reply Refusal) → length answers ≡ length commands → AreMade g first (list_attempts commands answers NotDone) now
      → Makes g now (act_attempt command.0 command.1 (as_act answer) after.desk) after
      → AreMade g first (list_attempts (commands ++ command ∷ []) (answers ++ answer ∷ []) NotDone) after
  list_makes_one_more first now after commands answers command answer same so_far last =
      subst (λ attempts. AreMade g first attempts after) (sym (attempts_last commands answers command answer same))
      (go_on (keeper g) first now after (list_attempts commands answers NotDone) _ so_far
      (after, subst (λ fate. Makes g now (record { command = command; fate = fate }) after) (act_fate answer after.desk) last, refl))

  -- the command in which a list was stopped
  pub list_makes_until : (first now after : Office S) (done : List (ℕ × Act)) (answers : List (Result Reply Refusal)) (command : ℕ × Act)
      (behind : List (ℕ × Act)) (fault : Fault) → length answers ≡ length done → AreMade g first (list_attempts done answers NotDone) now
      → Makes g now (act_attempt command.0 command.1 (Err (answered.Fault fault)) after.desk) after
      → AreMade g first (list_attempts (done ++ command ∷ behind) answers (fate_of (Err (answered.Fault fault)) after.desk)) after
  list_makes_until first now after done answers command behind fault same so_far last =
      let next = fate_of (Err (answered.Fault fault)) after.desk in
      subst (λ attempts. AreMade g first attempts after) (sym (attempts_stopped done answers command behind next same))
      (go_on (keeper g) first now after (list_attempts done answers NotDone) _ so_far
      (after, last, makes_nothing g after (list_attempts behind [] NotDone) (list_not_done behind)))

  -- an office that has answered so far is open with the state after the answers
  pub ran_open : (s : State) (first now : Office S) (commands : List (ℕ × Act)) (answers : List (Result Reply Refusal)) → IsOpenWith g s first
      → RanTo first.desk commands answers now.desk → AreMade g first (list_attempts commands answers NotDone) now
      → HasCleanDisk (state g now.conn) → (t : State) × After s commands (map answer_of answers) t × IsOpenWith g t now
  ran_open s first now commands answers is ran makes clean =
      let it = subst (λ desk. RanTo desk commands answers now.desk) is.desk ran in
      let stands = open_has (keeper g) s first now (list_attempts commands answers NotDone) is makes clean
      (λ none. absurd (let both = sym it.2 ∙ none in cc)) in
      (it.0, it.1, subst (λ t. IsOpenWith g t now) (same_state now.desk stands.0 it.0 stands.3.desk it.2) stands.3)

-- ==== the commands up to one of them, and from it on

at_item : {X Y : Type 0} (f : X → Y) (xs : List X) (i : ℕ) (x : X) → x ≡ get_or xs i x → get_or (map f xs) i (f x) ≡ f x
at_item f xs i x is = get_or-map f xs i x ∙ ap f (sym is)

below_map : {X Y : Type 0} (f : X → Y) (xs : List X) (i : ℕ) → i < length xs → i < length (map f xs)
below_map f xs i below = subst (λ n. i < n) (sym (length-map xs f)) below

pub take_next : {X Y : Type 0} (f : X → Y) (xs : List X) (i : ℕ) (x : X) → i < length xs → x ≡ get_or xs i x
    → take (i + 1) (map f xs) ≡ take i (map f xs) ++ f x ∷ []
take_next f xs i x below is =
    ap (λ n. take n (map f xs)) (let next : i + 1 ≡ suc i = omega arith in next)
    ∙ take-suc (map f xs) i (f x) (below_map f xs i below) ∙ ap (λ y. take i (map f xs) ++ y ∷ []) (at_item f xs i x is)

pub drop_next : {X Y : Type 0} (f : X → Y) (xs : List X) (i : ℕ) (x : X) → i < length xs → x ≡ get_or xs i x
    → drop i (map f xs) ≡ f x ∷ drop (suc i) (map f xs)
drop_next f xs i x below is =
    drop-cons (map f xs) i (f x) (below_map f xs i below) ∙ ap (λ y. y ∷ drop (suc i) (map f xs)) (at_item f xs i x is)

pub split_at : {X Y : Type 0} (f : X → Y) (xs : List X) (i : ℕ) (x : X) → i < length xs → x ≡ get_or xs i x
    → map f xs ≡ take i (map f xs) ++ f x ∷ drop (suc i) (map f xs)
split_at f xs i x below is =
    sym (take-append-drop i (map f xs)) ∙ ap (λ l. take i (map f xs) ++ l) (drop_next f xs i x below is)

pub so_many : {X Y Z : Type 0} (f : X → Y) (xs : List X) (i : ℕ) (zs : List Z) → i ≤ length xs → length zs ≡ i
    → length zs ≡ length (take i (map f xs))
so_many f xs i zs within is =
    is ∙ sym (length-take-le i (map f xs) (subst (λ n. i ≤ n) (sym (length-map xs f)) within))

-- a list with one at its end is not empty
pub never_empty : {X : Type 0} (xs : List X) (x : X) → ¬ (xs ++ x ∷ [] ≡ [])
never_empty [] x none = absurd (cc)
never_empty (y ∷ xs) x none = absurd (cc)
