-- Lists of commands.
use Rattle.std.proofs.Common.{◌≡◌, ℕ, ◌+◌, [], ◌∷◌, length, refl, sym, ap, ◌∙◌, subst, arith}
use Rattle.gr_core.specs.declared.header.Header.{Header}
use Rattle.gr_core.specs.Desks.State.{State}
use Rattle.gr_core.specs.Desks.Valid.{IsValid}
use Rattle.gr_core.specs.Machine.Act.{Act}
use Rattle.gr_core.specs.Machine.Effect.{effect, counted}
use Rattle.gr_core.specs.Machine.Step.{Accepted, Refused}
use Rattle.gr_core.specs.Machine.Run.{After, accepted_answers}
use Rattle.gr_core.specs.Laws.MachineLaws.{EachListHasOneOutcome, EachListHasAnOutcome, RefusalsLeaveNoTrace, AcceptedCommandsAreCounted, CommandsKeepADeskValid}
use Rattle.gr_core.proofs.Effects.LeftTableLemmas.{header-effect}
use Rattle.gr_core.proofs.Effects.AnswerLemmas.{one_step, some_step}
use Rattle.gr_core.proofs.Validity.ValidLemmas.{step_valid}

pub one_outcome : EachListHasOneOutcome
one_outcome s [] [] [] t u p q = (refl, p ∙ sym q)
one_outcome s [] [] (y ∷ ys) t u p q = absurd q
one_outcome s [] (x ∷ xs) ys t u p q = absurd p
one_outcome s (act ∷ acts) [] ys t u p q = absurd p
one_outcome s (act ∷ acts) (x ∷ xs) [] t u p q = absurd q
one_outcome s (act ∷ acts) (x ∷ xs) (y ∷ ys) t u p q =
    let here = one_step s act.0 act.1 x y p.0 q.0 p.1 q.1 in
    let rest = one_outcome q.0 acts xs ys t u (subst (λ mid. After mid acts xs t) here.1 p.2) q.2 in
    (ap (λ a. a ∷ xs) here.0 ∙ ap (λ others. y ∷ others) rest.0, rest.1)

pub some_outcome : EachListHasAnOutcome
some_outcome s [] none = none [] s refl
some_outcome s (act ∷ acts) none =
    some_step s act.0 act.1 (λ answer mid step. some_outcome mid acts (λ answers t rest. none (answer ∷ answers) t (mid, step, rest)))

pub no_trace : RefusalsLeaveNoTrace
no_trace s [] [] t p = p
no_trace s [] (x ∷ xs) t p = absurd p
no_trace s (act ∷ acts) [] t p = absurd p
no_trace s (act ∷ acts) (Accepted reply ∷ xs) t p = (p.0, p.1, no_trace p.0 acts xs t p.2)
no_trace s (act ∷ acts) (Refused refusal ∷ xs) t p = no_trace s acts xs t (subst (λ mid. After mid acts xs t) p.1.1 p.2)

count_after : (s : State) (at : ℕ) (act : Act) → (counted (effect s at act) at).header.accepted ≡ s.header.accepted + 1
count_after s at act = ap (λ (header : Header). header.accepted + 1) (header-effect s at act)

pub counts : AcceptedCommandsAreCounted
counts s [] [] t p = ap (λ state. state.header.accepted) p ∙ omega arith
counts s [] (x ∷ xs) t p = absurd p
counts s (act ∷ acts) [] t p = absurd p
counts s (act ∷ acts) (Accepted reply ∷ xs) t p =
    let here : p.0.header.accepted ≡ s.header.accepted + 1 = ap (λ state. state.header.accepted) p.1.2 ∙ count_after s act.0 act.1 in
    let rest : t.header.accepted ≡ p.0.header.accepted + length (accepted_answers xs) = counts p.0 acts xs t p.2 in
    omega arith
counts s (act ∷ acts) (Refused refusal ∷ xs) t p = counts s acts xs t (subst (λ mid. After mid acts xs t) p.1.1 p.2)

pub keeps_valid : CommandsKeepADeskValid
keeps_valid s [] [] t valid p = subst IsValid (sym p) valid
keeps_valid s [] (x ∷ xs) t valid p = absurd p
keeps_valid s (act ∷ acts) [] t valid p = absurd p
keeps_valid s (act ∷ acts) (Accepted reply ∷ xs) t valid p =
    keeps_valid p.0 acts xs t (subst IsValid (sym p.1.2) (step_valid s act.0 act.1 valid p.1.0)) p.2
keeps_valid s (act ∷ acts) (Refused refusal ∷ xs) t valid p = keeps_valid p.0 acts xs t (subst IsValid (sym p.1.1) valid) p.2
