-- One refusal is answered to an act, and one answer.
use Rattle.std.proofs.Common.{◌≡◌, ℕ, zero, suc, ◌+◌, ◌<◌, ◌≤◌, cond, inl, inr, refl, sym, ap, ◌∙◌, arith}
use Rattle.std.specs.Prelude.{◌==◌, ◌≢◌}
use Rattle.std.proofs.lemmas.Bool.Decides.{eqb_tells}
use Rattle.gr_core.specs.declared.refusal.Refusal.{Refusal}
use Rattle.gr_core.specs.declared.refusal.Refusal.TheVariants.{BadMoment, ClockBack, BadLogin, BadText, BadRatio, BadDays, BadToken, Full, NoResolution, NoChoice, WrongStage, Ended, TooEarly, NoDeveloper, NotCurrent, Lapsed, Already, NotSponsor, HasProposer, NoProposer, EndsTooSoon, BadRanks, NotTied, BadRoll, NotRevealed}
use Rattle.gr_core.specs.Desks.State.{State}
use Rattle.gr_core.specs.Machine.Act.{Act, ImportRoll, Adopt}
use Rattle.gr_core.specs.Machine.Refusal.{number, Applies, HasAProposer, HasNoProposer, HasBadRow, Refuses, IsAccepted}
use Rattle.gr_core.specs.Machine.Effect.{effect, counted}
use Rattle.gr_core.specs.Machine.Step.{Answer, Accepted, Refused, Step, reply_to}
use Rattle.gr_core.proofs.Contents.StableLemmas.{lt_or_ge}
use Rattle.gr_core.proofs.Effects.ImportLemmas.{one_bad_line}

-- what tells apart the refusals of one number: the line of the first bad row, and which of the two with the number 19 it is
mark_of : Refusal → ℕ
mark_of (BadRoll line) = line
mark_of NoProposer = 1
mark_of other = 0

-- the refusal that has this number and this mark
by_number : ℕ → ℕ → Refusal
by_number n mark =
    cond (n == 1) BadMoment (
    cond (n == 2) ClockBack (
    cond (n == 3) BadLogin (
    cond (n == 4) BadText (
    cond (n == 5) BadRatio (
    cond (n == 6) BadDays (
    cond (n == 7) BadToken (
    cond (n == 8) Full (
    cond (n == 9) NoResolution (
    cond (n == 10) NoChoice (
    cond (n == 11) WrongStage (
    cond (n == 12) Ended (
    cond (n == 13) TooEarly (
    cond (n == 14) NoDeveloper (
    cond (n == 15) NotCurrent (
    cond (n == 16) Lapsed (
    cond (n == 17) Already (
    cond (n == 18) NotSponsor (
    cond (n == 20) EndsTooSoon (
    cond (n == 21) BadRanks (
    cond (n == 22) NotTied (
    cond (n == 24) NotRevealed (
    cond (n == 19) (cond (mark == 1) NoProposer HasProposer)
    (BadRoll mark)))))))))))))))))))))))

by_number-number : (refusal : Refusal) → by_number (number refusal) (mark_of refusal) ≡ refusal
unfolding by_number mark_of
by_number-number BadMoment = refl
by_number-number ClockBack = refl
by_number-number BadLogin = refl
by_number-number BadText = refl
by_number-number BadRatio = refl
by_number-number BadDays = refl
by_number-number BadToken = refl
by_number-number Full = refl
by_number-number NoResolution = refl
by_number-number NoChoice = refl
by_number-number WrongStage = refl
by_number-number Ended = refl
by_number-number TooEarly = refl
by_number-number NoDeveloper = refl
by_number-number NotCurrent = refl
by_number-number Lapsed = refl
by_number-number Already = refl
by_number-number NotSponsor = refl
by_number-number HasProposer = refl
by_number-number NoProposer = refl
by_number-number EndsTooSoon = refl
by_number-number BadRanks = refl
by_number-number NotTied = refl
by_number-number NotRevealed = refl
by_number-number (BadRoll line) = refl

-- the number 23 has for its mark the line of the first bad row
line_known : (s : State) (at : ℕ) (act : Act) (refusal : Refusal) → Applies refusal s at act → number refusal ≡ 23 → HasBadRow act (mark_of refusal)
unfolding mark_of
line_known s at act (BadRoll line) applies is = applies
line_known s at act BadMoment applies is = absurd (omega arith)
line_known s at act ClockBack applies is = absurd (omega arith)
line_known s at act BadLogin applies is = absurd (omega arith)
line_known s at act BadText applies is = absurd (omega arith)
line_known s at act BadRatio applies is = absurd (omega arith)
line_known s at act BadDays applies is = absurd (omega arith)
line_known s at act BadToken applies is = absurd (omega arith)
line_known s at act Full applies is = absurd (omega arith)
line_known s at act NoResolution applies is = absurd (omega arith)
line_known s at act NoChoice applies is = absurd (omega arith)
line_known s at act WrongStage applies is = absurd (omega arith)
line_known s at act Ended applies is = absurd (omega arith)
line_known s at act TooEarly applies is = absurd (omega arith)
line_known s at act NoDeveloper applies is = absurd (omega arith)
line_known s at act NotCurrent applies is = absurd (omega arith)
line_known s at act Lapsed applies is = absurd (omega arith)
line_known s at act Already applies is = absurd (omega arith)
line_known s at act NotSponsor applies is = absurd (omega arith)
line_known s at act HasProposer applies is = absurd (omega arith)
line_known s at act NoProposer applies is = absurd (omega arith)
line_known s at act EndsTooSoon applies is = absurd (omega arith)
line_known s at act BadRanks applies is = absurd (omega arith)
line_known s at act NotTied applies is = absurd (omega arith)
line_known s at act NotRevealed applies is = absurd applies

-- the numbers that have no mark
no_mark : (refusal : Refusal) → number refusal ≢ 23 → number refusal ≢ 19 → mark_of refusal ≡ 0
unfolding mark_of
no_mark (BadRoll line) other differs = absurd (other refl)
no_mark NoProposer other differs = absurd (differs refl)
no_mark BadMoment other differs = refl
no_mark ClockBack other differs = refl
no_mark BadLogin other differs = refl
no_mark BadText other differs = refl
no_mark BadRatio other differs = refl
no_mark BadDays other differs = refl
no_mark BadToken other differs = refl
no_mark Full other differs = refl
no_mark NoResolution other differs = refl
no_mark NoChoice other differs = refl
no_mark WrongStage other differs = refl
no_mark Ended other differs = refl
no_mark TooEarly other differs = refl
no_mark NoDeveloper other differs = refl
no_mark NotCurrent other differs = refl
no_mark Lapsed other differs = refl
no_mark Already other differs = refl
no_mark NotSponsor other differs = refl
no_mark HasProposer other differs = refl
no_mark EndsTooSoon other differs = refl
no_mark BadRanks other differs = refl
no_mark NotTied other differs = refl
no_mark NotRevealed other differs = refl

one_line : (act : Act) (a b : ℕ) → HasBadRow act a → HasBadRow act b → a ≡ b
one_line (ImportRoll rows) a b one other = one_bad_line rows a b one other
one_line other a b one line = absurd one

-- no act meets both refusals with the number 19: one is met by an adoption alone, the other by a withdrawal alone
not_both : (s : State) (act : Act) → HasAProposer s act → HasNoProposer s act → ⊥
not_both s (Adopt choice proposer) one other = other
not_both s other one both = one

one_of_19 : (s : State) (at : ℕ) (act : Act) (a b : Refusal) → Applies a s at act → Applies b s at act → number a ≡ 19 → number b ≡ 19
    → mark_of a ≡ mark_of b
unfolding mark_of
one_of_19 s at act HasProposer HasProposer one other p q = refl
one_of_19 s at act NoProposer NoProposer one other p q = refl
one_of_19 s at act HasProposer NoProposer one other p q = absurd (not_both s act one other)
one_of_19 s at act NoProposer HasProposer one other p q = absurd (not_both s act other one)
one_of_19 s at act a b one other p q = absurd (omega arith)

-- two refusals that apply to one act at one moment, and have one number, are one
one_number : (s : State) (at : ℕ) (act : Act) (a b : Refusal) → Applies a s at act → Applies b s at act → number a ≡ number b → a ≡ b
one_number s at act a b one other same =
    let marks : mark_of a ≡ mark_of b = elim (eqb_tells (number a) 23) [
      | inl is ↦ one_line act (mark_of a) (mark_of b) (line_known s at act a one is.1) (line_known s at act b other (sym same ∙ is.1))
      | inr differs ↦ elim (eqb_tells (number a) 19) [
        | inl is ↦ one_of_19 s at act a b one other is.1 (sym same ∙ is.1)
        | inr neither ↦ no_mark a differs.1 neither.1 ∙ sym (no_mark b (λ is. differs.1 (same ∙ is)) (λ is. neither.1 (same ∙ is)))
      ]
    ] in
    sym (by_number-number a) ∙ ap (λ n. by_number n (mark_of a)) same ∙ ap (by_number (number b)) marks ∙ by_number-number b

-- one refusal is answered
pub one_refusal : (s : State) (at : ℕ) (act : Act) (a b : Refusal) → Refuses s at act a → Refuses s at act b → a ≡ b
one_refusal s at act a b p q =
    let low : number a ≤ number b = p.least b q.applies in
    let high : number b ≤ number a = q.least a p.applies in
    one_number s at act a b p.applies q.applies (omega arith)

-- an act is answered in one way
pub one_step : (s : State) (at : ℕ) (act : Act) (a b : Answer) (t u : State) → Step s at act a t → Step s at act b u → (a ≡ b) × (t ≡ u)
one_step s at act (Refused x) (Refused y) t u p q = (ap Refused (one_refusal s at act x y p.0 q.0), p.1 ∙ sym q.1)
one_step s at act (Accepted x) (Accepted y) t u p q = (ap Accepted (p.1 ∙ sym q.1), p.2 ∙ sym q.2)
one_step s at act (Refused x) (Accepted y) t u p q = absurd (q.0 x p.0.applies)
one_step s at act (Accepted x) (Refused y) t u p q = absurd (p.0 y q.0.applies)

-- no answer and no state are those of the act
abbrev pub Unanswered : State → ℕ → Act → Type 0
Unanswered s at act = (answer : Answer) (t : State) → ¬ (Step s at act answer t)

-- such an act meets no refusal, the ones of least numbers first
none_applies : (s : State) (at : ℕ) (act : Act) → Unanswered s at act → (n : ℕ) (refusal : Refusal) → number refusal < n → ¬ (Applies refusal s at act)
none_applies s at act none zero refusal below applies = absurd (let never : number refusal < 0 = below in omega arith)
none_applies s at act none (suc n) refusal below applies =
    none (Refused refusal) s (
      record {
        applies = applies;
        least = λ other also. elim (lt_or_ge (number other) (number refusal)) [
          | inl less ↦ absurd (none_applies s at act none n other (omega arith) also)
          | inr least ↦ least
        ];
      },
      refl,
    )

-- an act is answered
pub some_step : (s : State) (at : ℕ) (act : Act) → ¬ (Unanswered s at act)
some_step s at act none =
    let accepted : IsAccepted s at act = λ refusal. none_applies s at act none (number refusal + 1) refusal (omega arith) in
    none (Accepted (reply_to s at act)) (counted (effect s at act) at) (accepted, refl, refl)
