-- Each sheet is shown or refused, and not both.
use Rattle.std.proofs.Common.{◌≡◌, ℕ, Bool, true, false, List, Option, Some, None, IsSomeAnd, refl, sym, ◌∙◌, subst}
use Rattle.std.specs.Prelude.{IsTrue}
use Rattle.std.specs.FinMap.{get}
use Rattle.gr_core.specs.declared.refusal.Refusal.{Refusal}
use Rattle.gr_core.specs.declared.refusal.Refusal.TheVariants.{NoResolution, NotRevealed}
use Rattle.gr_core.specs.Parts.Resolution.{is_closed}
use Rattle.gr_core.specs.Desks.State.{State}
use Rattle.gr_sheet.specs.declared.kind.Kind.{Kind}
use Rattle.gr_sheet.specs.declared.kind.Kind.TheVariants.{Roll, Status, Tally, Result}
use Rattle.gr_sheet.specs.RollSheet.{roll_sheet}
use Rattle.gr_sheet.specs.StatusSheet.{status_sheet}
use Rattle.gr_sheet.specs.TallySheet.{IsTally}
use Rattle.gr_sheet.specs.ResultSheet.{IsResultOf}
use Rattle.gr_sheet.specs.Sheet.{IsSheet, IsRefused}
use Rattle.gr_sheet.specs.Laws.{SheetsAreDetermined, SheetsAreShownOrRefused}
use Rattle.gr_sheet.proofs.OneTally.{a_tally, is_a_tally, one_tally}
use Rattle.gr_sheet.proofs.OneResult.{FindingsAreDetermined, ElectionsHaveFindings, one_result_of, a_result_of, result_is_closed}

-- there is a value, or none
found_or_none : {X : Type 0} (found : Option X) (P : Option X → Type 0) → ((x : X) → found ≡ Some x → P (Some x)) → (found ≡ None → P None) → P found
found_or_none None P some none = none refl
found_or_none (Some x) P some none = some x refl

true_or_false : (b : Bool) (P : Bool → Type 0) → (b ≡ true → P true) → (b ≡ false → P false) → P b
true_or_false true P if_true if_false = if_true refl
true_or_false false P if_true if_false = if_false refl

pub shown_or_refused : ElectionsHaveFindings → SheetsAreShownOrRefused
shown_or_refused have s Roll number none = none.0 (roll_sheet s) refl
shown_or_refused have s Status number none =
    found_or_none (get s.resolutions number) (λ found. ⊥)
    (λ row is. none.0 (status_sheet s number row)
    (subst (λ found. IsSomeAnd found (λ r. status_sheet s number row ≡ status_sheet s number r)) (sym is) refl))
    (λ is. none.1 NoResolution (refl, is))
shown_or_refused have s Tally number none =
    found_or_none (get s.resolutions number) (λ found. ⊥)
    (λ row is. true_or_false (is_closed row) (λ b. ⊥)
    (λ closed. none.0 (a_tally s number)
    (subst (λ found. IsSomeAnd found (λ r. IsTrue (is_closed r) × IsTally s number (a_tally s number))) (sym is) (closed, is_a_tally s number)))
    (λ not_closed. none.1 NotRevealed (refl, subst (λ found. IsSomeAnd found (λ r. is_closed r ≡ false)) (sym is) not_closed)))
    (λ is. none.1 NoResolution (refl, is))
shown_or_refused have s Result number none =
    found_or_none (get s.resolutions number) (λ found. ⊥)
    (λ row is. true_or_false (is_closed row) (λ b. ⊥)
    (λ closed. a_result_of s number have row closed
    (λ text told. none.0 text (subst (λ found. IsSomeAnd found (λ r. IsResultOf s number r text)) (sym is) told)))
    (λ not_closed. none.1 NotRevealed (refl, subst (λ found. IsSomeAnd found (λ r. is_closed r ≡ false)) (sym is) not_closed)))
    (λ is. none.1 NoResolution (refl, is))

-- ==== not both

-- what follows from two facts of what was found
found_with : {X : Type 0} {C : Type 0} (P Q : X → Type 0) (found : Option X) → ((x : X) → P x → Q x → C)
    → IsSomeAnd found P → IsSomeAnd found Q → C
found_with P Q None follows h k = absurd h
found_with P Q (Some x) follows h k = follows x h k

found_not_none : {X : Type 0} (P : X → Type 0) (found : Option X) → IsSomeAnd found P → ¬ (found ≡ None)
found_not_none P found h none = subst (λ o. IsSomeAnd o P) none h

one_text : FindingsAreDetermined → (s : State) (kind : Kind) (number : ℕ) (one other : List ℕ)
    → IsSheet s kind number one → IsSheet s kind number other → one ≡ other
one_text same s Roll number one other h k = h ∙ sym k
one_text same s Status number one other h k =
    found_with (λ row. one ≡ status_sheet s number row) (λ row. other ≡ status_sheet s number row) (get s.resolutions number)
    (λ row is also. is ∙ sym also) h k
one_text same s Tally number one other h k =
    found_with (λ row. IsTrue (is_closed row) × IsTally s number one) (λ row. IsTrue (is_closed row) × IsTally s number other)
    (get s.resolutions number) (λ row is also. one_tally s number one other is.1 also.1) h k
one_text same s Result number one other h k =
    found_with (λ row. IsResultOf s number row one) (λ row. IsResultOf s number row other) (get s.resolutions number)
    (λ row is also. one_result_of s number same row one other is also) h k

one_refusal : (s : State) (kind : Kind) (number : ℕ) (one other : Refusal) → IsRefused s kind number one → IsRefused s kind number other
    → one ≡ other
one_refusal s kind number NoResolution NoResolution h k = refl
one_refusal s kind number NotRevealed NotRevealed h k = refl
one_refusal s kind number NoResolution NotRevealed h k =
    absurd (found_not_none (λ row. is_closed row ≡ false) (get s.resolutions number) k.1 h.1)
one_refusal s kind number NotRevealed NoResolution h k =
    absurd (found_not_none (λ row. is_closed row ≡ false) (get s.resolutions number) h.1 k.1)
one_refusal s kind number NoResolution other h k = absurd k
one_refusal s kind number NotRevealed other h k = absurd k
one_refusal s kind number one other h k = absurd h

not_both : (s : State) (kind : Kind) (number : ℕ) (text : List ℕ) (refusal : Refusal) → IsSheet s kind number text
    → ¬ (IsRefused s kind number refusal)
not_both s Roll number text NoResolution h k = let never : false ≡ true = k.0 in absurd cc
not_both s Status number text NoResolution h k =
    found_not_none (λ row. text ≡ status_sheet s number row) (get s.resolutions number) h k.1
not_both s Tally number text NoResolution h k =
    found_not_none (λ row. IsTrue (is_closed row) × IsTally s number text) (get s.resolutions number) h k.1
not_both s Result number text NoResolution h k =
    found_not_none (λ row. IsResultOf s number row text) (get s.resolutions number) h k.1
not_both s Roll number text NotRevealed h k = let never : false ≡ true = k.0 in absurd cc
not_both s Status number text NotRevealed h k = let never : false ≡ true = k.0 in absurd cc
not_both s Tally number text NotRevealed h k =
    found_with (λ row. IsTrue (is_closed row) × IsTally s number text) (λ row. is_closed row ≡ false) (get s.resolutions number)
    (λ row is not_closed. let never : true ≡ false = sym is.0 ∙ not_closed in absurd cc) h k.1
not_both s Result number text NotRevealed h k =
    found_with (λ row. IsResultOf s number row text) (λ row. is_closed row ≡ false) (get s.resolutions number)
    (λ row is not_closed. let never : true ≡ false = sym (result_is_closed s number row text is) ∙ not_closed in absurd cc) h k.1
not_both s kind number text other h k = k

pub determined : FindingsAreDetermined → SheetsAreDetermined
determined same s kind number = record {
  text = one_text same s kind number;
  refusal = one_refusal s kind number;
  never_both = not_both s kind number;
}
