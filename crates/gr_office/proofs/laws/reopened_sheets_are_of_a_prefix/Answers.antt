use Rattle.std.proofs.Common.{◌≡◌, Result, Ok, Err, sym, subst}
use Rattle.std.specs.Prelude.{IfErr}
use Rattle.std.specs.Result.{IsErrAnd}
use Rattle.gr_office.specs.Office.{ShowsSheet}
use Rattle.gr_office.proofs.laws.reopened_sheets_are_of_a_prefix.Goals as goal

-- what holds of an error holds where that error is answered
handed_on : {X E : Type 0} (P : E → Type 0) (result : Result X E) (e : E) → IsErrAnd result (λ f. f ≡ e) → P e → IfErr result P
handed_on P (Ok x) e is held = absurd is
handed_on P (Err f) e is held = subst P (sym is) held

pub returns-clause-opened : goal.returns-clause-opened
returns-clause-opened g c opens s start attempts left opened =
    let found = c.in_ok-office.ensures.opened opens s start attempts left opened in (
      found.0,
      found.1,
      found.2,
      subst (λ desk. ShowsSheet desk c.args.kind c.args.number c.sheet-sheet.result) found.2.desk c.sheet-sheet.ensures,
    )

pub returns-in_err-office-clause-failed : goal.returns-in_err-office-clause-failed
returns-in_err-office-clause-failed g c opens s start attempts left =
    handed_on _ c.from_residual.result c.in_err-office.field-0.0 c.from_residual.ensures.1 (c.in_err-office.ensures.failed opens s start attempts left)
