use Rattle.std.proofs.Common.{is_some, ap, ◌∙◌, string_bytes}
use Rattle.std.specs.FinMap.{insert}
use Rattle.std.specs.FinMap as finite
use Rattle.gr_core.proofs.Collections.PairKeys.{choice_total, choice_only}
use Rattle.std.proofs.lemmas.Result.{IfOk-weaker, on_ok_weaker, on_err_weaker}
use Rattle.gr_core.proofs.Collections.TextKeys.{text_total, text_only}
use Rattle.gr_core.proofs.Collections.TwoLevels.{is_some-two_levels, put_under, kept_under}
use Rattle.gr_core.proofs.sponsors.Sponsors.put.Goals as goal

pub returns-clause-earlier : goal.returns-clause-earlier
returns-clause-earlier c =
    let login = string_bytes c.args.login in
    IfOk-weaker c.put.result _ _ (λ earlier said.
    said
    ∙ is_some-two_levels choice_total choice_only text_total text_only (λ choice. choice) string_bytes (λ row. row)
    c.self.inside.by_choice c.self.invariant.outer c.args.choice c.args.login
    ∙ ap (λ sponsors. is_some (finite.get sponsors (c.args.choice, login))) c.self.view_is) c.put.ensures.earlier

pub returns-clause-ok : goal.returns-clause-ok
returns-clause-ok c =
    let login = string_bytes c.args.login in
    on_ok_weaker c.put.result (λ puts.
    put_under choice_total choice_only text_total text_only (λ choice. choice) string_bytes (λ row. row)
    c.self.inside.by_choice c.put.new.table c.args.choice c.args.login c.args.sponsorship
    c.self.invariant.outer c.put.ensures.ordered.outer puts
    ∙ ap (λ sponsors. insert sponsors (c.args.choice, login) c.args.sponsorship) c.self.view_is) c.put.ensures.ok

pub returns-clause-err : goal.returns-clause-err
returns-clause-err c =
    on_err_weaker c.put.result (λ kept.
    kept_under choice_total choice_only text_total text_only (λ choice. choice) string_bytes (λ row. row)
    c.self.inside.by_choice c.put.new.table c.args.choice
    c.self.invariant.outer c.put.ensures.ordered.outer kept
    ∙ c.self.view_is) c.put.ensures.err
