use Rattle.std.proofs.Common.{is_some, ap, ◌∙◌, string_bytes}
use Rattle.std.specs.Cmp.{nat_cmp_total}
use Rattle.std.specs.FinMap.{insert, nat_cmp-IsAntisymmetric}
use Rattle.std.specs.FinMap as finite
use Rattle.gr_core.specs.Parts.Ballot.{ballot_model}
use Rattle.std.proofs.lemmas.Result.{IfOk-weaker, on_ok_weaker, on_err_weaker}
use Rattle.gr_core.proofs.Collections.TextKeys.{text_total, text_only}
use Rattle.gr_core.proofs.Collections.TwoLevels.{is_some-two_levels, put_under, kept_under}
use Rattle.gr_core.proofs.ballots.Ballots.put.Goals as goal

pub returns-clause-earlier : goal.returns-clause-earlier
returns-clause-earlier c =
    let login = string_bytes c.args.login in
    IfOk-weaker c.put.result _ _ (λ earlier said.
    said
    ∙ is_some-two_levels nat_cmp_total nat_cmp-IsAntisymmetric text_total text_only (λ number. number) string_bytes ballot_model
    c.self.inside.by_resolution c.self.invariant.outer c.args.resolution c.args.login
    ∙ ap (λ ballots. is_some (finite.get ballots (c.args.resolution, login))) c.self.view_is) c.put.ensures.earlier

pub returns-clause-ok : goal.returns-clause-ok
returns-clause-ok c =
    let login = string_bytes c.args.login in
    on_ok_weaker c.put.result (λ puts.
    put_under nat_cmp_total nat_cmp-IsAntisymmetric text_total text_only (λ number. number) string_bytes ballot_model
    c.self.inside.by_resolution c.put.new.table c.args.resolution c.args.login c.args.ballot
    c.self.invariant.outer c.put.ensures.ordered.outer puts
    ∙ ap (λ ballots. insert ballots (c.args.resolution, login) (ballot_model c.args.ballot)) c.self.view_is) c.put.ensures.ok

pub returns-clause-err : goal.returns-clause-err
returns-clause-err c =
    on_err_weaker c.put.result (λ kept.
    kept_under nat_cmp_total nat_cmp-IsAntisymmetric text_total text_only (λ number. number) string_bytes ballot_model
    c.self.inside.by_resolution c.put.new.table c.args.resolution
    c.self.invariant.outer c.put.ensures.ordered.outer kept
    ∙ c.self.view_is) c.put.ensures.err
