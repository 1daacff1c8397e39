use Rattle.std.proofs.Common.{◌∙◌, sym, map, subst}
use Rattle.std.specs.Prelude.{⊤}
use Rattle.gr_core.specs.Machine.Import.{roll_row}
use Rattle.gr_desk.specs.Failure.{failure_of_act}
use Rattle.gr_desk.specs.Steps.{ImportsRows}
use Rattle.gr_desk.proofs.StepLemmas.{err_is, imported, not_imported}
use Rattle.gr_desk.proofs.steps.import_rows.Goals as goal

pub returns : goal.returns
returns g c =
    let act = c.in_ok-reply.ensures in
    imported g.S.Store c.args.office.now c.act.new.self c.args.at _ _ _ c.in_ok-reply.reply c.as_str.result.now c.print.result
    (c.as_str.ensures.value ∙ c.reply_line.ensures)
    (record { acts = act.acts; kept = act.kept; spares = act.spares; caused = act.caused; makes = act.makes })
    c.print.ensures.whole c.print.ensures.lost

pub returns-in_err-reply : goal.returns-in_err-reply
returns-in_err-reply g c =
    let act = c.in_err-reply.ensures in
    let old = g.O.Output.written c.args.output.now in
    let fault = c.in_err-reply.field-0.0 in
    subst (λ done. ImportsRows g.S.Store c.args.office.now c.args.at (map roll_row c.args.rows.items) old old done c.act.new.self)
    (sym (err_is c.from_residual.result (failure_of_act fault) c.from_residual.ensures.1))
    (not_imported ⊤ g.S.Store c.args.office.now c.act.new.self c.args.at _ old fault
    (record { acts = act.acts; kept = act.kept; spares = act.spares; caused = act.caused; makes = act.makes }))
