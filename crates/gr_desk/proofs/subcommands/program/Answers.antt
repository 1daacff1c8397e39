use Rattle.std.proofs.Common.{List, ap, codes, refl, ◌∙◌}
use Rattle.clap.specs.Simple.{Shape, app_of_fields}
use Rattle.clap.specs.declared.builder.command.Command.{Command}
use Rattle.clap.specs.declared.builder.command.Command.TheOpen.{Command-F}
use Rattle.gr_desk.specs.Words.{file_app, import_app, init_app, once_app, serve_app, sheet_app}
use Rattle.gr_desk.proofs.AnswerLemmas.{IfOk-map}
use Rattle.gr_desk.proofs.FoundLemmas.{one_more}
use Rattle.gr_desk.proofs.subcommands.program.Goals as goal

-- the shapes of the subcommands among these fields of a command
abbrev subs_in : Command-F Command → List Shape
subs_in fields = (app_of_fields fields).subs

pub returns : goal.returns
returns c =
    let none = ap subs_in c.disable_help_subcommand.ensures ∙ ap subs_in c.subcommand_required.ensures
    ∙ ap subs_in c.no_binary_name.ensures ∙ ap subs_in c.after_help.ensures ∙ ap subs_in c.about.ensures
    ∙ ap (λ app. app.subs) c.new.ensures.app in
    let after_init = one_more _ _ _ init_app _ c.in_ok-subcommand.ensures c.in_ok-init.ensures refl none in
    let after_once = one_more _ _ _ once_app _ c.in_ok-subcommand-2.ensures c.in_ok-once.ensures refl after_init in
    let after_serve = one_more _ _ _ serve_app _ c.in_ok-subcommand-3.ensures c.in_ok-serve.ensures refl after_once in
    let after_import = one_more _ _ _ import_app _ c.in_ok-subcommand-4.ensures c.in_ok-import.ensures refl after_serve in
    let after_roll = one_more _ _ _ (file_app (codes "roll")) _ c.in_ok-subcommand-5.ensures c.in_ok-roll.ensures refl after_import in
    let after_status = one_more _ _ _ (sheet_app (codes "status")) _ c.in_ok-subcommand-6.ensures c.in_ok-status.ensures refl after_roll in
    let after_tally = one_more _ _ _ (sheet_app (codes "tally")) _ c.in_ok-subcommand-7.ensures c.in_ok-tally.ensures refl after_status in
    let after_result = one_more _ _ _ (sheet_app (codes "result")) _ c.in_ok-subcommand-8.ensures c.in_ok-result.ensures refl after_tally in
    IfOk-map c.subcommand-9.result (λ program added. one_more _ _ program (file_app (codes "migrate")) _ added c.in_ok-migrate.ensures refl after_result)
    c.subcommand-9.ensures
