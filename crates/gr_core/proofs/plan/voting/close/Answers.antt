use Rattle.std.proofs.Common.{◌≡◌, ◌++◌, [], map, option_map, sym, ap, ◌∙◌, subst}
use Rattle.std.specs.Prelude.{IfOk, option_to_list}
use Rattle.gr_core.specs.Parts.Resolution.{closed}
use Rattle.gr_core.specs.Machine.Row.{ResolutionOf, row_of}
use Rattle.gr_core.proofs.Effects.PutLemmas.{close_puts}
use Rattle.gr_core.proofs.plan.voting.close.Goals as goal

pub returns-clause-rows : goal.returns-clause-rows
returns-clause-rows c = λ s at found.
    let number = c.args.found.now.number in
    subst (λ rows. IfOk c.altered.result (λ own. map row_of own.changes.items ≡ rows))
    (sym (close_puts s at number
    ∙ ap (λ found. option_to_list (option_map (λ row. ResolutionOf number (closed row)) found) ++ [] ++ []) found))
    c.altered.ensures.rows
