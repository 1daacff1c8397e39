use Rattle.std.proofs.Common.{◌≡◌, ◌++◌, [], map, option_map, sym, ap, ◌∙◌, subst}
use Rattle.std.specs.Prelude.{IfOk, option_to_list}
use Rattle.gr_core.specs.Parts.Resolution.{decided}
use Rattle.gr_core.specs.Machine.Row.{ResolutionOf, row_of}
use Rattle.gr_core.proofs.Effects.PutLemmas.{cast_puts}
use Rattle.gr_core.proofs.plan.voting.cast.Goals as goal

pub returns-clause-rows : goal.returns-clause-rows
returns-clause-rows c = λ s at chosen found.
    let number = c.args.found.now.number in
    let place = c.args.found.now.place in
    subst (λ rows. IfOk c.altered.result (λ own. map row_of own.changes.items ≡ rows))
    (sym (cast_puts s at number place
    ∙ ap (λ found. option_to_list (option_map (λ row. ResolutionOf number (decided place row)) found) ++ [] ++ []) found))
    c.altered.ensures.rows
