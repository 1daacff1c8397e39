use Rattle.std.proofs.Common.{◌≡◌, w32, ◌++◌, [], ◌∷◌, map, option_map, sym, ap, ◌∙◌, subst, rules}
use Rattle.std.proofs.lemmas.Int.{to_z-of_z}
use Rattle.std.specs.Prelude.{FitsSigned, IfOk, option_to_list}
use Rattle.gr_core.specs.declared.resolution.Resolution.TheVariants.{Discussing}
use Rattle.gr_core.specs.Parts.Resolution.{shifted}
use Rattle.gr_core.specs.Machine.Row.{ResolutionOf, row_of}
use Rattle.gr_core.proofs.Effects.PutLemmas.{vary_puts}
use Rattle.gr_core.proofs.plan.discussion.vary.Goals as goal

pub returns-clause-rows : goal.returns-clause-rows
returns-clause-rows c = λ s at found.
    let number = c.args.found.now.number in
    let fits : FitsSigned w32 c.args.found.now.days = search rules in
    let days = to_z-of_z w32 c.args.found.now.days fits in
    subst (λ rows. IfOk c.altered.result (λ own. map row_of own.changes.items ≡ rows))
    ((λ i. ResolutionOf number (Discussing (record c.args.found.now.discussion { shift = days i })) ∷ [])
    ∙ sym (vary_puts s at number c.args.found.now.days
    ∙ ap (λ found. option_to_list (option_map (λ row. ResolutionOf number (shifted c.args.found.now.days row)) found) ++ [] ++ []) found))
    c.altered.ensures.rows
