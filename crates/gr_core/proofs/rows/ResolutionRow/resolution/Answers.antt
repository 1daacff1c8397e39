use Rattle.std.proofs.Common.{rules, ◌≡◌, ℕ, pos, true, false, sym, ap, ◌∙◌, subst}
use Rattle.gr_core.specs.declared.resolution.Resolution.{Resolution}
use Rattle.gr_core.specs.Columns.Fields.{resolution_fields}
use Rattle.gr_core.specs.Columns.Stored.{fields_of_resolution}
use Rattle.gr_core.proofs.Columns.RowLikeness.{are_alike, alike-by_columns, alike-by_answer, alike-itself}
use Rattle.gr_core.proofs.rows.ResolutionRow.resolution.Goals as goal

pub returns-in-Ok-clause-ok : goal.returns-in-Ok-clause-ok
returns-in-Ok-clause-ok c =
    let row = c.in-Ok.row in
    let self = c.args.self in
    let alike = alike-by_answer row self (sym c.eq.ensures ∙ c.if-eq.true) in (
      sym c.in-Ok.ensures.ok ∙ ap fields_of_resolution alike,
      record { small = c.in_ok-number.ensures.ok.1; stage = c.in_ok-resolution.ensures.fits },
    )

pub returns-in_default-clause-err : goal.returns-in_default-clause-err
returns-in_default-clause-err c failed number resolution fits same =
    let row = c.in-Ok.row in
    let self = c.args.self in
    let by_stage = c.by_stage.ensures.ok number resolution fits.stage same in
    let stage : resolution ≡ c.in_ok-resolution.resolution = cc (by_stage, c.in_ok-resolution.was) in
    let small : self.number ≡ pos c.in_ok-number.number = search rules in
    let number_is : number ≡ c.in_ok-number.number = cc in
    let fields : fields_of_resolution row ≡ fields_of_resolution self =
    c.in-Ok.ensures.ok ∙ ap (λ (n : ℕ). resolution_fields (n, c.in_ok-resolution.resolution)) (sym number_is)
    ∙ ap (λ (r : Resolution). resolution_fields (number, r)) (sym stage) ∙ same in
    let alike = alike-by_columns row self fields in
    let answer : are_alike row self ≡ true = subst (λ other. are_alike row other ≡ true) alike (alike-itself row) in
    absurd (let never : true ≡ false = sym answer ∙ sym c.eq.ensures ∙ c.if-eq.false in cc)
