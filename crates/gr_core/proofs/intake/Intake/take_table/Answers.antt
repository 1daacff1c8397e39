use Rattle.std.proofs.Common.{◌≡◌, [], ◌∷◌, ◌++◌, map, sym, ap, subst, ◌∙◌}
use Rattle.std.proofs.lemmas.List.{map-append, map-id}
use Rattle.std.proofs.lemmas.Iterator.Adapters.{YieldsList-from_vec}
use Rattle.std.proofs.lemmas.Iterator.Consumers.{YieldsList-end}
use Rattle.gr_core.specs.Columns.Intake.{HasTaken, with_row, with_more}
use Rattle.gr_core.proofs.Columns.IntakeLemmas.{with_none, with_both}
use Rattle.gr_core.proofs.intake.Intake.take_table.Goals as goal

-- what a row says
abbrev said : {A B C : Type 0} → (B → C) → (A → B) → A → C
said meant fields row = meant (fields row)

pub loop-row-init : goal.loop-row-init
loop-row-init g c taken has = subst (λ rows. HasTaken rows c.args.self.now) (sym (with_none g.T.IntoRow.table_name taken)) has

pub loop-row-preserved : goal.loop-row-preserved
loop-row-preserved g c taken has =
    let table = g.T.IntoRow.table_name in
    let fields = said g.T.IntoRow.meant g.T.IntoRow.fields in
    let before = map fields c.loop-row.yielded in
    let row = c.in-Some.row in
    let more : with_row (with_more table taken before) c.into_row.result ≡ with_more table taken (map fields (c.loop-row.yielded ++ row ∷ []))
    = c.into_row.ensures (with_more table taken before) ∙ with_both table taken before (fields row ∷ [])
    ∙ ap (with_more table taken) (sym (map-append fields c.loop-row.yielded (row ∷ []))) in
    subst (λ rows. HasTaken rows c.take.new.self) more
    (c.in_ok-take.ensures.taken (with_more table taken before) (c.loop-row.invariant taken has))

pub returns : goal.returns
returns g c taken has =
    let gives = c.into_iter-row-iterator.ensures.into_iter_gives in
    let all = YieldsList-end (YieldsList-from_vec {s = c.into_iter-row-iterator.result} c.args.rows.items gives.0 (gives.1 ∙ c.args.rows.ok.0))
    c.loop-row.yielded c.loop-row.row-iterator c.loop-row.yielded_by c.next.result c.next.new.self c.in-None.is c.next.ensures.steps in
    subst (λ items. HasTaken (with_more g.T.IntoRow.table_name taken (map (λ row. g.T.IntoRow.meant (g.T.IntoRow.fields row)) items)) c.loop-row.self)
    (sym (map-id c.loop-row.yielded) ∙ all.0) (c.loop-row.invariant taken has)
