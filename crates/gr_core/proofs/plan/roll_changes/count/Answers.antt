use Rattle.std.proofs.Common.{◌≡◌, Bool, sym, ◌∙◌, length, rules, tests}
use Rattle.std.specs.List.{filter}
use Rattle.std.proofs.lemmas.List.Sums.{length-filter}
use Rattle.std.proofs.lemmas.Iterator.{YieldsList-from_slice}
use Rattle.std.proofs.lemmas.Iterator.Consumers.{count_from_yields_List, YieldsList-from_filter}
use Rattle.gr_core.specs.Machine.Import.{RollRow, roll_row, novelty, is_same_novelty}
use Rattle.gr_core.proofs.Collections.CountLemmas.{count-map}
use Rattle.gr_core.proofs.plan.roll_changes.count.Goals as goal

pub returns : goal.returns
returns c =
    let rows = c.args.rows.now in
    let kind : RollRow → Bool = λ row. is_same_novelty (novelty c.args.roll.now row) c.args.kind in
    let is : c.count.result ≡ length (filter (λ row. kind (roll_row row)) rows) = count_from_yields_List _ c.count.result c.count.ensures.ran
    (YieldsList-from_filter _ (λ row. kind (roll_row row)) (YieldsList-from_slice rows (cc)) c.filter.ensures.closure (λ x b q k. search (rules, tests)))
    in
    is ∙ length-filter (λ row. kind (roll_row row)) rows ∙ sym (count-map kind roll_row rows)
