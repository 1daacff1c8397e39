use Rattle.std.proofs.Common.{◌≡◌, map, sym, ap, ◌∙◌}
use Rattle.std.specs.Prelude.{filter}
use Rattle.gr_core.specs.Parts.Choice.{choice_model, choices_of}
use Rattle.gr_core.specs.InMemory.Tables.{choice_entry}
use Rattle.gr_core.proofs.Collections.PairKeys.{choice_total, choice_only}
use Rattle.gr_core.proofs.Contents.ChoiceLemmas.{lies_in, is_of, entries_between-resolution}
use Rattle.gr_core.proofs.Collections.TableLemmas.{entries-table_of}
use Rattle.gr_core.proofs.choices.Choices.of_resolution.Goals as goal

pub returns-clause-entries : goal.returns-clause-entries
returns-clause-entries c =
    let number = c.args.resolution in
    let inside = c.self.inside.by_key in
    let between : c.range.result ≡ filter (lies_in number) inside.entries =
    rw (c.new.ensures.start, c.new.ensures.end) at (c.range.ensures.between c.new.ensures.exhausted) in
    ap (map choice_entry) between
    ∙ entries_between-resolution number inside.entries c.self.invariant.numbers
    ∙ ap (filter (is_of number)) (sym (entries-table_of choice_total choice_only (λ key. key) choice_model inside c.self.invariant.ordered))
    ∙ ap (λ choices. choices_of choices number) c.self.view_is
