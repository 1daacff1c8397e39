use Rattle.std.proofs.Common.{ap, sym, ◌∙◌, ◌<◌, ◌^◌, is_some, rules}
use Rattle.std.proofs.lemmas.Map.Views.{All-keys-insert_entry}
use Rattle.std.specs.FinMap as finite
use Rattle.gr_core.specs.Parts.Key.{choice_cmp}
use Rattle.gr_core.specs.Parts.Choice.{choice_model}
use Rattle.gr_core.proofs.Collections.PairKeys.{choice_total, choice_only}
use Rattle.gr_core.proofs.Collections.TableLemmas.{is_some-table_of, table_of-insert}
use Rattle.gr_core.proofs.choices.Choices.put.Goals as goal

pub invariant_of-self-2 : goal.invariant_of-self-2
invariant_of-self-2 c =
    let small : c.args.key.number < 2 ^ 32 = search rules in
    record {
      ordered = c.in_ok-earlier.ensures.ordered;
      numbers =
          rw c.in_ok-earlier.ensures.entries
          (All-keys-insert_entry choice_cmp c.args.key c.args.choice (λ key. key.number < 2 ^ 32) _ c.self.invariant.numbers small);
    }

pub returns-clause-ok : goal.returns-clause-ok
returns-clause-ok c =
    let row = choice_model c.args.choice in
    table_of-insert choice_total choice_only (λ key. key) choice_model
    c.self.inside.by_key c.insert.new.self c.args.key c.args.choice c.in_ok-earlier.ensures.updates
    ∙ ap (λ choices. finite.insert choices c.args.key row) c.self.view_is

pub returns-clause-earlier : goal.returns-clause-earlier
returns-clause-earlier c =
    c.is_some.ensures
    ∙ ap is_some c.in_ok-earlier.ensures.old
    ∙ sym (is_some-table_of choice_total choice_only (λ key. key) choice_model c.self.inside.by_key c.args.key)
    ∙ ap (λ choices. is_some (finite.get choices c.args.key)) c.self.view_is
