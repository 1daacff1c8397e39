-- Each of the texts selects the rows of its table, wherever the schema has one with its columns.
use Rattle.std.proofs.Common.{List, ℕ, arith, sym, subst, ◌∙◌}
use Rattle.std.proofs.lemmas.List.Sorted.{IsPermutation-sym, IsPermutation-trans}
use Rattle.sqlite_schema.specs.declared.schema.Table.{Table}
use Rattle.sqlite_resolve.specs.Scope.{Name}
use Rattle.gr_store.specs.Schema.{desk_table, developer_table, resolution_table, choice_table, sponsor_table, ballot_table, ballot1_table}
use Rattle.gr_store.specs.Selects.{desk_select, developer_select, resolution_select, choice_select, sponsor_select, ballot_select, ballot1_select}
use Rattle.gr_store.specs.SelectedTables.{SelectsTable, CanEnd}
use Rattle.gr_store.proofs.Connections.SelectRuns.{IsSelectText, bare}
use Rattle.gr_store.proofs.Connections.SingleStatements.{IsOneText, whole}
use Rattle.gr_store.proofs.Connections.SingleStatements.{desk_selects_one, developer_selects_one, resolution_selects_one}
use Rattle.gr_store.proofs.Connections.SingleStatements.{choice_selects_one, sponsor_selects_one, ballot_selects_one, ballot1_selects_one}
use Rattle.gr_store.proofs.Reading.SelectTexts.{desk_selects, developer_selects, resolution_selects, choice_selects, sponsor_selects, ballot_selects, ballot1_selects}
use Rattle.gr_store.proofs.Reading.CompiledSelects.{AsksForTable}
use Rattle.gr_store.proofs.Reading.SelectAnswers.{known, statement, selected}
use Rattle.gr_store.proofs.Reading.SelectTexts.{desk_asks, developer_asks, resolution_asks, choice_asks, sponsor_asks, ballot_asks, ballot1_asks}

selects_table : (text : List ℕ) (table : Table) (keys : List Name) → IsSelectText text → IsOneText 0 text
    → AsksForTable text table keys → SelectsTable text table
selects_table text table keys is single asks = record {
  returns_nothing = λ schema c means. (bare text schema c is means).0;
  alone = λ schema c means.
      let it = whole 0 text schema c single means in
      (omega (arith, it.0), it.1, (bare text schema c is means).1);
  plain = λ db has. record {
    known =
        let it = statement text table keys asks db has in
        (it.0, known text table keys asks db has ∙ it.1, subst CanEnd (sym it.2.0) (λ trees params. tt));
    one = λ one two first second.
        let each = selected text table keys asks db has in
        IsPermutation-trans _ _ _ (IsPermutation-sym _ _ (each one first)) (each two second);
  };
}

pub desk_selected : SelectsTable desk_select desk_table
desk_selected = selects_table _ _ _ desk_selects desk_selects_one desk_asks

pub developer_selected : SelectsTable developer_select developer_table
developer_selected = selects_table _ _ _ developer_selects developer_selects_one developer_asks

pub resolution_selected : SelectsTable resolution_select resolution_table
resolution_selected = selects_table _ _ _ resolution_selects resolution_selects_one resolution_asks

pub choice_selected : SelectsTable choice_select choice_table
choice_selected = selects_table _ _ _ choice_selects choice_selects_one choice_asks

pub sponsor_selected : SelectsTable sponsor_select sponsor_table
sponsor_selected = selects_table _ _ _ sponsor_selects sponsor_selects_one sponsor_asks

pub ballot_selected : SelectsTable ballot_select ballot_table
ballot_selected = selects_table _ _ _ ballot_selects ballot_selects_one ballot_asks

pub ballot1_selected : SelectsTable ballot1_select ballot1_table
ballot1_selected = selects_table _ _ _ ballot1_selects ballot1_selects_one ballot1_asks
