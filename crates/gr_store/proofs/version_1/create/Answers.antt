use Rattle.gr_core.specs.Columns.Stored.{DeskTable}
use Rattle.std.proofs.Common.{◌≡◌, ◌∙◌, ap, refl, sym, subst, rules, IsTrue}
use Rattle.gr_store.specs.Content.{IsSettled}
use Rattle.gr_store.specs.Version1.{IsNewDesk1}
use Rattle.sqlite.specs.Effect.{Database}
use Rattle.sqlite.specs.Held.{state}
use Rattle.sqlite.specs.State.{HasCleanDisk}
use Rattle.gr_store.proofs.Connections.StepsInTurn.{was_clean}
use Rattle.gr_store.proofs.version_1.create.Goals as goal

pub returns-clause-makes : goal.returns-clause-makes
returns-clause-makes g c clean live is_database =
    let sound = λ (_ : IsTrue (state g.S.Store c.args.conn.now).is_open). is_database in
    let made = state g.S.Store c.create_tables.new.tx.conn.now in
    let done = state g.S.Store c.put.new.tx.conn.now in
    let ended = state g.S.Store c.commit.new.self.0 in
    let begun = c.transaction-tx.ensures.begun in
    let here : HasCleanDisk ended = search (rules, clean) in
    let then = was_clean done ended _ c.commit.ensures.survives here in
    let was = was_clean made done (λ _. ⊥) c.put.ensures.survives then in
    let tables = (rw begun at c.in_ok-create_tables.ensures.makes) was refl sound in
    let inside = (rw begun at c.in_ok-create_tables.ensures.inside) was refl in
    let old = (state g.S.Store c.args.conn.now).now in
    let new : IsNewDesk1 old done.now
    = record {
      made = made.now;
      tables = tables;
      header = c.in_ok-put.ensures.puts then inside made.now.schema (tables.own DeskTable) refl;
    } in
    let now : IsNewDesk1 old ended.now = subst (IsNewDesk1 old) (sym (c.in_ok-commit.ensures.ok here).1.now_is) new in
    search (rules, now)

pub returns-clause-settled : goal.returns-clause-settled
returns-clause-settled g c clean =
    let ended = state g.S.Store c.commit.new.self.0 in
    let here : HasCleanDisk ended = search (rules, clean) in
    let shown = (c.in_ok-commit.ensures.ok here).1 in
    let same : ended.committed ≡ ended.now = shown.committed_is ∙ sym shown.now_is in
    let settled : IsSettled ended = record {
      is_open = shown.is_open;
      outside = shown.mode;
      committed = same;
      only = λ trees may. g.met.S.Store.settled c.commit.new.self.0.store trees shown.is_open may
          ∙ ap (λ (d : Database). d.trees) same;
    } in
    search (rules, settled)
