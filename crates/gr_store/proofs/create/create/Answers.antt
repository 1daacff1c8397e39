use Rattle.std.proofs.Common.{◌≡◌, ◌⊎◌, ◌∙◌, IfErr, ap, refl, sym, subst, rules, IsTrue, inl}
use Rattle.gr_store.specs.declared.fault.Fault.TheVariants as faults
use Rattle.gr_store.specs.Causes.{DiskFails, CannotMakeDesk}
use Rattle.gr_store.proofs.Failures.FailedTexts.{caused_still}
use Rattle.gr_store.proofs.Failures.StoreFaults.{told_store, passed_on, header_told}
use Rattle.gr_store.specs.Content.{IsSettled}
use Rattle.gr_store.specs.Commits.{IsNewDesk, HasNewDesk}
use Rattle.sqlite.specs.Effect.{Database}
use Rattle.sqlite.specs.Held.{state}
use Rattle.sqlite.specs.State.{HasCleanDisk, Survives}
use Rattle.sqlite.proofs.StateLemmas.{survives_then}
use Rattle.gr_store.proofs.Connections.StepsInTurn.{committed, survives_begun, was_clean}
use Rattle.gr_store.proofs.create.create.Goals as goal

pub returns-in_err-commit-clause-crash : goal.returns-in_err-commit-clause-crash
returns-in_err-commit-clause-crash g c sound =
    let old = state g.S.Store c.args.conn.now in
    let made = state g.S.Store c.create.new.tx.conn.now in
    let done = state g.S.Store c.put.new.tx.conn.now in
    let begun = c.transaction-tx.ensures.begun in
    let first = survives_begun old made (λ _. ⊥) (rw begun at c.create.ensures.survives) in
    let both = survives_then old made done (λ _. ⊥) (λ _. ⊥) (λ _. ⊥) (λ _ db none. none) (λ _ db none. none) first
    c.put.ensures.survives in
    let new_desk = λ (clean : HasCleanDisk done).
    let was = was_clean made done (λ _. ⊥) c.put.ensures.survives clean in
    let makes = (rw begun at c.in_ok-create.ensures.makes) was refl sound in
    let inside = (rw begun at c.in_ok-create.ensures.inside) was refl in
    let new : IsNewDesk old.now done.now
    = record {
      made = made.now;
      is = makes;
      header = c.in_ok-put.ensures.puts clean inside made.now.schema makes.own refl;
    } in
    new in
    let left : Survives old (state g.S.Store c.commit.new.self.0) (HasNewDesk old.now)
    = committed old done _ (HasNewDesk old.now) both c.commit.ensures.survives
    (λ clean. (done.now, new_desk clean, refl)) in
    search (rules, left)

pub returns-clause-makes : goal.returns-clause-makes
returns-clause-makes g c clean live is_database =
    let sound = λ (_ : IsTrue (state g.S.Store c.args.conn.now).is_open). is_database in
    let old = state g.S.Store c.args.conn.now in
    let made = state g.S.Store c.create.new.tx.conn.now in
    let done = state g.S.Store c.put.new.tx.conn.now in
    let begun = c.transaction-tx.ensures.begun in
    let first = survives_begun old made (λ _. ⊥) (rw begun at c.create.ensures.survives) in
    let both = survives_then old made done (λ _. ⊥) (λ _. ⊥) (λ _. ⊥) (λ _ db none. none) (λ _ db none. none) first
    c.put.ensures.survives in
    let new_desk = λ (clean : HasCleanDisk done).
    let was = was_clean made done (λ _. ⊥) c.put.ensures.survives clean in
    let makes = (rw begun at c.in_ok-create.ensures.makes) was refl sound in
    let inside = (rw begun at c.in_ok-create.ensures.inside) was refl in
    let new : IsNewDesk old.now done.now
    = record {
      made = made.now;
      is = makes;
      header = c.in_ok-put.ensures.puts clean inside made.now.schema makes.own refl;
    } in
    new in
    let ended = state g.S.Store c.commit.new.self.0 in
    let here : HasCleanDisk ended = search (rules, clean) in
    let shown = (c.in_ok-commit.ensures.ok here).1 in
    let new : IsNewDesk old.now ended.now
    = subst (IsNewDesk old.now) (sym shown.now_is) (new_desk (was_clean done ended _ c.commit.ensures.survives here)) in
    search (rules, new)

pub returns-clause-crash : goal.returns-clause-crash
returns-clause-crash g c sound =
    let old = state g.S.Store c.args.conn.now in
    let made = state g.S.Store c.create.new.tx.conn.now in
    let done = state g.S.Store c.put.new.tx.conn.now in
    let begun = c.transaction-tx.ensures.begun in
    let first = survives_begun old made (λ _. ⊥) (rw begun at c.create.ensures.survives) in
    let both = survives_then old made done (λ _. ⊥) (λ _. ⊥) (λ _. ⊥) (λ _ db none. none) (λ _ db none. none) first
    c.put.ensures.survives in
    let new_desk = λ (clean : HasCleanDisk done).
    let was = was_clean made done (λ _. ⊥) c.put.ensures.survives clean in
    let makes = (rw begun at c.in_ok-create.ensures.makes) was refl sound in
    let inside = (rw begun at c.in_ok-create.ensures.inside) was refl in
    let new : IsNewDesk old.now done.now
    = record {
      made = made.now;
      is = makes;
      header = c.in_ok-put.ensures.puts clean inside made.now.schema makes.own refl;
    } in
    new in
    let left : Survives old (state g.S.Store c.commit.new.self.0) (HasNewDesk old.now)
    = committed old done _ (HasNewDesk old.now) both c.commit.ensures.survives
    (λ clean. (done.now, new_desk clean, refl)) in
    search (rules, left)

pub returns-clause-settled : goal.returns-clause-settled
returns-clause-settled g c clean =
    let ended = state g.S.Store c.commit.new.self.0 in
    let here : HasCleanDisk ended = search (rules, clean) in
    let shown = (c.in_ok-commit.ensures.ok here).1 in
    let same : ended.committed ≡ ended.now = shown.committed_is ∙ sym shown.now_is in
    let settled : IsSettled ended = record {
      is_open = shown.is_open;
      outside = shown.mode;
      committed = same;
      only = λ trees may. g.met.S.Store.settled c.commit.new.self.0.store trees shown.is_open may
          ∙ ap (λ (d : Database). d.trees) same;
    } in
    search (rules, settled)

pub returns-in_err-create-clause-caused : goal.returns-in_err-create-clause-caused
returns-in_err-create-clause-caused g c clean sound =
    let old = state g.S.Store c.args.conn.now in
    let made = state g.S.Store c.create.new.tx.conn.now in
    let ended = state g.S.Store c.drop-tx.new.self.0 in
    let begun = c.transaction-tx.ensures.begun in
    let late : HasCleanDisk ended = search (rules, clean) in
    let was = was_clean made ended (λ _. ⊥) c.drop-tx.ensures.survives late in
    let caused = (rw begun at c.in_err-create.ensures.caused) was refl sound in
    let told : IfErr c.from_residual.result (λ fault. fault ≡ faults.Store
    → DiskFails old ended ⊎ CannotMakeDesk old.step_limit old.now)
    = told_store (CannotMakeDesk old.step_limit old.now) old ended c.from_residual.result c.in_err-create.field-0.0
    c.from_residual.ensures.1 (caused_still old made ended _ _ _ (λ _. ⊥) c.drop-tx.ensures.survives inl caused) in
    search (rules, told)

pub returns-in_err-put-clause-caused : goal.returns-in_err-put-clause-caused
returns-in_err-put-clause-caused g c clean sound =
    let old = state g.S.Store c.args.conn.now in
    let made = state g.S.Store c.create.new.tx.conn.now in
    let done = state g.S.Store c.put.new.tx.conn.now in
    let ended = state g.S.Store c.drop-tx-in_err-put.new.self.0 in
    let begun = c.transaction-tx.ensures.begun in
    let late : HasCleanDisk ended = search (rules, clean) in
    let same : c.drop-tx-in_err-put.new.self.0 ≡ c.conn-in_err-put-1.given.0 = search rules in
    let told : IfErr c.from_residual-in_err-put.result (λ fault. fault ≡ faults.Store
    → DiskFails old ended ⊎ CannotMakeDesk old.step_limit old.now)
    = passed_on c.from_residual-in_err-put.result c.in_err-put.field-0.0 c.from_residual-in_err-put.ensures.1 (λ store.
    header_told old made done ended _ (survives_begun old made (λ _. ⊥) (rw begun at c.create.ensures.survives))
    c.put.ensures.survives c.drop-tx-in_err-put.ensures.survives late
    (λ was. (rw begun at c.in_ok-create.ensures.makes) was refl sound)
    (λ was was_made makes. c.in_err-put.ensures.caused was ((rw begun at c.in_ok-create.ensures.inside) was_made refl)
    made.now.schema makes.own refl store)) in
    subst (λ h. IfErr c.from_residual-in_err-put.result (λ fault. fault ≡ faults.Store
    → DiskFails old (state g.S.Store h) ⊎ CannotMakeDesk old.step_limit old.now)) same told
