use Rattle.gr_core.specs.Columns.Stored.{BallotTable}
use Rattle.std.proofs.Common.{◌≡◌, ◌⊎◌, ◌∙◌, [], ◌∷◌, IfErr, ap, inl, inr, refl, subst, sym}
use Rattle.gr_core.specs.Machine.Row as core
use Rattle.gr_store.specs.Migrates.{Migrates, tables_beside}
use Rattle.gr_store.specs.Own.{HasOwnTable, HasOwnTablesWith, in_its_tree}
use Rattle.sqlite.specs.Effect.{Database, IsDatabase}
use Rattle.sqlite.specs.Held.{state}
use Rattle.sqlite.proofs.StateLemmas.{survives_then}
use Rattle.gr_store.specs.declared.fault.Fault.TheVariants as faults
use Rattle.gr_store.specs.Causes.{DiskFails, IsTextRefused, CannotMove, CannotPut, CannotPutBallots}
use Rattle.gr_store.specs.Clears.{Clears, ballot1_clear}
use Rattle.gr_store.specs.Commits.{PutsAll, PutsRow}
use Rattle.gr_store.proofs.Failures.FailedTexts.{caused_then, caused_weaker, failed_then}
use Rattle.gr_store.proofs.Failures.StoreFaults.{passed_on, told_store}
use Rattle.gr_store.proofs.Connections.PutsInTurn.{puts_schema}
use Rattle.gr_store.proofs.Connections.StepsInTurn.{was_clean}
use Rattle.gr_store.proofs.Migration.MigratedDesks.{header_is}
use Rattle.gr_store.proofs.migrate.move_ballots.Goals as goal

pub returns-clause-makes : goal.returns-clause-makes
returns-clause-makes g c clean inside db ballots1 is_ballots1 own sound same =
    let desk = c.args.desk in
    let done = (state g.S.Store c.clear_ballots.new.tx.conn.now).now in
    subst (λ (d : Database). (own : HasOwnTablesWith ballots1 d.schema) → IsDatabase d → Migrates desk d own done) same (λ own sound.
    let made = state g.S.Store c.create.new.tx.conn.now in
    let titled = state g.S.Store c.put.new.tx.conn.now in
    let filled = state g.S.Store c.put_ballots.new.tx.conn.now in
    let clean_filled = was_clean filled (state g.S.Store c.clear_ballots.new.tx.conn.now) (λ _. ⊥) c.clear_ballots.ensures.survives clean in
    let clean_titled = was_clean titled filled (λ _. ⊥) c.put_ballots.ensures.survives clean_filled in
    let clean_made = was_clean made titled (λ _. ⊥) c.put.ensures.survives clean_titled in
    let makes = c.in_ok-create.ensures.makes clean_made inside (λ _. sound) in
    let in_made = c.in_ok-create.ensures.inside clean_made inside in
    let beside = tables_beside own makes in
    let header = c.in_ok-put.ensures.puts clean_titled in_made made.now.schema beside refl in
    let in_titled = c.in_ok-put.ensures.inside clean_titled in_made in
    let is = ap core.HeaderOf (header_is desk.header c.accepted.result c.clock.result
    c.accepted.ensures.valid.header.version c.accepted.ensures.accepted c.clock.ensures.clock) in
    let ballots = c.in_ok-put_ballots.ensures.puts clean_filled in_titled made.now.schema beside header.schema
    desk c.into_ballots.ensures.valid (sym c.into_ballots.ensures.ballots) in
    let in_filled = c.in_ok-put_ballots.ensures.inside clean_filled in_titled in
    let schema : filled.now.schema ≡ made.now.schema
    = puts_schema beside ballots.0 titled.now filled.now ballots.2 ∙ header.schema in
    record {
      made = made.now;
      makes = makes;
      header = titled.now;
      puts_header = subst (λ row. PutsAll beside (row ∷ []) made.now titled.now) is (titled.now, header, refl);
      filled = filled.now;
      puts_ballots = ballots;
      clears = subst (λ s. (was : HasOwnTable s ballots1) → Clears (in_its_tree was) filled.now done) schema
          (λ was. c.in_ok-clear_ballots.ensures.clears clean in_filled ballots1 is_ballots1 was) (makes.still ballots1 (own BallotTable)).0;
    }) own sound

pub returns-in_err-create-clause-caused : goal.returns-in_err-create-clause-caused
returns-in_err-create-clause-caused g c clean inside db ballots1 is_ballots1 own sound same =
    let desk = c.args.desk in
    let old = state g.S.Store c.args.tx.now.conn.now in
    let made = state g.S.Store c.create.new.tx.conn.now in
    subst (λ (d : Database). (own : HasOwnTablesWith ballots1 d.schema) → IsDatabase d
    → IfErr c.from_residual.result (λ fault. fault ≡ faults.Store
    → DiskFails old made ⊎ CannotMove old.step_limit desk d own)) same (λ own sound.
    told_store (CannotMove old.step_limit desk old.now own) old made c.from_residual.result c.in_err-create.field-0.0
    c.from_residual.ensures.1 (caused_weaker old made _ _ _ inl (c.in_err-create.ensures.caused clean inside))) own sound

pub returns-in_err-put-clause-caused : goal.returns-in_err-put-clause-caused
returns-in_err-put-clause-caused g c clean inside db ballots1 is_ballots1 own sound same =
    let desk = c.args.desk in
    let old = state g.S.Store c.args.tx.now.conn.now in
    let made = state g.S.Store c.create.new.tx.conn.now in
    let titled = state g.S.Store c.put.new.tx.conn.now in
    subst (λ (d : Database). (own : HasOwnTablesWith ballots1 d.schema) → IsDatabase d
    → IfErr c.from_residual-in_err-put.result (λ fault. fault ≡ faults.Store
    → DiskFails old titled ⊎ CannotMove old.step_limit desk d own)) same (λ own sound.
    let clean_made = was_clean made titled (λ _. ⊥) c.put.ensures.survives clean in
    let makes = c.in_ok-create.ensures.makes clean_made inside (λ _. sound) in
    let in_made = c.in_ok-create.ensures.inside clean_made inside in
    let beside = tables_beside own makes in
    let is = ap core.HeaderOf (header_is desk.header c.accepted.result c.clock.result
    c.accepted.ensures.valid.header.version c.accepted.ensures.accepted c.clock.ensures.clock) in
    let first = c.create.ensures.survives in
    passed_on c.from_residual-in_err-put.result c.in_err-put.field-0.0 c.from_residual-in_err-put.ensures.1 (λ store.
    elim (c.in_err-put.ensures.caused clean in_made made.now.schema beside refl store) [
      | inl disk ↦ inl (failed_then old made titled (λ _. ⊥) first clean_made c.put.ensures.survives.counts disk)
      | inr cannot ↦ inr (inr (
        made.now,
        makes,
        inl (
            subst (λ n. CannotPut n (core.HeaderOf desk.header) made.now) first.limit
            (subst (λ row. CannotPut made.step_limit row made.now) is cannot)),
      ))
    ])) own sound

pub returns-in_err-put_ballots-clause-caused : goal.returns-in_err-put_ballots-clause-caused
returns-in_err-put_ballots-clause-caused g c clean inside db ballots1 is_ballots1 own sound same =
    let desk = c.args.desk in
    let old = state g.S.Store c.args.tx.now.conn.now in
    let made = state g.S.Store c.create.new.tx.conn.now in
    let titled = state g.S.Store c.put.new.tx.conn.now in
    let filled = state g.S.Store c.put_ballots.new.tx.conn.now in
    subst (λ (d : Database). (own : HasOwnTablesWith ballots1 d.schema) → IsDatabase d
    → IfErr c.from_residual-in_err-put_ballots.result (λ fault. fault ≡ faults.Store
    → DiskFails old filled ⊎ CannotMove old.step_limit desk d own)) same (λ own sound.
    let clean_titled = was_clean titled filled (λ _. ⊥) c.put_ballots.ensures.survives clean in
    let clean_made = was_clean made titled (λ _. ⊥) c.put.ensures.survives clean_titled in
    let makes = c.in_ok-create.ensures.makes clean_made inside (λ _. sound) in
    let in_made = c.in_ok-create.ensures.inside clean_made inside in
    let beside = tables_beside own makes in
    let is = ap core.HeaderOf (header_is desk.header c.accepted.result c.clock.result
    c.accepted.ensures.valid.header.version c.accepted.ensures.accepted c.clock.ensures.clock) in
    let header = c.in_ok-put.ensures.puts clean_titled in_made made.now.schema beside refl in
    let in_titled = c.in_ok-put.ensures.inside clean_titled in_made in
    let both = survives_then old made titled (λ _. ⊥) (λ _. ⊥) (λ _. ⊥) (λ _ db none. none) (λ _ db none. none) c.create.ensures.survives
    c.put.ensures.survives in
    passed_on c.from_residual-in_err-put_ballots.result c.in_err-put_ballots.field-0.0 c.from_residual-in_err-put_ballots.ensures.1 (λ store.
    elim (c.in_err-put_ballots.ensures.caused clean in_titled made.now.schema beside header.schema
    desk c.into_ballots.ensures.valid (sym c.into_ballots.ensures.ballots) store) [
      | inl disk ↦ inl (failed_then old titled filled (λ _. ⊥) both clean_titled c.put_ballots.ensures.survives.counts disk)
      | inr cannot ↦ inr (inr (
        made.now,
        makes,
        inr (
          titled.now,
          subst (λ row. PutsRow beside row made.now titled.now) is header,
          inl (subst (λ n. CannotPutBallots beside n desk titled.now) both.limit cannot),
        ),
      ))
    ])) own sound

pub returns-in_err-clear_ballots-clause-caused : goal.returns-in_err-clear_ballots-clause-caused
returns-in_err-clear_ballots-clause-caused g c clean inside db ballots1 is_ballots1 own sound same =
    let desk = c.args.desk in
    let old = state g.S.Store c.args.tx.now.conn.now in
    let made = state g.S.Store c.create.new.tx.conn.now in
    let titled = state g.S.Store c.put.new.tx.conn.now in
    let filled = state g.S.Store c.put_ballots.new.tx.conn.now in
    let done = state g.S.Store c.clear_ballots.new.tx.conn.now in
    subst (λ (d : Database). (own : HasOwnTablesWith ballots1 d.schema) → IsDatabase d
    → IfErr c.from_residual-in_err-clear_ballots.result (λ fault. fault ≡ faults.Store
    → DiskFails old done ⊎ CannotMove old.step_limit desk d own)) same (λ own sound.
    let clean_filled = was_clean filled done (λ _. ⊥) c.clear_ballots.ensures.survives clean in
    let clean_titled = was_clean titled filled (λ _. ⊥) c.put_ballots.ensures.survives clean_filled in
    let clean_made = was_clean made titled (λ _. ⊥) c.put.ensures.survives clean_titled in
    let makes = c.in_ok-create.ensures.makes clean_made inside (λ _. sound) in
    let in_made = c.in_ok-create.ensures.inside clean_made inside in
    let beside = tables_beside own makes in
    let is = ap core.HeaderOf (header_is desk.header c.accepted.result c.clock.result
    c.accepted.ensures.valid.header.version c.accepted.ensures.accepted c.clock.ensures.clock) in
    let header = c.in_ok-put.ensures.puts clean_titled in_made made.now.schema beside refl in
    let in_titled = c.in_ok-put.ensures.inside clean_titled in_made in
    let ballots = c.in_ok-put_ballots.ensures.puts clean_filled in_titled made.now.schema beside header.schema
    desk c.into_ballots.ensures.valid (sym c.into_ballots.ensures.ballots) in
    let in_filled = c.in_ok-put_ballots.ensures.inside clean_filled in_titled in
    let schema : filled.now.schema ≡ made.now.schema
    = puts_schema beside ballots.0 titled.now filled.now ballots.2 ∙ header.schema in
    let was : HasOwnTable filled.now.schema ballots1
    = subst (λ s. HasOwnTable s ballots1) (sym schema) (makes.still ballots1 (own BallotTable)).0 in
    let both = survives_then old made titled (λ _. ⊥) (λ _. ⊥) (λ _. ⊥) (λ _ db none. none) (λ _ db none. none) c.create.ensures.survives
    c.put.ensures.survives in
    let all = survives_then old titled filled (λ _. ⊥) (λ _. ⊥) (λ _. ⊥) (λ _ db none. none) (λ _ db none. none) both
    c.put_ballots.ensures.survives in
    told_store (CannotMove old.step_limit desk old.now own) old done c.from_residual-in_err-clear_ballots.result
    c.in_err-clear_ballots.field-0.0 c.from_residual-in_err-clear_ballots.ensures.1
    (caused_then old filled done _ _ _ all clean_filled c.clear_ballots.ensures.survives.counts
    (λ refused. inr (
      made.now,
      makes,
      inr (
        titled.now,
        subst (λ row. PutsRow beside row made.now titled.now) is header,
        inr (filled.now, ballots, subst (λ n. IsTextRefused n ballot1_clear [] filled.now) all.limit refused),
      ),
    ))
    (c.in_err-clear_ballots.ensures.caused clean in_filled ballots1 is_ballots1 was))) own sound
