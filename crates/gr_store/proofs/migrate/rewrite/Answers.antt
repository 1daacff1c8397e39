use Rattle.std.proofs.Common.{◌≡◌, ◌⊎◌, IfErr, inl, inr, refl, sym, subst, rules}
use Rattle.gr_store.specs.declared.fault.Fault.TheVariants as faults
use Rattle.gr_store.specs.Causes.{DiskFails, CannotMove}
use Rattle.gr_store.specs.Migrates.{MayMigrate}
use Rattle.sqlite.specs.Held.{state}
use Rattle.sqlite.specs.State.{HasCleanDisk, Survives}
use Rattle.gr_store.proofs.Failures.FailedTexts.{fails_still}
use Rattle.gr_store.proofs.Connections.StepsInTurn.{committed, survives_begun, was_clean}
use Rattle.gr_store.proofs.Failures.StoreFaults.{passed_on}
use Rattle.gr_store.proofs.migrate.rewrite.Goals as goal

pub returns-in_err-commit-clause-crash : goal.returns-in_err-commit-clause-crash
returns-in_err-commit-clause-crash g c =
    let same : c.commit.new.self.0 ≡ c.conn-2-1.given.0 = search rules in
    let old = state g.S.Store c.args.conn.now in
    let done = state g.S.Store c.move_ballots.new.tx.conn.now in
    let begun = c.transaction-tx.ensures.begun in
    let may = MayMigrate c.args.desk old.now in
    let first = survives_begun old done (λ _. ⊥) (rw begun at c.move_ballots.ensures.survives) in
    let left : Survives old (state g.S.Store c.commit.new.self.0) may
    = committed old done _ may first c.commit.ensures.survives (λ clean. record {
      has = λ ballots is own sound.
          (done.now, (rw begun at c.in_ok-move_ballots.ensures.makes) clean refl old.now ballots is own sound refl, refl);
    }) in
    subst (λ h. Survives old (state g.S.Store h) may) same left

pub returns-clause-crash : goal.returns-clause-crash
returns-clause-crash g c =
    let same : c.commit.new.self.0 ≡ c.conn-2-1.given.0 = search rules in
    let old = state g.S.Store c.args.conn.now in
    let done = state g.S.Store c.move_ballots.new.tx.conn.now in
    let begun = c.transaction-tx.ensures.begun in
    let may = MayMigrate c.args.desk old.now in
    let first = survives_begun old done (λ _. ⊥) (rw begun at c.move_ballots.ensures.survives) in
    let left : Survives old (state g.S.Store c.commit.new.self.0) may
    = committed old done _ may first c.commit.ensures.survives (λ clean. record {
      has = λ ballots is own sound.
          (done.now, (rw begun at c.in_ok-move_ballots.ensures.makes) clean refl old.now ballots is own sound refl, refl);
    }) in
    subst (λ h. Survives old (state g.S.Store h) may) same left

pub returns-in_err-move_ballots-clause-caused : goal.returns-in_err-move_ballots-clause-caused
returns-in_err-move_ballots-clause-caused g c clean db ballots is own sound same =
    let old = state g.S.Store c.args.conn.now in
    let done = state g.S.Store c.move_ballots.new.tx.conn.now in
    let ended = state g.S.Store c.drop-tx.new.self.0 in
    let begun = c.transaction-tx.ensures.begun in
    let last : c.drop-tx.new.self.0 ≡ c.conn-1.given.0 = search rules in
    let late : HasCleanDisk ended = subst (λ h. HasCleanDisk (state g.S.Store h)) (sym last) clean in
    let was = was_clean done ended (λ _. ⊥) c.drop-tx.ensures.survives late in
    let told : IfErr c.from_residual.result (λ fault. fault ≡ faults.Store
    → DiskFails old ended ⊎ CannotMove old.step_limit c.args.desk db own)
    = passed_on c.from_residual.result c.in_err-move_ballots.field-0.0 c.from_residual.ensures.1 (λ store.
    elim ((rw begun at c.in_err-move_ballots.ensures.caused) was refl db ballots is own sound same store) [
      | inl disk ↦ inl (fails_still old done ended (λ _. ⊥) c.drop-tx.ensures.survives disk)
      | inr cannot ↦ inr cannot
    ]) in
    subst (λ h. IfErr c.from_residual.result (λ fault. fault ≡ faults.Store
    → DiskFails old (state g.S.Store h) ⊎ CannotMove old.step_limit c.args.desk db own)) last told
