use Rattle.gr_core.specs.Columns.Stored.{DeskTable}
use Rattle.std.proofs.Common.{◌≡◌, ◌∙◌, Err, codes, IsTrue, inl, inr, refl, sym, ap, subst, rules, true≢false}
use Rattle.std.proofs.lemmas.Result.{on_ok_weaker}
use Rattle.sqlite_schema.specs.declared.schema.Schema.{Schema}
use Rattle.sqlite_catalog.specs.Change.{is_used}
use Rattle.sqlite.specs.Effect.{Database}
use Rattle.sqlite.specs.Held.{state}
use Rattle.sqlite.specs.State.{HasCleanDisk}
use Rattle.sqlite.proofs.StateLemmas.{survives_then, survives_weaker}
use Rattle.gr_core.specs.Desks.Version1.{lifted}
use Rattle.gr_store.specs.Commits.{LeavesDesk}
use Rattle.gr_store.specs.Faults.{IsOfStore}
use Rattle.gr_store.specs.Holds.{IsCurrent}
use Rattle.gr_store.specs.Migrates.{LeavesBallots, MayMigrate}
use Rattle.gr_store.specs.Version1.{HasValid1, HoldsValid1}
use Rattle.gr_store.specs.Causes.{CannotMove}
use Rattle.gr_store.proofs.Failures.FailedTexts.{failed_then}
use Rattle.gr_store.proofs.Failures.UnreadTables.{err_weaker}
use Rattle.gr_store.proofs.Reading.RightTables.{one_header_row}
use Rattle.gr_store.proofs.Reading.TableSelects.{desk_selected}
use Rattle.gr_store.proofs.Migration.MigratedDesks.{migrates_to, leaves_migrated, adds_ballots, leaves_ballots, gone1, told_desk1}
use Rattle.gr_store.proofs.Migration.StoppedMigrations.{never_written}
use Rattle.gr_store.proofs.Migration.DeskVersions.{never_current, never_newer}
use Rattle.gr_store.proofs.Migration.DeskVersions.{current_not_newer}
use Rattle.gr_store.proofs.Migration.StoppedMigrations.{of_store, not_occupied, fails_so, ok_then}
use Rattle.gr_store.proofs.migrate.migrate.Goals as goal

-- ==== no desk is found

pub returns-in_err-desk-clause-finds : goal.returns-in_err-desk-clause-finds
returns-in_err-desk-clause-finds g c clean has desk1 =
    let old = (state g.S.Store c.args.conn.now).now in
    let handed : c.from_residual.result ≡ Err c.in_err-desk.field-0.0 = search rules in
    let of = of_store c.in_err-desk.field-0.0 c.in_err-desk.ensures.faults
    (λ is. c.desk_of_version_1.ensures.damaged clean has (c.in_err-desk.was ∙ ap Err is) desk1.0 desk1.1 desk1.2)
    (λ is. never_newer old (desk_selected.plain old (has DeskTable)).one desk1 (c.desk_of_version_1.ensures.too_new clean (c.in_err-desk.was ∙ ap Err is))) in
    rw handed (tt, inl of)

pub returns-in_err-desk-clause-current : goal.returns-in_err-desk-clause-current
returns-in_err-desk-clause-current g c clean has current =
    let old = (state g.S.Store c.args.conn.now).now in
    let handed : c.from_residual.result ≡ Err c.in_err-desk.field-0.0 = search rules in
    let of = of_store c.in_err-desk.field-0.0 c.in_err-desk.ensures.faults
    (λ is. c.desk_of_version_1.ensures.not_current clean has (c.in_err-desk.was ∙ ap Err is) current)
    (λ is. current_not_newer old has.one current
    (c.desk_of_version_1.ensures.too_new clean (c.in_err-desk.was ∙ ap Err is))) in
    rw handed of

-- ==== one of this version is

pub returns-in_default-clause-migrates : goal.returns-in_default-clause-migrates
returns-in_default-clause-migrates g c clean made s valid held =
    let old = (state g.S.Store c.args.conn.now).now in
    let current : IsCurrent old = (rw c.in_default.is at (c.in_ok-desk.ensures.current clean)) refl in
    absurd (never_current old (one_header_row old (made.has.own DeskTable).has) (s, valid, held) current)

pub returns-in_default-clause-adds : goal.returns-in_default-clause-adds
returns-in_default-clause-adds g c clean made has desk1 =
    let old = (state g.S.Store c.args.conn.now).now in
    let current : IsCurrent old = (rw c.in_default.is at (c.in_ok-desk.ensures.current clean)) refl in
    absurd (never_current old (one_header_row old (made.has.own DeskTable).has) desk1 current)

pub returns-in_default-clause-empties : goal.returns-in_default-clause-empties
returns-in_default-clause-empties g c clean made desk1 =
    let old = (state g.S.Store c.args.conn.now).now in
    let current : IsCurrent old = (rw c.in_default.is at (c.in_ok-desk.ensures.current clean)) refl in
    absurd (never_current old (one_header_row old (made.has.own DeskTable).has) desk1 current)

pub returns-in_default-clause-finds : goal.returns-in_default-clause-finds
returns-in_default-clause-finds g c clean has desk1 =
    let old = (state g.S.Store c.args.conn.now).now in
    let current : IsCurrent old = (rw c.in_default.is at (c.in_ok-desk.ensures.current clean)) refl in
    absurd (never_current old (desk_selected.plain old (has DeskTable)).one desk1 current)

pub returns-in_default-clause-later : goal.returns-in_default-clause-later
returns-in_default-clause-later g c clean has later =
    let old = (state g.S.Store c.args.conn.now).now in
    let current : IsCurrent old = (rw c.in_default.is at (c.in_ok-desk.ensures.current clean)) refl in
    absurd (current_not_newer old has.one current later)

-- ==== one of version 1 is, and the name is taken

pub returns-then-is_used-clause-occupied : goal.returns-then-is_used-clause-occupied
returns-then-is_used-clause-occupied g c clean is =
    let old = (state g.S.Store c.args.conn.now).now in
    let it : HasValid1 old c.in-Some.desk = rw c.in-Some.is at (c.in_ok-desk.ensures.desk1 clean) in
    let schema : c.schema.result.now ≡ old.schema
    = c.schema.ensures.value ∙ ap (λ (d : Database). d.schema) (c.in_ok-desk.ensures.unchanged clean) in
    let used : IsTrue (is_used old.schema (codes "ballot2"))
    = ap (λ (s : Schema). is_used s (codes "ballot2")) (sym schema) ∙ sym c.is_used.ensures ∙ c.if-is_used.true in
    (used, told_desk1 old c.in-Some.desk it)

pub returns-then-is_used-clause-later : goal.returns-then-is_used-clause-later
returns-then-is_used-clause-later g c clean has later =
    let old = (state g.S.Store c.args.conn.now).now in
    let it : HasValid1 old c.in-Some.desk = rw c.in-Some.is at (c.in_ok-desk.ensures.desk1 clean) in
    absurd (never_newer old has.one (told_desk1 old c.in-Some.desk it) later)

pub returns-then-is_used-clause-current : goal.returns-then-is_used-clause-current
returns-then-is_used-clause-current g c clean has current =
    let old = (state g.S.Store c.args.conn.now).now in
    let it : HasValid1 old c.in-Some.desk = rw c.in-Some.is at (c.in_ok-desk.ensures.desk1 clean) in
    absurd (never_current old has.one (told_desk1 old c.in-Some.desk it) current)

-- ==== it is migrated

pub returns-clause-migrates : goal.returns-clause-migrates
returns-clause-migrates g c clean made s valid held =
    let old = (state g.S.Store c.args.conn.now).now in
    let new = (state g.S.Store c.rewrite.new.conn).now in
    let back = c.rewrite.ensures.clean clean in
    let it : HasValid1 old c.in-Some.desk = rw c.in-Some.is at (c.in_ok-desk.ensures.desk1 back) in
    on_ok_weaker c.rewrite.result (migrates_to s c.in-Some.desk old new made valid held it)
    (c.rewrite.ensures.makes clean (c.in_ok-desk.ensures.live back) old made.ballots made.is made.has.own made.has.sound (c.in_ok-desk.ensures.unchanged back))

pub returns-clause-adds : goal.returns-clause-adds
returns-clause-adds g c clean made has desk1 =
    let old = (state g.S.Store c.args.conn.now).now in
    let new = (state g.S.Store c.rewrite.new.conn).now in
    let back = c.rewrite.ensures.clean clean in
    on_ok_weaker c.rewrite.result (λ migrates. adds_ballots c.in-Some.desk old new made.ballots made.has.own migrates has)
    (c.rewrite.ensures.makes clean (c.in_ok-desk.ensures.live back) old made.ballots made.is made.has.own made.has.sound (c.in_ok-desk.ensures.unchanged back))

pub returns-clause-empties : goal.returns-clause-empties
returns-clause-empties g c clean made desk1 =
    let old = (state g.S.Store c.args.conn.now).now in
    let new = (state g.S.Store c.rewrite.new.conn).now in
    let back = c.rewrite.ensures.clean clean in
    on_ok_weaker c.rewrite.result (gone1 c.in-Some.desk old new made)
    (c.rewrite.ensures.makes clean (c.in_ok-desk.ensures.live back) old made.ballots made.is made.has.own made.has.sound (c.in_ok-desk.ensures.unchanged back))

pub returns-clause-crash : goal.returns-clause-crash
returns-clause-crash g c made s valid held =
    let old = state g.S.Store c.args.conn.now in
    let mid = state g.S.Store c.desk_of_version_1.new.conn in
    let new = state g.S.Store c.rewrite.new.conn in
    survives_then old mid new (λ _. ⊥) (MayMigrate c.in-Some.desk mid.now) (LeavesDesk (lifted s)) (λ _ db none. absurd none)
    (λ clean db may.
    let back = c.rewrite.ensures.clean clean in
    let it : HasValid1 old.now c.in-Some.desk = rw c.in-Some.is at (c.in_ok-desk.ensures.desk1 back) in
    leaves_migrated s c.in-Some.desk old.now made valid held it db
    (subst (λ (d : Database). MayMigrate c.in-Some.desk d db) (c.in_ok-desk.ensures.unchanged back) may))
    c.desk_of_version_1.ensures.writes_nothing.leaves c.rewrite.ensures.crash

pub returns-in_err-desk-clause-leaves : goal.returns-in_err-desk-clause-leaves
returns-in_err-desk-clause-leaves g c tables has =
    let old = state g.S.Store c.args.conn.now in
    survives_weaker old (state g.S.Store c.desk_of_version_1.new.conn) (λ _. ⊥) (LeavesBallots old.now tables.has.own) (λ _ db none. absurd none)
    c.desk_of_version_1.ensures.writes_nothing.leaves

pub returns-in_default-clause-leaves : goal.returns-in_default-clause-leaves
returns-in_default-clause-leaves g c tables has =
    let old = state g.S.Store c.args.conn.now in
    survives_weaker old (state g.S.Store c.desk_of_version_1.new.conn) (λ _. ⊥) (LeavesBallots old.now tables.has.own) (λ _ db none. absurd none)
    c.desk_of_version_1.ensures.writes_nothing.leaves

pub returns-then-is_used-clause-leaves : goal.returns-then-is_used-clause-leaves
returns-then-is_used-clause-leaves g c tables has =
    let old = state g.S.Store c.args.conn.now in
    survives_weaker old (state g.S.Store c.desk_of_version_1.new.conn) (λ _. ⊥) (LeavesBallots old.now tables.has.own) (λ _ db none. absurd none)
    c.desk_of_version_1.ensures.writes_nothing.leaves

pub returns-clause-leaves : goal.returns-clause-leaves
returns-clause-leaves g c tables has =
    let old = state g.S.Store c.args.conn.now in
    let mid = state g.S.Store c.desk_of_version_1.new.conn in
    let new = state g.S.Store c.rewrite.new.conn in
    survives_then old mid new (λ _. ⊥) (MayMigrate c.in-Some.desk mid.now) (LeavesBallots old.now tables.has.own) (λ _ db none. absurd none)
    (λ clean db may.
    leaves_ballots c.in-Some.desk old.now tables has db
    (subst (λ (d : Database). MayMigrate c.in-Some.desk d db) (c.in_ok-desk.ensures.unchanged (c.rewrite.ensures.clean clean)) may))
    c.desk_of_version_1.ensures.writes_nothing.leaves c.rewrite.ensures.crash

pub returns-clause-untouched : goal.returns-clause-untouched
returns-clause-untouched g c none =
    let old = state g.S.Store c.args.conn.now in
    let mid = state g.S.Store c.desk_of_version_1.new.conn in
    never_written old mid (state g.S.Store c.rewrite.new.conn) (MayMigrate c.in-Some.desk mid.now) c.desk_of_version_1.ensures.writes_nothing
    c.rewrite.ensures.crash (λ (clean : HasCleanDisk mid).
    let it : HasValid1 old.now c.in-Some.desk = rw c.in-Some.is at (c.in_ok-desk.ensures.desk1 clean) in
    none (told_desk1 old.now c.in-Some.desk it))

pub returns-in_default-clause-known : goal.returns-in_default-clause-known
returns-in_default-clause-known g c clean =
    let old = state g.S.Store c.args.conn.now in
    let current : IsCurrent old.now = (rw c.in_default.is at (c.in_ok-desk.ensures.current clean)) refl in
    inl (record { current = current; none = c.desk_of_version_1.ensures.writes_nothing; same = c.in_ok-desk.ensures.unchanged clean })

pub returns-clause-known : goal.returns-clause-known
returns-clause-known g c clean =
    let old = (state g.S.Store c.args.conn.now).now in
    let back = c.rewrite.ensures.clean clean in
    let it : HasValid1 old c.in-Some.desk = rw c.in-Some.is at (c.in_ok-desk.ensures.desk1 back) in
    ok_then c.rewrite.result (inr (told_desk1 old c.in-Some.desk it))

pub returns-clause-occupied : goal.returns-clause-occupied
returns-clause-occupied g c clean is = absurd (not_occupied c.rewrite.result c.rewrite.ensures.faults is)

pub returns-clause-finds : goal.returns-clause-finds
returns-clause-finds g c clean has desk1 =
    let old = (state g.S.Store c.args.conn.now).now in
    let back = c.rewrite.ensures.clean clean in
    let schema : c.schema.result.now ≡ old.schema
    = c.schema.ensures.value ∙ ap (λ (d : Database). d.schema) (c.in_ok-desk.ensures.unchanged back) in
    let free = ap (λ (s : Schema). is_used s (codes "ballot2")) (sym schema) ∙ sym c.is_used.ensures ∙ c.if-is_used.false in (
      ok_then c.rewrite.result free,
      fails_so c.rewrite.result IsOfStore _ (λ fault of. inl of) c.rewrite.ensures.faults,
    )

pub returns-clause-later : goal.returns-clause-later
returns-clause-later g c clean has later =
    let old = (state g.S.Store c.args.conn.now).now in
    let back = c.rewrite.ensures.clean clean in
    let it : HasValid1 old c.in-Some.desk = rw c.in-Some.is at (c.in_ok-desk.ensures.desk1 back) in
    absurd (never_newer old has.one (told_desk1 old c.in-Some.desk it) later)

-- ==== why it is not

pub returns-in_err-desk-clause-caused : goal.returns-in_err-desk-clause-caused
returns-in_err-desk-clause-caused g c clean tables =
    let handed : c.from_residual.result ≡ Err c.in_err-desk.field-0.0 = search rules in
    rw handed (λ store. elim (c.in_err-desk.ensures.caused clean store) [
      | inl disk ↦ inl disk
      | inr cannot ↦ inr (inl cannot)
    ])

pub returns-clause-caused : goal.returns-clause-caused
returns-clause-caused g c clean tables =
    let old = state g.S.Store c.args.conn.now in
    let mid = state g.S.Store c.desk_of_version_1.new.conn in
    let new = state g.S.Store c.rewrite.new.conn in
    let back = c.rewrite.ensures.clean clean in
    let read = c.desk_of_version_1.ensures.writes_nothing.leaves in
    let it : HasValid1 old.now c.in-Some.desk = rw c.in-Some.is at (c.in_ok-desk.ensures.desk1 back) in
    let desk1 : HoldsValid1 old.now = (it.desk1, it.valid, it.held) in
    let made = tables desk1 in
    let schema : c.schema.result.now ≡ old.now.schema
    = c.schema.ensures.value ∙ ap (λ (d : Database). d.schema) (c.in_ok-desk.ensures.unchanged back) in
    let free = ap (λ (s : Schema). is_used s (codes "ballot2")) (sym schema) ∙ sym c.is_used.ensures ∙ c.if-is_used.false in
    err_weaker c.rewrite.result (λ told. elim told [
      | inl disk ↦ inl (failed_then old mid new (λ _. ⊥) read back c.rewrite.ensures.crash.counts disk)
      | inr cannot ↦ inr (inr (
        free,
        desk1,
        subst (λ s. CannotMove old.step_limit s old.now made.has.own) it.lifts
            (subst (λ n. CannotMove n c.in-Some.desk old.now made.has.own) read.limit cannot),
      ))
    ]) (c.rewrite.ensures.caused clean old.now made.ballots made.is made.has.own made.has.sound (c.in_ok-desk.ensures.unchanged back))

pub returns-in_err-desk-clause-taken : goal.returns-in_err-desk-clause-taken
returns-in_err-desk-clause-taken g c clean used =
    let handed : c.from_residual.result ≡ Err c.in_err-desk.field-0.0 = search rules in
    rw handed (λ store. c.in_err-desk.ensures.caused clean store)

pub returns-clause-taken : goal.returns-clause-taken
returns-clause-taken g c clean used =
    let old = (state g.S.Store c.args.conn.now).now in
    let back = c.rewrite.ensures.clean clean in
    let schema : c.schema.result.now ≡ old.schema
    = c.schema.ensures.value ∙ ap (λ (d : Database). d.schema) (c.in_ok-desk.ensures.unchanged back) in
    let free = ap (λ (s : Schema). is_used s (codes "ballot2")) (sym schema) ∙ sym c.is_used.ensures ∙ c.if-is_used.false in
    absurd (true≢false (sym used ∙ free))
