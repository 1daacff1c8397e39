use Rattle.gr_core.specs.Columns.Stored.{BallotTable}
use Rattle.std.proofs.Common.{◌≡◌, ◌⊎◌, ◌∙◌, [], codes, None, Option, Some, IsSome, true≢false, inl, inr, refl, sym, ap, subst}
use Rattle.gr_store.specs.declared.fault.Fault.TheVariants.{NotADesk}
use Rattle.gr_store.specs.Faults.{CanFailToLoad, CanFailToMigrate}
use Rattle.gr_store.specs.Migrates.{AddsBallotTable}
use Rattle.gr_store.proofs.Reading.RightTables.{columns1}
use Rattle.sqlite.specs.Effect.{Database}
use Rattle.sqlite.specs.Held.{state}
use Rattle.sqlite_schema.specs.Names.{table_named}
use Rattle.sqlite.specs.State.{HasCleanDisk}
use Rattle.gr_office.specs.NotOpened.{FailsToMigrate}
use Rattle.gr_office.proofs.ErrorLemmas.{is_error, told_so}
use Rattle.gr_office.proofs.MigrationLemmas.{IsMigrated, Opens, Fails, was, opens_lifted, opens_current, opens_settled, opens_held}
use Rattle.gr_office.proofs.MigrationLemmas.{fails_of_store, fails_current, fails_damaged, fails_newer, fails_unwritten, fails_caused}
use Rattle.gr_office.proofs.MigrationLemmas.{both_crash, both_leave, both_untouched, can_behind, never_occupied, not_inside}
use Rattle.gr_office.proofs.MigrationLemmas.{Refuses, refuses_current, refuses_damaged}
use Rattle.gr_office.proofs.OpenLemmas.{was_clean}
use Rattle.gr_office.proofs.office.Office.migrate.Goals as goal
use Rattle.gr_office.proofs.office.Office.migrate.Goals.{In-Ok, After-behind_a_migration}

-- what is not nowhere is there
is_there : {X : Type 0} (found : Option X) → ¬ (found ≡ None) → IsSome found
is_there None never = absurd (never refl)
is_there (Some x) never = refl

-- ==== an office is opened after it

-- what the migration says
migrated : (g : _) (c : In-Ok g) → IsMigrated g.S.Store c.args.conn c.close.result
migrated g c = subst (IsMigrated g.S.Store c.args.conn) (sym c.close.ensures.same) (record {
  migrates = c.in_ok-store.ensures.migrates;
  settled = c.in_ok-store.ensures.settled;
  known = c.in_ok-store.ensures.known;
  early = c.in_ok-store.ensures.early;
  untouched = c.in_ok-store.ensures.untouched;
  crash = c.in_ok-store.ensures.crash;
  leaves = λ tables has. (c.in_ok-store.ensures.leaves tables has).0;
  clean = c.in_ok-store.ensures.clean;
  vacant = c.in_ok-store.ensures.vacant;
})

-- what the opening says
opens : (g : _) (c : In-Ok g) → Opens g.S.Store c.args.conn c.close.result c.in-Ok.office
opens g c = record {
  none = c.in-Ok.ensures.writes_nothing;
  live = c.in-Ok.ensures.live;
  opened = c.in-Ok.ensures.open_with;
  found = λ tables s valid held. c.in-Ok.ensures.valid_is_found tables s valid held;
}

pub returns-in-Ok-clause-found : goal.returns-in-Ok-clause-found
returns-in-Ok-clause-found g c clean =
    let it = c.in-Ok.ensures.found clean in
    (it.0, it.1, it.2, λ settled. opens_held g.S.Store c.args.conn c.close.result (migrated g c) c.in-Ok.office (opens g c) clean settled it.0 it.3)

pub returns-in-Ok-clause-migrates : goal.returns-in-Ok-clause-migrates
returns-in-Ok-clause-migrates g c =
    opens_lifted g.S.Store c.args.conn c.close.result (migrated g c) c.in-Ok.office (opens g c)

pub returns-in-Ok-clause-adds : goal.returns-in-Ok-clause-adds
returns-in-Ok-clause-adds g c clean settled tables lacks desk1 =
    let old = state g.S.Store c.args.conn in
    let it = migrated g c in
    let opened = opens g c in
    let clean_mid = was g.S.Store c.args.conn c.close.result it c.in-Ok.office opened clean in
    let stays = opened.none.stays clean (opened.live clean) (it.settled clean_mid settled) in
    let added = subst (λ conn. HasCleanDisk (state g.S.Store conn) → AddsBallotTable old.now tables.has.own (state g.S.Store conn).now)
    (sym c.close.ensures.same) (λ clean. c.in_ok-store.ensures.adds clean tables lacks desk1) in
    subst (AddsBallotTable old.now tables.has.own) (sym stays.1) (added clean_mid)

pub returns-in-Ok-clause-empties : goal.returns-in-Ok-clause-empties
returns-in-Ok-clause-empties g c clean settled tables desk1 =
    let it = migrated g c in
    let opened = opens g c in
    let clean_mid = was g.S.Store c.args.conn c.close.result it c.in-Ok.office opened clean in
    let stays = opened.none.stays clean (opened.live clean) (it.settled clean_mid settled) in
    let gone = subst (λ conn. HasCleanDisk (state g.S.Store conn) → (state g.S.Store conn).now.trees (tables.has.own BallotTable).has.tree ≡ [])
    (sym c.close.ensures.same) (λ clean. c.in_ok-store.ensures.empties clean tables desk1) in
    ap (λ (d : Database). d.trees (tables.has.own BallotTable).has.tree) stays.1 ∙ gone clean_mid

pub returns-in-Ok-clause-opens : goal.returns-in-Ok-clause-opens
returns-in-Ok-clause-opens g c =
    opens_current g.S.Store c.args.conn c.close.result (migrated g c) c.in-Ok.office (opens g c)

pub returns-in-Ok-clause-settled : goal.returns-in-Ok-clause-settled
returns-in-Ok-clause-settled g c =
    opens_settled g.S.Store c.args.conn c.close.result (migrated g c) c.in-Ok.office (opens g c)

pub returns-in-Ok-clause-untouched : goal.returns-in-Ok-clause-untouched
returns-in-Ok-clause-untouched g c =
    both_untouched g.S.Store c.args.conn c.close.result (migrated g c) (state g.S.Store c.in-Ok.office.conn)
    c.in-Ok.ensures.writes_nothing

pub returns-in-Ok-clause-crash : goal.returns-in-Ok-clause-crash
returns-in-Ok-clause-crash g c =
    both_crash g.S.Store c.args.conn c.close.result (migrated g c) (state g.S.Store c.in-Ok.office.conn)
    c.in-Ok.ensures.writes_nothing

pub returns-in-Ok-clause-leaves : goal.returns-in-Ok-clause-leaves
returns-in-Ok-clause-leaves g c =
    both_leave g.S.Store c.args.conn c.close.result (migrated g c) (state g.S.Store c.in-Ok.office.conn)
    c.in-Ok.ensures.writes_nothing

pub returns-in-Ok-clause-clean : goal.returns-in-Ok-clause-clean
returns-in-Ok-clause-clean g c clean =
    let it = migrated g c in
    it.clean (was g.S.Store c.args.conn c.close.result it c.in-Ok.office (opens g c) clean)

pub returns-in-Ok-clause-vacant : goal.returns-in-Ok-clause-vacant
returns-in-Ok-clause-vacant g c clean =
    let it = migrated g c in
    it.vacant (was g.S.Store c.args.conn c.close.result it c.in-Ok.office (opens g c) clean)

pub returns-in-Ok-clause-later : goal.returns-in-Ok-clause-later
returns-in-Ok-clause-later g c plain later clean =
    let it = migrated g c in
    it.early (was g.S.Store c.args.conn c.close.result it c.in-Ok.office (opens g c) clean) plain later

pub returns-in-Ok-clause-named : goal.returns-in-Ok-clause-named
returns-in-Ok-clause-named g c =
    let store = c.in_ok-store.ensures in
    let outside = not_inside c.args.conn.in_transaction (λ begun. let is = store.inside begun in absurd (cc)) in
    is_there (table_named (state g.S.Store c.args.conn).now.schema (codes "desk"))
    (λ none. let never = (store.not_a_desk outside).0 none in absurd (cc))

-- ==== none is

migrated_still : (g : _) (c : After-behind_a_migration g) → IsMigrated g.S.Store c.args.conn c.close.result
migrated_still g c = subst (IsMigrated g.S.Store c.args.conn) (sym c.close.ensures.same) (record {
  migrates = c.in_ok-store.ensures.migrates;
  settled = c.in_ok-store.ensures.settled;
  known = c.in_ok-store.ensures.known;
  early = c.in_ok-store.ensures.early;
  untouched = c.in_ok-store.ensures.untouched;
  crash = c.in_ok-store.ensures.crash;
  leaves = λ tables has. (c.in_ok-store.ensures.leaves tables has).0;
  clean = c.in_ok-store.ensures.clean;
  vacant = c.in_ok-store.ensures.vacant;
})

fails : (g : _) (c : After-behind_a_migration g) → Fails g.S.Store c.args.conn c.close.result c.in-Err.not_opened.conn c.in-Err.not_opened.fault
fails g c = record {
  none = c.in-Err.ensures.failed.wrote_nothing;
  found = λ tables s valid held clean. c.in-Err.ensures.failed.valid clean tables s valid held;
  too_new = c.in-Err.ensures.failed.too_new;
  caused = λ clean store. elim (c.in-Err.ensures.failed.caused clean store) [
    | inl disk ↦ inl disk
    | inr other ↦ elim other [
      | inl cannot ↦ inr cannot
      | inr begun ↦ absurd (true≢false (sym begun ∙ c.close.ensures.outside))
    ]
  ];
}

may_fail : (g : _) (c : After-behind_a_migration g) → CanFailToLoad c.in-Err.not_opened.fault ⊎ (c.in-Err.not_opened.fault ≡ NotADesk)
may_fail g c = elim c.in-Err.ensures.failed.can [ inl can ↦ inl can | inr none ↦ inr none.0 ]

pub returns-in-Err-clause-failed : goal.returns-in-Err-clause-failed
returns-in-Err-clause-failed g c =
    let conn = c.args.conn in
    let mid = c.close.result in
    let it = migrated_still g c in
    let after = c.in-Err.not_opened.conn in
    let met = c.in-Err.not_opened.fault in
    let told = c.behind_a_migration.result in
    let is = c.behind_a_migration.ensures in
    let opening = fails g c in
    let now = state g.S.Store after in
    let before = was_clean (state g.S.Store mid) now opening.none in
    let outside = not_inside conn.in_transaction (λ begun. let is = c.in_ok-store.ensures.inside begun in absurd (cc)) in
    let failed : FailsToMigrate g.S.Store conn after told = record {
      can = inl (subst CanFailToMigrate (sym is) (can_behind met (may_fail g c)));
      clean = λ clean. it.clean (before clean);
      no_desk = λ outside none. let never = (c.in_ok-store.ensures.not_a_desk outside).0 none in absurd (cc);
      finds = λ clean made desk1. inl (fails_of_store g.S.Store conn mid it after met told is opening clean made desk1);
      current = fails_current g.S.Store conn mid it after met told is opening;
      later = λ clean plain later. absurd (it.early (before clean) plain later);
      too_new = fails_newer g.S.Store conn mid it after met told is opening;
      damaged = fails_damaged g.S.Store conn mid it after met told is opening;
      occupied = λ clean occupied. absurd (never_occupied met told is (may_fail g c) occupied);
      taken = λ clean has desk1 used. absurd (true≢false (sym used ∙ it.vacant (before clean) has desk1));
      caused = λ clean tables store. inr (fails_caused g.S.Store conn mid it after met told is opening clean tables store);
      spared = both_untouched g.S.Store conn mid it now opening.none;
      unwritten = fails_unwritten g.S.Store conn mid it after met told is opening;
      stops = both_crash g.S.Store conn mid it now opening.none;
      leaves = both_leave g.S.Store conn mid it now opening.none;
      back = c.in-Err.ensures.failed.back ∙ c.close.ensures.outside ∙ sym outside;
    } in
    failed

-- ==== it is not migrated

pub returns-in_err-store-clause-failed : goal.returns-in_err-store-clause-failed
returns-in_err-store-clause-failed g c =
    let conn = c.args.conn in
    let e = c.in_err-store.field-0.0 in
    let it = c.in_err-store.ensures in
    let schema = (state g.S.Store conn).now.schema in
    let refuses : Refuses g.S.Store conn conn e.conn e.fault
    = record { finds = it.finds; current = it.current; faults = it.faults } in
    let failed : FailsToMigrate g.S.Store conn e.conn e.fault = record {
      can = it.faults;
      clean = it.clean;
      no_desk = λ outside none. told_so e conn _ ((it.not_a_desk outside).0 none);
      finds = λ clean made desk1. elim (it.finds clean (columns1 schema made.is made.has.own) desk1) [
        | inl of ↦ inl of
        | inr is ↦ inr (is, (it.occupied clean is).0)
      ];
      current = refuses_current g.S.Store conn conn e.conn e.fault refuses;
      later = λ clean plain later. it.later clean plain later;
      too_new = λ clean tables. it.too_new clean;
      damaged = refuses_damaged g.S.Store conn conn e.conn e.fault refuses;
      occupied = it.occupied;
      taken = it.taken;
      caused = λ clean tables store. elim (it.caused clean tables store) [
        | inl begun ↦ inl begun
        | inr cause ↦ inr (elim cause [
          | inl disk ↦ inl disk
          | inr cannot ↦ elim cannot [ inl select ↦ inr (inl select) | inr migrate ↦ inr (inr (inl migrate)) ]
        ])
      ];
      spared = λ none. it.spared (inr none);
      unwritten = λ clean tables other. it.spared (inl other);
      stops = it.failed;
      leaves = λ tables has. (it.leaves tables has).1;
      back = it.back;
    } in
    rw (is_error c.from_residual.result e c.from_residual.ensures.1) failed
