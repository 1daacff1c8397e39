-- What is opened over a connection after a migration.
use Rattle.gr_core.specs.Columns.Stored.{DeskTable}
use Rattle.std.proofs.Common.{◌≡◌, ◌≢◌, ◌⊎◌, ◌∙◌, codes, false, IsTrue, Some, None, Result, Ok, inl, inr, refl, sym, ap, subst, Bool, true}
use Rattle.gr_core.specs.Desks.State.{State}
use Rattle.gr_core.specs.Desks.Valid.{IsValid}
use Rattle.gr_core.specs.Desks.Version1.{IsValid1, lifted}
use Rattle.gr_core.proofs.Validity.LiftedLemmas.{lifted_valid}
use Rattle.gr_store.specs.declared.fault.Fault.{Fault}
use Rattle.gr_store.specs.declared.fault.Fault.TheVariants.{Store, Damaged, TooNew, TooOld, NotADesk, Occupied}
use Rattle.gr_store.specs.Causes.{DiskFails, CannotSelect}
use Rattle.gr_store.specs.Commits.{LeavesDesk}
use Rattle.gr_store.specs.Content.{IsSettled, WritesNothing}
use Rattle.gr_store.specs.Faults.{IsOfStore, CanFailToLoad, CanFailToMigrate}
use Rattle.gr_store.specs.Holds.{Holds, HasDeskTables, HasDeskTables1, IsCurrent, IsTooNew}
use Rattle.gr_store.specs.Migrates.{LeavesBallots, StaysCurrent}
use Rattle.gr_store.specs.Schema.{desk_table}
use Rattle.gr_store.specs.SelectedTables.{HasPlainAnswer}
use Rattle.gr_store.specs.Selects.{desk_select}
use Rattle.gr_store.specs.Tabled.{HasColumns1, HasTable, HasTables}
use Rattle.gr_store.specs.Version1.{Holds1, HoldsValid1, OwnsValid1}
use Rattle.gr_store.proofs.Connections.StepsInTurn.{writes_then}
use Rattle.gr_store.proofs.Migration.DeskVersions.{holds_current, never_current}
use Rattle.gr_store.proofs.Migration.StoppedMigrations.{stays_told, disk_told}
use Rattle.gr_store.proofs.Reading.RightTables.{columns1, one_header_row, plain_desk, right_of}
use Rattle.sqlite.specs.Does.{lacks_sequence}
use Rattle.sqlite.specs.Effect.{Database}
use Rattle.sqlite_catalog.specs.Change.{is_used}
use Rattle.sqlite.specs.Held.{Held, state}
use Rattle.sqlite.specs.State.{State as Shown, HasCleanDisk, Survives}
use Rattle.sqlite.proofs.StateLemmas.{survives_then}
use Rattle.sqlite_schema.specs.declared.schema.Schema.{Schema}
use Rattle.sqlite_schema.specs.Names.{table_named}
use Rattle.sqlite_trees.specs.Tree.{Trees}
use Rattle.sqlite_trees.specs.declared.store.Store.{Ghosts}
use Rattle.gr_office.specs.Fault.{fault_behind}
use Rattle.gr_office.specs.Office.{Office, Keeps, IsOpenWith, CannotBringUp}
use Rattle.gr_office.proofs.OpenLemmas.{was_clean, keeps_still, opened_with}

-- ==== faults

-- a fault is told as it is, or as damage
behind_is : (fault : Fault) → (fault_behind fault ≡ fault) ⊎ (fault_behind fault ≡ Damaged)
behind_is TooOld = inr refl
behind_is NotADesk = inr refl
behind_is _ = inl refl

-- what is told and is no damage was the fault
as_it_was : (fault one : Fault) → one ≢ Damaged → fault_behind fault ≡ one → fault ≡ one
as_it_was fault one other is = elim (behind_is fault) [
  | inl same ↦ sym same ∙ is
  | inr damaged ↦ absurd (other (sym is ∙ damaged))
]

-- one of the store stays one
of_store_behind : (fault : Fault) → IsOfStore fault → IsOfStore (fault_behind fault)
of_store_behind fault (inl memory) = inl (ap fault_behind memory)
of_store_behind fault (inr store) = inr (ap fault_behind store)

never_damaged : ¬ (IsOfStore Damaged)
never_damaged (inl memory) = absurd (cc)
never_damaged (inr store) = absurd (cc)

never_newer : ¬ (IsOfStore TooNew)
never_newer (inl memory) = absurd (cc)
never_newer (inr store) = absurd (cc)

-- whatever an opening may fail with, after a migration it is told as one may fail
pub can_behind : (fault : Fault) → CanFailToLoad fault ⊎ (fault ≡ NotADesk) → CanFailToMigrate (fault_behind fault)
can_behind fault (inl (inl (inl of))) = inl (inl (of_store_behind fault of))
can_behind fault (inl (inl (inr damaged))) = inl (inr (ap fault_behind damaged))
can_behind fault (inl (inr (inl newer))) = inr (inl (ap fault_behind newer))
can_behind fault (inl (inr (inr older))) = inl (inr (ap fault_behind older))
can_behind fault (inr none) = inl (inr (ap fault_behind none))

-- and none tells that a name is taken
pub never_occupied : (fault told : Fault) → told ≡ fault_behind fault → CanFailToLoad fault ⊎ (fault ≡ NotADesk) → told ≢ Occupied
never_occupied fault told is can occupied =
    let was = as_it_was fault Occupied (λ e. cc) (sym is ∙ occupied) in
    elim (subst (λ f. CanFailToLoad f ⊎ (f ≡ NotADesk)) was can) [
      | inl load ↦ elim load [
        | inl unread ↦ elim unread [ inl of ↦ elim of [ inl memory ↦ absurd (cc) | inr store ↦ absurd (cc) ] | inr damaged ↦ absurd (cc) ]
        | inr other ↦ elim other [ inl newer ↦ absurd (cc) | inr older ↦ absurd (cc) ]
      ]
      | inr none ↦ absurd (cc)
    ]

-- where the table `desk` is there, none is told to be missing
pub has_desk : (fault : Fault) (schema : Schema) → HasTable schema desk_table
    → CanFailToMigrate fault ⊎ ((fault ≡ NotADesk) × (table_named schema (codes "desk") ≡ None)) → fault ≢ NotADesk
has_desk fault schema has (inl (inl (inl (inl memory)))) is = absurd (cc)
has_desk fault schema has (inl (inl (inl (inr store)))) is = absurd (cc)
has_desk fault schema has (inl (inl (inr damaged))) is = absurd (cc)
has_desk fault schema has (inl (inr (inl newer))) is = absurd (cc)
has_desk fault schema has (inl (inr (inr used))) is = absurd (cc)
has_desk fault schema has (inr none) is = absurd (let both = sym has.named ∙ none.1 in cc)

-- ==== connections

-- one that is not inside a transaction is outside
pub not_inside : (begun : Bool) → ¬ (IsTrue begun) → begun ≡ false
not_inside true never = absurd (never refl)
not_inside false never = refl

-- ==== databases

-- a database with a desk of this version has none of version 1
never_desk1 : (s : State) (db : Database) → HasTable db.schema desk_table → IsValid s → Holds s db → ¬ (HoldsValid1 db)
never_desk1 s db has valid held desk1 = never_current db (one_header_row db has) desk1 (holds_current s db valid held)

-- what a stop may leave is still that, after what writes nothing
leaves_still : (old mid new : Shown) (P : Trees → Type 0) → Survives old mid P → WritesNothing mid new → Survives old new P
leaves_still old mid new P first second =
    survives_then old mid new P (λ _. ⊥) P (λ _ db left. left) (λ _ db none. absurd none) first second.leaves

module _ {S : Type 0} (g : Ghosts S) (conn mid : Held S) where
  abbrev old : Shown
  old = state g conn

  abbrev between : Shown
  between = state g mid

  -- what a migration of the connection makes of it
  pub record IsMigrated : Type 0 where
    pub migrates : HasCleanDisk between → HasDeskTables1 old.now → (s : State) → IsValid1 s → Holds1 s old.now
        → HasDeskTables between.now × Holds (lifted s) between.now
    pub settled : HasCleanDisk between → IsSettled old → IsSettled between
    pub known : HasCleanDisk between → StaysCurrent old between ⊎ HoldsValid1 old.now
    pub early : HasCleanDisk between → HasPlainAnswer desk_select old.now → ¬ (IsTooNew old.now)
    pub untouched : (¬ (HoldsValid1 old.now)) → WritesNothing old between
    pub crash : HasDeskTables1 old.now → (s : State) → IsValid1 s → Holds1 s old.now
        → Survives old between (LeavesDesk (lifted s))
    pub leaves : (tables : HasDeskTables1 old.now) → lacks_sequence old.now.schema ≡ false
        → Survives old between (LeavesBallots old.now tables.has.own)
    pub clean : HasCleanDisk between → HasCleanDisk old
    pub vacant : HasCleanDisk between → HasColumns1 old.now.schema → HoldsValid1 old.now
        → is_used old.now.schema (codes "ballot2") ≡ false

  -- what it says of a connection that it hands back with this fault
  pub record Refuses (back : Held S) (fault : Fault) : Type 0 where
    pub finds : HasCleanDisk (state g back) → HasColumns1 old.now.schema → HoldsValid1 old.now
        → IsOfStore fault ⊎ (fault ≡ Occupied)
    pub current : HasCleanDisk (state g back) → HasPlainAnswer desk_select old.now → IsCurrent old.now
        → IsOfStore fault ⊎ (fault ≡ NotADesk)
    pub faults : CanFailToMigrate fault ⊎ ((fault ≡ NotADesk) × (table_named old.now.schema (codes "desk") ≡ None))

  -- what an opening says of an office
  pub record Opens (office : Office S) : Type 0 where
    pub none : WritesNothing between (state g office.conn)
    pub live : HasCleanDisk (state g office.conn) → IsTrue (state g office.conn).is_open
    pub opened : HasCleanDisk (state g office.conn) → IsSettled between → HasDeskTables between.now
        → (t : State) × IsOpenWith g t office
    pub found : HasTables between.now.schema → (s : State) → IsValid s → Holds s between.now
        → HasCleanDisk (state g office.conn) → office.desk ≡ Some s

  -- and of a connection that it hands back with this fault
  pub record Fails (back : Held S) (fault : Fault) : Type 0 where
    pub none : WritesNothing between (state g back)
    pub found : HasTables between.now.schema → (s : State) → IsValid s → Holds s between.now
        → HasCleanDisk (state g back) → IsOfStore fault
    pub too_new : HasCleanDisk (state g back) → fault ≡ TooNew → IsTooNew between.now
    pub caused : HasCleanDisk (state g back) → fault ≡ Store
        → DiskFails between (state g back) ⊎ CannotSelect between.step_limit between.now

  -- ---- it is not migrated

  module _ (back : Held S) (fault : Fault) (refuses : Refuses back fault) where
    pub refuses_current : HasCleanDisk (state g back) → HasTables old.now.schema → (s : State) → IsValid s
        → Holds s old.now → IsOfStore fault
    refuses_current clean tables s valid held =
        elim (refuses.current clean (plain_desk old.now (tables DeskTable)) (holds_current s old.now valid held)) [
          | inl of ↦ of
          | inr none ↦ absurd (has_desk fault old.now.schema (tables DeskTable) refuses.faults none)
        ]

    pub refuses_damaged : HasCleanDisk (state g back) → fault ≡ Damaged → (HasDeskTables1 old.now → ¬ (HoldsValid1 old.now))
        × (HasTables old.now.schema → (s : State) → IsValid s → ¬ (Holds s old.now))
    refuses_damaged clean damaged = (
      λ made desk1. elim (refuses.finds clean (columns1 old.now.schema made.is made.has.own) desk1) [
        | inl of ↦ never_damaged (subst IsOfStore damaged of)
        | inr used ↦ absurd (let both = sym damaged ∙ used in cc)
      ],
      λ tables s valid held. never_damaged (subst IsOfStore damaged (refuses_current clean tables s valid held)),
    )

  module _ (migrated : IsMigrated) where
    -- ---- an office

    module _ (office : Office S) (opens : Opens office) where
      pub was : HasCleanDisk (state g office.conn) → HasCleanDisk between
      was = was_clean between (state g office.conn) opens.none

      -- where a desk is kept between, it is open with it
      opened_over : (s : State) → IsValid s → Keeps g s mid → HasCleanDisk (state g office.conn) → IsOpenWith g s office
      opened_over s valid kept =
          let result : Result (Office S) Fault = Ok office in
          opened_with g mid s result kept opens.opened (opens.found (right_of between.now.schema kept.tables.own) s valid kept.holds)

      pub opens_lifted : HasCleanDisk (state g office.conn) → IsSettled old → HasDeskTables1 old.now → (s : State)
          → IsValid1 s → Holds1 s old.now → IsOpenWith g (lifted s) office
      opens_lifted clean settled made s valid held =
          let it = migrated.migrates (was clean) made s valid held in
          let kept : Keeps g (lifted s) mid = record {
            settled = migrated.settled (was clean) settled;
            tables = it.0;
            holds = it.1;
          } in
          opened_over (lifted s) (lifted_valid s valid) kept clean

      -- one of this version is opened as it was
      pub opens_current : HasCleanDisk (state g office.conn) → IsSettled old → HasDeskTables old.now → (s : State)
          → IsValid s → Holds s old.now → IsOpenWith g s office
      opens_current clean settled made s valid held =
          let live = opens.none.was_open clean (opens.live clean) in
          let kept : Keeps g s conn = record { settled = settled; tables = made; holds = held } in
          let none = migrated.untouched (never_desk1 s old.now (made.own DeskTable).has valid held) in
          opened_over s valid (keeps_still g s conn mid none (was clean) live kept) clean

      pub opens_settled : HasCleanDisk (state g office.conn) → IsSettled old → IsSettled (state g office.conn)
      opens_settled clean settled =
          (opens.none.stays clean (opens.live clean) (migrated.settled (was clean) settled)).0

      pub opens_held : HasCleanDisk (state g office.conn) → IsSettled old → (s : State) → Holds s between.now
          → Holds s (state g office.conn).now
      opens_held clean settled s held =
          subst (Holds s) (sym (opens.none.stays clean (opens.live clean) (migrated.settled (was clean) settled)).1) held

    -- ---- none, and a connection

    module _ (back : Held S) (fault told : Fault) (is : told ≡ fault_behind fault) (fails : Fails back fault) where
      before : HasCleanDisk (state g back) → HasCleanDisk between
      before = was_clean between (state g back) fails.none

      told_of : IsOfStore fault → IsOfStore told
      told_of of = subst IsOfStore (sym is) (of_store_behind fault of)

      pub fails_of_store : HasCleanDisk (state g back) → HasDeskTables1 old.now → HoldsValid1 old.now → IsOfStore told
      fails_of_store clean made desk1 =
          let it = migrated.migrates (before clean) made desk1.0 desk1.1 desk1.2 in
          told_of (fails.found (right_of between.now.schema it.0.own) (lifted desk1.0) (lifted_valid desk1.0 desk1.1) it.1 clean)

      pub fails_current : HasCleanDisk (state g back) → HasTables old.now.schema → (s : State) → IsValid s
          → Holds s old.now → IsOfStore told
      fails_current clean tables s valid held = elim (migrated.known (before clean)) [
        | inl stays ↦ told_of (fails.found (subst (λ (d : Database). HasTables d.schema) (sym stays.same) tables) s valid
            (subst (Holds s) (sym stays.same) held) clean)
        | inr desk1 ↦ absurd (never_desk1 s old.now (tables DeskTable) valid held desk1)
      ]

      pub fails_damaged : HasCleanDisk (state g back) → told ≡ Damaged → (HasDeskTables1 old.now → ¬ (HoldsValid1 old.now))
          × (HasTables old.now.schema → (s : State) → IsValid s → ¬ (Holds s old.now))
      fails_damaged clean damaged = (
        λ made desk1. never_damaged (subst IsOfStore damaged (fails_of_store clean made desk1)),
        λ tables s valid held. never_damaged (subst IsOfStore damaged (fails_current clean tables s valid held)),
      )

      pub fails_newer : HasCleanDisk (state g back) → OwnsValid1 old.now → told ≡ TooNew → IsTooNew old.now
      fails_newer clean tables newer = elim (migrated.known (before clean)) [
        | inl stays ↦ subst IsTooNew stays.same (fails.too_new clean (as_it_was fault TooNew (λ e. cc) (sym is ∙ newer)))
        | inr desk1 ↦ absurd (never_newer (subst IsOfStore newer (fails_of_store clean (tables desk1) desk1)))
      ]

      pub fails_unwritten : HasCleanDisk (state g back) → OwnsValid1 old.now → (¬ (IsOfStore told))
          → WritesNothing old (state g back)
      fails_unwritten clean tables other = elim (migrated.known (before clean)) [
        | inl stays ↦ writes_then old between (state g back) stays.none fails.none
        | inr desk1 ↦ absurd (other (fails_of_store clean (tables desk1) desk1))
      ]

      pub fails_caused : HasCleanDisk (state g back) → (tables : OwnsValid1 old.now) → told ≡ Store
          → DiskFails old (state g back) ⊎ CannotBringUp old tables
      fails_caused clean tables failed =
          let cause = fails.caused clean (as_it_was fault Store (λ e. cc) (sym is ∙ failed)) in
          elim (migrated.known (before clean)) [
            | inl stays ↦ elim (stays_told old between (state g back) stays fails.none clean cause) [
              | inl disk ↦ inl disk
              | inr cannot ↦ inr (inr (inr (inl (stays.current, cannot))))
            ]
            | inr desk1 ↦
                let made = tables desk1 in
                let left = migrated.crash made desk1.0 desk1.1 desk1.2 in
                let it = migrated.migrates (before clean) made desk1.0 desk1.1 desk1.2 in
                elim cause [
                  | inl disk ↦ inl (disk_told old between (state g back) (LeavesDesk (lifted desk1.0)) left fails.none clean disk)
                  | inr cannot ↦ inr (inr (inr (inr (
                    migrated.vacant (before clean) (columns1 old.now.schema made.is made.has.own) desk1,
                    desk1,
                    between.now,
                    it.0,
                    it.1,
                    subst (λ n. CannotSelect n between.now) left.limit cannot,
                  ))))
                ]
          ]

    -- ---- either

    -- what a stop may leave after both
    pub both_crash : (last : Shown) → WritesNothing between last → HasDeskTables1 old.now → (s : State) → IsValid1 s
        → Holds1 s old.now → Survives old last (LeavesDesk (lifted s))
    both_crash last none made s valid held =
        leaves_still old between last (LeavesDesk (lifted s)) (migrated.crash made s valid held) none

    pub both_leave : (last : Shown) → WritesNothing between last → (tables : HasDeskTables1 old.now)
        → lacks_sequence old.now.schema ≡ false → Survives old last (LeavesBallots old.now tables.has.own)
    both_leave last none tables has =
        leaves_still old between last (LeavesBallots old.now tables.has.own) (migrated.leaves tables has) none

    pub both_untouched : (last : Shown) → WritesNothing between last → (¬ (HoldsValid1 old.now)) → WritesNothing old last
    both_untouched last none never = writes_then old between last (migrated.untouched never) none
