use Rattle.gr_core.specs.Columns.Stored.{BallotTable, DeskTable}
use Rattle.gr_core.proofs.Validity.LiftedLemmas.{lifted_valid}
use Rattle.std.proofs.Common.{◌≡◌, ◌∙◌, ◌||◌, codes, ℕ, List, Bool, true, false, true≢false, IsTrue, Option, Some, None, is_some, inl, inr, refl, sym}
use Rattle.gr_store.specs.Schema.{ballot_table}
use Rattle.gr_store.specs.Tabled.{HasTable}
use Rattle.gr_store.proofs.Reading.RightTables.{columns1}
use Rattle.sqlite_catalog.specs.Change.{is_used}
use Rattle.sqlite_schema.specs.declared.schema.Schema.{Schema}
use Rattle.sqlite_schema.specs.Names.{table_named, index_named, view_named}
use Rattle.sqlite.specs.Held.{state}
use Rattle.gr_desk.proofs.LifeLemmas.{never_desk1, spared, stops_keep, stops_keep_desk1}
use Rattle.gr_desk.proofs.any_store.migrated_office.Goals as goal

-- what is never said is not
not_said : (said : Bool) → ¬ (IsTrue said) → said ≡ false
not_said true never = absurd (never refl)
not_said false never = refl

-- a table that a schema has is there
there_is : (schema : Schema) → HasTable schema ballot_table → ¬ (table_named schema (codes "ballot2") ≡ None)
there_is schema has none = absurd (let both = sym has.named ∙ none in cc)

-- a name that is not used is that of no table
no_table : (schema : Schema) (name : List ℕ) → is_used schema name ≡ false → table_named schema name ≡ None
no_table schema name free = go (table_named schema name) free
  where
    go : (found : Option ℕ) → (is_some found || is_some (index_named schema name) || is_some (view_named schema name)) ≡ false → found ≡ None
    go None free = refl
    go (Some at) free = absurd (true≢false free)

pub returns-in-Ok-clause-clean : goal.returns-in-Ok-clause-clean
returns-in-Ok-clause-clean g c = c.in-Ok.ensures.clean

pub returns-in-Ok-clause-held : goal.returns-in-Ok-clause-held
returns-in-Ok-clause-held g c clean opens s valid leaves =
    let shown = state g.S.Store c.args.conn in
    let kept = c.left_desks_are_held.ensures (c.in-Ok.ensures.clean clean) opens s leaves in
    let said = c.lacks_ballots-is_migrated.ensures in (
      c.in-Ok.ensures.opens clean kept.0 kept.1 s valid kept.2,
      not_said c.lacks_ballots-is_migrated.result (λ yes. there_is shown.now.schema (kept.1.own BallotTable).has (said.0 yes)),
    )

pub returns-in-Ok-clause-keeps : goal.returns-in-Ok-clause-keeps
returns-in-Ok-clause-keeps g c clean s valid kept =
    let shown = state g.S.Store c.args.conn in
    let said = c.lacks_ballots-is_migrated.ensures in (
      c.in-Ok.ensures.opens clean kept.settled kept.tables s valid kept.holds,
      not_said c.lacks_ballots-is_migrated.result
          (λ yes. there_is shown.now.schema (kept.tables.own BallotTable).has (said.0 yes)),
    )

pub returns-in-Ok-clause-lifted : goal.returns-in-Ok-clause-lifted
returns-in-Ok-clause-lifted g c clean opens s valid leaves =
    let shown = state g.S.Store c.args.conn in
    let kept = c.left_desks_of_version_1_are_held.ensures (c.in-Ok.ensures.clean clean) opens s leaves in
    let free = c.in-Ok.ensures.vacant clean (columns1 shown.now.schema kept.1.is kept.1.has.own) (s, valid, kept.2) in (
      c.in-Ok.ensures.migrates clean kept.0 kept.1 s valid kept.2,
      c.lacks_ballots-is_migrated.ensures.1 (no_table shown.now.schema (codes "ballot2") free),
    )

pub returns-in-Err-clause-faults : goal.returns-in-Err-clause-faults
returns-in-Err-clause-faults g c = elim c.in-Err.ensures.failed.can [ inl can ↦ inl can | inr none ↦ inr none.0 ]

pub returns-in-Err-clause-failed : goal.returns-in-Err-clause-failed
returns-in-Err-clause-failed g c = c.in-Err.ensures.failed

pub returns-in-Ok-clause-found : goal.returns-in-Ok-clause-found
returns-in-Ok-clause-found g c clean = let it = c.in-Ok.ensures.found clean in (it.0, it.1, it.2)

pub returns-in-Err-clause-still : goal.returns-in-Err-clause-still
returns-in-Err-clause-still g c clean s valid kept =
    let conn = c.args.conn in
    let none = never_desk1 s (state g.S.Store conn).now (kept.tables.own DeskTable).has valid kept.holds in
    spared g.S.Store s conn c.in-Err.not_migrated.conn (c.in-Err.ensures.failed.spared none) clean
    (stops_keep g.S.Store s conn valid kept)

pub returns-in-Err-clause-still_desk1 : goal.returns-in-Err-clause-still_desk1
returns-in-Err-clause-still_desk1 g c clean s valid kept = λ trees may.
    elim ((c.in-Err.ensures.failed.stops kept.tables s valid kept.holds).crash clean trees may) [
      | inl was ↦ stops_keep_desk1 g.S.Store s c.args.conn valid kept trees was
      | inr leaves ↦ inl (lifted_valid s valid, leaves)
    ]
