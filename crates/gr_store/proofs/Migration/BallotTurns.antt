-- The ballots of a desk, put in the turn of their resolutions.
use Rattle.std.proofs.Common.{◌≡◌, ◌+◌, ◌++◌, ℕ, List, [], ◌∷◌, map, Option, inr, refl, sym, ap, subst, ◌∙◌}
use Rattle.sqlite_schema.specs.declared.schema.Schema.{Schema}
use Rattle.sqlite.specs.Effect.{Database}
use Rattle.gr_core.specs.declared.limits.TheConstants.{MAX_RESOLUTIONS}
use Rattle.gr_core.specs.Machine.Row as core
use Rattle.gr_core.specs.Machine.Row.{put_all}
use Rattle.gr_core.specs.Parts.Ballot.{ballots_of}
use Rattle.gr_core.specs.Desks.State.{State, with_ballots_before}
use Rattle.gr_core.specs.Desks.Valid.{IsValid}
use Rattle.gr_core.proofs.Effects.PutAllLemmas.{put_all-append}
use Rattle.gr_core.proofs.Validity.BallotTurnLemmas.{come_in_turn}
use Rattle.gr_store.specs.Own.{HasOwnTables}
use Rattle.gr_store.specs.Causes.{CannotPutAll, CannotPutBallots}
use Rattle.gr_store.specs.Commits.{PutsAll}
use Rattle.gr_store.specs.Migrates.{PutsBallots, without_ballots}

-- the ballots on the resolutions before this one are put
abbrev pub PutsUpTo : {schema : Schema} → HasOwnTables schema → State → ℕ → Database → Database → Type 0
PutsUpTo own s number old new =
    (rows : List core.RowModel) × (put_all (without_ballots s) rows ≡ with_ballots_before number s) × PutsAll own rows old new

-- the rows of the ballots on a resolution put them after those on the resolutions before
pub turn_puts : (s : State) → IsValid s → (number : ℕ) (rows : List core.RowModel)
    → rows ≡ map core.ballot_of_entry (ballots_of s.ballots number)
    → put_all (with_ballots_before number s) rows ≡ with_ballots_before (number + 1) s
turn_puts s valid number rows are = ap (put_all (with_ballots_before number s)) are ∙ (come_in_turn s valid).1 number

module _ {schema : Schema} (own : HasOwnTables schema) where
  puts_then : (rows more : List core.RowModel) (old between new : Database) → PutsAll own rows old between
      → PutsAll own more between new → PutsAll own (rows ++ more) old new
  puts_then [] more old between new first second = subst (λ d. PutsAll own more d new) first second
  puts_then (row ∷ rows) more old between new first second =
      (first.0, first.1, puts_then rows more first.0 between new first.2 second)

  -- none of them yet
  pub none_put : (s : State) (db : Database) → IsValid s → PutsUpTo own s 1 db db
  none_put s db valid = ([], sym (come_in_turn s valid).0, refl)

  -- those on one resolution more
  pub more_put : (s : State) (number : ℕ) (rows : List core.RowModel) (old between new : Database)
      → PutsUpTo own s number old between
      → put_all (with_ballots_before number s) rows ≡ with_ballots_before (number + 1) s → PutsAll own rows between new
      → PutsUpTo own s (number + 1) old new
  more_put s number rows old between new before is puts = (
    before.0 ++ rows,
    put_all-append (without_ballots s) before.0 rows ∙ ap (λ t. put_all t rows) before.1 ∙ is,
    puts_then before.0 rows old between new before.2 puts,
  )

  -- rows that cannot be put after others
  cannot_then : (limit : Option ℕ) (done rows : List core.RowModel) (old between : Database) → PutsAll own done old between
      → CannotPutAll own limit rows between → CannotPutAll own limit (done ++ rows) old
  cannot_then limit [] rows old between puts cannot = subst (λ d. CannotPutAll own limit rows d) puts cannot
  cannot_then limit (row ∷ done) rows old between puts cannot =
      inr (puts.0, puts.1, cannot_then limit done rows puts.0 between puts.2 cannot)

  -- so those on one resolution more
  pub cannot_more : (s : State) (number : ℕ) (limit : Option ℕ) (rows : List core.RowModel) (old between : Database)
      → PutsUpTo own s number old between
      → put_all (with_ballots_before number s) rows ≡ with_ballots_before (number + 1) s
      → CannotPutAll own limit rows between → CannotPutBallots own limit s old
  cannot_more s number limit rows old between before is cannot = (
    number + 1,
    before.0 ++ rows,
    put_all-append (without_ballots s) before.0 rows ∙ ap (λ t. put_all t rows) before.1 ∙ is,
    cannot_then limit before.0 rows old between before.2 cannot,
  )

  -- all of them
  pub all_put : (s : State) (number : ℕ) (old new : Database) → IsValid s → number ≡ MAX_RESOLUTIONS + 1
      → PutsUpTo own s number old new → PutsBallots own s old new
  all_put s number old new valid last it =
      (it.0, it.1 ∙ ap (λ n. with_ballots_before n s) last ∙ (come_in_turn s valid).2, it.2)
