use Rattle.std.proofs.Common.{◌≡◌, ◌+◌, map, inl, inr, refl, sym, ap, subst, ◌∙◌, arith, rules}
use Rattle.sqlite.specs.Held.{state}
use Rattle.sqlite.proofs.StateLemmas.{survives_then}
use Rattle.gr_core.specs.declared.limits.TheConstants.{MAX_RESOLUTIONS}
use Rattle.gr_core.specs.Parts.Ballot.{ballots_of}
use Rattle.gr_core.specs.Machine.Row.{row_of, ballot_of_entry}
use Rattle.gr_store.specs.Causes.{CannotPutAll}
use Rattle.gr_store.proofs.Failures.FailedTexts.{failed_then}
use Rattle.gr_store.proofs.Failures.StoreFaults.{passed_on}
use Rattle.gr_store.proofs.Connections.PutsInTurn.{puts_schema}
use Rattle.gr_store.proofs.Connections.StepsInTurn.{survives_same, was_clean}
use Rattle.gr_store.proofs.Migration.BallotTurns.{none_put, more_put, cannot_more, all_put, turn_puts}
use Rattle.gr_store.proofs.migrate.put_ballots.Goals as goal

pub loop-number-init : goal.loop-number-init
loop-number-init g c = record {
  same = refl;
  survives = survives_same (state g.S.Store c.args.tx.now.conn.now) (λ _. ⊥);
  inside = λ clean begun. begun;
  left = λ number from. refl;
  puts = λ clean begun schema own has s valid is. none_put own s _ valid;
}

pub loop-number-preserved : goal.loop-number-preserved
loop-number-preserved g c =
    let start = state g.S.Store c.args.tx.now.conn.now in
    let mid = state g.S.Store c.loop-number.tx.conn.now in
    let new = state g.S.Store c.put_changes.new.tx.conn.now in
    let kept = c.loop-number.invariant in
    let number = c.loop-number.number in
    let rows = map row_of c.in_ok-changes.changes.items in
    let slice : c.deref.result.now ≡ c.in_ok-changes.changes.items = search rules in
    record {
      same = c.put_changes.ensures.same_reference ∙ kept.same;
      survives = survives_then start mid new (λ _. ⊥) (λ _. ⊥) (λ _. ⊥) (λ _ db none. none) (λ _ db none. none) kept.survives
          c.put_changes.ensures.survives;
      inside = λ clean begun.
          c.in_ok-put_changes.ensures.inside clean (kept.inside (was_clean mid new (λ _. ⊥) c.put_changes.ensures.survives clean) begun);
      left = λ other above. c.take_out.ensures.others other (omega arith) ∙ kept.left other (omega arith);
      puts = λ clean begun schema own has s valid is.
          let was = was_clean mid new (λ _. ⊥) c.put_changes.ensures.survives clean in
          let before = kept.puts was begun schema own has s valid is in
          let more = c.in_ok-put_changes.ensures.puts clean (kept.inside was begun) schema own
          (puts_schema own before.0 start.now mid.now before.2 ∙ has) in
          let these = kept.left number (omega arith) ∙ ap (λ ballots. ballots_of ballots number) (sym is) in
          more_put own s number rows start.now mid.now new.now before
          (turn_puts s valid number rows (c.in_ok-changes.ensures.changes ∙ ap (map ballot_of_entry) these)) (rw slice at more);
    }

pub returns-clause-puts : goal.returns-clause-puts
returns-clause-puts g c clean begun schema own has s valid is =
    let last : c.loop-number.number ≡ MAX_RESOLUTIONS + 1 = omega arith in
    all_put own s c.loop-number.number _ _ valid last (c.loop-number.invariant.puts clean begun schema own has s valid is)

pub returns-in_err-put_changes-clause-caused : goal.returns-in_err-put_changes-clause-caused
returns-in_err-put_changes-clause-caused g c = λ clean begun schema own has s valid is.
    let start = state g.S.Store c.args.tx.now.conn.now in
    let mid = state g.S.Store c.loop-number.tx.conn.now in
    let new = state g.S.Store c.put_changes.new.tx.conn.now in
    let kept = c.loop-number.invariant in
    let number = c.loop-number.number in
    let rows = map row_of c.in_ok-changes.changes.items in
    let slice : c.deref.result.now ≡ c.in_ok-changes.changes.items = search rules in
    let was = was_clean mid new (λ _. ⊥) c.put_changes.ensures.survives clean in
    let before = kept.puts was begun schema own has s valid is in
    let told = rw slice at (c.in_err-put_changes.ensures.caused clean (kept.inside was begun) schema own
    (puts_schema own before.0 start.now mid.now before.2 ∙ has)) in
    let these = kept.left number (omega arith) ∙ ap (λ ballots. ballots_of ballots number) (sym is) in
    let turn = turn_puts s valid number rows (c.in_ok-changes.ensures.changes ∙ ap (map ballot_of_entry) these) in
    passed_on c.from_residual-in_err-put_changes.result c.in_err-put_changes.field-0.0 c.from_residual-in_err-put_changes.ensures.1
    (λ store. elim (told store) [
      | inl disk ↦ inl (failed_then start mid new (λ _. ⊥) kept.survives was c.put_changes.ensures.survives.counts disk)
      | inr cannot ↦ inr (cannot_more own s number start.step_limit rows start.now mid.now before turn
          (subst (λ n. CannotPutAll own n rows mid.now) kept.survives.limit cannot))
    ])
