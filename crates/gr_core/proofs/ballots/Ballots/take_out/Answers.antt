use Rattle.std.proofs.Common.{◌≡◌, ℕ, false, nat_eq, map, None, IfOk, refl, sym, ap, subst, ◌∙◌, arith, string_bytes}
use Rattle.std.specs.Ordering.{nat_cmp, eq_by_cmp}
use Rattle.std.specs.Cmp.{nat_cmp_total, unsigned_ties}
use Rattle.std.specs.FinMap.{nat_cmp-IsAntisymmetric}
use Rattle.std.specs.BTreeMap.{get_by, is_at}
use Rattle.gr_core.specs.Parts.Ballot.{ballot_model, ballots_of}
use Rattle.gr_core.specs.InMemory.Ballots.{ByVoter, ballot_map}
use Rattle.gr_core.specs.Machine.Row.{row_of, ballot_of_entry}
use Rattle.gr_core.proofs.Contents.PairwiseCountLemmas.{ballots_of-table}
use Rattle.gr_core.proofs.Collections.TableLemmas.{look-others}
use Rattle.gr_core.proofs.Collections.TwoLevels.{ordered-remove, rows_in}
use Rattle.gr_core.proofs.ballots.Ballots.take_out.Goals as goal
use Rattle.gr_core.proofs.ballots.Ballots.take_out.Goals.{in-Some, in-None}

pub invariant_of-self : goal.invariant_of-self
invariant_of-self c =
    ordered-remove c.self.inside.by_resolution c.remove.new.self c.self.invariant (is_at (nat_cmp c.args.resolution))
    c.remove.ensures.entries c.remove.ensures.ordered

pub returns-clause-changes : goal.returns-clause-changes
returns-clause-changes c =
    let number = c.args.resolution in
    let were : ballots_of c.args.self.now number ≡ rows_in string_bytes ballot_model number c.remove.result =
    ballots_of-table c.self.inside.by_resolution c.self.invariant c.args.self.now c.self.view_is number c.remove.result
    (sym c.remove.ensures.value) in
    elim c.match-remove.branch [
      | in-Some w ↦
          let these = sym (were ∙ ap (rows_in string_bytes ballot_model number) w.in-Some.is) in
          rw w.result-is (subst (λ es. IfOk w.changes_of.result (λ changes. map row_of changes.items ≡ map ballot_of_entry es)) these w.changes_of.ensures)
      | in-None w ↦
          let none = sym (were ∙ ap (rows_in string_bytes ballot_model number) w.in-None.is) in
          rw w.result-is (ap (map row_of) w.new.ensures.items ∙ ap (map ballot_of_entry) none)
    ]

pub returns-clause-taken : goal.returns-clause-taken
returns-clause-taken c =
    ballots_of-table c.remove.new.self (invariant_of-self c) (ballot_map c.remove.new.self) refl c.args.resolution None
    c.remove.ensures.updates.1

pub returns-clause-others : goal.returns-clause-others
returns-clause-others c other apart =
    let old = c.self.inside.by_resolution in
    let new = c.remove.new.self in
    let unlike : nat_eq other c.args.resolution ≡ false = grind arith in
    let untied : eq_by_cmp nat_cmp other c.args.resolution ≡ false = sym (unsigned_ties other c.args.resolution) ∙ unlike in
    let still : get_by (nat_cmp other) new ≡ get_by (nat_cmp other) old =
    look-others nat_cmp_total nat_cmp-IsAntisymmetric (λ (n : ℕ). n) (λ (table : ByVoter). table) old new c.args.resolution None
    c.remove.ensures.updates other untied in
    ballots_of-table new (invariant_of-self c) (ballot_map new) refl other (get_by (nat_cmp other) old) still
    ∙ sym (ballots_of-table old c.self.invariant c.args.self.now c.self.view_is other (get_by (nat_cmp other) old) refl)
