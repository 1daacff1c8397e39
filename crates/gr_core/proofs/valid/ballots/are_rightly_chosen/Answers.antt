use Rattle.std.proofs.Common.{◌≡◌, ℕ, Bor, List, [], ◌∷◌, ◌++◌, map, Some, refl, sym, ◌∙◌, ap, subst, rules}
use Rattle.std.specs.List.{All}
use Rattle.std.proofs.lemmas.List.{map-append}
use Rattle.std.proofs.lemmas.List.Elements.{All-append, All-from_recursion}
use Rattle.std.proofs.lemmas.Map.Iter.{iter_end}
use Rattle.std.specs.Cmp.{nat_cmp_total}
use Rattle.std.specs.FinMap.{entries, get, nat_cmp-IsAntisymmetric}
use Rattle.std.specs.Map.Iter.{deref_pair}
use Rattle.gr_core.specs.declared.resolution.Resolution.{Resolution}
use Rattle.gr_core.specs.Desks.State.{State}
use Rattle.gr_core.specs.Desks.Valid.{IsRightlyChosen}
use Rattle.gr_core.proofs.Collections.PresenceLemmas.{not_false}
use Rattle.gr_core.proofs.Collections.RowsInOrderLemmas.{row_there}
use Rattle.gr_core.proofs.Collections.RowTestLemmas.{each_row_of}
use Rattle.gr_core.proofs.Collections.WalkLemmas.{walk-here}
use Rattle.gr_core.proofs.valid.ballots.are_rightly_chosen.Goals as goal

-- what is chosen in the resolution of a row is rightly chosen
abbrev Holds : State → ℕ × Resolution → Type 0
Holds s row = IsRightlyChosen s row.0 row.1

-- the row of a turn is that of its number
turn_row : (s : State) (table rows behind : List (ℕ × Resolution)) (row : ℕ × Resolution) → table ≡ entries s.resolutions
    → table ≡ rows ++ row ∷ behind → get s.resolutions row.0 ≡ Some row.1
turn_row s table rows behind row is split =
    row_there nat_cmp_total nat_cmp-IsAntisymmetric s.resolutions rows behind row.0 row.1 (sym is ∙ split)

pub is_rightly_chosen-requires-clause-row : goal.is_rightly_chosen-requires-clause-row
is_rightly_chosen-requires-clause-row c =
    let table = c.by_number-number-items.result.now.entries in
    turn_row c.args.tables.now table (map deref_pair c.loop-number.yielded) _ (c.in-Some.number.now, c.in-Some.resolution.now)
    (c.by_number-number-items.ensures ∙ ap entries c.resolutions.ensures)
    (walk-here deref_pair table c.loop-number.yielded _ _ _ _ (cc) c.loop-number.yielded_by _ c.in-Some.is c.next.ensures.steps)

pub returns-then-not-is_rightly_chosen : goal.returns-then-not-is_rightly_chosen
returns-then-not-is_rightly_chosen c =
    let table = c.by_number-number-items.result.now.entries in
    let there = turn_row c.args.tables.now table (map deref_pair c.loop-number.yielded) _ (c.in-Some.number.now, c.in-Some.resolution.now)
    (c.by_number-number-items.ensures ∙ ap entries c.resolutions.ensures)
    (walk-here deref_pair table c.loop-number.yielded _ _ _ _ (cc) c.loop-number.yielded_by _ c.in-Some.is c.next.ensures.steps) in (
      λ never. absurd (not_false never),
      λ each. absurd (not_false (sym c.if-not-is_rightly_chosen.true
          ∙ c.is_rightly_chosen.ensures.1 (each c.in-Some.number.now c.in-Some.resolution.now there))),
    )

pub loop-number-preserved : goal.loop-number-preserved
loop-number-preserved c =
    let s = c.args.tables.now in
    let item : Bor ℕ × Bor Resolution = (c.in-Some.number, c.in-Some.resolution) in
    let right : Holds s (deref_pair item) = c.is_rightly_chosen.ensures.0 c.if-not-is_rightly_chosen.false in
    subst (All (Holds s)) (sym (map-append deref_pair c.loop-number.yielded (item ∷ [])))
    (All-append (Holds s) (map deref_pair c.loop-number.yielded) (deref_pair item ∷ []) c.loop-number.invariant
    (All-from_recursion (Holds s) (deref_pair item ∷ []) (right, tt)))

pub returns : goal.returns
returns c =
    let s = c.args.tables.now in
    let rows = map deref_pair c.loop-number.yielded in
    let all : rows ≡ c.by_number-number-items.result.now.entries = search (rules, iter_end) in (
      λ _. (each_row_of nat_cmp_total nat_cmp-IsAntisymmetric (Holds s) rows s.resolutions
          (all ∙ c.by_number-number-items.ensures ∙ ap entries c.resolutions.ensures)).0 c.loop-number.invariant,
      λ _. refl,
    )
