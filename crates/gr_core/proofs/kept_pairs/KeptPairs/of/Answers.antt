use Rattle.std.proofs.Common.{◌≡◌, ℕ, Bor, List, [], ◌∷◌, ◌++◌, map, IsSome, false, true, sym, ◌∙◌, ap, subst, rules}
use Rattle.std.specs.Prelude.{option_and_then}
use Rattle.std.proofs.lemmas.List.{map-append}
use Rattle.std.proofs.lemmas.Map.Iter.{iter_end}
use Rattle.std.specs.Cmp.{nat_cmp_total}
use Rattle.std.specs.FinMap.{entries, nat_cmp-IsAntisymmetric}
use Rattle.std.specs.Map.Iter.{deref_pair}
use Rattle.gr_core.specs.declared.resolution.Resolution.{Resolution}
use Rattle.gr_core.specs.Desks.State.{State}
use Rattle.gr_core.specs.Parts.Resolution.{poll_of}
use Rattle.gr_core.proofs.Collections.PresenceLemmas.{not_false}
use Rattle.gr_core.proofs.Collections.RowsInOrderLemmas.{row_there}
use Rattle.gr_core.proofs.Collections.WalkLemmas.{walk-here}
use Rattle.gr_core.proofs.Validity.KeptPairsLemmas.{KeepsRows, keeps_all_rows, keeps_as_many, keeps_no_rows, keeps_one_more}
use Rattle.gr_core.proofs.kept_pairs.KeptPairs.of.Goals as goal

-- the resolutions are those so far, this one and those behind it
abbrev IsTurn : State → List (Bor ℕ × Bor Resolution) → Bor ℕ × Bor Resolution → Type 0
IsTurn s yielded item = (behind : List (ℕ × Resolution)) × (entries s.resolutions ≡ map deref_pair yielded ++ deref_pair item ∷ behind)

pub loop-number-init : goal.loop-number-init
loop-number-init c = keeps_no_rows c.args.tables.now c.new-kept.result c.new-kept.ensures

pub kept_vote-requires-clause-poll : goal.kept_vote-requires-clause-poll
kept_vote-requires-clause-poll c =
    let s = c.args.tables.now in
    let yielded = c.loop-number.yielded in
    let turn : IsTurn s yielded (c.in-Some.number, c.in-Some.resolution) = (
      _,
      sym (c.by_number-number-items.ensures ∙ ap entries c.resolutions.ensures)
          ∙ walk-here deref_pair c.by_number-number-items.result.now.entries yielded _ _ _ _ (cc) c.loop-number.yielded_by _ c.in-Some.is
          c.next.ensures.steps,
    ) in
    subst (λ found. IsSome (option_and_then poll_of found))
    (sym (row_there nat_cmp_total nat_cmp-IsAntisymmetric s.resolutions (map deref_pair yielded) turn.0 c.in-Some.number.now c.in-Some.resolution.now turn.1))
    (subst IsSome c.poll.ensures (sym c.is_some.ensures ∙ c.if-is_some.true))

pub loop-number-preserved-in-Continue-1 : goal.loop-number-preserved-in-Continue-1
loop-number-preserved-in-Continue-1 c =
    let s = c.args.tables.now in
    let yielded = c.loop-number.yielded in
    let item : Bor ℕ × Bor Resolution = (c.in-Some.number, c.in-Some.resolution) in
    let turn : IsTurn s yielded item = (
      _,
      sym (c.by_number-number-items.ensures ∙ ap entries c.resolutions.ensures)
          ∙ walk-here deref_pair c.by_number-number-items.result.now.entries yielded _ _ _ _ (cc) c.loop-number.yielded_by _ c.in-Some.is
          c.next.ensures.steps,
    ) in
    subst (KeepsRows s c.put.new.self) (sym (map-append deref_pair yielded (item ∷ [])))
    (keeps_one_more s (map deref_pair yielded) turn.0 c.in-Some.number.now c.in-Some.resolution.now turn.1 c.loop-number.kept c.put.new.self
    c.kept_vote.result c.loop-number.invariant (subst IsSome c.poll.ensures (sym c.is_some.ensures ∙ c.if-is_some.true)) c.kept_vote.ensures
    c.in_ok-put.ensures.kept c.in_ok-put.ensures.others)

pub loop-number-preserved : goal.loop-number-preserved
loop-number-preserved c =
    let s = c.args.tables.now in
    let yielded = c.loop-number.yielded in
    let item : Bor ℕ × Bor Resolution = (c.in-Some.number, c.in-Some.resolution) in
    let turn : IsTurn s yielded item = (
      _,
      sym (c.by_number-number-items.ensures ∙ ap entries c.resolutions.ensures)
          ∙ walk-here deref_pair c.by_number-number-items.result.now.entries yielded _ _ _ _ (cc) c.loop-number.yielded_by _ c.in-Some.is
          c.next.ensures.steps,
    ) in
    subst (KeepsRows s c.loop-number.kept) (sym (map-append deref_pair yielded (item ∷ [])))
    (keeps_as_many s (map deref_pair yielded) turn.0 c.in-Some.number.now c.in-Some.resolution.now turn.1 c.loop-number.kept c.loop-number.invariant
    (λ has. not_false (sym c.if-is_some.false ∙ c.is_some.ensures ∙ subst IsSome (sym c.poll.ensures) has)))

pub returns : goal.returns
returns c =
    keeps_all_rows c.args.tables.now c.loop-number.kept (map deref_pair c.loop-number.yielded)
    (search (rules, iter_end)) c.loop-number.invariant
