use Rattle.std.proofs.Common.{◌≡◌, ◌↔◌, IsSome, Option, Some, None, List, ◌∷◌, is_some, true, false, string_bytes, String, refl, sym, ap, ◌∙◌, subst, rules, tests}
use Rattle.std.specs.List.{All}
use Rattle.std.specs.FinMap.{get}
use Rattle.std.specs.Map.Iter.{TakesFirst, deref_pair}
use Rattle.std.specs.declared.alloc.Global.{Global}
use Rattle.std.proofs.lemmas.Iterator.{cases_from_all}
use Rattle.std.proofs.lemmas.Slice.Eq.{bytes_eq-Decides}
use Rattle.std.proofs.lemmas.Iterator.Consumers.{YieldsList-from_rest}
use Rattle.std.proofs.lemmas.List.Elements.{All-cons, All-head, All-tail}
use Rattle.std.proofs.lemmas.Map.Iter.{rest_more, rest_all}
use Rattle.gr_core.specs.declared.ballot.Ballot.{Ballot}
use Rattle.gr_core.specs.declared.developer.Developer.{Developer}
use Rattle.gr_core.specs.InMemory.Tables.{developer_entry}
use Rattle.gr_core.proofs.Collections.TextKeys.{text_total, text_only}
use Rattle.gr_core.proofs.Collections.WalkLemmas.{all-middle, walk-here}
use Rattle.gr_core.proofs.Collections.RowTestLemmas.{both_ways, told_of_each, each_shown}
use Rattle.gr_core.proofs.valid.ballots.are_on_roll.Invariants.{IsOn, left}
use Rattle.gr_core.proofs.valid.ballots.are_on_roll.Goals as goal

-- what a walk has left before a step is the item of the step, and what it has left after it
taken : {A X : Type 0} (shows : A → X) (s t : List X) (item : Option A) → TakesFirst shows s item t → s ≡ left shows item t
taken shows s t (Some x) step = rest_more shows s t (Some x) x refl step
taken shows s t None step = rest_all shows s t None refl step

-- where P holds of the first, it holds of each where it holds of each other one
but_first : {X : Type 0} (P : X → Type 0) (x : X) (xs : List X) → P x → All P (x ∷ xs) ↔ All P xs
but_first P x xs is = (All-tail P x xs, All-cons P x xs is)

-- the other way round
back : {A B : Type 0} → A ↔ B → B ↔ A
back both = (both.1, both.0)

-- what holds of each of a list holds of each of one that is the same
alike : {X : Type 0} (P : X → Type 0) (xs ys : List X) → xs ≡ ys → All P xs ↔ All P ys
alike P xs ys are = (subst (All P) are, subst (All P) (sym are))

pub loop-developer-preserved-then-eq : goal.loop-developer-preserved-then-eq
loop-developer-preserved-then-eq c =
    let roll = c.args.roll.now in
    let table = c.developers-developer-items.result.now.entries in
    let Found : String Global × Developer → Type 0 = λ entry. IsSome (get roll (string_bytes entry.0)) in
    let each : All Found table =
    (each_shown text_total text_only developer_entry (λ row. IsSome (get roll row.0)) table roll c.developers-developer-items.ensures.entries).1
    (λ key row is. ap is_some is) in
    let found = all-middle Found _ _ _ (subst (All Found)
    (walk-here deref_pair table c.loop-developer.yielded _ _ _ _ (cc) c.loop-developer.yielded_by _ c.in-Some.is c.next.ensures.steps) each) in
    let same : c.as_str.result.now ≡ c.as_str-in-Some-next.result.now =
    (bytes_eq-Decides c.as_str.result.now c.as_str-in-Some-next.result.now).0 (sym c.eq.ensures ∙ c.if-eq.true) in
    let voter : String Global × Ballot = (c.in-Some-next.voter.now, c.in-Some-next.field-0-1.now) in
    let behind = left deref_pair c.next-next-then-eq.result c.next-next-then-eq.new.self in
    let on : IsOn roll voter = subst (λ login. IsSome (get roll login)) (cc) found in
    both_ways (both_ways c.loop-developer.invariant
    (alike (IsOn roll) (left deref_pair c.loop-developer.next c.loop-developer.ballots) (voter ∷ behind)
    (ap (λ item. left deref_pair item c.loop-developer.ballots) c.in-Some-next.is
    ∙ ap (λ these. voter ∷ these) (taken deref_pair c.loop-developer.ballots _ _ c.next-next-then-eq.ensures.steps))))
    (but_first (IsOn roll) voter behind on)

pub returns-then-contains : goal.returns-then-contains
returns-then-contains c =
    let roll = c.args.roll.now in
    let behind = c.loop-developer.ballots in
    let voter : String Global × Ballot = (c.in-Some-next-2.voter.now, c.in-Some-next-2.field-0-1.now) in
    let on : IsOn roll voter = subst (λ login. IsSome (get roll login)) c.as_str-in-Some-next-2.ensures.value (sym c.contains.ensures ∙ c.if-contains.true) in
    both_ways (both_ways (both_ways (both_ways (told_of_each (IsOn roll) c.all.result behind
    (cases_from_all _ _ c.all.result (IsOn roll) (λ entry. ¬ (IsOn roll entry)) c.all.ensures.ran
    (YieldsList-from_rest behind refl) (λ x q k. search (rules, tests)) (λ x q k. search (rules, tests))))
    (back (but_first (IsOn roll) voter behind on)))
    (alike (IsOn roll) (voter ∷ behind) (left deref_pair c.loop-developer.next behind)
    (sym (ap (λ item. left deref_pair item behind) c.in-Some-next-2.is))))
    (back c.loop-developer.invariant))
    (λ all. record { each = all }, λ holds. holds.each)

pub returns-else-contains : goal.returns-else-contains
returns-else-contains c =
    let roll = c.args.roll.now in
    let behind = c.loop-developer.ballots in
    let voter : String Global × Ballot = (c.in-Some-next-2.voter.now, c.in-Some-next-2.field-0-1.now) in (
      λ yes. absurd (let never : true ≡ false = sym yes ∙ c.if-contains.false in cc),
      λ holds.
          let on : IsOn roll voter = All-head (IsOn roll) voter behind
          (subst (All (IsOn roll)) (ap (λ item. left deref_pair item behind) c.in-Some-next-2.is) (c.loop-developer.invariant.0 holds.each)) in
          c.contains.ensures ∙ subst (λ login. IsSome (get roll login)) (sym c.as_str-in-Some-next-2.ensures.value) on,
    )
