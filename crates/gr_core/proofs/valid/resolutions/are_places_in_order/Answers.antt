use Rattle.std.proofs.Common.{◌≡◌, suc, ◌+◌, ◌<◌, ◌≤◌, Bor, List, [], ◌∷◌, ◌++◌, map, length, sym, ap, ◌∙◌, arith, rules, tests}
use Rattle.std.specs.List.{cons_option}
use Rattle.std.specs.Map.Iter.{deref_pair}
use Rattle.std.proofs.lemmas.List.{append-nil, map-append, length-map}
use Rattle.std.proofs.lemmas.Simd.{map-map}
use Rattle.std.proofs.lemmas.Map.Iter.{iter_turn, iter_end}
use Rattle.gr_core.specs.declared.choice.ChoiceKey.{ChoiceKey}
use Rattle.gr_core.specs.declared.choice.Choice.{Choice}
use Rattle.gr_core.specs.Parts.Choice.{ChoiceModel, choices_of}
use Rattle.gr_core.specs.InMemory.Tables.{choice_entry}
use Rattle.gr_core.specs.Desks.Valid.{places_of, up_to}
use Rattle.gr_core.proofs.Contents.PlaceNumberLemmas.{length-up_to}
use Rattle.gr_core.proofs.Collections.PresenceLemmas.{not_false}
use Rattle.gr_core.proofs.Contents.PlacesInOrder.{places_of-more, places_of-append, places_of-few, next_up_to}
use Rattle.gr_core.proofs.Collections.WalkLemmas.{walk-split}
use Rattle.gr_core.proofs.valid.resolutions.are_places_in_order.Goals as goal

abbrev shown : Bor ChoiceKey × Bor Choice → ChoiceKey × ChoiceModel
shown item = choice_entry (deref_pair item)

pub overflow_add-placed : goal.overflow_add-placed
overflow_add-placed c =
    let range = c.of_resolution-choice-items.result in
    let entries = map shown c.loop-choice.yielded in
    let turn : length c.loop-choice.yielded < length range =
    (iter_turn deref_pair range c.loop-choice.yielded _ _ _ _ (cc) c.loop-choice.yielded_by _ c.in-Some.is c.next.ensures.steps).0 in
    let few : length (places_of entries) ≤ length entries = places_of-few entries in
    let so_many : length entries ≡ length c.loop-choice.yielded = length-map c.loop-choice.yielded shown in
    let placed : length (places_of entries) ≡ c.loop-choice.placed =
    ap length c.loop-choice.invariant.places ∙ length-up_to c.loop-choice.placed in
    let fits = c.of_resolution-choice-items.ensures.fits in
    omega arith

turn : (c : goal.Then-place-placed) → (behind : List (ChoiceKey × ChoiceModel))
    × (choices_of c.args.choices.now c.args.resolution
    ≡ map shown c.loop-choice.yielded ++ shown (c.in-Some.field-0-0, c.in-Some.choice) ∷ behind)
turn c = (
  _,
  sym c.of_resolution-choice-items.ensures.entries
      ∙ walk-split deref_pair choice_entry c.of_resolution-choice-items.result c.loop-choice.yielded _ _ _ _ (cc)
      c.loop-choice.yielded_by _ c.in-Some.is c.next.ensures.steps,
)

pub returns-then-place-placed : goal.returns-then-place-placed
returns-then-place-placed c =
    let entries = map shown c.loop-choice.yielded in
    let these = choices_of c.args.choices.now c.args.resolution in
    let here = turn c in
    let places : places_of these ≡ up_to c.loop-choice.placed ++ c.in-Some-place.place ∷ places_of here.0 =
    ap places_of here.1
    ∙ places_of-append entries (shown (c.in-Some.field-0-0, c.in-Some.choice) ∷ here.0)
    ∙ ap (λ o. places_of entries ++ cons_option o (places_of here.0)) c.in-Some-place.is
    ∙ ap (λ first. first ++ c.in-Some-place.place ∷ places_of here.0) c.loop-choice.invariant.places in (
      λ never. absurd (not_false never),
      λ holds.
          let next : c.in-Some-place.place ≡ 1 + c.loop-choice.placed =
          next_up_to c.loop-choice.placed c.in-Some-place.place (places_of here.0) (length (places_of these)) (sym places ∙ holds.places) in
          absurd (c.if-place-placed.true (omega arith)),
    )

pub loop-choice-preserved-in-Some-place : goal.loop-choice-preserved-in-Some-place
loop-choice-preserved-in-Some-place c =
    let entries = map shown c.loop-choice.yielded in
    let item : Bor ChoiceKey × Bor Choice = (c.in-Some.field-0-0, c.in-Some.choice) in
    let place : c.in-Some-place.place ≡ suc c.loop-choice.placed = omega (arith, c.if-place-placed.false) in
    record {
      places =
          ap places_of (map-append shown c.loop-choice.yielded (item ∷ []))
          ∙ places_of-more entries (shown item)
          ∙ ap (λ o. places_of entries ++ cons_option o []) c.in-Some-place.is
          ∙ (λ i. c.loop-choice.invariant.places i ++ place i ∷ [])
          ∙ ap up_to (let next : suc c.loop-choice.placed ≡ c.loop-choice.placed + 1 = omega arith in next);
      can_next = tt;
      finite = tt;
    }

pub loop-choice-preserved : goal.loop-choice-preserved
loop-choice-preserved c =
    let entries = map shown c.loop-choice.yielded in
    let item : Bor ChoiceKey × Bor Choice = (c.in-Some.field-0-0, c.in-Some.choice) in
    record {
      places =
          ap places_of (map-append shown c.loop-choice.yielded (item ∷ []))
          ∙ places_of-more entries (shown item)
          ∙ ap (λ o. places_of entries ++ cons_option o []) c.in_default.is
          ∙ append-nil (places_of entries)
          ∙ c.loop-choice.invariant.places;
      can_next = tt;
      finite = tt;
    }

pub returns : goal.returns
returns c =
    let range = c.of_resolution-choice-items.result in
    let all : map deref_pair c.loop-choice.yielded ≡ range = search (rules, iter_end) in
    let these : map shown c.loop-choice.yielded ≡ choices_of c.args.choices.now c.args.resolution
    = sym (map-map choice_entry deref_pair c.loop-choice.yielded) ∙ ap (map choice_entry) all
    ∙ c.of_resolution-choice-items.ensures.entries in
    let places : places_of (choices_of c.args.choices.now c.args.resolution) ≡ up_to c.loop-choice.placed =
    ap places_of (sym these) ∙ c.loop-choice.invariant.places in
    let count : length (places_of (choices_of c.args.choices.now c.args.resolution)) ≡ c.loop-choice.placed =
    ap length places ∙ length-up_to c.loop-choice.placed in (
      λ some. record {
        places = places ∙ ap up_to (sym count);
        placed = let more : 0 < c.loop-choice.placed = search (rules, tests) in omega arith;
      },
      λ holds. let some : 0 < length (places_of (choices_of c.args.choices.now c.args.resolution)) = holds.placed in
          let more : 0 < c.loop-choice.placed = omega arith in search (rules, tests),
    )
