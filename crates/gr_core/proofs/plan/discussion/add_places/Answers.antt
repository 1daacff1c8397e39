use Rattle.std.proofs.Common.{◌≡◌, Bor, true, Some, ◌+◌, ◌<◌, ◌≤◌, [], ◌∷◌, ◌++◌, map, length, sym, ap, ◌∙◌, append_assoc, arith, rules, length-append}
use Rattle.std.proofs.lemmas.List.{map-append, length-map}
use Rattle.std.proofs.lemmas.Simd.{map-map}
use Rattle.std.proofs.lemmas.Map.Iter.{iter_turn, iter_end}
use Rattle.std.specs.Map.Iter.{deref_pair}
use Rattle.gr_core.specs.declared.limits.TheConstants.{MAX_CHOICES}
use Rattle.gr_core.specs.declared.choice.ChoiceKey.{ChoiceKey}
use Rattle.gr_core.specs.declared.choice.Choice.{Choice}
use Rattle.gr_core.specs.Parts.Choice.{ChoiceModel, choice_model, choices_of}
use Rattle.gr_core.specs.Machine.Bookkeeping.{is_live}
use Rattle.gr_core.specs.Machine.Row.{row_of, ChoiceOf}
use Rattle.gr_core.specs.InMemory.Tables.{choice_entry}
use Rattle.gr_core.proofs.Contents.PlaceLemmas.{live_among, live_among-more, live_among-few, placed_rows, placed_rows-more, row_at_place}
use Rattle.gr_core.proofs.plan.discussion.add_places.Goals as goal

pub overflow_add-place : goal.overflow_add-place
overflow_add-place c =
    let range = c.of_resolution-key-items.result in
    let entries = map (λ item. choice_entry (deref_pair item)) c.loop-key.yielded in
    let turn : length c.loop-key.yielded < length range =
    (iter_turn deref_pair range c.loop-key.yielded _ _ _ _ (cc) c.loop-key.yielded_by _ c.in-Some.is c.next.ensures.steps).0 in
    let all : length range ≡ length (choices_of c.args.choices.now c.args.resolution)
    = sym (length-map range choice_entry) ∙ ap length c.of_resolution-key-items.ensures.entries in
    let few : length (choices_of c.args.choices.now c.args.resolution) ≤ MAX_CHOICES = c.requires in
    let place : c.loop-key.place ≡ length (live_among c.args.at entries) = c.loop-key.invariant.place in
    let live : length (live_among c.args.at entries) ≤ length entries = live_among-few c.args.at entries in
    let yielded : length entries ≡ length c.loop-key.yielded =
    length-map c.loop-key.yielded (λ item. choice_entry (deref_pair item)) in
    omega arith

pub loop-key-preserved-in_ok-push : goal.loop-key-preserved-in_ok-push
loop-key-preserved-in_ok-push c =
    let at = c.args.at in
    let shown : Bor ChoiceKey × Bor Choice → ChoiceKey × ChoiceModel = λ item. choice_entry (deref_pair item) in
    let entries = map shown c.loop-key.yielded in
    let item : Bor ChoiceKey × Bor Choice = (c.in-Some.key, c.in-Some.choice) in
    let entry = shown item in
    let before = map row_of c.args.changes.now.items in
    let more : map shown (c.loop-key.yielded ++ item ∷ []) ≡ entries ++ entry ∷ [] =
    map-append shown c.loop-key.yielded (item ∷ []) in
    let live : is_live at entry.1 ≡ true = sym c.is_live.ensures ∙ c.if-is_live.true in
    let place : c.loop-key.place ≡ length (live_among at entries) = c.loop-key.invariant.place in
    let next : c.loop-key.place + 1 ≡ length (live_among at entries) + 1 = ap (λ n. n + 1) place in
    let put : choice_model c.placed-choice.result
    ≡ record (choice_model c.in-Some.choice.now) { place = Some (c.loop-key.place + 1) }
    = c.placed-choice.ensures
    ∙ ap (λ (r : ChoiceModel). record r { place = Some (c.loop-key.place + 1) }) c.in_ok-copied.ensures in
    record {
      place =
          next ∙ sym (length-append (live_among at entries) (entry ∷ []))
          ∙ sym (ap (λ these. length (live_among at these)) more ∙ ap length (live_among-more at entries entry live));
      rows =
          ap (map row_of) c.in_ok-push.ensures.items
          ∙ map-append row_of c.loop-key.changes.items _
          ∙ (λ i. c.loop-key.invariant.rows i ++ ChoiceOf c.in-Some.key.now (put i) ∷ [])
          ∙ append_assoc before (placed_rows at entries) (row_at_place entry (c.loop-key.place + 1) ∷ [])
          ∙ ap (λ rows. before ++ rows) (sym (placed_rows-more at entries entry (c.loop-key.place + 1) live next))
          ∙ ap (λ these. before ++ placed_rows at these) (sym more);
      can_next = tt;
      finite = tt;
    }

pub returns : goal.returns
returns c =
    let range = c.of_resolution-key-items.result in
    let all : map deref_pair c.loop-key.yielded ≡ range = search (rules, iter_end) in
    let entries : map (λ item. choice_entry (deref_pair item)) c.loop-key.yielded
    ≡ choices_of c.args.choices.now c.args.resolution
    = sym (map-map choice_entry deref_pair c.loop-key.yielded) ∙ ap (map choice_entry) all
    ∙ c.of_resolution-key-items.ensures.entries in
    c.loop-key.invariant.rows ∙ ap (λ these. map row_of c.args.changes.now.items ++ placed_rows c.args.at these) entries
