use Rattle.std.proofs.Common.{◌≡◌, ◌≢◌, ℕ, ◌+◌, ◌<◌, ◌≤◌, Bor, true, List, [], ◌∷◌, ◌++◌, map, length, slice_index, is_some, sym, ap, ◌∙◌, subst, arith, rules}
use Rattle.std.proofs.lemmas.List.{map-append}
use Rattle.std.proofs.lemmas.Simd.{map-map}
use Rattle.std.proofs.lemmas.Map.Iter.{iter_end}
use Rattle.std.specs.FinMap.{FinMap}
use Rattle.std.specs.Map.Iter.{deref_pair}
use Rattle.gr_count.specs.declared.limits.TheConstants.{MAX_OPTIONS}
use Rattle.gr_count.specs.Shown.{ratio_at}
use Rattle.gr_core.specs.declared.choice.ChoiceKey.{ChoiceKey}
use Rattle.gr_core.specs.declared.choice.Choice.{Choice}
use Rattle.gr_core.specs.Parts.Key.{choice_cmp}
use Rattle.gr_core.specs.Parts.Choice.{ChoiceModel, choices_of, IsRatio}
use Rattle.gr_core.specs.Desks.Outcome.{on_ballot}
use Rattle.gr_core.specs.InMemory.Tables.{choice_entry}
use Rattle.gr_core.proofs.Contents.RatioLemmas.{placed_among, ratios_of, placed_among-more, length-placed_among-more, more_to_come}
use Rattle.gr_core.proofs.Contents.RatioLemmas.{ratio_there, set_so_far, set_others, set_beyond, all_set}
use Rattle.gr_core.proofs.Collections.WalkLemmas.{walk-split}
use Rattle.gr_core.proofs.choices.Choices.ratios.Goals as goal

abbrev Item : Type 0
Item = Bor ChoiceKey × Bor Choice

-- what an item of the walk shows
abbrev shown : Item → ChoiceKey × ChoiceModel
shown item = choice_entry (deref_pair item)

-- the choices of the resolution are those so far, this one and those after it
abbrev IsTurn : FinMap choice_cmp ChoiceModel → ℕ → List Item → Item → Type 0
IsTurn choices resolution yielded item = (behind : List (ChoiceKey × ChoiceModel))
    × (choices_of choices resolution ≡ map shown yielded ++ shown item ∷ behind)

before_set : (c : goal.After-ratios-1)
    → IsTurn c.args.self.now c.args.resolution c.loop-choice.yielded (c.in-Some.field-0-0, c.in-Some.choice)
before_set c = (
  _,
  sym c.of_resolution-choice-items.ensures.entries
      ∙ walk-split deref_pair choice_entry c.of_resolution-choice-items.result c.loop-choice.yielded _ _ _ _ (cc)
      c.loop-choice.yielded_by _ c.in-Some.is c.next.ensures.steps,
)

after_set : (c : goal.After-set)
    → IsTurn c.args.self.now c.args.resolution c.loop-choice.yielded (c.in-Some.field-0-0, c.in-Some.choice)
after_set c = (
  _,
  sym c.of_resolution-choice-items.ensures.entries
      ∙ walk-split deref_pair choice_entry c.of_resolution-choice-items.result c.loop-choice.yielded _ _ _ _ (cc)
      c.loop-choice.yielded_by _ c.in-Some.is c.next.ensures.steps,
)

pub set-requires-clause-option : goal.set-requires-clause-option
set-requires-clause-option c =
    let all = choices_of c.args.self.now c.args.resolution in
    let before = map shown c.loop-choice.yielded in
    let turn = before_set c in
    let more : length (placed_among before) < length (placed_among all) =
    more_to_come all before (shown (c.in-Some.field-0-0, c.in-Some.choice)) turn.0 turn.1
    (sym c.is_some.ensures ∙ c.if-is_some.true) in
    let option : c.loop-choice.option ≡ length (placed_among before) = c.loop-choice.invariant.option in
    let places : c.args.places ≡ length (placed_among all) + 1 = c.requires.places in
    subst (λ n. c.loop-choice.option < n) (sym c.loop-choice.invariant.options) (omega arith)

ratio_in_range : (c : goal.After-ratios-1) → IsRatio c.in-Some.choice.now.ratio
ratio_in_range c =
    let turn = before_set c in
    ratio_there (choices_of c.args.self.now c.args.resolution) (map shown c.loop-choice.yielded)
    (shown (c.in-Some.field-0-0, c.in-Some.choice)) turn.0 turn.1 (sym c.is_some.ensures ∙ c.if-is_some.true)
    c.requires.ratios

pub set-requires-clause-positive : goal.set-requires-clause-positive
set-requires-clause-positive c = (ratio_in_range c).0

pub set-requires-clause-small : goal.set-requires-clause-small
set-requires-clause-small c = (ratio_in_range c).1

pub overflow_add-option : goal.overflow_add-option
overflow_add-option c =
    let all = choices_of c.args.self.now c.args.resolution in
    let before = map shown c.loop-choice.yielded in
    let turn = after_set c in
    let more : length (placed_among before) < length (placed_among all) =
    more_to_come all before (shown (c.in-Some.field-0-0, c.in-Some.choice)) turn.0 turn.1
    (sym c.is_some.ensures ∙ c.if-is_some.true) in
    let option : c.loop-choice.option ≡ length (placed_among before) = c.loop-choice.invariant.option in
    let places : c.args.places ≡ length (placed_among all) + 1 = c.requires.places in
    let few : c.args.places ≤ MAX_OPTIONS = c.requires.few in
    omega arith

pub loop-choice-preserved-then-is_some : goal.loop-choice-preserved-then-is_some
loop-choice-preserved-then-is_some c =
    let all = choices_of c.args.self.now c.args.resolution in
    let yielded = c.loop-choice.yielded in
    let before = map shown yielded in
    let placed = placed_among before in
    let old = c.loop-choice.ratios in
    let new = c.set.new.self in
    let item : Item = (c.in-Some.field-0-0, c.in-Some.choice) in
    let entry = shown item in
    let has : is_some entry.1.place ≡ true = sym c.is_some.ensures ∙ c.if-is_some.true in
    let turn = after_set c in
    let more : length placed < length (placed_among all) = more_to_come all before entry turn.0 turn.1 has in
    let option : c.loop-choice.option ≡ length placed = c.loop-choice.invariant.option in
    let places : c.args.places ≡ length (placed_among all) + 1 = c.requires.places in
    let now : map shown (yielded ++ item ∷ []) ≡ before ++ entry ∷ [] = map-append shown yielded (item ∷ []) in
    let placed_now : placed_among (map shown (yielded ++ item ∷ [])) ≡ placed ++ entry ∷ [] =
    ap placed_among now ∙ placed_among-more before entry has in
    let count_now : length (placed_among (map shown (yielded ++ item ∷ []))) ≡ length placed + 1 =
    ap (λ these. length (placed_among these)) now ∙ length-placed_among-more before entry has in
    let changed : ratio_at new (length placed) ≡ entry.1.ratio =
    ap (ratio_at new) (sym option) ∙ c.set.ensures.changed in
    let others : (k : ℕ) → k ≢ length placed → ratio_at new k ≡ ratio_at old k =
    λ k apart. c.set.ensures.others k (λ is. apart (is ∙ option)) in
    record {
      option = ap (λ n. n + 1) option ∙ sym count_now;
      options = c.set.ensures.options ∙ c.loop-choice.invariant.options;
      so_far = λ k below.
          set_so_far placed entry (ratio_at old) (ratio_at new) changed others
          c.loop-choice.invariant.so_far k (subst (λ n. k < n) count_now below)
          ∙ ap (λ these. slice_index (ratios_of these) k) (sym placed_now);
      others = λ k behind below.
          set_others placed entry (ratio_at old) (ratio_at new) changed others c.args.places
          c.loop-choice.invariant.others k (subst (λ n. n ≤ k) count_now behind) below;
      beyond = λ k past.
          set_beyond placed entry (ratio_at old) (ratio_at new) changed others c.args.places (omega arith)
          c.loop-choice.invariant.beyond k past;
      can_next = tt;
      finite = tt;
    }

pub returns-clause-ratios : goal.returns-clause-ratios
returns-clause-ratios c =
    let walked = map shown c.loop-choice.yielded in
    let all : map deref_pair c.loop-choice.yielded ≡ c.of_resolution-choice-items.result = search (rules, iter_end) in
    let entries : walked ≡ choices_of c.args.self.now c.args.resolution =
    sym (map-map choice_entry deref_pair c.loop-choice.yielded) ∙ ap (map choice_entry) all
    ∙ c.of_resolution-choice-items.ensures.entries in
    let placed : placed_among walked ≡ on_ballot c.args.self.now c.args.resolution = ap placed_among entries in
    λ option.
    all_set (placed_among walked) (ratio_at c.loop-choice.ratios) c.args.places
    (c.requires.places ∙ ap (λ these. length these + 1) (sym placed))
    c.loop-choice.invariant.so_far c.loop-choice.invariant.others c.loop-choice.invariant.beyond option
    ∙ ap (λ these. slice_index (ratios_of these ++ 1 ∷ []) option) placed
