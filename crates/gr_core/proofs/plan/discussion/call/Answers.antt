use Rattle.std.proofs.Common.{◌≡◌, ◌≤◌, List, w32, [], ◌∷◌, ◌++◌, map, length, option_map, refl, sym, ap, ◌∙◌, subst, arith, rules}
use Rattle.std.specs.Prelude.{FitsSigned, IfOk, unsigned_abs, option_to_list}
use Rattle.std.proofs.lemmas.Int.{to_z-of_z}
use Rattle.std.proofs.lemmas.List.{nil_from_length}
use Rattle.std.specs.FinMap.{get}
use Rattle.gr_core.specs.declared.change.Change.TheVariants as rust
use Rattle.gr_core.specs.declared.choice.ChoiceKey.{ChoiceKey}
use Rattle.gr_core.specs.declared.discussion.Discussion.{Discussion}
use Rattle.gr_core.specs.declared.resolution.Poll.{Poll}
use Rattle.gr_core.specs.declared.resolution.Resolution.TheVariants.{Discussing, Voting}
use Rattle.gr_core.specs.declared.limits.TheConstants.{MAX_CHOICES}
use Rattle.gr_core.specs.Parts.Choice.{ChoiceModel, choices_of}
use Rattle.gr_core.specs.Parts.Developer.{current_count}
use Rattle.gr_core.specs.Machine.Row.{ResolutionOf, choice_of_entry, row_of}
use Rattle.gr_core.specs.Machine.Effect.{live_choices, placed, called, poll_at}
use Rattle.gr_core.proofs.Contents.PlaceLemmas.{live_among-few}
use Rattle.gr_core.proofs.Effects.PutLemmas.{call_puts}
use Rattle.gr_core.proofs.plan.discussion.call.Goals as goal

-- with a live choice there is a vote
is_voted_on : (live : List (ChoiceKey × ChoiceModel)) (poll : Poll) (discussion : Discussion) → ¬ (length live ≡ 0)
    → Voting discussion poll ≡ called live poll (Discussing discussion)
is_voted_on [] poll discussion some = absurd (some refl)
is_voted_on (first ∷ others) poll discussion some = refl

pub overflow_add-result : goal.overflow_add-result
overflow_add-result c =
    let choices = choices_of c.args.tables.now.choices c.args.found.now.number in
    let live : c.args.found.now.live ≡ length (live_choices c.args.tables.now.choices c.args.at c.args.found.now.number) = c.requires.live in
    let few : length (live_choices c.args.tables.now.choices c.args.at c.args.found.now.number) ≤ length choices = live_among-few c.args.at choices in
    let most : length choices ≤ MAX_CHOICES = c.requires.choices in
    omega arith

pub returns-then-found-eq0-clause-rows : goal.returns-then-found-eq0-clause-rows
returns-then-found-eq0-clause-rows c =
    let s = c.args.tables.now in
    let at = c.args.at in
    let number = c.args.found.now.number in
    let days = c.args.found.now.days in
    let live = live_choices s.choices at number in
    let zero : c.args.found.now.live ≡ 0 = search rules in
    let none : live ≡ [] = nil_from_length live (sym c.requires.live ∙ zero) in
    subst (λ rows. IfOk c.rows.result (λ own. map row_of own.changes.items ≡ rows))
    (sym (call_puts s at number days
    ∙ (λ i. option_to_list (option_map (λ row. ResolutionOf number (called (none i) (poll_at s at days) row)) (c.requires.discussion i))
    ++ map choice_of_entry (placed 1 (none i))))) c.rows.ensures.rows

pub returns-clause-rows : goal.returns-clause-rows
returns-clause-rows c =
    let s = c.args.tables.now in
    let at = c.args.at in
    let number = c.args.found.now.number in
    let discussion = c.args.found.now.discussion in
    let live = live_choices s.choices at number in
    let some : ¬ (c.args.found.now.live ≡ 0) = search rules in
    let fits : FitsSigned w32 c.args.found.now.days = search rules in
    let days : c.unsigned_abs.result ≡ unsigned_abs c.args.found.now.days =
    c.unsigned_abs.ensures.value ∙ ap unsigned_abs (to_z-of_z w32 c.args.found.now.days fits) in
    let developers : c.current_count.result ≡ current_count s.developers = c.current_count.ensures
    ∙ ap current_count c.roll.ensures in
    let made : Poll = record { called = at; days = c.unsigned_abs.result; developers = c.current_count.result } in
    let poll : made ≡ poll_at s at c.args.found.now.days =
    λ i. record { called = at; days = days i; developers = developers i } in
    let first : map row_of c.push.new.self.items
    ≡ option_to_list (option_map (λ row. ResolutionOf number (called live (poll_at s at c.args.found.now.days) row)) (get s.resolutions number))
    = ap (map row_of) c.in_ok-push.ensures.items
    ∙ ap (λ items. map row_of (items ++ rust.Resolution number (Voting discussion made) ∷ [])) c.new-changes.ensures.items
    ∙ ap (λ row. ResolutionOf number row ∷ []) (is_voted_on live made discussion (λ none. some (c.requires.live ∙ none)))
    ∙ ap (λ poll. ResolutionOf number (called live poll (Discussing discussion)) ∷ []) poll
    ∙ ap (λ found. option_to_list (option_map (λ row. ResolutionOf number (called live (poll_at s at c.args.found.now.days) row)) found))
    (sym c.requires.discussion) in
    c.in_ok-add_places.ensures
    ∙ (λ i. first i ++ map choice_of_entry (placed 1 (live_choices (c.choices.ensures i) at number)))
    ∙ sym (call_puts s at number c.args.found.now.days)
