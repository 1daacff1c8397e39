use Rattle.std.proofs.Common.{◌≡◌, ◌++◌, map, sym, ap, ◌∙◌, subst, string_bytes, rules}
use Rattle.std.specs.List.{All, flat_map}
use Rattle.std.specs.Map.Iter.{deref_pair}
use Rattle.std.proofs.lemmas.List.Elements.{All-head, All-tail}
use Rattle.std.proofs.lemmas.Map.Iter.{rest_more}
use Rattle.gr_core.specs.Parts.Choice.{choices_of}
use Rattle.gr_core.specs.InMemory.Tables.{choice_entry}
use Rattle.gr_sheet.specs.StatusSheet.{choice_lines, AreShownMoments}
use Rattle.gr_sheet.proofs.MomentTexts.{timely_poll, shown_choices}
use Rattle.gr_sheet.proofs.AppendLemmas.{grown}
use Rattle.gr_sheet.proofs.status_sheet.status.Goals as goal

pub add_poll-requires : goal.add_poll-requires
add_poll-requires c =
    rw c.poll.ensures (timely_poll c.args.desk.now c.requires.valid c.args.number c.args.resolution c.requires.found)

pub loop-key-init : goal.loop-key-init
loop-key-init c =
    let s = c.args.desk.now in
    let entries : map choice_entry c.into_iter-key-iterator.result ≡ choices_of s.choices c.args.number =
    ap (map choice_entry) c.into_iter-key-iterator.ensures.into_iter_gives ∙ c.choices-key-items.ensures.rows in
    record {
      text = ap (λ es. string_bytes c.add_poll.new.text ++ flat_map (choice_lines s.sponsors) es) entries;
      shown = subst (All (λ entry. AreShownMoments entry.1)) (sym entries)
          (shown_choices s c.requires.valid c.args.number c.choices-key-items.ensures.each);
      can_next = search rules;
      finite = search rules;
    }

pub add_choice-requires : goal.add_choice-requires
add_choice-requires c =
    let rest = rest_more deref_pair c.loop-key.key-iterator c.next.new.self c.next.result _ c.in-Some.is c.next.ensures.steps in
    All-head (λ entry. AreShownMoments entry.1) _ _
    (subst (λ es. All (λ entry. AreShownMoments entry.1) (map choice_entry es)) rest c.loop-key.invariant.shown)

pub loop-key-preserved : goal.loop-key-preserved
loop-key-preserved c =
    let s = c.args.desk.now in
    let rest = rest_more deref_pair c.loop-key.key-iterator c.next.new.self c.next.result _ c.in-Some.is c.next.ensures.steps in
    record {
      text = grown (string_bytes c.loop-key.text) (choice_lines s.sponsors (choice_entry (c.in-Some.key.now, c.in-Some.choice.now)))
          (flat_map (choice_lines s.sponsors) (map choice_entry c.next.new.self)) c.in_ok-add_choice.ensures
          (subst (λ es. string_bytes c.loop-key.text ++ flat_map (choice_lines s.sponsors) (map choice_entry es)
          ≡ string_bytes c.add_poll.new.text ++ flat_map (choice_lines s.sponsors) (choices_of s.choices c.args.number))
          rest c.loop-key.invariant.text);
      shown = All-tail (λ entry. AreShownMoments entry.1) _ _
          (subst (λ es. All (λ entry. AreShownMoments entry.1) (map choice_entry es)) rest c.loop-key.invariant.shown);
      can_next = search rules;
      finite = search rules;
    }
