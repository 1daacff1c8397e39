use Rattle.std.proofs.Common.{◌≡◌, ◌++◌, cond, [], List, ℕ, ap, ◌∙◌, codes, decimal, string_bytes, arith}
use Rattle.std.specs.List.{flat_map}
use Rattle.gr_count.specs.Options.{options_below}
use Rattle.gr_count.specs.Shown.{is_member, options_of_count}
use Rattle.gr_sheet.specs.ResultSheet.{place_of_option, members_of}
use Rattle.std.proofs.lemmas.List.{append_assoc}
use Rattle.gr_sheet.proofs.AppendLemmas.{flat_map-filter, on_ok_then}
use Rattle.gr_sheet.proofs.LoopLemmas.{grown, flat_map-range_more}
use Rattle.gr_sheet.proofs.result_sheet.add_outcome.Goals as goal

pub loop-option-preserved : goal.loop-option-preserved
loop-option-preserved c =
    let line : ℕ → List ℕ = λ option. cond (is_member c.args.count.now option) (codes " " ++ decimal (place_of_option option)) [] in
    let n = c.loop-option.option in
    grown (string_bytes c.args.text.now) (codes "Schwartz:" ++ flat_map line (options_below n)) (line n) c.loop-option.invariant
    c.in_ok-add_member.ensures (ap (λ text. codes "Schwartz:" ++ text) (flat_map-range_more line 0 n n (omega arith)))

pub returns : goal.returns
returns c =
    let is_in = is_member c.args.count.now in
    let options = options_of_count c.args.count.now in
    let text : ℕ → List ℕ = λ member. codes " " ++ decimal (place_of_option member) in
    let line : ℕ → List ℕ = λ option. cond (is_in option) (text option) [] in
    let old = string_bytes c.args.text.now in
    let ended : c.loop-option.option ≡ options = omega (arith, c.options-option-end.ensures.value) in
    let loop : string_bytes c.loop-option.text ≡ old ++ (codes "Schwartz:" ++ flat_map text (members_of is_in options)) =
    c.loop-option.invariant
    ∙ ap (λ n. old ++ (codes "Schwartz:" ++ flat_map line (options_below n))) ended
    ∙ ap (λ lines. old ++ (codes "Schwartz:" ++ lines)) (flat_map-filter text is_in (options_below options)) in
    on_ok_then c.write-2.result
    (λ is. is ∙ ap (λ told. told ++ codes "\n") loop
    ∙ append_assoc old (codes "Schwartz:" ++ flat_map text (members_of is_in options)) (codes "\n"))
    c.write-2.ensures.bytes
