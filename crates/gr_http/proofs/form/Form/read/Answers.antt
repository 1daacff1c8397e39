use Rattle.std.proofs.Common.{◌≡◌, [], ◌∷◌, ◌++◌, IsNone, sym, ◌∙◌, rules}
use Rattle.form_urlencoded.specs.Parse.{raw_pairs_left}
use Rattle.gr_http.specs.Field.{field_name}
use Rattle.gr_http.specs.Form.{text_of}
use Rattle.gr_http.proofs.FormLemmas.{one_read, none_read}
use Rattle.gr_http.proofs.form.Form.read.Goals as goal
use Rattle.gr_http.proofs.form.Form.read.Goals.{in-Some-named+in_ok-push, in_default}

pub loop-name-preserved-after-named : goal.loop-name-preserved-after-named
loop-name-preserved-after-named c =
    let steps : raw_pairs_left c.loop-name.name-iterator ≡ (c.in-Some.name.now, c.in-Some.value.now) ∷ raw_pairs_left c.next.new.self = search rules in
    let text : c.as_str.result.now ≡ text_of c.in-Some.name.now = search rules in
    let before = c.loop-name.fields.items in
    let after = c.match-named.fields.items in (
      tt,
      tt,
      λ which. elim c.match-named.branch [
        | in-Some-named+in_ok-push w ↦
            let known : c.as_str.result.now ≡ field_name w.in-Some-named.field = search rules in
            let now : after ≡ before ++ record { field = w.in-Some-named.field; value = c.in-Some.value } ∷ [] = search rules in
            one_read before after w.in-Some-named.field c.in-Some.name.now c.in-Some.value _ _ now (sym text ∙ known) steps which _
            (c.loop-name.invariant.2 which)
        | in_default w ↦
            let none : IsNone c.named.result = search rules in
            let now : after ≡ before = search rules in
            none_read before after c.in-Some.name.now c.in-Some.value.now _ _ now (λ known same. c.named.ensures.none none known (text ∙ same))
            steps which _ (c.loop-name.invariant.2 which)
      ],
    )

pub loop-name-preserved : goal.loop-name-preserved
loop-name-preserved c =
    let steps : raw_pairs_left c.loop-name.name-iterator ≡ (c.in-Some.name.now, c.in-Some.value.now) ∷ raw_pairs_left c.next.new.self = search rules in
    let text : c.as_str.result.now ≡ text_of c.in-Some.name.now = search rules in
    let before = c.loop-name.fields.items in
    let after = c.match-named.fields.items in (
      tt,
      tt,
      λ which. elim c.match-named.branch [
        | in-Some-named+in_ok-push w ↦
            let known : c.as_str.result.now ≡ field_name w.in-Some-named.field = search rules in
            let now : after ≡ before ++ record { field = w.in-Some-named.field; value = c.in-Some.value } ∷ [] = search rules in
            one_read before after w.in-Some-named.field c.in-Some.name.now c.in-Some.value _ _ now (sym text ∙ known) steps which _
            (c.loop-name.invariant.2 which)
        | in_default w ↦
            let none : IsNone c.named.result = search rules in
            let now : after ≡ before = search rules in
            none_read before after c.in-Some.name.now c.in-Some.value.now _ _ now (λ known same. c.named.ensures.none none known (text ∙ same))
            steps which _ (c.loop-name.invariant.2 which)
      ],
    )
