use Rattle.std.proofs.Common.{◌∙◌, Some, ap, codes, sym}
use Rattle.std.proofs.lemmas.Option.{none-some, same_Some}
use Rattle.std.proofs.lemmas.Slice.Eq.{bytes_eq-Decides}
use Rattle.clap.specs.Matches.{found_of}
use Rattle.clap.proofs.WalkLemmas.{first_value-rows}
use Rattle.gr_desk.proofs.words.flag.Goals as goal

pub returns-in-Some : goal.returns-in-Some
returns-in-Some c =
    let found = sym (first_value-rows (found_of c.args.matches.now) c.args.id.now) ∙ sym c.in-Some.ensures in
    let same = bytes_eq-Decides c.in-Some.value.now (codes "true") in
    (λ set. found ∙ ap Some (same.0 (sym c.eq.ensures ∙ set)), λ is. c.eq.ensures ∙ same.1 (same_Some _ _ (sym found ∙ is)))

pub returns-in-None : goal.returns-in-None
returns-in-None c =
    let found = sym (first_value-rows (found_of c.args.matches.now) c.args.id.now) ∙ sym c.in-None.ensures in
    (λ never. absurd cc, λ is. absurd (none-some _ (sym found ∙ is)))
