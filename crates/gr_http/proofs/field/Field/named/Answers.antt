use Rattle.std.proofs.Common.{rules, tests, ◌≡◌, List, ℕ, Option, Some, None, [], ◌∷◌, ◌∙◌, ap, sym, refl}
use Rattle.std.specs.List.{find}
use Rattle.std.specs.Option.{option_map}
use Rattle.std.specs.Str.{bytes_eq}
use Rattle.std.proofs.lemmas.Iterator.{YieldsList-from_slice}
use Rattle.std.proofs.lemmas.Iterator.Search.{find_from_yields_List}
use Rattle.std.proofs.lemmas.Option.{none-some}
use Rattle.gr_http.specs.Field.{field_name}
use Rattle.gr_http.specs.declared.field.Field.{Field}
use Rattle.gr_http.specs.declared.field.Field.TheVariants as field
use Rattle.gr_http.proofs.field.Field.named.Goals as goal

abbrev fields : List Field
fields =
    field.Author ∷ field.Choice ∷ field.Days ∷ field.Login ∷ field.Minor ∷ field.Name ∷ field.Place ∷ field.Ranks
    ∷ field.Ratio ∷ field.Status ∷ field.Summary ∷ field.Text ∷ field.Token ∷ []

-- the first field with a name
abbrev first_with : List ℕ → Option Field
first_with name = find (λ known. bytes_eq (field_name known) name) fields

-- each field is the first with its name, so it is among them
told : (which : Field) → first_with (field_name which) ≡ Some which
told field.Author = refl
told other = refl

pub returns-clause-none : goal.returns-clause-none
returns-clause-none c none which same =
    let found : option_map (λ known. known.now) c.find.result ≡ first_with c.args.name.now =
    find_from_yields_List (λ known. bytes_eq (field_name known) c.args.name.now) _ _ c.find.result c.find.ensures.ran
    (YieldsList-from_slice fields c.iter.ensures.rest) (λ x b q called. search (rules, tests)) in
    let missing : c.find.result ≡ None = search rules in
    none-some which (sym (ap (option_map (λ known. known.now)) missing) ∙ found ∙ ap first_with same ∙ told which)
