use Rattle.std.proofs.Common.{◌≡◌, ◌∙◌, map, refl, sym, string_bytes, rules, tests}
use Rattle.std.specs.Str.{bytes_eq}
use Rattle.std.specs.List.{list_any}
use Rattle.std.proofs.lemmas.Iterator.{YieldsList-from_slice}
use Rattle.std.proofs.lemmas.Iterator.Search.{any_from_yields_List}
use Rattle.gr_core.specs.Machine.Import.{roll_row}
use Rattle.gr_core.proofs.Effects.ImportLemmas.{not_among}
use Rattle.gr_core.proofs.Collections.ListLemmas.{list_any-map}
use Rattle.gr_core.proofs.import.RollRow.login_is_in.Goals as goal

pub returns-then-is_above : goal.returns-then-is_above
returns-then-is_above c =
    sym (not_among (map roll_row c.args.others.now) (roll_row c.args.self.now) (roll_row c.args.highest.now) c.requires (c.if-is_above.ensures.0 refl))

pub returns : goal.returns
returns c =
    let others = c.args.others.now in
    let login = string_bytes c.args.self.now.login in
    let is : c.any.result ≡ list_any (λ other. bytes_eq login (string_bytes other.login)) others =
    any_from_yields_List (λ other. bytes_eq login (string_bytes other.login)) _ _ c.any.result c.any.ensures.ran
    (YieldsList-from_slice others c.iter.ensures.rest) (λ x b q k. search (rules, tests)) in
    is ∙ list_any-map roll_row (λ other. bytes_eq login other.login) others
