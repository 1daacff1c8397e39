use Rattle.std.proofs.Common.{ap, sym, ◌∙◌}
use Rattle.std.specs.Prelude.{option_map}
use Rattle.std.proofs.lemmas.Option.{none-some}
use Rattle.clap.specs.Matches.{found_of}
use Rattle.clap.proofs.WalkLemmas.{first_value-rows}
use Rattle.gr_desk.proofs.words.text.Goals as goal

pub unreachable-requires : goal.unreachable-requires
unreachable-requires c =
    let first = first_value-rows (found_of c.args.matches.now) c.args.id.now in
    let none = ap (option_map (λ s. s.now)) (sym c.in_default.is) ∙ c.get_str.ensures ∙ first in
    none-some c.requires.0 (none ∙ c.requires.1)

pub returns : goal.returns
returns c = sym (first_value-rows (found_of c.args.matches.now) c.args.id.now) ∙ sym c.in-Some.ensures
