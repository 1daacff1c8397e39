use Rattle.std.proofs.Common.{sym, ◌∙◌}
use Rattle.std.specs.Str.Parse.{ParsesUnsigned, ExplainsUnsignedError, HasUnsignedDigitsIfOk}
use Rattle.clap.specs.Matches.{found_of, one_text}
use Rattle.clap.proofs.WalkLemmas.{one_text-rows}
use Rattle.gr_desk.proofs.WordLemmas.{decimal_read, read_decimal}
use Rattle.gr_desk.proofs.words.number.Goals as goal

pub unreachable-requires : goal.unreachable-requires
unreachable-requires c =
    let found = found_of c.args.matches.now in
    let id = c.args.id.now in
    let (number, (text, is, decimal), fits) = c.requires in
    c.in_default.not-Some number
    (read_decimal (λ bs r. ParsesUnsigned 64 10 bs r × ExplainsUnsignedError 10 bs r × HasUnsignedDigitsIfOk bs r) (λ t x g. g.0)
    (one_text found id) c.get_one.result c.get_one.ensures.value text number (one_text-rows found id ∙ is) decimal fits)

pub returns : goal.returns
returns c =
    let found = found_of c.args.matches.now in
    let id = c.args.id.now in
    let (text, is, decimal) = decimal_read (λ bs r. ParsesUnsigned 64 10 bs r × ExplainsUnsignedError 10 bs r × HasUnsignedDigitsIfOk bs r)
    (λ t x g. g.0) (one_text found id) c.in-Some.number c.in-Some.ensures.none c.in-Some.ensures.value in
    (text, sym (one_text-rows found id) ∙ is, decimal)
