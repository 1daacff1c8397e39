use Rattle.std.proofs.Common.{codes, map, refl, string_bytes}
use Rattle.gr_sheet.specs.declared.kind.Kind.TheVariants as kinds
use Rattle.gr_desk.specs.Words.{sheet_app}
use Rattle.gr_desk.proofs.SubcommandLemmas.{found_rows, sheet_asked, sheet_found}
use Rattle.gr_desk.proofs.words.tally.Goals as goal

pub sheet-requires-clause-file : goal.sheet-requires-clause-file
sheet-requires-clause-file c =
    (sheet_found _ c.in_ok-matches.matches c.in_ok-matches.ensures.parsed (codes "tally") c.in_ok-tally.ensures).0

pub sheet-requires-clause-number : goal.sheet-requires-clause-number
sheet-requires-clause-number c =
    (sheet_found _ c.in_ok-matches.matches c.in_ok-matches.ensures.parsed (codes "tally") c.in_ok-tally.ensures).1

pub returns-clause-line : goal.returns-clause-line
returns-clause-line c =
    sheet_asked kinds.Tally (map string_bytes c.args.words.now) _ c.sheet.result c.requires
    (found_rows _ (sheet_app (codes "tally")) _ c.in_ok-matches.matches c.in_ok-tally.ensures refl
    c.in_ok-matches.ensures.matches) refl (λ rows number within. within) c.sheet.ensures
