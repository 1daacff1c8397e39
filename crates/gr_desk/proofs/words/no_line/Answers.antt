use Rattle.std.proofs.Common.{codes, eqb, inr, rules, IsTrue}
use Rattle.std.specs.List.{starts_with}
use Rattle.gr_desk.proofs.words.no_line.Goals as goal

pub returns-then-starts_with : goal.returns-then-starts_with
returns-then-starts_with c help =
    let starts : IsTrue (starts_with eqb c.args.first.now (codes "-")) = search rules in
    inr (c.args.first.now, c.requires, starts)
