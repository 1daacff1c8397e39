use Rattle.std.proofs.Common.{arith, sym, ◌∙◌}
use Rattle.std.proofs.lemmas.Bool.{false≢true}
use Rattle.gr_count.proofs.Words.{IsLowest, lowest_bit}
use Rattle.std.specs.Int.{trailing_zeros, w64}
use Rattle.gr_count.proofs.options.OptionSet.pop_first.Goals as goal

lowest : (c : goal.After-self-1) → IsLowest c.args.self.now.members (trailing_zeros w64 c.args.self.now.members)
lowest c = lowest_bit c.args.self.now.members (omega arith) (omega arith)

pub returns-clause-some : goal.returns-clause-some
returns-clause-some c =
    let is = lowest c in
    record { had = is.set; gone = λ member. false≢true (sym is.gone ∙ member); others = is.others }

pub returns-clause-first : goal.returns-clause-first
returns-clause-first c = λ a below member. false≢true (sym ((lowest c).none_below a below) ∙ member)

pub returns-clause-fewer : goal.returns-clause-fewer
returns-clause-fewer c = (lowest c).less
