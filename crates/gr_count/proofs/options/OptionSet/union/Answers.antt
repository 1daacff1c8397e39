use Rattle.gr_count.proofs.Words.{bit_of_union}
use Rattle.gr_count.proofs.options.OptionSet.union.Goals as goal

pub returns : goal.returns
returns c = λ a. bit_of_union c.args.self.members c.args.other.members a
