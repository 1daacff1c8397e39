use Rattle.std.proofs.Common.{rules}
use Rattle.gr_count.proofs.Words.{bit_of_difference}
use Rattle.gr_count.proofs.options.OptionSet.difference.Goals as goal

pub returns : goal.returns
returns c = λ a. bit_of_difference c.args.self.members c.args.other.members a (search rules) (search rules)
