use Rattle.gr_count.proofs.Words.{bit_of_intersection}
use Rattle.gr_count.proofs.options.OptionSet.intersection.Goals as goal

pub returns : goal.returns
returns c = λ a. bit_of_intersection c.args.self.members c.args.other.members a
