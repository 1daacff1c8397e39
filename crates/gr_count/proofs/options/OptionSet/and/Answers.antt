use Rattle.std.proofs.Common.{arith, ◌∙◌}
use Rattle.gr_count.proofs.Words.{bit_put, bit_put_other, byte_is}
use Rattle.gr_count.proofs.options.OptionSet.and.Goals as goal

pub returns-clause-option : goal.returns-clause-option
returns-clause-option c =
    bit_put c.args.self.members c.from.result c.args.is_in c.args.option (omega arith) (c.from.ensures ∙ byte_is c.args.is_in) c.requires.new

pub returns-clause-others : goal.returns-clause-others
returns-clause-others c = λ a other.
    bit_put_other c.args.self.members c.from.result c.args.is_in c.args.option a (omega arith) (c.from.ensures ∙ byte_is c.args.is_in) other
