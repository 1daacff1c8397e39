use Rattle.gr_count.proofs.Sets.{IsGivenUpTo-none, IsGivenUpTo-more, IsGivenUpTo-all}
use Rattle.gr_count.proofs.numbers.OptionNumbers.set_all.Goals as goal

pub loop-option-init : goal.loop-option-init
loop-option-init c = IsGivenUpTo-none c.args.options c.args.number c.args.self.now

pub put-requires : goal.put-requires
put-requires c = c.requires c.in-Some.option (c.loop-option.invariant.left c.in-Some.option c.in-Some.ensures.some.had)

pub loop-option-preserved : goal.loop-option-preserved
loop-option-preserved c =
    IsGivenUpTo-more c.args.options c.args.number c.args.self.now c.loop-option.self c.put.new.self c.loop-option.rest c.pop_first.new.self
    c.in-Some.option c.loop-option.invariant c.in-Some.ensures.some c.put.ensures.changed c.put.ensures.others

pub returns : goal.returns
returns c = IsGivenUpTo-all c.args.options c.args.number c.args.self.now c.loop-option.self c.loop-option.rest c.loop-option.invariant
    c.in_default.ensures.none
