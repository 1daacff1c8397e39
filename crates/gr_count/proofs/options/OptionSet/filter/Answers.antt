use Rattle.gr_count.proofs.Sets.{IsFilteredUpTo-none, IsFilteredUpTo-more}
use Rattle.gr_count.proofs.options.OptionSet.filter.Goals as goal

pub loop-option-init : goal.loop-option-init
loop-option-init g c = IsFilteredUpTo-none (goal.F-post g c.args.holds) c.args.self c.empty-set.result c.empty-set.ensures

pub holds-requires : goal.holds-requires
holds-requires g c = c.requires.callable c.in-Some.option (c.loop-option.invariant.left c.in-Some.option c.in-Some.ensures.some.had)

pub and-set-requires-clause-new : goal.and-set-requires-clause-new
and-set-requires-clause-new g c = c.loop-option.invariant.later c.in-Some.option c.in-Some.ensures.some.had

pub loop-option-preserved : goal.loop-option-preserved
loop-option-preserved g c =
    IsFilteredUpTo-more (goal.F-post g c.args.holds) c.args.self c.loop-option.set c.and-set.result c.loop-option.rest c.pop_first.new.self
    c.in-Some.option c.holds.result c.loop-option.invariant c.in-Some.ensures.some c.and-set.ensures.option c.and-set.ensures.others c.holds.ensures

pub returns-clause-within : goal.returns-clause-within
returns-clause-within g c = λ a member. c.loop-option.invariant.judged a member (c.in_default.ensures.none a)

pub returns-clause-among : goal.returns-clause-among
returns-clause-among g c = c.loop-option.invariant.among
