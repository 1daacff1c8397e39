use Rattle.std.proofs.Common.{◌<◌, rules, arith}
use Rattle.gr_count.specs.Options.{Member}
use Rattle.gr_count.specs.Shown.{voters_above}
use Rattle.gr_count.proofs.Sets.{relation_where}
use Rattle.gr_count.proofs.kept.defeats_between.Goals as goal

pub returns-clause-defeats : goal.returns-clause-defeats
returns-clause-defeats c =
    relation_where c.options.result c.of.result
    (λ a b. Member c.args.kept.now a × Member c.args.kept.now b × (voters_above c.args.pairs.now b a < voters_above c.args.pairs.now a b))
    c.of.ensures.below
    (λ a b is. (omega (arith, c.requires a is.0), omega (arith, c.requires b is.1)))
    (λ a b first second. let h = c.of.ensures.within a b first second in search rules)
