use Rattle.std.proofs.Common.{◌<◌, rules, arith, inl, inr}
use Rattle.gr_count.specs.Election.{IsKept}
use Rattle.gr_count.specs.Shown.{election_of}
use Rattle.gr_count.proofs.Sets.{set_where}
use Rattle.gr_count.proofs.kept.kept_options.Goals as goal

pub returns-clause-kept : goal.returns-clause-kept
returns-clause-kept c =
    set_where c.options.result c.of.result (IsKept (election_of c.args.pairs.now c.args.developers c.args.ratios.now)) c.of.ensures.below
    (λ a is. elim is as (λ _. a < c.options.result) [ inl default ↦ omega arith | inr other ↦ omega (arith, other.0) ])
    (λ a inside. let h = c.of.ensures.within a inside in search rules)
