use Rattle.std.proofs.Common.{ℕ, rules}
use Rattle.gr_count.specs.Options.{Member, Related}
use Rattle.gr_count.proofs.SchwartzSets.{schwartz_from_test, test_from_schwartz, schwartz_not_empty}
use Rattle.gr_count.proofs.schwartz.schwartz_set.Goals as goal

pub returns-clause-members : goal.returns-clause-members
returns-clause-members c =
    let kept = c.args.kept.now in
    let beats = c.transitive_defeats-beats in
    λ a. (
      λ is.
          let test : Member kept a × ((b : ℕ) → Member kept b → Related beats.result b a → Related beats.result a b)
          = let h = c.of.ensures.within a (c.of.ensures.below a is) in search rules in
          schwartz_from_test kept c.args.defeats.now beats.result beats.ensures a test.0 test.1,
      λ member.
          let back = test_from_schwartz kept c.args.defeats.now beats.result beats.ensures a member in
          let is_kept = member.kept in
          let h = c.of.ensures.within a (c.requires.kept a is_kept) in search rules,
    )

pub returns-clause-not_empty : goal.returns-clause-not_empty
returns-clause-not_empty c = λ k is_kept.
    let kept = c.args.kept.now in
    let beats = c.transitive_defeats-beats in
    let m = schwartz_not_empty kept c.args.defeats.now beats.result beats.ensures c.args.options k (c.requires.kept k is_kept) is_kept c.requires.kept in
    let back = test_from_schwartz kept c.args.defeats.now beats.result beats.ensures m.0 m.2 in
    let kept_m = m.2.kept in
    let h = c.of.ensures.within m.0 m.1 in
    (m.0, search rules)
