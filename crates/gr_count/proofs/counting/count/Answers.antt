use Rattle.std.proofs.Common.{ℕ, suc, ◌≡◌, ◌+◌, ◌-◌, ◌<◌, cond, inl, refl, ap, ◌∙◌, arith, add-one}
use Rattle.gr_count.specs.Options.{has, relates, number_at}
use Rattle.gr_count.specs.Shown.{election_of, options_of_pairs}
use Rattle.gr_count.proofs.Finite.{size_below-some}
use Rattle.gr_count.proofs.PairSizes.{pairs_below}
use Rattle.gr_count.proofs.Standings.{IsStandingAfter, IsStandingAfter-none, IsCounted, counted, another_round, noted_at_most}
use Rattle.gr_count.proofs.Outcomes.{members_are_kept, members_are_apart, drops_are_inside, default_is_last, favourite_is_alone}
use Rattle.gr_count.proofs.counting.count.Goals as goal

pub loop-weakest-init : goal.loop-weakest-init
loop-weakest-init c =
    let e = election_of c.args.pairs.now c.args.developers c.args.ratios.now in
    let kept = c.kept_options-kept.ensures.kept in
    IsStandingAfter-none e c.options-options.result c.defeats_between-defeats.result c.zero-dropped.result
    (λ a b. (
      λ is. let h = (c.defeats_between-defeats.ensures.defeats a b).0 is in ((kept a).0 h.0, (kept b).0 h.1, h.2),
      λ defeats. (c.defeats_between-defeats.ensures.defeats a b).1 ((kept a).1 defeats.0, (kept b).1 defeats.1, defeats.2),
    ))
    (λ a b is. let h = c.defeats_between-defeats.ensures.below a b is in (omega arith, omega arith))
    c.zero-dropped.ensures

pub invariant_of-result-clause-noted : goal.invariant_of-result-clause-noted
invariant_of-result-clause-noted c =
    noted_at_most (election_of c.args.pairs.now c.args.developers c.args.ratios.now) c.options-options.result
    c.loop-weakest.defeats c.loop-weakest.dropped c.loop-weakest.rounds c.loop-weakest.invariant

pub invariant_of-result-clause-not_empty : goal.invariant_of-result-clause-not_empty
invariant_of-result-clause-not_empty c =
    let default = options_of_pairs c.args.pairs.now - 1 in
    ∣ c.schwartz_set-members.ensures.not_empty default ((c.kept_options-kept.ensures.kept default).1 (inl refl)) ∣₁

pub set_all-requires-clause-below : goal.set_all-requires-clause-below
set_all-requires-clause-below c = λ a b is.
    let weakest = (c.in-Some.ensures.weakest a b).0 is in c.inner_defeats-inner.ensures.below a b weakest.among

pub returns-in_default : goal.returns-in_default
returns-in_default c =
    let e = election_of c.args.pairs.now c.args.developers c.args.ratios.now in
    let kept = c.kept_options-kept.result in
    let members = c.schwartz_set-members.result in
    let dropped = number_at c.loop-weakest.dropped in
    let rounds = c.loop-weakest.rounds in
    let is : IsCounted e (has kept) (has members) dropped rounds
    = counted e c.options-options.result kept c.loop-weakest.defeats c.loop-weakest.dropped rounds c.loop-weakest.invariant
    c.kept_options-kept.ensures.kept
    members c.schwartz_set-members.ensures.members c.inner_defeats-inner.result c.inner_defeats-inner.ensures.inner c.in_default.ensures.none in
    let some = c.schwartz_set-members.ensures.not_empty e.default ((c.kept_options-kept.ensures.kept e.default).1 (inl refl)) in
    record {
      options = c.options-options.ensures.value;
      kept = is.are_kept;
      rounds = is.number;
      dropped = is.dropped;
      outcome = is.outcome;
      not_empty = some;
      members = omega (
        arith,
        size_below-some c.options-options.result (has members) some.0 (c.schwartz_set-members.ensures.below some.0 some.1)
            some.1,
      );
      members_kept = members_are_kept e (has kept) (has members) dropped rounds is;
      apart = members_are_apart e (has kept) (has members) dropped rounds is;
      inside = drops_are_inside e (has kept) (has members) dropped rounds is;
      default = default_is_last e (has kept) (has members) dropped rounds is;
      favourite = favourite_is_alone e (has kept) (has members) dropped rounds is;
    }

-- one round more, with fewer defeats
round : (c : goal.After-without-defeats)
    → (pairs_below c.options-options.result c.options-options.result (relates c.without-defeats.result)
    < pairs_below c.options-options.result c.options-options.result (relates c.loop-weakest.defeats))
    × IsStandingAfter (election_of c.args.pairs.now c.args.developers c.args.ratios.now) c.options-options.result c.without-defeats.result
    c.set_all.new.self (c.loop-weakest.rounds + 1)
round c =
    let noted : (a b : ℕ)
    → number_at c.set_all.new.self a b ≡ cond (relates c.in-Some.weakest a b) (suc c.loop-weakest.rounds)
    (number_at c.loop-weakest.dropped a b)
    = λ a b. c.set_all.ensures a b
    ∙ ap (λ x. cond (relates c.in-Some.weakest a b) x (number_at c.loop-weakest.dropped a b)) (add-one c.loop-weakest.rounds) in
    another_round (election_of c.args.pairs.now c.args.developers c.args.ratios.now) c.options-options.result c.kept_options-kept.result
    c.loop-weakest.defeats c.loop-weakest.dropped c.loop-weakest.rounds c.loop-weakest.invariant c.kept_options-kept.ensures.kept
    c.schwartz_set-members.result c.schwartz_set-members.ensures.members c.inner_defeats-inner.result c.inner_defeats-inner.ensures.inner
    c.in-Some.weakest c.in-Some.ensures.weakest c.in-Some.ensures.some c.without-defeats.result c.without-defeats.ensures.left
    c.without-defeats.ensures.below
    c.set_all.new.self noted

pub loop-weakest-smaller : goal.loop-weakest-smaller
loop-weakest-smaller c = (round c).0

pub loop-weakest-preserved : goal.loop-weakest-preserved
loop-weakest-preserved c = (round c).1
