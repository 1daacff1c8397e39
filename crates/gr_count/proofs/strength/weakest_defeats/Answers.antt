use Rattle.std.proofs.Common.{rules, subst, refl}
use Rattle.gr_count.specs.Strength.{IsWeaker, strength_of}
use Rattle.gr_count.specs.Shown.{options_of_pairs, voters_above}
use Rattle.gr_count.proofs.Strengths.{not_weaker_self, weakest_from_least, least_from_weakest}
use Rattle.gr_count.proofs.strength.weakest_defeats.Goals as goal

pub returns-in_default-clause-none : goal.returns-in_default-clause-none
returns-in_default-clause-none c = λ a b is.
    c.in_default.ensures (strength_of (voters_above c.args.pairs.now) a b)
    (record { winner = a; loser = b; below = (c.requires a b is).0; stands = is; is = refl })

pub returns-clause-weakest : goal.returns-clause-weakest
returns-clause-weakest c = λ a b. (
  λ is.
      let stands = c.filter.ensures.among a b is in
      let not_weaker : ¬ IsWeaker c.in-Some.least (strength_of (voters_above c.args.pairs.now) a b)
      = let h = c.filter.ensures.within a b stands in search rules in
      weakest_from_least (voters_above c.args.pairs.now) c.args.defeats.now (options_of_pairs c.args.pairs.now) c.in-Some.least
      (λ x y other. (c.requires x y other).0) c.in-Some.ensures a b stands not_weaker,
  λ weakest.
      let not_weaker = least_from_weakest (voters_above c.args.pairs.now) c.args.defeats.now (options_of_pairs c.args.pairs.now) c.in-Some.least
      c.in-Some.ensures a b weakest in
      let h = c.filter.ensures.within a b weakest.among in search rules,
)

pub returns-clause-some : goal.returns-clause-some
returns-clause-some c =
    let among = c.in-Some.ensures.0 in
    let not_weaker : ¬ IsWeaker c.in-Some.least (strength_of (voters_above c.args.pairs.now) among.winner among.loser)
    = subst (λ s. ¬ IsWeaker c.in-Some.least s) among.is (not_weaker_self c.in-Some.least) in
    let h = c.filter.ensures.within among.winner among.loser among.stands in
    (among.winner, among.loser, search rules)
