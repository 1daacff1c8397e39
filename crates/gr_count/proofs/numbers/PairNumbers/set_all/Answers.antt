use Rattle.std.proofs.Common.{arith, [], inl, inr, ap, subst, ◌∙◌, ◌≡◌, cond, get_or}
use Rattle.std.proofs.lemmas.Bool.{cases_lt}
use Rattle.gr_count.specs.declared.limits.TheConstants.{MAX_OPTIONS}
use Rattle.gr_count.specs.Options.{Member, has, number_at, number_of, relates}
use Rattle.gr_count.proofs.Fill.{IsUpdated-more}
use Rattle.gr_count.proofs.Sets.{IsGivenRow, ungiven}
use Rattle.gr_count.proofs.numbers.PairNumbers.set_all.Goals as goal

pub set_all-requires : goal.set_all-requires
set_all-requires c = λ a member.
    let inside = c.requires.below c.loop-first.first a (subst (λ row. Member row a) c.row.ensures member) in omega arith

pub loop-first-preserved : goal.loop-first-preserved
loop-first-preserved c =
    IsUpdated-more (IsGivenRow c.args.pairs.now c.args.number) MAX_OPTIONS (record { numbers = [] }) c.args.self.now.rows c.loop-first.self.rows
    c.loop-first.first c.set_all.new.self c.loop-first.invariant (omega arith)
    (λ b. subst
    (λ row. number_of c.set_all.new.self b
    ≡ cond (has row b) c.args.number (number_of (get_or c.loop-first.self.rows c.loop-first.first (record { numbers = [] })) b))
    c.row.ensures (c.set_all.ensures b))

pub returns : goal.returns
returns c = λ a b.
    elim (cases_lt a c.loop-first.first)
    as (λ _. number_at c.loop-first.self a b ≡ cond (relates c.args.pairs.now a b) c.args.number (number_at c.args.self.now a b)) [
      | inl before ↦ c.loop-first.invariant.front a before b
      | inr later ↦
          ap (λ row. number_of row b) (c.loop-first.invariant.rest a later)
          ∙ ungiven c.args.pairs.now c.args.number a b (number_at c.args.self.now a b)
          (λ related. let inside = c.requires.below a b related in omega arith)
    ]
