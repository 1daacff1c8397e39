use Rattle.std.proofs.Common.{◌≡◌, ℕ, zero, suc, ◌≤◌, true, false, cond, take, nat_eq, refl, sym, ◌∙◌, subst, inr, arith}
use Rattle.std.specs.Cmp.{nat_eq_equiv}
use Rattle.std.proofs.lemmas.List.Elements.{All-map, All-take, All-weaker}
use Rattle.gr_count.specs.declared.limits.TheConstants.{RANKS, UNRANKED}
use Rattle.gr_count.specs.declared.mark.Mark.TheVariants.{Ranked, Unranked}
use Rattle.gr_count.specs.Ballot.{mark_of_rank}
use Rattle.gr_core.specs.Parts.Ballot.{IsMark}
use Rattle.gr_core.proofs.Contents.ChoiceKeys.{same_number}
use Rattle.gr_core.proofs.Columns.RanksLemmas.{said_by_a_character}
use Rattle.gr_core.proofs.valid.ballots.are_ranks.Goals as goal

-- a rank that there is, or 0 for none, is what some character says
said : (rank : ℕ) → rank ≤ RANKS → IsMark (mark_of_rank rank)
said zero few = (UNRANKED, inr (inr refl), refl)
said (suc rank) few =
    let ranked : nat_eq (suc rank) 0 ≡ false = grind arith in
    subst (λ b. IsMark (cond b Unranked (Ranked (suc rank)))) (sym ranked) (said_by_a_character (suc rank) (omega arith) few)

pub returns : goal.returns
returns c =
    let ranks = c.args.ranks in (
      λ same. record {
        whole = sym c.options.ensures.value ∙ same_number c.options.result c.args.places same;
        marks = All-map IsMark mark_of_rank (take ranks.options ranks.ranks)
            (All-weaker (λ rank. rank ≤ RANKS) (λ rank. IsMark (mark_of_rank rank)) said (take ranks.options ranks.ranks)
            (All-take (λ rank. rank ≤ RANKS) ranks.options ranks.ranks ranks.ranked));
      },
      λ are. subst (λ n. nat_eq c.options.result n ≡ true) (c.options.ensures.value ∙ are.whole) (nat_eq_equiv.refl c.options.result),
    )
