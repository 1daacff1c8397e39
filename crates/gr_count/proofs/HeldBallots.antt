-- The pairs of a vote hold each ballot of it.
use Rattle.std.proofs.Common.{◌≡◌, ℕ, ◌+◌, ◌≤◌, Bool, true, false, cond, List, [], ◌∷◌, length, Some, None, nat_cmp, is_some, IsNone, count_by, refl, sym, ◌∙◌, ap, arith}
use Rattle.std.specs.declared.cmp.Ordering.TheVariants.{Less, Equal, Greater}
use Rattle.std.specs.Ordering.{is_eq, eq_by_cmp}
use Rattle.std.specs.Cmp.{eq_by_cmp_equiv}
use Rattle.std.specs.Cmp.Lexicographic.{slice_cmp, nat_list_cmp_total}
use Rattle.std.specs.FinMap.{IsAntisymmetric, nat_cmp-IsAntisymmetric, slice_cmp-IsAntisymmetric, entries, get, insert, remove, len, get-insert, get-remove, get_tied, same_map, len-entries}
use Rattle.std.proofs.lemmas.List.Sums.{sum_by-cons}
use Rattle.gr_count.specs.declared.mark.Mark.{Mark}
use Rattle.gr_count.specs.declared.pairs.Pairs.{Pairs}
use Rattle.gr_count.specs.Ballot.{Vote, prefers, preference_count}
use Rattle.gr_count.specs.PairwiseCount.{AddsBallot, IsPairwiseCountOf, HoldsBallot}
use Rattle.gr_count.proofs.Finite.{bit_of_false, not_true}
use Rattle.gr_count.proofs.PairwiseCounts.{prefers-one_way}
use Rattle.gr_count.proofs.Votes.{preference_count-insert, voters-insert}

login_only : IsAntisymmetric (slice_cmp nat_cmp)
login_only = slice_cmp-IsAntisymmetric nat_cmp-IsAntisymmetric

-- no element is counted by both
count_by-apart : {X : Type 0} (p q : X → Bool) → ((x : X) → cond (p x) 1 0 + cond (q x) 1 0 ≤ 1) → (xs : List X) → count_by p xs + count_by q xs ≤ length xs
count_by-apart p q apart [] = omega arith
count_by-apart p q apart (x ∷ xs) =
    omega (arith, apart x, count_by-apart p q apart xs, sum_by-cons (λ e. cond (p e) 1 0) x xs, sum_by-cons (λ e. cond (q e) 1 0) x xs)

-- of two options a voter is counted once at most
pub voters-one_way : (vote : Vote) (a b : ℕ) → preference_count vote a b + preference_count vote b a ≤ len vote
voters-one_way vote a b =
    let each = count_by-apart (λ voter. prefers voter.1 a b) (λ voter. prefers voter.1 b a) (λ voter. prefers-one_way voter.1 a b) (entries vote) in
    omega (arith, each, len-entries vote)

no_matter : {X : Type 0} (b : Bool) (x y z : X) → cond b x (cond b y z) ≡ cond b x z
no_matter true x y z = refl
no_matter false x y z = refl

module _ (vote : Vote) (login : List ℕ) where
  -- without a voter there is none of that login
  pub none_removed : get (remove vote login) login ≡ None
  none_removed =
      get-remove nat_list_cmp_total vote login login
      ∙ ap (λ b. cond b None (get vote login)) ((eq_by_cmp_equiv nat_list_cmp_total).refl login)

  -- a voter taken out and put in with another ballot has that one
  pub insert-remove : (marks : List Mark) → insert (remove vote login) login marks ≡ insert vote login marks
  insert-remove marks = same_map nat_list_cmp_total login_only _ _ (λ q.
      get-insert nat_list_cmp_total (remove vote login) login marks q
      ∙ ap (cond (eq_by_cmp (slice_cmp nat_cmp) q login) (Some marks)) (get-remove nat_list_cmp_total vote login q)
      ∙ no_matter (eq_by_cmp (slice_cmp nat_cmp) q login) (Some marks) None (get vote q)
      ∙ sym (get-insert nat_list_cmp_total vote login marks q))

  -- and with the same ballot the vote is as it was
  pub insert-same : (marks : List Mark) → get vote login ≡ Some marks → insert vote login marks ≡ vote
  insert-same marks there = same_map nat_list_cmp_total login_only _ _ (λ q.
      get-insert nat_list_cmp_total vote login marks q
      ∙ elim (slice_cmp nat_cmp q login) as (λ r. slice_cmp nat_cmp q login ≡ r → cond (is_eq r) (Some marks) (get vote q) ≡ get vote q) [
        | Less ↦ λ _. refl
        | Equal ↦ λ tied. sym there ∙ get_tied nat_list_cmp_total vote q login tied
        | Greater ↦ λ _. refl
      ] refl)

  module _ (marks : List Mark) (there : get vote login ≡ Some marks) where
    without : Vote
    without = remove vote login

    nobody : IsNone (get without login)
    unfolding without
    nobody = ap is_some none_removed

    whole : insert without login marks ≡ vote
    unfolding without
    whole = insert-remove marks ∙ insert-same marks there

    counted : (a b : ℕ) → preference_count vote a b ≡ preference_count without a b + cond (prefers marks a b) 1 0
    counted a b = ap (λ v. preference_count v a b) (sym whole) ∙ preference_count-insert without login marks a b nobody

    voters : len vote ≡ len without + 1
    voters = ap len (sym whole) ∙ voters-insert without login marks nobody

    -- the pairs of a vote hold each ballot of it
    pub held : (pairs : Pairs) → IsPairwiseCountOf pairs vote → HoldsBallot marks pairs
    held pairs tally = record {
      some = omega (arith, tally.ballots, voters);
      each = λ a b first second. (
        λ is.
            let one : ◌≡◌ {A = ℕ} (cond (prefers marks a b) 1 0) 1 = ap (λ t. cond t 1 0) is in
            omega (arith, tally.counts a b, counted a b),
        λ other neither back.
            let none : ◌≡◌ {A = ℕ} (cond (prefers marks a b) 1 0) 0 = bit_of_false (prefers marks a b) (not_true (prefers marks a b) neither) in
            let none_back : ◌≡◌ {A = ℕ} (cond (prefers marks b a) 1 0) 0 = bit_of_false (prefers marks b a) (not_true (prefers marks b a) back) in
            omega (arith, tally.ballots, voters, tally.counts a b, tally.counts b a, counted a b, counted b a, voters-one_way without a b),
      );
    }

    -- and without it they are those of the vote without its voter
    pub taken : (old new : Pairs) → AddsBallot marks new old → IsPairwiseCountOf old vote → IsPairwiseCountOf new (remove vote login)
    unfolding without
    taken old new adds tally = record {
      ballots = omega (arith, adds.ballots, tally.ballots, voters);
      counts = λ a b. omega (arith, adds.counts a b, tally.counts a b, counted a b);
    }
