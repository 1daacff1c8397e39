-- A vote with one voter more.
use Rattle.std.proofs.Common.{◌≡◌, ℕ, ◌+◌, ◌≤◌, length, Bool, cond, List, [], ◌∷◌, Option, Some, None, Ordering, nat_cmp, is_some, count_by, refl, sym, ◌∙◌, ap, arith}
use Rattle.std.specs.Prelude.{IsNone}
use Rattle.std.specs.declared.cmp.Ordering.TheVariants.{Less, Equal, Greater}
use Rattle.std.specs.Ordering.{is_eq}
use Rattle.std.specs.Cmp.Lexicographic.{slice_cmp, nat_list_cmp_total}
use Rattle.std.specs.FinMap.{entries, empty, get, insert, len, find, put, get-entries, len-entries, entries-insert, len-insert, len-empty}
use Rattle.std.specs.FinMap.Entries.{by_order}
use Rattle.std.proofs.lemmas.List.Sums.{sum_by-cons, count_by-le-length}
use Rattle.gr_count.specs.declared.mark.Mark.{Mark}
use Rattle.gr_count.specs.Ballot.{Vote, prefers, preference_count}

-- to put an entry whose key is new counts it
count_by-put : {K X : Type 0} (R : K → K → Ordering) (p : K × X → Bool) (k : K) (v : X) (es : List (K × X)) → find R k es ≡ None
    → count_by p (put R k v es) ≡ count_by p es + cond (p (k, v)) 1 0
count_by-put R p k v [] none = sum_by-cons (λ e. cond (p e) 1 0) (k, v) [] ∙ omega arith
count_by-put {K} {X} R p k v (e ∷ es) none =
    elim (R k e.0) as (λ o. cond (is_eq o) (Some e.1) (find R k es) ≡ None
    → count_by p (by_order o ((k, v) ∷ e ∷ es) ((e.0, v) ∷ es) (e ∷ put R k v es)) ≡ count_by p (e ∷ es) + cond (p (k, v)) 1 0) [
      | Less ↦ λ _. sum_by-cons (λ x. cond (p x) 1 0) (k, v) (e ∷ es) ∙ omega arith
      | Equal ↦ λ some. cc
      | Greater ↦ λ rest.
          let more : count_by p (put R k v es) ≡ count_by p es + cond (p (k, v)) 1 0 = count_by-put R p k v es rest in
          let one : count_by p (e ∷ put R k v es) ≡ cond (p e) 1 0 + count_by p (put R k v es) = sum_by-cons (λ x. cond (p x) 1 0) e (put R k v es) in
          let other : count_by p (e ∷ es) ≡ cond (p e) 1 0 + count_by p es = sum_by-cons (λ x. cond (p x) 1 0) e es in
          omega arith
    ] none

is_None : {X : Type 0} (o : Option X) → IsNone o → o ≡ None
is_None None h = refl
is_None (Some x) h = cc

-- nobody prefers anything where nobody voted
pub preference_count-empty : (a b : ℕ) → preference_count empty a b ≡ 0
preference_count-empty a b =
    let few : preference_count empty a b ≤ length (entries (empty {K = List ℕ} {X = List Mark} {R = slice_cmp nat_cmp}))
    = count_by-le-length (λ voter. prefers voter.1 a b) (entries empty) in
    let none : length (entries (empty {K = List ℕ} {X = List Mark} {R = slice_cmp nat_cmp})) ≡ 0 = sym (len-entries empty)
    ∙ len-empty (slice_cmp nat_cmp) (List Mark) in
    omega arith

pub voters-empty : len (empty {K = List ℕ} {X = List Mark} {R = slice_cmp nat_cmp}) ≡ 0
voters-empty = len-empty (slice_cmp nat_cmp) (List Mark)

-- a new voter counts exactly where the ballot prefers
pub preference_count-insert : (vote : Vote) (login : List ℕ) (ranks : List Mark) (a b : ℕ) → IsNone (get vote login)
    → preference_count (insert vote login ranks) a b ≡ preference_count vote a b + cond (prefers ranks a b) 1 0
preference_count-insert vote login ranks a b new =
    ap (count_by (λ voter. prefers voter.1 a b)) (entries-insert nat_list_cmp_total vote login ranks)
    ∙ count_by-put (slice_cmp nat_cmp) (λ voter. prefers voter.1 a b) login ranks (entries vote) (sym (get-entries vote login) ∙ is_None _ new)

-- and is one voter more
pub voters-insert : (vote : Vote) (login : List ℕ) (ranks : List Mark) → IsNone (get vote login) → len (insert vote login ranks) ≡ len vote + 1
voters-insert vote login ranks new =
    len-insert nat_list_cmp_total vote login ranks ∙ ap (λ o. cond (is_some o) (len vote) (len vote + 1)) (is_None _ new)
