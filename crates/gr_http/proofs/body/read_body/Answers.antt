-- What came with the head is the front of the body.
use Rattle.std.proofs.Common.{◌≡◌, ℕ, ◌+◌, List, [], ◌++◌, length, Option, arith, subst, append-nil, length-append}
use Rattle.std.specs.Prelude.{min}
use Rattle.gr_http.specs.Reads.{Reads, AreNeeded, AreSoMany}
use Rattle.gr_http.proofs.ReadLemmas.{Reads-weaker, needed-behind}
use Rattle.gr_http.proofs.body.read_body.Goals as goal

-- where there is enough for the body, there is enough after its front
enough : (came front back more : List ℕ) (whole here : ℕ) → length front ≡ here → here ≡ min (length came) whole → length back + here ≡ whole
    → AreSoMany (length (front ++ back)) (came ++ more) → AreSoMany (length back) more
enough came front back more whole here same least rest many = omega (arith, length-append front back, length-append came more)

behind : (a b : Option (List (List ℕ))) (came front back : List ℕ) (whole here : ℕ) → length front ≡ here → here ≡ min (length came) whole
    → length back + here ≡ whole → Reads a b (AreNeeded (AreSoMany (length back)) [])
    → Reads a b (AreNeeded (AreSoMany (length (front ++ back))) came)
behind a b came front back whole here same least rest reads =
    Reads-weaker a b (AreNeeded (AreSoMany (length back)) []) (AreNeeded (AreSoMany (length (front ++ back))) came)
    (λ calls needed. subst (λ l. AreNeeded (AreSoMany (length (front ++ back))) l calls) (append-nil came)
    (needed-behind (AreSoMany (length back)) (AreSoMany (length (front ++ back))) came [] calls
    (λ more many. enough came front back more whole here same least rest many) needed))
    reads

pub returns-in_err-count-clause-needed : goal.returns-in_err-count-clause-needed
returns-in_err-count-clause-needed g c =
    behind _ _ _ _ _ (length c.args.body.now) c.min-here.result (let e = c.copy_from_slice.ensures.len in let f = c.split_at_mut-front.ensures.front_len in cc)
    c.min-here.ensures (let e = c.fill.auto.buffer in let f = c.split_at_mut-front.ensures.back_len in omega arith) c.fill.ensures.needed

pub returns-clause-needed : goal.returns-clause-needed
returns-clause-needed g c =
    behind _ _ _ _ _ (length c.args.body.now) c.min-here.result (let e = c.copy_from_slice.ensures.len in let f = c.split_at_mut-front.ensures.front_len in cc)
    c.min-here.ensures (let e = c.fill.auto.buffer in let f = c.split_at_mut-front.ensures.back_len in omega arith) c.fill.ensures.needed
