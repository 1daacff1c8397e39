use Rattle.std.proofs.Common.{◌≡◌, ◌+◌, ◌∷◌, length, ap, ◌∙◌, arith, rules}
use Rattle.std.specs.BTreeMap.{values}
use Rattle.std.specs.List.{sum_by}
use Rattle.std.proofs.lemmas.List.{length-map}
use Rattle.std.proofs.lemmas.List.Sums.{sum_by-cons}
use Rattle.gr_core.specs.declared.ballot.Ballot.{Ballot}
use Rattle.gr_core.proofs.ballots.received_in.Goals as goal

pub overflow_add-received : goal.overflow_add-received
overflow_add-received c =
    let turn : c.loop-ballot.ballot-iterator ≡ c.in-Some.ballot.now ∷ c.next.new.self = search rules in
    let long : length c.loop-ballot.ballot-iterator ≡ length c.next.new.self + 1 = ap length turn ∙ omega arith in
    let small = c.received_of-received.ensures.small in
    let all : length (values c.args.ballots.now) ≡ length c.args.ballots.now.entries =
    length-map c.args.ballots.now.entries (λ entry. entry.1) in
    let few = c.requires in
    let room = c.loop-ballot.invariant.room in
    omega arith

pub loop-ballot-preserved : goal.loop-ballot-preserved
loop-ballot-preserved c =
    let turn : c.loop-ballot.ballot-iterator ≡ c.in-Some.ballot.now ∷ c.next.new.self = search rules in
    let long : length c.loop-ballot.ballot-iterator ≡ length c.next.new.self + 1 = ap length turn ∙ omega arith in
    let small = c.received_of-received.ensures.small in
    let told = c.received_of-received.ensures.received in
    let sum = c.loop-ballot.invariant.sum in
    let room = c.loop-ballot.invariant.room in
    let rest = ap (sum_by (λ (ballot : Ballot). ballot.received)) turn
    ∙ sum_by-cons (λ (ballot : Ballot). ballot.received) c.in-Some.ballot.now c.next.new.self in
    record { sum = omega arith; room = omega arith }
