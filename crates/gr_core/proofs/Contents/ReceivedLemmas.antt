-- How many votes were accepted on a resolution, as its ballots are put.
use Rattle.std.proofs.Common.{◌≡◌, ℕ, ◌+◌, ◌*◌, ◌^◌, ◌<◌, ◌≤◌, Bool, true, cond, List, [], ◌∷◌, length, Option, Some, None, refl, sym, ap, ◌∙◌, arith}
use Rattle.std.specs.Prelude.{nat_eq}
use Rattle.std.specs.Cmp.{nat_eq_equiv}
use Rattle.std.specs.List.{All, AllByRecursion, sum_by}
use Rattle.std.specs.FinMap.{FinMap, entries, get, insert}
use Rattle.std.proofs.Math.Nat.{mul-le-mul_left}
use Rattle.std.proofs.lemmas.List.Elements.{All-from_recursion}
use Rattle.std.proofs.lemmas.List.Sums.{sum_by-le}
use Rattle.gr_count.specs.declared.limits.TheConstants.{MAX_BALLOTS}
use Rattle.gr_core.specs.declared.limits.TheConstants.{MAX_ACCEPTED}
use Rattle.gr_core.specs.Parts.Key.{BallotKey, ballot_cmp}
use Rattle.gr_core.specs.Parts.Ballot.{BallotModel, ballots_of, received_of, votes_received}
use Rattle.gr_core.specs.Desks.State.{State}
use Rattle.gr_core.specs.Desks.Valid.{IsValid}
use Rattle.gr_core.proofs.Contents.BallotKeys.{ballot_total, ballot_only}
use Rattle.gr_core.proofs.Collections.CountLemmas.{amount_where, sum-filter, sum-insert}
use Rattle.gr_core.proofs.Collections.PresenceLemmas.{not_None}
use Rattle.gr_core.proofs.Contents.ElectionLemmas.{few_ballots}
use Rattle.gr_core.proofs.Contents.OnRollLemmas.{IsBallotOf, all_ballots_of}
use Rattle.gr_core.proofs.Collections.ListLemmas.{each_more}

abbrev Entry : Type 0
Entry = BallotKey × BallotModel

-- of a ballot that stood, on the resolution itself
stood : (tie : Bool) → tie ≡ true → (found : Option BallotModel)
    → amount_where (λ (ballot : BallotModel). cond tie ballot.received 0) found ≡ received_of found
stood tie is None = refl
stood tie is (Some ballot) = ap (λ b. cond b ballot.received 0) is

-- a ballot that is put adds its number, in the place of that of the ballot that stood
pub votes_received-put : (ballots : FinMap ballot_cmp BallotModel) (number : ℕ) (login : List ℕ) (row : BallotModel)
    → votes_received (insert ballots (number, login) row) number + received_of (get ballots (number, login))
    ≡ votes_received ballots number + row.received
votes_received-put ballots number login row =
    let amount : Entry → ℕ = λ entry. cond (nat_eq number entry.0.0) entry.1.received 0 in
    let same : nat_eq number number ≡ true = nat_eq_equiv.refl number in
    let after : votes_received (insert ballots (number, login) row) number ≡ sum_by amount (entries (insert ballots (number, login) row)) =
    sum-filter (λ (entry : Entry). entry.1.received) (λ entry. nat_eq number entry.0.0) (entries (insert ballots (number, login) row)) in
    let before : votes_received ballots number ≡ sum_by amount (entries ballots) =
    sum-filter (λ (entry : Entry). entry.1.received) (λ entry. nat_eq number entry.0.0) (entries ballots) in
    let here : cond (nat_eq number number) row.received 0 ≡ row.received = ap (λ b. cond b row.received 0) same in
    let was = stood (nat_eq number number) same (get ballots (number, login)) in
    let put = sum-insert ballot_total ballot_only amount ballots (number, login) row in
    omega arith

-- where a resolution has no ballot, no vote was accepted on it
pub votes_received-none : (ballots : FinMap ballot_cmp BallotModel) (number : ℕ) → ((login : List ℕ) → get ballots (number, login) ≡ None)
    → votes_received ballots number ≡ 0
votes_received-none ballots number none = nothing (ballots_of ballots number) (all_ballots_of ballots number)
  where
    nothing : (es : List Entry) → AllByRecursion (IsBallotOf ballots number) es → sum_by (λ entry. entry.1.received) es ≡ 0
    nothing [] each = refl
    nothing (e ∷ es) each =
        absurd (not_None e.1 (sym (none e.0.1) ∙ ap (λ n. get ballots (n, e.0.1)) each.0.0 ∙ each.0.1))

-- there is room for one more
pub room_to_receive : (s : State) → IsValid s → (number : ℕ) → votes_received s.ballots number + 1 < 2 ^ 64
room_to_receive s valid number =
    let es = ballots_of s.ballots number in
    let accepted = s.header.accepted in
    let each : All (λ (entry : Entry). entry.1.received ≤ accepted) es =
    All-from_recursion (λ (entry : Entry). entry.1.received ≤ accepted) es
    (each_more (IsBallotOf s.ballots number) (λ entry. entry.1.received ≤ accepted)
    (λ entry is. (valid.votes.ballots entry.0.0 entry.0.1 entry.1 is.1).received.1) es (all_ballots_of s.ballots number)) in
    let sum : votes_received s.ballots number ≤ length es * accepted = sum_by-le (λ (entry : Entry). entry.1.received) accepted es each in
    let few : length es ≤ MAX_BALLOTS = few_ballots s valid.tables number valid.votes.ballots in
    let most : accepted ≤ MAX_ACCEPTED = valid.header.accepted in
    let product : accepted * length es ≤ accepted * MAX_BALLOTS = mul-le-mul_left accepted few in
    omega arith
