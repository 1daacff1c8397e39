-- The preference counts of a vote, ballot by ballot.
use Rattle.std.proofs.Common.{◌≡◌, ℕ, List, [], ◌∷◌, map, length, count_by, sym, ap, ◌∙◌, subst}
use lib.Dec.{T}
use Rattle.std.specs.List.{AllByRecursion}
use Rattle.std.specs.Ordering.{nat_cmp, is_lt, ordering_then}
use Rattle.std.specs.Cmp.{nat_cmp_total, tied_itself}
use Rattle.std.specs.FinMap.{FinMap, entries, get, is_sorted, len, len-entries}
use Rattle.std.proofs.lemmas.List.{length-map}
use Rattle.std.specs.FinMap.Entries.{below_all}
use Rattle.gr_count.specs.Ballot.{prefers}
use Rattle.gr_core.specs.Parts.Key.{BallotKey, text_cmp, ballot_cmp}
use Rattle.gr_core.specs.Parts.Ballot.{BallotModel, ballots_of, voter_of, vote_of}
use Rattle.std.proofs.lemmas.List.Elements.{All-from_recursion}
use Rattle.gr_core.specs.Desks.Valid.{IsBallotIn}
use Rattle.gr_core.specs.Laws.VotingLaws.{BallotsAreRight, VotesCountTheirBallots}
use Rattle.gr_core.proofs.Collections.CountLemmas.{count-map}
use Rattle.gr_core.proofs.Collections.TableLemmas.{both, former, latter, entries-from_entries}
use Rattle.gr_core.proofs.Collections.TextKeys.{text_total, text_only}
use Rattle.gr_core.proofs.Contents.OnRollLemmas.{IsBallotOf, all_ballots_of, sorted_ballots_of}
use Rattle.gr_core.proofs.Collections.ListLemmas.{each_more}

abbrev Entry : Type 0
Entry = BallotKey × BallotModel

-- on one resolution the order of ballots is that of their logins
same_order : (n m : ℕ) (a b : List ℕ) → n ≡ m → T (is_lt (ballot_cmp (n, a) (m, b))) → T (is_lt (text_cmp a b))
same_order n m a b same less =
    subst (λ r. T (is_lt (ordering_then r (text_cmp a b)))) (ap (nat_cmp n) (sym same) ∙ tied_itself nat_cmp_total n) less

below_voters : (number : ℕ) (login : List ℕ) (es : List Entry) → AllByRecursion (λ e. number ≡ e.0.0) es
    → T (below_all ballot_cmp (number, login) es) → T (below_all text_cmp login (map voter_of es))
below_voters number login [] on below = tt
below_voters number login (e ∷ es) on below =
    both _ _ (same_order number e.0.0 login e.0.1 on.0 (former _ _ below)) (below_voters number login es on.1 (latter _ _ below))

sorted_voters : (number : ℕ) (es : List Entry) → AllByRecursion (λ e. number ≡ e.0.0) es → T (is_sorted ballot_cmp es)
    → T (is_sorted text_cmp (map voter_of es))
sorted_voters number [] on sorted = tt
sorted_voters number (e ∷ es) on sorted =
    both _ _ (below_voters number e.0.1 es on.1 (subst (λ n. T (below_all ballot_cmp (n, e.0.1) es)) (sym on.0) (former _ _ sorted)))
    (sorted_voters number es on.1 (latter _ _ sorted))

-- a vote has the voters of its ballots, in their order
voters_of : (ballots : FinMap ballot_cmp BallotModel) (number : ℕ) → entries (vote_of ballots number) ≡ map voter_of (ballots_of ballots number)
voters_of ballots number =
    let es = ballots_of ballots number in
    let on : AllByRecursion (λ e. number ≡ e.0.0) es =
    each_more (IsBallotOf ballots number) (λ e. number ≡ e.0.0) (λ e is. is.0) es (all_ballots_of ballots number) in
    entries-from_entries text_total text_only (map voter_of es) (sorted_voters number es on (sorted_ballots_of ballots number))

-- as many as there are ballots
pub voters_as_ballots : (ballots : FinMap ballot_cmp BallotModel) (number : ℕ) → len (vote_of ballots number) ≡ length (ballots_of ballots number)
voters_as_ballots ballots number =
    len-entries (vote_of ballots number) ∙ ap length (voters_of ballots number) ∙ length-map (ballots_of ballots number) voter_of

pub counted_by_ballots : VotesCountTheirBallots
counted_by_ballots s number a b =
    ap (count_by (λ voter. prefers voter.1 a b)) (voters_of s.ballots number)
    ∙ count-map (λ voter. prefers voter.1 a b) voter_of (ballots_of s.ballots number)

pub right_ballots : BallotsAreRight
right_ballots s number valid =
    let es = ballots_of s.ballots number in
    All-from_recursion (λ e. IsBallotIn s number e.0.1 e.1) es
    (each_more (IsBallotOf s.ballots number) (λ e. IsBallotIn s number e.0.1 e.1)
    (λ e is. valid.votes.ballots number e.0.1 e.1 (ap (λ n. get s.ballots (n, e.0.1)) is.0 ∙ is.1))
    es (all_ballots_of s.ballots number))
