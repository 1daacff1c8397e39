-- The lines of a tally have the ranks of the ballots, so that their count is that of the vote.
use Rattle.std.proofs.Common.{◌≡◌, ℕ, ◌+◌, ◌-◌, Bool, cond, List, [], ◌∷◌, map, count_by, Option, Some, None, IfSome, refl, sym, ◌∙◌, subst}
use Rattle.std.specs.Prelude.{slice_index}
use Rattle.std.specs.FinMap.{get}
use Rattle.std.specs.List.{All, AllByRecursion}
use Rattle.std.proofs.lemmas.List.Elements.{All-head, All-tail, All-weaker, recursion_from_All}
use Rattle.std.proofs.lemmas.List.{length-map}
use Rattle.std.proofs.lemmas.List.Sorted.{sum_by-IsPermutation, length_permutation}
use Rattle.std.proofs.lemmas.List.Sums.{sum_by-cons}
use Rattle.gr_count.specs.declared.mark.Mark.{Mark}
use Rattle.gr_count.specs.Ballot.{character_of, mark_of, prefers, preference_count}
use Rattle.gr_count.specs.Findings.{Findings, AreFindings}
use Rattle.gr_core.specs.declared.discussion.Discussion.{Discussion}
use Rattle.gr_core.specs.declared.resolution.Poll.{Poll}
use Rattle.gr_core.specs.declared.resolution.Resolution.TheVariants.{Closed}
use Rattle.gr_core.specs.Parts.Key.{BallotKey}
use Rattle.gr_core.specs.Parts.Ballot.{BallotModel, IsMark, ballots_of, vote_of}
use Rattle.gr_core.specs.Desks.Outcome.{place_count, ratios_on_ballot, election_at}
use Rattle.gr_core.specs.Desks.State.{State}
use Rattle.gr_core.specs.Desks.Valid.{IsValid, IsBallotIn}
use Rattle.gr_core.specs.Laws.VotingLaws.{BallotsAreRight, VotesCountTheirBallots, ChosenPlacesAreTied}
use Rattle.gr_core.proofs.Columns.RanksLemmas.{mark_of-character_of}
use Rattle.gr_core.proofs.Collections.CountLemmas.{count-map}
use Rattle.gr_sheet.specs.TallySheet.{ShownBallot, AreShown, shown}
use Rattle.gr_sheet.specs.Laws.{marks_shown, election_in_tally, IsOneOfSeveral, ResultsFollowFromTallies}
use Rattle.gr_sheet.proofs.TiedPlaces.{one_of_several}
use Rattle.gr_sheet.proofs.ClosedSheets.{result_of}

-- the characters of marks say the marks
read_back : (ranks : List Mark) → All IsMark ranks → map mark_of (map character_of ranks) ≡ ranks
read_back [] all = refl
read_back (mark ∷ ranks) all =
    let first = mark_of-character_of mark (All-head IsMark mark ranks all) in
    let rest = read_back ranks (All-tail IsMark mark ranks all) in
    λ i. first i ∷ rest i

-- a line of the tally has the ranks of its ballot
abbrev HasItsRanks : BallotKey × BallotModel → Type 0
HasItsRanks entry = marks_shown (shown entry) ≡ entry.1.ranks

counted_as_shown : (test : List Mark → Bool) (es : List (BallotKey × BallotModel)) → AllByRecursion HasItsRanks es
    → count_by (λ ballot. test (marks_shown ballot)) (map shown es) ≡ count_by (λ entry. test entry.1.ranks) es
counted_as_shown test [] all = refl
counted_as_shown test (e ∷ es) all =
    let first = all.0 in
    let rest = counted_as_shown test es all.1 in
    sum_by-cons (λ ballot. cond (test (marks_shown ballot)) 1 0) (shown e) (map shown es)
    ∙ (λ i. cond {A = ℕ} (test (first i)) 1 0 + rest i)
    ∙ sym (sum_by-cons (λ entry. cond (test entry.1.ranks) 1 0) e es)

module _ (counts : VotesCountTheirBallots) (right : BallotsAreRight) (tied : ChosenPlacesAreTied) where
  -- as many lines as ballots prefer the one option to the other
  same_preference : (s : State) (number : ℕ) (ballots : List ShownBallot) → IsValid s → AreShown s number ballots → (a b : ℕ)
      → preference_count (vote_of s.ballots number) a b ≡ count_by (λ ranks. prefers ranks a b) (map marks_shown ballots)
  same_preference s number ballots valid are a b =
      let es = ballots_of s.ballots number in
      let all : AllByRecursion HasItsRanks es = recursion_from_All HasItsRanks es
      (All-weaker (λ entry. IsBallotIn s number entry.0.1 entry.1) HasItsRanks
      (λ entry is. read_back entry.1.ranks is.ranks.marks) es (right s number valid)) in
      counts s number a b
      ∙ sym (counted_as_shown (λ ranks. prefers ranks a b) es all)
      ∙ sym (sum_by-IsPermutation (λ ballot. cond (prefers (marks_shown ballot) a b) 1 0) (map shown es) ballots are.each)
      ∙ sym (count-map (λ ranks. prefers ranks a b) marks_shown ballots)

  same_election : (s : State) (number : ℕ) (poll : Poll) (ballots : List ShownBallot) → IsValid s → AreShown s number ballots
      → election_at s number poll ≡ election_in_tally s number poll ballots
  same_election s number poll ballots valid are = λ i. record {
    default = place_count s.choices number - 1;
    preference = λ a b. same_preference s number ballots valid are a b i;
    developers = poll.developers;
    ratio = slice_index (ratios_on_ballot s.choices number);
  }

  -- what was chosen, if anything was, is one of several
  chosen_of_several : (s : State) (number : ℕ) (discussion : Discussion) (poll : Poll) (chosen : Option ℕ) (found : Findings)
      → IsValid s → get s.resolutions number ≡ Some (Closed discussion poll chosen) → AreFindings (election_at s number poll) found
      → IfSome chosen (IsOneOfSeveral s number found)
  chosen_of_several s number discussion poll None found valid is are = tt
  chosen_of_several s number discussion poll (Some place) found valid is are =
      one_of_several s number poll found are place (tied s number discussion poll place valid is)

  pub results_follow : ResultsFollowFromTallies
  results_follow s number discussion poll chosen ballots valid is lines =
      let same = same_election s number poll ballots valid lines in (
        same,
        length_permutation (map shown (ballots_of s.ballots number)) ballots lines.each ∙ length-map (ballots_of s.ballots number) shown,
        λ text shows.
            let (found, finds, reads) = result_of s number discussion poll chosen is text shows in (
              found,
              subst (λ e. AreFindings e found) same finds,
              reads,
              chosen_of_several s number discussion poll chosen found valid is finds,
            ),
      )
