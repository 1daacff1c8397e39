-- What the sheets of a closed resolution show depends on its choices and its ballots alone, and these stay.
use Rattle.std.proofs.Common.{◌≡◌, ℕ, ◌+◌, List, [], ◌∷◌, ◌++◌, map, filter, length, Option, Some, is_some, IsTrue, refl, sym, ◌∙◌, subst, codes, decimal}
use Rattle.std.specs.Prelude.{slice_index}
use Rattle.std.proofs.lemmas.List.{append_assoc, append-nil}
use Rattle.std.specs.List.{concat, filter_map, flat_map, sum_by}
use Rattle.std.specs.List.Sorted.{IsPermutation}
use Rattle.std.specs.FinMap.{get, from_entries}
use Rattle.gr_count.specs.Election.{Election}
use Rattle.gr_count.specs.Findings.{Findings, AreFindings}
use Rattle.gr_count.specs.Shown.{election_by_voters}
use Rattle.gr_core.specs.declared.choice.ChoiceKey.{ChoiceKey}
use Rattle.gr_core.specs.declared.discussion.Discussion.{Discussion}
use Rattle.gr_core.specs.declared.resolution.Poll.{Poll}
use Rattle.gr_core.specs.declared.resolution.Resolution.TheVariants.{Closed}
use Rattle.gr_core.specs.Parts.Key.{BallotKey}
use Rattle.gr_core.specs.Parts.Choice.{ChoiceModel, choices_of}
use Rattle.gr_core.specs.Parts.Ballot.{BallotModel, ballots_of, voter_of}
use Rattle.gr_core.specs.Desks.State.{State}
use Rattle.gr_core.specs.Desks.Valid.{places_of}
use Rattle.gr_core.specs.Parts.Resolution.{is_closed}
use Rattle.gr_core.specs.Desks.Outcome.{election_at}
use Rattle.gr_core.specs.Laws.MachineLaws.{CommandsKeepADeskValid}
use Rattle.gr_core.specs.Laws.ResolutionLaws.{ActsTouchOneResolution}
use Rattle.gr_core.specs.Laws.VotingLaws.{ClosedVotesStay, CastingVotesChooseAmongTheTied}
use Rattle.gr_core.proofs.Collections.PresenceLemmas.{given, of_value}
use Rattle.gr_sheet.specs.declared.kind.Kind.TheVariants.{Tally, Result}
use Rattle.gr_sheet.specs.Ballot.{called_lines, option_line, place_and_summary}
use Rattle.gr_sheet.specs.TallySheet.{ShownBallot, IsTally, ballot_line, shown}
use Rattle.gr_sheet.specs.ResultSheet.{IsResult, IsResultOf, count_lines, last_line, members_of}
use Rattle.gr_sheet.specs.Sheet.{IsSheet}
use Rattle.gr_sheet.specs.Laws.{ClosedSheetsStay}
use Rattle.gr_sheet.proofs.CastOnce.{chosen_in}

abbrev Choices : Type 0
Choices = List (ChoiceKey × ChoiceModel)

abbrev Ballots : Type 0
Ballots = List (BallotKey × BallotModel)

-- ==== what is shown of these choices and these ballots

abbrev places_by : Choices → ℕ
places_by choices = length (filter (λ entry. is_some entry.1.place) choices) + 1

abbrev option_lines_by : Choices → List ℕ
option_lines_by choices =
    flat_map option_line (filter_map place_and_summary choices) ++ option_line (places_by choices, codes "None of the above")

abbrev ballots_line_by : Ballots → List ℕ
ballots_line_by ballots = concat (codes "Ballots: " ∷ decimal (length ballots) ∷ codes "\n" ∷ [])

abbrev received_line_by : Ballots → List ℕ
received_line_by ballots = concat (
    codes "Received: " ∷ decimal (sum_by (λ entry. entry.1.received) ballots) ∷ codes "\n" ∷ [])

-- what a result says of the vote above its count
abbrev vote_lines_by : Poll → Choices → Ballots → List ℕ
vote_lines_by poll choices ballots = concat (
    called_lines poll ∷ ballots_line_by ballots ∷ received_line_by ballots ∷ option_lines_by choices ∷ [])

abbrev tally_by : ℕ → List ShownBallot → Choices → Ballots → List ℕ
tally_by number lines choices ballots = concat (codes "Tally of resolution " ∷ decimal number ∷ codes "\n"
    ∷ option_lines_by choices ∷ ballots_line_by ballots ∷ flat_map ballot_line lines ∷ [])

abbrev election_by : Poll → Choices → Ballots → Election
election_by poll choices ballots = election_by_voters (places_by choices) (from_entries (map voter_of ballots)) poll.developers
    (slice_index (map (λ entry. entry.1.ratio) (filter (λ entry. is_some entry.1.place) choices) ++ 1 ∷ []))

-- what a result says above its last line
abbrev before_last : ℕ → Poll → Findings → Choices → Ballots → List ℕ
before_last number poll found choices ballots = concat (codes "Result of resolution " ∷ decimal number ∷ codes "\n"
    ∷ vote_lines_by poll choices ballots
    ∷ count_lines (election_by poll choices ballots) found (places_of choices) (places_by choices) ∷ [])

-- the whole with its last line
abbrev result_by : ℕ → Poll → Option ℕ → Findings → Choices → Ballots → List ℕ
result_by number poll chosen found choices ballots = concat (codes "Result of resolution " ∷ decimal number ∷ codes "\n"
    ∷ vote_lines_by poll choices ballots
    ∷ count_lines (election_by poll choices ballots) found (places_of choices) (places_by choices)
    ∷ last_line (members_of found.outcome (places_by choices)) chosen ∷ [])

in_two : (title number end votes count last : List ℕ)
    → concat (title ∷ number ∷ end ∷ votes ∷ count ∷ last ∷ []) ≡ concat (title ∷ number ∷ end ∷ votes ∷ count ∷ []) ++ last
in_two title number end votes count last = simp (append_assoc, append-nil)

with_last_line : (number : ℕ) (poll : Poll) (chosen : Option ℕ) (found : Findings) (choices : Choices) (ballots : Ballots)
    → result_by number poll chosen found choices ballots
    ≡ before_last number poll found choices ballots ++ last_line (members_of found.outcome (places_by choices)) chosen
with_last_line number poll chosen found choices ballots =
    in_two (codes "Result of resolution ") (decimal number) (codes "\n")
    (vote_lines_by poll choices ballots)
    (count_lines (election_by poll choices ballots) found (places_of choices) (places_by choices))
    (last_line (members_of found.outcome (places_by choices)) chosen)

-- ==== two states with the same of both

module _ (s t : State) (number : ℕ) (choices : choices_of t.choices number ≡ choices_of s.choices number)
    (ballots : ballots_of t.ballots number ≡ ballots_of s.ballots number) where
  tally_stays : (text : List ℕ) → IsTally s number text → IsTally t number text
  tally_stays text (lines, are, is) = (
    lines,
    record {
      each = subst (λ rows. IsPermutation (map shown rows) lines) (sym ballots) are.each;
      ordered = are.ordered;
    },
    is ∙ sym (λ i. tally_by number lines (choices i) (ballots i)),
  )

  -- what is counted
  election_stays : (poll : Poll) → election_at t number poll ≡ election_at s number poll
  election_stays poll = λ i. election_by poll (choices i) (ballots i)

  -- the result in two parts, of which the last line alone depends on what is chosen
  result_stays : (poll : Poll) (chosen later : Option ℕ) (text : List ℕ) → IsResult s number poll chosen text
      → (before : List ℕ) × (members : List ℕ) × (text ≡ before ++ last_line members chosen)
      × IsResult t number poll later (before ++ last_line members later)
  result_stays poll chosen later text (found, finds, is) =
      let rows = choices_of s.choices number in
      let cast = ballots_of s.ballots number in (
        before_last number poll found rows cast,
        members_of found.outcome (places_by rows),
        is ∙ with_last_line number poll chosen found rows cast,
        (
          found,
          subst (λ e. AreFindings e found) (sym (election_stays poll)) finds,
          sym (with_last_line number poll later found rows cast) ∙ sym (λ i. result_by number poll later found (choices i) (ballots i)),
        ),
      )

-- ==== the sheets of a closed resolution

module _ (s : State) (number : ℕ) (discussion : Discussion) (poll : Poll) (chosen : Option ℕ)
    (is : get s.resolutions number ≡ Some (Closed discussion poll chosen)) where
  tally_of : (text : List ℕ) → IsSheet s Tally number text → IsTally s number text
  tally_of text shows =
      (of_value (get s.resolutions number) (λ row. IsTrue (is_closed row) × IsTally s number text) (Closed discussion poll chosen) is shows).1

  has_tally : (text : List ℕ) → IsTally s number text → IsSheet s Tally number text
  has_tally text shows =
      given (get s.resolutions number) (λ row. IsTrue (is_closed row) × IsTally s number text) (Closed discussion poll chosen) is (refl, shows)

  pub result_of : (text : List ℕ) → IsSheet s Result number text → IsResult s number poll chosen text
  result_of text = of_value (get s.resolutions number) (λ row. IsResultOf s number row text) (Closed discussion poll chosen) is

  has_result : (text : List ℕ) → IsResult s number poll chosen text → IsSheet s Result number text
  has_result text = given (get s.resolutions number) (λ row. IsResultOf s number row text) (Closed discussion poll chosen) is

pub sheets_stay : ClosedVotesStay → ActsTouchOneResolution → CastingVotesChooseAmongTheTied → CommandsKeepADeskValid → ClosedSheetsStay
sheets_stay stay touch casts keep s acts answers t number discussion poll chosen valid is after =
    let ((later, row, once), choices, ballots) = stay s acts answers t number discussion poll chosen valid is after in (
      later,
      row,
      once,
      chosen_in touch casts keep s acts answers t number discussion poll chosen later valid is after row,
      record {
        tally = λ text shows. has_tally t number discussion poll later row text
            (tally_stays s t number choices ballots text (tally_of s number discussion poll chosen is text shows));
        election = election_stays s t number choices ballots poll;
        result = λ text shows.
            let (before, members, reads, then) = result_stays s t number choices ballots poll chosen later text
            (result_of s number discussion poll chosen is text shows) in
            (before, members, reads, has_result t number discussion poll later row (before ++ last_line members later) then);
      },
    )
