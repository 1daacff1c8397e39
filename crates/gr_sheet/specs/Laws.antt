-- What a reader expects of sheets.
use Rattle.std.specs.Prelude.{◌≡◌, ℕ, ◌-◌, ◌<◌, false, if◌then◌else◌, nat_eq, List, ◌++◌, map, length, Option, Some, None, IsSome, IsTrue, IfSome, slice_index, option_to_list}
use Rattle.std.specs.List.{count_by, filter_map}
use Rattle.std.specs.FinMap.{get}
use Rattle.gr_count.specs.declared.mark.Mark.{Mark}
use Rattle.gr_count.specs.Ballot.{mark_of, prefers}
use Rattle.gr_count.specs.Election.{Election}
use Rattle.gr_count.specs.Findings.{Findings, AreFindings}
use Rattle.gr_core.specs.declared.discussion.Discussion.{Discussion}
use Rattle.gr_core.specs.declared.refusal.Refusal.{Refusal}
use Rattle.gr_core.specs.declared.resolution.Poll.{Poll}
use Rattle.gr_core.specs.declared.resolution.Resolution.TheVariants.{Closed}
use Rattle.gr_core.specs.Parts.Ballot.{ballots_of}
use Rattle.gr_core.specs.Desks.Outcome.{place_count, ratios_on_ballot, election_at, IsPlace, option_at}
use Rattle.gr_core.specs.Desks.State.{State}
use Rattle.gr_core.specs.Laws.Secrecy.{AreAlike}
use Rattle.gr_core.specs.Desks.Valid.{IsValid}
use Rattle.gr_core.specs.Machine.Act.{Act, Cast}
use Rattle.gr_core.specs.Machine.Step.{Answer}
use Rattle.gr_core.specs.Machine.Run.{After, accepted_acts}
use Rattle.gr_sheet.specs.declared.kind.Kind.{Kind}
use Rattle.gr_sheet.specs.declared.kind.Kind.TheVariants.{Tally, Result}
use Rattle.gr_sheet.specs.declared.no_sheet.NoSheet.{NoSheet}
use Rattle.gr_sheet.specs.TallySheet.{ShownBallot, AreShown}
use Rattle.gr_sheet.specs.ResultSheet.{result_sheet, members_of, last_line}
use Rattle.gr_sheet.specs.Sheet.{IsSheet, IsRefused, IsMissing, shows_ballots}

-- A state has one text of a sheet at most, or one refusal, and not both.
pub record IsDetermined (s : State) (kind : Kind) (number : ℕ) : Type 0 where
  pub text : (one other : List ℕ) → IsSheet s kind number one → IsSheet s kind number other → one ≡ other
  pub refusal : (one other : Refusal) → IsRefused s kind number one → IsRefused s kind number other → one ≡ other
  pub never_both : (text : List ℕ) (refusal : Refusal)
      → IsSheet s kind number text → ¬ (IsRefused s kind number refusal)

abbrev pub SheetsAreDetermined : Type 0
SheetsAreDetermined = (s : State) (kind : Kind) (number : ℕ) → IsDetermined s kind number

-- It has one of them: not each text and each refusal can be wrong.
abbrev pub SheetsAreShownOrRefused : Type 0
SheetsAreShownOrRefused = (s : State) (kind : Kind) (number : ℕ)
    → ¬ (((text : List ℕ) → ¬ (IsSheet s kind number text))
    × ((refusal : Refusal) → ¬ (IsRefused s kind number refusal)))

-- What is right to answer on the one desk is right on the other: each text, and each reason why there is none, be it a
-- refusal or that memory runs out.
pub record ShowsTheSame (s t : State) (kind : Kind) (number : ℕ) : Type 0 where
  pub text : (text : List ℕ) → IsSheet s kind number text → IsSheet t kind number text
  pub missing : (no_sheet : NoSheet) → IsMissing s kind number no_sheet → IsMissing t kind number no_sheet

-- No sheet reveals ballots of a vote that is not closed (Constitution, 4.2.3): what is right to answer on a desk is
-- right on each that has the same rows but for such ballots.
abbrev pub SheetsRevealNothing : Type 0
SheetsRevealNothing = (s t : State) (kind : Kind) (number : ℕ) → IsValid s → IsValid t → AreAlike s t
    → ShowsTheSame s t kind number

-- Both have the same rows of each table but that of the ballots, of closed votes or not. Their headers may differ too.
pub record AreAlikeButForBallots (s t : State) : Type 0 where
  pub developers : t.developers ≡ s.developers
  pub resolutions : t.resolutions ≡ s.resolutions
  pub choices : t.choices ≡ s.choices
  pub sponsors : t.sponsors ≡ s.sponsors

-- no sheet but the tally and the result depends on ballots at all
abbrev pub OnlyTalliesAndResultsShowBallots : Type 0
OnlyTalliesAndResultsShowBallots = (s t : State) (kind : Kind) (number : ℕ)
    → shows_ballots kind ≡ false → AreAlikeButForBallots s t → ShowsTheSame s t kind number

-- ==== closed votes

-- what a line of the tally says of the option of each place
abbrev pub marks_shown : ShownBallot → List Mark
marks_shown ballot = map mark_of ballot.ranks

-- the election of so many places in which these ballots were cast, whoever cast them (Constitution, A.5.3.1)
abbrev pub election_by_ballots : ℕ → List (List Mark) → ℕ → (ℕ → ℕ) → Election
election_by_ballots places ballots developers ratio = record {
  default = places - 1;
  preference = λ a b. count_by (λ ranks. prefers ranks a b) ballots;
  developers = developers;
  ratio = ratio;
}

-- that of the lines of a tally, with the developers at the call and the ratios of the options
abbrev pub election_in_tally : State → ℕ → Poll → List ShownBallot → Election
election_in_tally s number poll ballots = election_by_ballots (place_count s.choices number) (map marks_shown ballots)
    poll.developers (slice_index (ratios_on_ballot s.choices number))

-- The place is one of the ballot, and its option one of several in the outcome set of these findings: the set as the
-- result shows it.
pub record IsOneOfSeveral (s : State) (number : ℕ) (found : Findings) (chosen : ℕ) : Type 0 where
  pub place : IsPlace s number chosen
  pub member : IsTrue (found.outcome (option_at chosen))
  pub several : 1 < length (members_of found.outcome (place_count s.choices number))

-- Who has the tally and the result can count the vote: the election whose count the result shows is that of the ranks
-- in the lines of the tally, and both sheets give the number of these lines as that of the ballots (Constitution, 4.2.3
-- and A.5). The place that the result shows as chosen is the one that the desk has, and there is none but where the
-- outcome set has several members, of which it is one (Constitution, A.5.8).
abbrev pub ResultsFollowFromTallies : Type 0
ResultsFollowFromTallies = (s : State) (number : ℕ) (discussion : Discussion) (poll : Poll) (chosen : Option ℕ)
    (ballots : List ShownBallot)
    → IsValid s → get s.resolutions number ≡ Some (Closed discussion poll chosen) → AreShown s number ballots
    → (election_at s number poll ≡ election_in_tally s number poll ballots)
    × (length ballots ≡ length (ballots_of s.ballots number))
    × ((text : List ℕ) → IsSheet s Result number text
    → (found : Findings) × AreFindings (election_in_tally s number poll ballots) found
    × (text ≡ result_sheet s number poll chosen found)
    × IfSome chosen (IsOneOfSeveral s number found))

-- ==== what comes later

-- the place for which the act is a casting vote in the resolution
abbrev pub cast_by : ℕ → Act → Option ℕ
cast_by number (Cast resolution place) = if nat_eq number resolution then Some place else None
cast_by number other = None

-- the places for which those of these acts that are accepted are casting votes in it, one after the other
abbrev pub cast_in : ℕ → List (ℕ × Act) → List Answer → List ℕ
cast_in number acts answers = filter_map (λ act. cast_by number act.1) (accepted_acts acts answers)

-- The sheets of a resolution that is closed in both states, by the same poll, and has the one place chosen in s and the
-- other one in t, if any: they agree but for the last line of the result.
pub record ClosedSheetsAgree (s t : State) (number : ℕ) (poll : Poll) (chosen later : Option ℕ) : Type 0 where
  pub tally : (text : List ℕ) → IsSheet s Tally number text → IsSheet t Tally number text
  -- what is counted
  pub election : election_at t number poll ≡ election_at s number poll
  -- the same lines, and then who won of the same members of the outcome set
  pub result : (text : List ℕ) → IsSheet s Result number text → (before : List ℕ) × (members : List ℕ)
      × (text ≡ before ++ last_line members chosen) × IsSheet t Result number (before ++ last_line members later)

-- No later act changes the tally of a closed resolution. Of its result only the last line changes, once, by the casting
-- vote (Constitution, A.5.8): what is chosen was so before, or else it is the place of the one accepted act that is a
-- casting vote in the resolution.
abbrev pub ClosedSheetsStay : Type 0
ClosedSheetsStay = (s : State) (acts : List (ℕ × Act)) (answers : List Answer) (t : State) (number : ℕ)
    (discussion : Discussion) (poll : Poll) (chosen : Option ℕ)
    → IsValid s → get s.resolutions number ≡ Some (Closed discussion poll chosen) → After s acts answers t
    → (later : Option ℕ) × (get t.resolutions number ≡ Some (Closed discussion poll later))
    × (IsSome chosen → later ≡ chosen)
    × (option_to_list later ≡ option_to_list chosen ++ cast_in number acts answers)
    × ClosedSheetsAgree s t number poll chosen later
