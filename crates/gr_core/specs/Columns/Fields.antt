-- The rows of a desk as they are kept: the fields of their columns, in their order (this project's profile).
use Rattle.std.specs.Prelude.{ℕ, ◌^◌, ◌<◌, ◌≤◌, ℤ, pos, neg_ℤ, ◌≤ℤ◌, ◌-◌, List, [], ◌∷◌, ◌++◌, length, map, Option, Some, None, IfSome, unwrap_or, option_and_then, codes}
use Rattle.std.specs.List.{All}
use Rattle.hex.specs.Hex.{encode_lower}
use Rattle.gr_count.specs.declared.limits.TheConstants.{MIN_OPTIONS, MAX_OPTIONS}
use Rattle.gr_count.specs.declared.mark.Mark.{Mark}
use Rattle.gr_count.specs.Ballot.{character_of}
use Rattle.gr_core.specs.declared.header.Header.{Header}
use Rattle.gr_core.specs.declared.developer.Standing.{Standing}
use Rattle.gr_core.specs.declared.developer.Standing.TheVariants.{Current, Retired}
use Rattle.gr_core.specs.declared.discussion.Discussion.{Discussion}
use Rattle.gr_core.specs.declared.resolution.Poll.{Poll}
use Rattle.gr_core.specs.declared.resolution.Resolution.{Resolution}
use Rattle.gr_core.specs.declared.resolution.Resolution.TheVariants.{Draft, Discussing, Voting, Closed, Cancelled}
use Rattle.gr_core.specs.declared.choice.ChoiceKey.{ChoiceKey}
use Rattle.gr_core.specs.declared.sponsor.Sponsorship.{Sponsorship}
use Rattle.gr_core.specs.declared.sponsor.Sponsorship.TheVariants.{Active, Withdrawn}
use Rattle.gr_core.specs.declared.rows.NoRow.{NoRow}
use Rattle.gr_core.specs.declared.rows.NoRow.TheVariants.{TooGreat, Memory}
use Rattle.gr_core.specs.Parts.Key.{SponsorKey, BallotKey}
use Rattle.gr_core.specs.Parts.Developer.{DeveloperModel}
use Rattle.gr_core.specs.Parts.Resolution.{discussion_of, poll_of, chosen_of}
use Rattle.gr_core.specs.Parts.Choice.{Proposer, Developer, Leader, Committee, login_of_proposer, ChoiceModel}
use Rattle.gr_core.specs.Parts.Receipt.{IsReceipt}
use Rattle.gr_core.specs.Parts.Ballot.{BallotModel, IsMark}
use Rattle.gr_core.specs.Machine.Row.{RowModel, HeaderOf, DeveloperOf, ResolutionOf, ChoiceOf, SponsorOf, BallotOf}

-- what a row has in one column: a whole number, or a text
pub data Field : Type 0 where
  Number : ℤ → Field
  Text : List ℕ → Field

abbrev pub natural : ℕ → Field
natural n = Number (pos n)

-- a moment or a place, where there may be none: then 0 stands for it
abbrev pub natural_or_0 : Option ℕ → Field
natural_or_0 value = natural (unwrap_or value 0)

-- ==== the codes of what is no number

abbrev pub standing_code : Standing → ℕ
standing_code Retired = 0
standing_code Current = 1

abbrev pub stage_code : Resolution → ℕ
stage_code Draft = 0
stage_code (Discussing discussion) = 1
stage_code (Voting discussion poll) = 2
stage_code (Closed discussion poll chosen) = 3
stage_code (Cancelled discussion) = 4

abbrev pub kind_code : Option Proposer → ℕ
kind_code None = 0
kind_code (Some (Developer login)) = 1
kind_code (Some Leader) = 2
kind_code (Some Committee) = 3

-- the login of a proposer who is a developer, else nothing
abbrev pub proposer_text : Option Proposer → List ℕ
proposer_text proposer = unwrap_or (option_and_then login_of_proposer proposer) []

abbrev pub sponsorship_code : Sponsorship → ℕ
sponsorship_code Withdrawn = 0
sponsorship_code Active = 1

-- the text of a ballot's marks, one character for each
abbrev pub ranks_text : List Mark → List ℕ
ranks_text ranks = map character_of ranks

-- ==== the tables

-- desk: id, version, accepted, clock. There is one row, whose id is 1.
abbrev pub header_fields : Header → List Field
header_fields header =
    natural 1 ∷ natural header.version ∷ natural header.accepted ∷ natural header.clock ∷ []

-- developer: login, name, active
abbrev pub developer_fields : List ℕ × DeveloperModel → List Field
developer_fields (login, row) = Text login ∷ Text row.name ∷ natural (standing_code row.standing) ∷ []

-- start, changed, shift: 0 each where there is no discussion yet
abbrev pub discussion_fields : Option Discussion → List Field
discussion_fields None = natural 0 ∷ natural 0 ∷ natural 0 ∷ []
discussion_fields (Some discussion) =
    natural discussion.start ∷ natural_or_0 discussion.changed ∷ Number discussion.shift ∷ []

-- called, days, devs: 0 each where there is no poll yet
abbrev pub poll_fields : Option Poll → List Field
poll_fields None = natural 0 ∷ natural 0 ∷ natural 0 ∷ []
poll_fields (Some poll) = natural poll.called ∷ natural poll.days ∷ natural poll.developers ∷ []

-- resolution: number, stage, those of its discussion, those of its poll, chosen
abbrev pub resolution_fields : ℕ × Resolution → List Field
resolution_fields (number, resolution) =
    (natural number ∷ natural (stage_code resolution) ∷ [])
    ++ discussion_fields (discussion_of resolution)
    ++ poll_fields (poll_of resolution)
    ++ (natural_or_0 (chosen_of resolution) ∷ [])

-- choice: resolution, number, kind, proposer, summary, body, ratio, introduced, short, place
abbrev pub choice_fields : ChoiceKey × ChoiceModel → List Field
choice_fields (key, row) =
    natural key.resolution ∷ natural key.number
    ∷ natural (kind_code row.proposer) ∷ Text (proposer_text row.proposer)
    ∷ Text row.wording.summary ∷ Text row.wording.text ∷ natural row.ratio
    ∷ natural_or_0 row.introduced ∷ natural_or_0 row.short ∷ natural_or_0 row.place ∷ []

-- sponsor: resolution, choice, login, active
abbrev pub sponsor_fields : SponsorKey × Sponsorship → List Field
sponsor_fields ((choice, login), sponsorship) =
    natural choice.resolution ∷ natural choice.number ∷ Text login ∷ natural (sponsorship_code sponsorship) ∷ []

-- ballot: resolution, login, ranks, receipt, received
abbrev pub ballot_fields : BallotKey × BallotModel → List Field
ballot_fields ((resolution, login), row) =
    natural resolution ∷ Text login ∷ Text (ranks_text row.ranks) ∷ Text (encode_lower row.receipt.digest)
    ∷ natural row.received ∷ []

-- the fields of any row
abbrev pub row_fields : RowModel → List Field
row_fields (HeaderOf header) = header_fields header
row_fields (DeveloperOf login row) = developer_fields (login, row)
row_fields (ResolutionOf number resolution) = resolution_fields (number, resolution)
row_fields (ChoiceOf key row) = choice_fields (key, row)
row_fields (SponsorOf key sponsorship) = sponsor_fields (key, sponsorship)
row_fields (BallotOf key row) = ballot_fields (key, row)

-- ==== what columns can keep

-- a number of a resolution, a choice or a place, or a count
abbrev pub IsSmall : ℕ → Type 0
IsSmall n = n < 2 ^ 32

-- a number that a whole number of a column can be
abbrev pub IsWhole : ℕ → Type 0
IsWhole n = n < 2 ^ 63

-- a moment where there may be none: 0 would say that there is none
abbrev pub IsMomentKept : ℕ → Type 0
IsMomentKept at = (0 < at) × IsWhole at

-- a place where there may be none
abbrev pub IsPlaceKept : ℕ → Type 0
IsPlaceKept place = (0 < place) × IsSmall place

pub record FitsHeader (header : Header) : Type 0 where
  pub version : IsSmall header.version
  pub accepted : IsWhole header.accepted
  pub clock : IsWhole header.clock

pub record FitsDiscussion (discussion : Discussion) : Type 0 where
  pub start : IsWhole discussion.start
  pub changed : IfSome discussion.changed IsMomentKept
  pub least : neg_ℤ (pos (2 ^ 31)) ≤ℤ discussion.shift
  pub most : discussion.shift ≤ℤ pos (2 ^ 31 - 1)

pub record FitsPoll (poll : Poll) : Type 0 where
  pub called : IsWhole poll.called
  pub days : IsSmall poll.days
  pub developers : IsSmall poll.developers

pub record FitsStage (resolution : Resolution) : Type 0 where
  pub discussion : IfSome (discussion_of resolution) FitsDiscussion
  pub poll : IfSome (poll_of resolution) FitsPoll
  pub chosen : IfSome (chosen_of resolution) IsPlaceKept

pub record FitsResolution (number : ℕ) (resolution : Resolution) : Type 0 where
  pub small : IsSmall number
  pub stage : FitsStage resolution

pub record FitsKey (key : ChoiceKey) : Type 0 where
  pub resolution : IsSmall key.resolution
  pub number : IsSmall key.number

pub record FitsChoice (key : ChoiceKey) (row : ChoiceModel) : Type 0 where
  pub small : FitsKey key
  pub ratio : IsSmall row.ratio
  pub introduced : IfSome row.introduced IsMomentKept
  pub short : IfSome row.short IsMomentKept
  pub place : IfSome row.place IsPlaceKept

-- what a text of ranks can say
pub record AreRanksKept (ranks : List Mark) : Type 0 where
  pub enough : MIN_OPTIONS ≤ length ranks
  pub few : length ranks ≤ MAX_OPTIONS
  pub marks : All IsMark ranks

pub record FitsBallot (resolution : ℕ) (row : BallotModel) : Type 0 where
  pub small : IsSmall resolution
  pub ranks : AreRanksKept row.ranks
  pub receipt : IsReceipt row.receipt
  pub received : IsSmall row.received

-- what is printed where a change has no row
abbrev pub no_row_text : NoRow → List ℕ
no_row_text TooGreat = codes "a number is too great for a column"
no_row_text Memory = codes "out of memory"
