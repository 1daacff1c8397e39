-- When a command is refused, and which refusal is answered (this project's profile).
use Rattle.std.specs.Prelude.{◌≡◌, ◌≢◌, ℕ, ◌+◌, ◌<◌, ◌≤◌, ◌⊎◌, ⊤, Bool, false, List, length, ◌++◌, codes, decimal, Some, None, IsSome, IsSomeAnd, IsFalse, IsTrue, option_and_then}
use Rattle.std.specs.FinMap.{get, len}
use Rattle.gr_count.specs.declared.limits.TheConstants.{MAX_DEVELOPERS}
use Rattle.gr_count.specs.Ballot.{IsBallot}
use Rattle.gr_core.specs.declared.limits.TheConstants.{MAX_ACCEPTED, MAX_RESOLUTIONS, MAX_CHOICES, MIN_NOTICE}
use Rattle.gr_core.specs.declared.resolution.Resolution.{Resolution}
use Rattle.gr_core.specs.declared.developer.Standing.TheVariants.{Retired}
use Rattle.gr_core.specs.declared.sponsor.Sponsorship.TheVariants.{Active}
use Rattle.gr_core.specs.declared.command.Amendment.TheVariants.{Substantial}
use Rattle.gr_core.specs.declared.refusal.Refusal.{Refusal}
use Rattle.gr_core.specs.declared.refusal.Refusal.TheVariants.{BadMoment, ClockBack, BadLogin, BadText, BadRatio, BadDays, BadToken, Full, NoResolution, NoChoice, WrongStage, Ended, TooEarly, NoDeveloper, NotCurrent, Lapsed, Already, NotSponsor, HasProposer, NoProposer, EndsTooSoon, BadRanks, NotTied, BadRoll, NotRevealed}
use Rattle.gr_core.specs.Parts.Moment.{IsMoment}
use Rattle.gr_core.specs.Parts.Login.{IsLogin}
use Rattle.gr_core.specs.Parts.Text.{IsName, IsSummary, IsText}
use Rattle.gr_core.specs.Parts.Token.{IsToken}
use Rattle.gr_core.specs.Parts.Discussion.{IsShift, IsPeriod, end_of}
use Rattle.gr_core.specs.Machine.Import.{RollRow, imported, IsFirstBadLine}
use Rattle.gr_core.specs.Parts.Resolution.{is_open, is_discussing, is_voting, is_closed, poll_of, chosen_of, end_of_voting}
use Rattle.gr_core.specs.Parts.Choice.{Developer, choices_of, IsRatio}
use Rattle.gr_core.specs.Desks.State.{State}
use Rattle.gr_core.specs.Desks.Outcome.{place_count, IsPlace, CannotBeChosen}
use Rattle.gr_core.specs.Machine.Bookkeeping.{has_lapsed}
use Rattle.gr_core.specs.Machine.Act.{Act, SetDeveloper, ImportRoll, Propose, AddChoice, Sponsor, Unsponsor, Withdraw, Adopt, Amend, Vary, Call, Vote, Close, Cast, login_of, actor_of, current_actor_of, name_of, wording_of_act, ratio_of, shift_of, period_of, ranks_of, token_of, place_of, import_of, resolution_of, choice_of, resolution_at, discussion_at, poll_held_at, choice_at}

-- the number of a refusal, by which the first of several is found
abbrev pub number : Refusal → ℕ
number BadMoment = 1
number ClockBack = 2
number BadLogin = 3
number BadText = 4
number BadRatio = 5
number BadDays = 6
number BadToken = 7
number Full = 8
number NoResolution = 9
number NoChoice = 10
number WrongStage = 11
number Ended = 12
number TooEarly = 13
number NoDeveloper = 14
number NotCurrent = 15
number Lapsed = 16
number Already = 17
number NotSponsor = 18
number HasProposer = 19
number NoProposer = 19
number EndsTooSoon = 20
number BadRanks = 21
number NotTied = 22
number (BadRoll line) = 23
number NotRevealed = 24

abbrev pub name : Refusal → List ℕ
name BadMoment = codes "BadMoment"
name ClockBack = codes "ClockBack"
name BadLogin = codes "BadLogin"
name BadText = codes "BadText"
name BadRatio = codes "BadRatio"
name BadDays = codes "BadDays"
name BadToken = codes "BadToken"
name Full = codes "Full"
name NoResolution = codes "NoResolution"
name NoChoice = codes "NoChoice"
name WrongStage = codes "WrongStage"
name Ended = codes "Ended"
name TooEarly = codes "TooEarly"
name NoDeveloper = codes "NoDeveloper"
name NotCurrent = codes "NotCurrent"
name Lapsed = codes "Lapsed"
name Already = codes "Already"
name NotSponsor = codes "NotSponsor"
name HasProposer = codes "HasProposer"
name NoProposer = codes "NoProposer"
name EndsTooSoon = codes "EndsTooSoon"
name BadRanks = codes "BadRanks"
name NotTied = codes "NotTied"
name (BadRoll line) = codes "BadRoll"
name NotRevealed = codes "NotRevealed"

-- what is printed of a refusal: its name, and after that of a bad row its line
abbrev pub printed : Refusal → List ℕ
printed (BadRoll line) = codes "BadRoll " ++ decimal line
printed other = name other

-- 2: the clock of the desk is past the moment
abbrev pub IsBeforeClock : State → ℕ → Type 0
IsBeforeClock s at = at < s.header.clock

-- 3: the login of the act breaks its rule
abbrev pub HasBadLogin : Act → Type 0
HasBadLogin act = IsSomeAnd (login_of act) (λ login. ¬ (IsLogin login))

-- 4: the name, the summary or the text that the act brings breaks its rule
abbrev pub HasBadText : Act → Type 0
HasBadText act =
    IsSomeAnd (name_of act) (λ name. ¬ (IsName name))
    ⊎ IsSomeAnd (wording_of_act act) (λ wording. ¬ (IsSummary wording.summary) ⊎ ¬ (IsText wording.text))

-- 5: the act brings a number that is no majority ratio
abbrev pub HasBadRatio : Act → Type 0
HasBadRatio act = IsSomeAnd (ratio_of act) (λ ratio. ¬ (IsRatio ratio))

-- 6: the days of the act are none by which a discussion is varied, or for which votes are taken
abbrev pub HasBadDays : Act → Type 0
HasBadDays act =
    IsSomeAnd (shift_of act) (λ days. ¬ (IsShift days)) ⊎ IsSomeAnd (period_of act) (λ days. ¬ (IsPeriod days))

-- 7: the token of the act breaks its rule
abbrev pub HasBadToken : Act → Type 0
HasBadToken act = IsSomeAnd (token_of act) (λ token. ¬ (IsToken token))

-- the login is new to a full roll
pub record OverfillsTheRoll (s : State) (login : List ℕ) : Type 0 where
  pub new : get s.developers login ≡ None
  pub full : MAX_DEVELOPERS ≤ len s.developers

-- the import has too many rows, or the roll and its rows together have too many logins
abbrev pub IsTooLarge : State → List RollRow → Type 0
IsTooLarge s rows = (MAX_DEVELOPERS < length rows) ⊎ (MAX_DEVELOPERS < len (imported s.developers rows))

-- the act would put one developer, one resolution or one choice too many
abbrev pub PassesALimit : State → Act → Type 0
PassesALimit s (SetDeveloper login name standing) = OverfillsTheRoll s login
PassesALimit s (ImportRoll rows) = IsTooLarge s rows
PassesALimit s (Propose proposer wording ratio) = MAX_RESOLUTIONS ≤ len s.resolutions
PassesALimit s (AddChoice resolution proposer wording ratio) = MAX_CHOICES ≤ length (choices_of s.choices resolution)
PassesALimit s other = ⊥

-- 8: the desk accepts no more commands, or has no room for what the act puts. It applies from each limit
-- on, and not only at it: no valid desk has more, and so the condition needs no premise on validity.
abbrev pub IsFull : State → Act → Type 0
IsFull s act = (MAX_ACCEPTED ≤ s.header.accepted) ⊎ PassesALimit s act

-- 9: there is no resolution with the number that the act names
abbrev pub FindsNoResolution : State → Act → Type 0
FindsNoResolution s act = IsSomeAnd (resolution_of act) (λ number. get s.resolutions number ≡ None)

-- the casting vote names a place that the ballot of the closed resolution does not have
abbrev pub FindsNoPlace : State → Act → Type 0
FindsNoPlace s (Cast resolution place) = IsSomeAnd (get s.resolutions resolution) (λ row.
    IsTrue (is_closed row) × (¬ (IsPlace s resolution place)))
FindsNoPlace s other = ⊥

-- 10: there is no choice with the key that the act names, or no such place; where the resolution is missing too, 9 is
-- answered
abbrev pub FindsNoChoice : State → Act → Type 0
FindsNoChoice s act = IsSomeAnd (choice_of act) (λ key. get s.choices key ≡ None) ⊎ FindsNoPlace s act

-- the resolution is in a stage in which the act may come
abbrev pub may_come : Act → Resolution → Bool
may_come (AddChoice number proposer wording ratio) resolution = is_discussing resolution
may_come (Sponsor choice login) resolution = is_open resolution
may_come (Unsponsor choice login) resolution = is_open resolution
may_come (Withdraw choice) resolution = is_open resolution
may_come (Adopt choice proposer) resolution = is_open resolution
may_come (Amend choice amendment wording) resolution = is_open resolution
may_come (Vary number days) resolution = is_discussing resolution
may_come (Call number days) resolution = is_discussing resolution
may_come (Vote number login ranks token) resolution = is_voting resolution
may_come (Close number) resolution = is_voting resolution
may_come (Cast number place) resolution = is_closed resolution
may_come other resolution = false

-- 11: the resolution that the act names is in a stage in which the act cannot come
abbrev pub FindsWrongStage : State → Act → Type 0
FindsWrongStage s act = IsSomeAnd (resolution_at s act) (λ resolution. IsFalse (may_come act resolution))

-- the act adds a choice, amends one other than in a minor way, sponsors or adopts one that is not introduced, or varies
-- the discussion: there is time for these until it ends
abbrev pub NeedsDiscussion : State → Act → Type 0
NeedsDiscussion s (AddChoice resolution proposer wording ratio) = ⊤
NeedsDiscussion s (Vary resolution days) = ⊤
NeedsDiscussion s (Amend choice Substantial wording) = ⊤
NeedsDiscussion s (Sponsor choice login) = IsSomeAnd (get s.choices choice) (λ row. row.introduced ≡ None)
NeedsDiscussion s (Adopt choice proposer) = IsSomeAnd (get s.choices choice) (λ row. row.introduced ≡ None)
NeedsDiscussion s other = ⊥

-- the discussion is over that the act needs
abbrev pub DiscussionHasEnded : State → ℕ → Act → Type 0
DiscussionHasEnded s at act =
    NeedsDiscussion s act × IsSomeAnd (discussion_at s act) (λ discussion. end_of discussion ≤ at)

-- the time is over for the ballot that the act brings (Constitution, 4.2.3)
abbrev pub VotingHasEnded : State → ℕ → Act → Type 0
VotingHasEnded s at act =
    IsSomeAnd (ranks_of act) (λ ranks. IsSomeAnd (poll_held_at s act) (λ poll. end_of_voting poll ≤ at))

-- 12: what the act needs is over
abbrev pub HasEnded : State → ℕ → Act → Type 0
HasEnded s at act = DiscussionHasEnded s at act ⊎ VotingHasEnded s at act

-- a vote is called for before the discussion is over (Constitution, A.3.1)
abbrev pub IsCalledTooEarly : State → ℕ → Act → Type 0
IsCalledTooEarly s at act =
    IsSomeAnd (period_of act) (λ days. IsSomeAnd (discussion_at s act) (λ discussion. at < end_of discussion))

-- a vote is closed before its time is over (Constitution, 4.2.3)
abbrev pub IsClosedTooEarly : State → ℕ → Act → Type 0
IsClosedTooEarly s at (Close resolution) =
    IsSomeAnd (poll_held_at s (Close resolution)) (λ poll. at < end_of_voting poll)
IsClosedTooEarly s at other = ⊥

-- 13: what has to be over before the act is not
abbrev pub IsTooEarly : State → ℕ → Act → Type 0
IsTooEarly s at act = IsCalledTooEarly s at act ⊎ IsClosedTooEarly s at act

-- 14: the developer who acts is not on the roll
abbrev pub FindsNoDeveloper : State → Act → Type 0
FindsNoDeveloper s act = IsSomeAnd (actor_of act) (λ login. get s.developers login ≡ None)

-- 15: the developer who acts is retired and has to be current
abbrev pub IsByRetired : State → Act → Type 0
IsByRetired s act =
    IsSomeAnd (option_and_then (get s.developers) (current_actor_of act)) (λ row. row.standing ≡ Retired)

-- 16: the choice on which it acts has lapsed (Constitution, A.2.3)
abbrev pub NamesLapsedChoice : State → ℕ → Act → Type 0
NamesLapsedChoice s at act = IsSomeAnd (choice_at s act) (λ row. IsTrue (has_lapsed at row))

-- the new sponsor of the choice is an active one already, or its proposer (Constitution, 4.2.1)
abbrev pub IsSponsorAlready : State → Act → Type 0
IsSponsorAlready s (Sponsor choice login) = IsSomeAnd (get s.choices choice)
    (λ row. (get s.sponsors (choice, login) ≡ Some Active) ⊎ (row.proposer ≡ Some (Developer login)))
IsSponsorAlready s other = ⊥

-- the casting vote on the resolution was used already
abbrev pub IsDecidedAlready : State → Act → Type 0
IsDecidedAlready s act = IsSomeAnd (place_of act) (λ place.
    IsSomeAnd (resolution_at s act) (λ row. IsSome (chosen_of row)))

-- 17: what the act would do was done already
abbrev pub IsDoneAlready : State → Act → Type 0
IsDoneAlready s act = IsSponsorAlready s act ⊎ IsDecidedAlready s act

-- 18: who withdraws as a sponsor of the choice is no active one (Constitution, A.2.2)
abbrev pub WithdrawsNoSponsor : State → Act → Type 0
WithdrawsNoSponsor s (Unsponsor choice login) =
    IsSomeAnd (get s.choices choice) (λ row. get s.sponsors (choice, login) ≢ Some Active)
WithdrawsNoSponsor s other = ⊥

-- 19: a choice is adopted that has a proposer (Constitution, A.2.1)
abbrev pub HasAProposer : State → Act → Type 0
HasAProposer s (Adopt choice proposer) = IsSomeAnd (get s.choices choice) (λ row. IsSome row.proposer)
HasAProposer s other = ⊥

-- 19: a proposer withdraws from a choice that has none (Constitution, A.2.1)
abbrev pub HasNoProposer : State → Act → Type 0
HasNoProposer s (Withdraw choice) = IsSomeAnd (get s.choices choice) (λ row. row.proposer ≡ None)
HasNoProposer s other = ⊥

-- 20: a variation by days that it may have makes the discussion end earlier than the notice that is due from the moment
-- (Constitution, A.1.6)
abbrev pub MakesItEndTooSoon : State → ℕ → Act → Type 0
MakesItEndTooSoon s at act = IsSomeAnd (shift_of act) (λ days. IsShift days × IsSomeAnd (discussion_at s act)
    (λ discussion. end_of (record discussion { shift = days }) < at + MIN_NOTICE))

-- 21: the ranks are not one character for each place, on a resolution whose poll is held
abbrev pub HasBadRanks : State → Act → Type 0
HasBadRanks s (Vote resolution login ranks token) =
    IsSome (poll_held_at s (Vote resolution login ranks token))
    × (¬ (IsBallot (place_count s.choices resolution) ranks))
HasBadRanks s other = ⊥

-- 22: the casting vote cannot choose this place on the ballot of the closed resolution (Constitution, A.5.8)
abbrev pub ChoosesWithoutATie : State → Act → Type 0
ChoosesWithoutATie s (Cast resolution place) = IsSomeAnd (get s.resolutions resolution) (λ row.
    IsTrue (is_closed row) × IsSomeAnd (poll_of row) (λ poll. CannotBeChosen s resolution poll place))
ChoosesWithoutATie s other = ⊥

-- 23: the first row of the import that the roll cannot take stands on this line
abbrev pub HasBadRow : Act → ℕ → Type 0
HasBadRow act line = IsSomeAnd (import_of act) (λ rows. IsFirstBadLine rows line)

-- The condition of the refusal holds of the act at this moment, on a desk with this state.
abbrev pub Applies : Refusal → State → ℕ → Act → Type 0
Applies BadMoment s at act = ¬ (IsMoment at)
Applies ClockBack s at act = IsBeforeClock s at
Applies BadLogin s at act = HasBadLogin act
Applies BadText s at act = HasBadText act
Applies BadRatio s at act = HasBadRatio act
Applies BadDays s at act = HasBadDays act
Applies BadToken s at act = HasBadToken act
Applies Full s at act = IsFull s act
Applies NoResolution s at act = FindsNoResolution s act
Applies NoChoice s at act = FindsNoChoice s act
Applies WrongStage s at act = FindsWrongStage s act
Applies Ended s at act = HasEnded s at act
Applies TooEarly s at act = IsTooEarly s at act
Applies NoDeveloper s at act = FindsNoDeveloper s act
Applies NotCurrent s at act = IsByRetired s act
Applies Lapsed s at act = NamesLapsedChoice s at act
Applies Already s at act = IsDoneAlready s act
Applies NotSponsor s at act = WithdrawsNoSponsor s act
Applies HasProposer s at act = HasAProposer s act
Applies NoProposer s at act = HasNoProposer s act
Applies EndsTooSoon s at act = MakesItEndTooSoon s at act
Applies BadRanks s at act = HasBadRanks s act
Applies NotTied s at act = ChoosesWithoutATie s act
Applies (BadRoll line) s at act = HasBadRow act line
-- 24: no act meets it, since it is what sheets are refused by
Applies NotRevealed s at act = ⊥

-- its condition holds, and none of a lesser number does
pub record Refuses (s : State) (at : ℕ) (act : Act) (refusal : Refusal) : Type 0 where
  pub applies : Applies refusal s at act
  pub least : (other : Refusal) → Applies other s at act → number refusal ≤ number other

-- no refusal's condition holds
abbrev pub IsAccepted : State → ℕ → Act → Type 0
IsAccepted s at act = (refusal : Refusal) → ¬ (Applies refusal s at act)
