-- What becomes of a discussion, event by event (Constitution, A.1.1, A.1.4 and A.1.6), and which events acts are to it.
use Rattle.std.specs.Prelude.{◌≡◌, ℕ, ◌≤◌, ℤ, pos, Bool, false, List, [], ◌∷◌, ◌++◌, ⊤, Option, None, Some, nat_eq, nat_lt, if◌then◌else◌}
use Rattle.std.specs.List.{fold, last_or}
use Rattle.std.specs.Option.{option_map_or}
use Rattle.std.specs.FinMap.{get}
use Rattle.gr_core.specs.declared.discussion.Discussion.{Discussion}
use Rattle.gr_core.specs.declared.resolution.Resolution.{Resolution}
use Rattle.gr_core.specs.Parts.Discussion.{IsShift, earliest_end, latest_end, week_after, end_of}
use Rattle.gr_core.specs.Parts.Resolution.{discussion_of}
use Rattle.gr_core.specs.Desks.State.{State, new_state}
use Rattle.gr_core.specs.Machine.Act.{Act, Amend, Vary}
use Rattle.gr_core.specs.Machine.Effect.{changes_ballot, gaining, introduces, only_if, effect, counted}
use Rattle.gr_core.specs.Machine.Step.{Answer, Accepted, Refused}
use Rattle.gr_core.specs.Machine.Run.{After}
use Rattle.gr_core.specs.Laws.ResolutionLaws.{touched}

-- ==== the course of a discussion

pub data Event : Type 0 where
  -- a choice is introduced: the first one begins the discussion (Constitution, A.1.1), each later one is added to it
  -- (Constitution, A.1.4)
  Introduced : (at : ℕ) → Event
  -- an introduced choice is amended other than in a minor way (Constitution, A.1.4 and A.1.5)
  Amended : (at : ℕ) → Event
  -- the Leader varies the shortest and the longest discussion (Constitution, A.1.6)
  Varied : (shift : ℤ) → Event

-- how far a discussion has come: its start, its present shift, its changes, the first of them first, and its end
pub record Course : Type 0 where
  pub start : ℕ
  pub shift : ℤ
  pub changes : List ℕ
  pub end : ℕ

-- A change puts the end a week after itself. Where that is before the earliest end it moves nothing, and where it is
-- after the latest end, that is the end from then on.
abbrev pub moved : (earliest latest end at : ℕ) → ℕ
moved earliest latest end at =
    if nat_lt (week_after at) earliest then end
    else if nat_lt latest (week_after at) then latest
    else week_after at

-- the end of a discussion from this start, as if its length had been varied so during all these changes
abbrev pub recalculated : ℕ → ℤ → List ℕ → ℕ
recalculated start shift changes =
    fold (moved (earliest_end start shift) (latest_end start shift)) (earliest_end start shift) changes

abbrev pub course_begun : ℕ → Course
course_begun at = record { start = at; shift = pos 0; changes = []; end = earliest_end at (pos 0) }

-- a change moves the end that is
abbrev pub course_changed : ℕ → Course → Course
course_changed at course = record course {
  changes = course.changes ++ at ∷ [];
  end = moved (earliest_end course.start course.shift) (latest_end course.start course.shift) course.end at;
}

-- a variation recalculates the end, from the first change on
abbrev pub course_shifted : ℤ → Course → Course
course_shifted shift course = record course { shift = shift; end = recalculated course.start shift course.changes }

-- the course after one more event: until a choice is introduced there is none
abbrev pub next : Option Course → Event → Option Course
next None (Introduced at) = Some (course_begun at)
next None other = None
next (Some course) (Introduced at) = Some (course_changed at course)
next (Some course) (Amended at) = Some (course_changed at course)
next (Some course) (Varied shift) = Some (course_shifted shift course)

-- the course that events make, the first of them first
abbrev pub course_of : List Event → Option Course
course_of events = fold next None events

-- what a discussion keeps of its course: of its changes the last one, of its variations the present shift
abbrev pub kept_of : Course → Discussion
kept_of course = record { start = course.start; changed = last_or None course.changes; shift = course.shift }

-- the moments come in the order of time, none before this one
abbrev pub AreFrom : ℕ → List ℕ → Type 0
AreFrom first [] = ⊤
AreFrom first (at ∷ later) = (first ≤ at) × AreFrom at later

-- The end by the clock, which knows only what is kept, is the one that all events give one after the other.
abbrev pub EndsFollowTheCourse : Type 0
EndsFollowTheCourse = (events : List Event) (course : Course)
    → course_of events ≡ Some course
    → IsShift course.shift
    → AreFrom course.start course.changes
    → course.end ≡ end_of (kept_of course)

-- ==== the events of acts

-- what an accepted act at this moment is to the discussion of the resolution that it touches
abbrev pub events_by : State → ℕ → Act → List Event
events_by s at (Amend choice amendment wording) =
    only_if (changes_ballot amendment (get s.resolutions choice.resolution) (get s.choices choice)) (Amended at)
events_by s at (Vary resolution days) = Varied days ∷ []
events_by s at act = option_map_or (λ choice. only_if (introduces s at act choice) (Introduced at)) (gaining s act) []

abbrev pub touches : State → Act → ℕ → Bool
touches s act resolution = option_map_or (nat_eq resolution) (touched s act) false

-- and to that of any resolution
abbrev pub events_in : State → ℕ → Act → ℕ → List Event
events_in s at act resolution = if touches s act resolution then events_by s at act else []

-- what acts, each at its moment, are to it one after the other, as they are answered
abbrev pub events_of : State → List (ℕ × Act) → List Answer → ℕ → List Event
events_of s (act ∷ acts) (Accepted reply ∷ answers) resolution =
    events_in s act.0 act.1 resolution ++ events_of (counted (effect s act.0 act.1) act.0) acts answers resolution
events_of s (act ∷ acts) (Refused refusal ∷ answers) resolution = events_of s acts answers resolution
events_of s [] answers resolution = []
events_of s (act ∷ acts) [] resolution = []

-- the discussion has come so far on a desk with this clock
pub record HasCourse (clock : ℕ) (discussion : Discussion) (course : Course) : Type 0 where
  pub kept : discussion ≡ kept_of course
  -- its changes come in the order of time, none before its start and none after the clock
  pub order : AreFrom course.start (course.changes ++ clock ∷ [])
  pub end : end_of discussion ≡ course.end

-- each discussion has its course, and a draft has none
abbrev pub FollowsCourse : ℕ → Option Discussion → Option Course → Type 0
FollowsCourse clock None None = ⊤
FollowsCourse clock None (Some course) = ⊥
FollowsCourse clock (Some discussion) None = ⊥
FollowsCourse clock (Some discussion) (Some course) = HasCourse clock discussion course

-- Whatever acts a desk has answered, from its first one on, each resolution has the course that they make: a discussion
-- begins with the first introduction, and ends when its events say.
abbrev pub DiscussionsFollowTheirActs : Type 0
DiscussionsFollowTheirActs = (acts : List (ℕ × Act)) (answers : List Answer) (t : State) (number : ℕ)
    (resolution : Resolution)
    → After new_state acts answers t → get t.resolutions number ≡ Some resolution
    → FollowsCourse t.header.clock (discussion_of resolution) (course_of (events_of new_state acts answers number))
