-- Courses of discussions.
use Rattle.std.proofs.Common.{◌≡◌, ℕ, ◌≤◌, List, [], ◌∷◌, Option, Some, None, IfSome, refl, sym, ap, ◌∙◌, subst, arith, rules, tests}
use Rattle.std.proofs.lemmas.Int.{ints}
use Rattle.std.proofs.lemmas.List.Sums.{fold-append}
use Rattle.std.specs.Prelude.{ℤ}
use Rattle.std.specs.List.{fold, last_or}
use Rattle.gr_core.specs.Parts.Discussion.{IsShift, earliest_end, latest_end, end_between}
use Rattle.gr_core.specs.Laws.Course.{Event, Introduced, Amended, Varied, moved, recalculated, Course, course_changed, next, AreFrom, EndsFollowTheCourse}

-- the moment, if there is one, is not after the other
abbrev IsNotBehind : Option ℕ → ℕ → Type 0
IsNotBehind None at = Unit {0}
IsNotBehind (Some first) at = first ≤ at

-- a change at a moment that is not before the last change
moved_once : (earliest latest : ℕ) (last : Option ℕ) (at : ℕ) → earliest ≤ latest → IsNotBehind last at
    → moved earliest latest (end_between earliest latest last) at ≡ end_between earliest latest (Some at)
moved_once earliest latest None at ordered later = search (rules, tests)
moved_once earliest latest (Some first) at ordered later = search (rules, tests)

-- the changes one after the other, from the last one before them
moved_on : (earliest latest : ℕ) (last : Option ℕ) (first : ℕ) (changes : List ℕ) → earliest ≤ latest
    → IsNotBehind last first → AreFrom first changes
    → fold (moved earliest latest) (end_between earliest latest last) changes
    ≡ end_between earliest latest (last_or last changes)
moved_on earliest latest last first [] ordered here from = refl
moved_on earliest latest last first (at ∷ later) ordered here from =
    ap (λ end. fold (moved earliest latest) end later)
    (moved_once earliest latest last at ordered (not_behind last first at here from.0))
    ∙ moved_on earliest latest (Some at) at later ordered (let same : at ≤ at = omega arith in same) from.1
  where
    not_behind : (last : Option ℕ) (first at : ℕ) → IsNotBehind last first → first ≤ at → IsNotBehind last at
    not_behind None first at here from = tt
    not_behind (Some before) first at here from = omega arith

-- the end is the one that the changes so far give with the present shift
abbrev IsUpToDate : Course → Type 0
IsUpToDate course = course.end ≡ recalculated course.start course.shift course.changes

-- one change more
changed_up_to_date : (at : ℕ) (course : Course) → IsUpToDate course → IsUpToDate (course_changed at course)
changed_up_to_date at course is =
    let earliest = earliest_end course.start course.shift in
    let latest = latest_end course.start course.shift in
    ap (λ end. moved earliest latest end at) is
    ∙ sym (fold-append (moved earliest latest) earliest course.changes (at ∷ []))

next_up_to_date : (course : Option Course) (event : Event) → IfSome course IsUpToDate
    → IfSome (next course event) IsUpToDate
next_up_to_date None (Introduced at) is = refl
next_up_to_date None (Amended at) is = tt
next_up_to_date None (Varied shift) is = tt
next_up_to_date (Some course) (Introduced at) is = changed_up_to_date at course is
next_up_to_date (Some course) (Amended at) is = changed_up_to_date at course is
next_up_to_date (Some course) (Varied shift) is = refl

up_to_date : (course : Option Course) (events : List Event) → IfSome course IsUpToDate
    → IfSome (fold next course events) IsUpToDate
up_to_date course [] is = is
up_to_date course (event ∷ events) is = up_to_date (next course event) events (next_up_to_date course event is)

-- the earliest end is not after the latest one
pub earliest_first : (start : ℕ) (shift : ℤ) → IsShift shift → earliest_end start shift ≤ latest_end start shift
earliest_first start shift within = omega (arith, ints, within.least, within.most)

pub follow : EndsFollowTheCourse
follow events course is within from =
    let current : IsUpToDate course = subst (λ o. IfSome o IsUpToDate) is (up_to_date None events tt) in
    let earliest = earliest_end course.start course.shift in
    let latest = latest_end course.start course.shift in
    current ∙ moved_on earliest latest None course.start course.changes
    (earliest_first course.start course.shift within) tt from
