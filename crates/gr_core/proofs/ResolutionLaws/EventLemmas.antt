-- A discussion is what its events make of it, act by act and over lists of acts.
use Rattle.std.proofs.Common.{◌≡◌, ℕ, ◌≤◌, inl, inr, Bool, true, false, cond, List, [], ◌∷◌, ◌++◌, Option, Some, None, option_map, IfSome, IsFalse, refl, sym, ap, ◌∙◌, subst, arith}
use Rattle.std.proofs.lemmas.List.Sums.{fold-append}
use Rattle.std.specs.Prelude.{ℤ, nat_eq, option_and_then}
use Rattle.std.specs.List.{fold, last_or}
use Rattle.std.specs.Option.{option_map_or}
use Rattle.std.specs.Ordering.{nat_cmp}
use Rattle.std.specs.Cmp.{nat_cmp_total, nat_eq_equiv}
use Rattle.std.specs.FinMap.{get, get-empty, nat_cmp-IsAntisymmetric}
use Rattle.gr_core.specs.declared.discussion.Discussion.{Discussion}
use Rattle.gr_core.specs.declared.resolution.Poll.{Poll}
use Rattle.gr_core.specs.declared.resolution.Resolution.{Resolution}
use Rattle.gr_core.specs.declared.resolution.Resolution.TheVariants.{Draft, Discussing}
use Rattle.gr_core.specs.declared.choice.ChoiceKey.{ChoiceKey}
use Rattle.gr_core.specs.declared.command.Amendment.{Amendment}
use Rattle.gr_core.specs.declared.command.Amendment.TheVariants.{Substantial, Minor}
use Rattle.gr_core.specs.declared.bookkeeping.Gain.{Gain}
use Rattle.gr_core.specs.declared.bookkeeping.Gain.TheVariants.{Nothing, Introduction, Remedy}
use Rattle.gr_core.specs.declared.refusal.Refusal.TheVariants.{ClockBack, NoResolution, WrongStage}
use Rattle.gr_core.specs.Parts.Discussion.{end_of, IsShift}
use Rattle.gr_core.specs.Parts.Resolution.{discussion_of, is_open, changed, entered, shifted, closed, decided}
use Rattle.gr_core.specs.Parts.Choice.{ChoiceModel}
use Rattle.gr_core.specs.Machine.Map.{changed_at}
use Rattle.gr_core.specs.Desks.State.{State, new_state}
use Rattle.gr_core.specs.Desks.Valid.{IsValid, IsDiscussion}
use Rattle.gr_core.specs.Machine.Bookkeeping.{with_gain, gain_at}
use Rattle.gr_core.specs.Machine.Act.{Act, SetDeveloper, ImportRoll, Propose, AddChoice, Sponsor, Unsponsor, Withdraw, Adopt, Amend, Vary, Call, Vote, Close, Cast, resolution_of, resolution_at}
use Rattle.gr_core.specs.Machine.Refusal.{IsAccepted, may_come}
use Rattle.gr_core.specs.Machine.Effect.{own, effect, counted, only_if, is_introduction, next_resolution, first_choice_key, next_choice_key, changes_ballot, live_choices, poll_at, called}
use Rattle.gr_core.specs.Machine.Step.{Answer, Accepted, Refused, reply_to}
use Rattle.gr_core.specs.Machine.Run.{After}
use Rattle.gr_core.specs.Laws.ResolutionLaws.{touched}
use Rattle.gr_core.specs.Laws.Course.{Event, Introduced, Amended, Varied, Course, next, course_of, kept_of, AreFrom, events_by, touches, events_in, events_of, FollowsCourse, DiscussionsFollowTheirActs}
use Rattle.gr_core.specs.Laws.Course as course
use Rattle.gr_core.proofs.Collections.PresenceLemmas.{not_None, not_false, there, given}
use Rattle.gr_core.proofs.Contents.StableLemmas.{lt_or_ge}
use Rattle.gr_core.proofs.Collections.RowPutLemmas.{get-put}
use Rattle.gr_core.proofs.Collections.RowChangedLemmas.{get-changed_at}
use Rattle.gr_core.proofs.Contents.ChoiceKeys.{same_number}
use Rattle.gr_core.proofs.Validity.NewRowsValidLemmas.{discussing}
use Rattle.gr_core.proofs.Validity.ValidLemmas.{new_valid, step_valid}
use Rattle.gr_core.proofs.Validity.RunLemmas.{keeps_valid}
use Rattle.gr_core.proofs.ResolutionLaws.CourseLemmas.{follow}
use Rattle.gr_core.proofs.Effects.CloseAndCastLemmas.{discussion_of-closed, discussion_of-decided}
use Rattle.gr_core.proofs.Effects.LeftResolutionLemmas.{touches_one, leave_the_end}
use Rattle.gr_core.proofs.ResolutionLaws.UntouchedLemmas.{new_has_nothing}

-- ==== moments in the order of time

module _ (clock at : ℕ) (on : clock ≤ at) where
  -- they are before a later moment too
  from-later : (first : ℕ) (moments : List ℕ) → AreFrom first (moments ++ clock ∷ []) → AreFrom first (moments ++ at ∷ [])
  from-later first [] from = ((let before : first ≤ clock = from.0 in omega arith), tt)
  from-later first (moment ∷ moments) from = (from.0, from-later moment moments from.1)

  -- and with that one at their end
  from-more : (first : ℕ) (moments : List ℕ) → AreFrom first (moments ++ clock ∷ [])
      → AreFrom first ((moments ++ at ∷ []) ++ at ∷ [])
  from-more first [] from =
      ((let before : first ≤ clock = from.0 in omega arith), ((let same : at ≤ at = omega arith in same), tt))
  from-more first (moment ∷ moments) from = (from.0, from-more moment moments from.1)

-- without the last one they are in order
from-front : (first : ℕ) (moments : List ℕ) (last : ℕ) → AreFrom first (moments ++ last ∷ []) → AreFrom first moments
from-front first [] last from = tt
from-front first (moment ∷ moments) last from = (from.0, from-front moment moments last from.1)

-- the last of some moments and one more
last-more : (found : Option ℕ) (moments : List ℕ) (at : ℕ) → last_or found (moments ++ at ∷ []) ≡ Some at
last-more found [] at = refl
last-more found (moment ∷ moments) at = last-more (Some moment) moments at

-- ==== what acts make of a discussion and of its course

-- the discussion, if there is one, keeps what it does of the course, if there is one
abbrev Fits : ℕ → Option Discussion → Option Course → Type 0
Fits clock None None = Unit {0}
Fits clock None (Some course) = ⊥
Fits clock (Some discussion) None = ⊥
Fits clock (Some discussion) (Some course) =
    (discussion ≡ kept_of course) × AreFrom course.start (course.changes ++ clock ∷ [])

module _ (clock at : ℕ) (on : clock ≤ at) where
  -- nothing happens
  fits-later : (discussion : Option Discussion) (course : Option Course) → Fits clock discussion course
      → Fits at discussion course
  fits-later None None fits = tt
  fits-later None (Some course) fits = fits
  fits-later (Some discussion) None fits = fits
  fits-later (Some discussion) (Some course) fits =
      (fits.0, from-later clock at on course.start course.changes fits.1)

  -- a change of the ballot
  fits-more : (discussion : Discussion) (c : Course) → Fits clock (Some discussion) (Some c)
      → Fits at (Some (record discussion { changed = Some at })) (Some (course.course_changed at c))
  fits-more discussion c fits = (
    (λ i. record {
      start = (fits.0 i).start;
      changed = sym (last-more None c.changes at) i;
      shift = (fits.0 i).shift;
    }),
    from-more clock at on c.start c.changes fits.1,
  )

  -- a choice is introduced
  fits-entered : (before : Resolution) (c : Option Course) → is_open before ≡ true → Fits clock (discussion_of before) c
      → Fits at (discussion_of (entered at before)) (next c (Introduced at))
  fits-entered Draft None opened fits = (refl, ((let same : at ≤ at = omega arith in same), tt))
  fits-entered Draft (Some c) opened fits = absurd fits
  fits-entered (Discussing discussion) None opened fits = absurd fits
  fits-entered (Discussing discussion) (Some c) opened fits = fits-more discussion c fits
  fits-entered other c opened fits = absurd (not_false opened)

  -- one is amended
  fits-amended : (discussion : Discussion) (c : Option Course) → Fits clock (Some discussion) c
      → Fits at (discussion_of (changed at (Discussing discussion))) (next c (Amended at))
  fits-amended discussion None fits = absurd fits
  fits-amended discussion (Some c) fits = fits-more discussion c fits

  -- the discussion is varied
  fits-shifted : (days : ℤ) (discussion : Discussion) (c : Option Course) → Fits clock (Some discussion) c
      → Fits at (discussion_of (shifted days (Discussing discussion))) (next c (Varied days))
  fits-shifted days discussion None fits = absurd fits
  fits-shifted days discussion (Some c) fits = (
    (λ i. record { start = (fits.0 i).start; changed = (fits.0 i).changed; shift = days }),
    from-later clock at on c.start c.changes fits.1,
  )

-- a call leaves the discussion
discussion_of-called : (live : List (ChoiceKey × ChoiceModel)) (poll : Poll) (discussion : Discussion)
    → discussion_of (called live poll (Discussing discussion)) ≡ Some discussion
discussion_of-called [] poll discussion = refl
discussion_of-called (first ∷ others) poll discussion = refl

-- the ballot changes by an amendment while the resolution is under discussion
ballot-discussing : (amendment : Amendment) (resolution : Option Resolution) (choice : Option ChoiceModel)
    → changes_ballot amendment resolution choice ≡ true
    → (discussion : Discussion) × (resolution ≡ Some (Discussing discussion))
ballot-discussing Minor resolution choice is = absurd (not_false is)
ballot-discussing Substantial None choice is = absurd (not_false is)
ballot-discussing Substantial (Some (Discussing discussion)) choice is = (discussion, refl)
ballot-discussing Substantial (Some other) choice is = absurd (not_false is)

-- ==== acts

-- the discussion that a desk has under a number
abbrev discussion_under : State → ℕ → Option Discussion
discussion_under s number = option_and_then discussion_of (get s.resolutions number)

-- a number that passes the test is the one
touched-one : (found : Option ℕ) (number : ℕ) → option_map_or (nat_eq number) found false ≡ true → found ≡ Some number
touched-one None number is = absurd (not_false is)
touched-one (Some other) number is = ap Some (sym (same_number number other is))

-- a test that passes is not refused
passes : (b : Bool) → ¬ (IsFalse b) → b ≡ true
passes true refused = refl
passes false refused = absurd (refused refl)

module _ (s : State) (at : ℕ) (valid : IsValid s) (number : ℕ) (c : Option Course)
    (fits : Fits s.header.clock (discussion_under s number) c) where
  -- the resolution that an accepted act names is there, and in a stage in which the act may come
  stage : (act : Act) → IsAccepted s at act → resolution_of act ≡ Some number
      → (before : Resolution) × (get s.resolutions number ≡ Some before) × (may_come act before ≡ true)
  stage act accepted names =
      let found = there (get s.resolutions number) (λ none. accepted NoResolution
      (given (resolution_of act) (λ n. get s.resolutions n ≡ None) number names none)) in
      let at_it : resolution_at s act ≡ Some found.0 = ap (option_and_then (get s.resolutions)) names ∙ found.1 in (
        found.0,
        found.1,
        passes (may_come act found.0) (λ wrong. accepted WrongStage
            (given (resolution_at s act) (λ r. IsFalse (may_come act r)) found.0 at_it wrong)),
      )

  -- and no act comes before the clock
  on : (act : Act) → IsAccepted s at act → s.header.clock ≤ at
  on act accepted = elim (lt_or_ge at s.header.clock) [ inl past ↦ absurd (accepted ClockBack past) | inr after ↦ after ]

  -- what the discussion of a resolution that is there keeps
  fits-of : (before : Resolution) → get s.resolutions number ≡ Some before
      → Fits s.header.clock (discussion_of before) c
  fits-of before is = subst (λ o. Fits s.header.clock (option_and_then discussion_of o) c) is fits

  -- what is left as it was
  left : s.header.clock ≤ at → (u : State) → get u.resolutions number ≡ get s.resolutions number
      → Fits at (discussion_under u number) c
  left later u same =
      subst (λ o. Fits at (option_and_then discussion_of o) c) (sym same)
      (fits-later s.header.clock at later (discussion_under s number) c fits)

  -- what is left where a resolution becomes one with the same discussion
  left-turned : s.header.clock ≤ at → (turn : Resolution → Resolution)
      → ((resolution : Resolution) → discussion_of (turn resolution) ≡ discussion_of resolution)
      → (key : ℕ) → key ≡ number
      → Fits at (option_and_then discussion_of (get (changed_at s.resolutions key turn) number)) c
  left-turned later turn keeps key one =
      subst (λ d. Fits at d c)
      (sym (ap (λ n. option_and_then discussion_of (get (changed_at s.resolutions n turn) number)) one
      ∙ ap (option_and_then discussion_of)
      (get-changed_at nat_cmp_total nat_cmp-IsAntisymmetric s.resolutions number turn)
      ∙ same (get s.resolutions number)))
      (fits-later s.header.clock at later (discussion_under s number) c fits)
    where
      same : (found : Option Resolution)
          → option_and_then discussion_of (option_map turn found) ≡ option_and_then discussion_of found
      same None = refl
      same (Some resolution) = keeps resolution

  -- a choice gains something
  fits-gain : s.header.clock ≤ at → (gain : Gain) (u : State) (key : ChoiceKey) (before : Resolution)
      → key.resolution ≡ number → get u.resolutions number ≡ Some before → is_open before ≡ true
      → Fits s.header.clock (discussion_of before) c
      → Fits at (discussion_under (with_gain gain u at key) number)
      (fold next c (only_if (is_introduction gain) (Introduced at)))
  fits-gain later Nothing u key before one is opened known =
      subst (λ o. Fits at (option_and_then discussion_of o) c) (sym is)
      (fits-later s.header.clock at later (discussion_of before) c known)
  fits-gain later Remedy u key before one is opened known =
      subst (λ o. Fits at (option_and_then discussion_of o) c) (sym is)
      (fits-later s.header.clock at later (discussion_of before) c known)
  fits-gain later Introduction u key before one is opened known =
      subst (λ o. Fits at (option_and_then discussion_of o) (next c (Introduced at)))
      (sym (ap (get (changed_at u.resolutions key.resolution (entered at))) (sym one)
      ∙ get-changed_at nat_cmp_total nat_cmp-IsAntisymmetric u.resolutions key.resolution (entered at)
      ∙ ap (option_map (entered at)) (ap (get u.resolutions) one ∙ is)))
      (fits-entered s.header.clock at later before c opened known)

  -- a resolution under discussion changes
  fits-turned : (turn : Resolution → Resolution) (discussion : Discussion) (after : Option Course)
      → get s.resolutions number ≡ Some (Discussing discussion)
      → Fits at (discussion_of (turn (Discussing discussion))) after
      → Fits at (option_and_then discussion_of (get (changed_at s.resolutions number turn) number)) after
  fits-turned turn discussion after is known =
      subst (λ o. Fits at (option_and_then discussion_of o) after)
      (sym (get-changed_at nat_cmp_total nat_cmp-IsAntisymmetric s.resolutions number turn ∙ ap (option_map turn) is))
      known

  -- the resolution that an accepted act touches
  fits-touched : (act : Act) → IsAccepted s at act → touched s act ≡ Some number
      → Fits at (discussion_under (effect s at act) number) (fold next c (events_by s at act))
  fits-touched (SetDeveloper login name standing) accepted is = absurd (not_None number is)
  fits-touched (ImportRoll rows) accepted is = absurd (not_None number is)
  fits-touched (Propose proposer wording ratio) accepted is =
      let act = Propose proposer wording ratio in
      let one : next_resolution s ≡ number = cc in
      let none : get s.resolutions number ≡ None =
      ap (get s.resolutions) (sym one) ∙ (new_has_nothing s valid).row in
      let put : get (own s at act).resolutions number ≡ Some Draft =
      ap (get (own s at act).resolutions) (sym one)
      ∙ get-put nat_cmp_total nat_cmp-IsAntisymmetric s.resolutions (next_resolution s) Draft in
      fits-gain (on act accepted) (gain_at (own s at act) (first_choice_key s)) (own s at act) (first_choice_key s) Draft one put
      refl (subst (λ o. Fits s.header.clock (option_and_then discussion_of o) c) none fits)
  fits-touched (AddChoice resolution proposer wording ratio) accepted is =
      let act = AddChoice resolution proposer wording ratio in
      let one : resolution ≡ number = cc in
      let was = stage act accepted is in
      let now = discussing was.0 (λ wrong. not_false (sym wrong ∙ was.2)) in
      let found : get s.resolutions number ≡ Some (Discussing now.0) = was.1 ∙ ap Some now.1 in
      let key = next_choice_key s resolution in
      fits-gain (on act accepted) (gain_at (own s at act) key) (own s at act) key (Discussing now.0) one found refl
      (fits-of (Discussing now.0) found)
  fits-touched (Sponsor choice login) accepted is =
      let act = Sponsor choice login in
      let one : choice.resolution ≡ number = cc in
      let was = stage act accepted is in
      fits-gain (on act accepted) (gain_at (own s at act) choice) (own s at act) choice was.0 one was.1 was.2
      (fits-of was.0 was.1)
  fits-touched (Adopt choice proposer) accepted is =
      let act = Adopt choice proposer in
      let one : choice.resolution ≡ number = cc in
      let was = stage act accepted is in
      fits-gain (on act accepted) (gain_at (own s at act) choice) (own s at act) choice was.0 one was.1 was.2
      (fits-of was.0 was.1)
  fits-touched (Unsponsor choice login) accepted is =
      let act = Unsponsor choice login in
      left (on act accepted) (effect s at act) (ap (λ resolutions. get resolutions number)
      (leave_the_end s at act (reply_to s at act) (counted (effect s at act) at) refl (accepted, refl, refl)))
  fits-touched (Withdraw choice) accepted is =
      let act = Withdraw choice in
      left (on act accepted) (effect s at act) (ap (λ resolutions. get resolutions number)
      (leave_the_end s at act (reply_to s at act) (counted (effect s at act) at) refl (accepted, refl, refl)))
  fits-touched (Amend choice amendment wording) accepted is =
      let one : choice.resolution ≡ number = cc in
      let later = on (Amend choice amendment wording) accepted in
      let changes = changes_ballot amendment (get s.resolutions choice.resolution) (get s.choices choice) in
      elim changes as (λ b. changes ≡ b
      → Fits at (option_and_then discussion_of
      (get (cond b (changed_at s.resolutions choice.resolution (changed at)) s.resolutions) number))
      (fold next c (only_if b (Amended at)))) [
        | true ↦ λ yes.
            let now = ballot-discussing amendment (get s.resolutions choice.resolution) (get s.choices choice) yes in
            let found : get s.resolutions number ≡ Some (Discussing now.0) = ap (get s.resolutions) (sym one) ∙ now.1 in
            subst (λ n. Fits at (option_and_then discussion_of (get (changed_at s.resolutions n (changed at)) number))
            (next c (Amended at))) (sym one)
            (fits-turned (changed at) now.0 (next c (Amended at)) found
            (fits-amended s.header.clock at later now.0 c (fits-of (Discussing now.0) found)))
        | false ↦ λ no. left later s refl
      ] refl
  fits-touched (Vary resolution days) accepted is =
      let act = Vary resolution days in
      let one : resolution ≡ number = cc in
      let was = stage act accepted is in
      let now = discussing was.0 (λ wrong. not_false (sym wrong ∙ was.2)) in
      let found : get s.resolutions number ≡ Some (Discussing now.0) = was.1 ∙ ap Some now.1 in
      subst (λ n. Fits at (option_and_then discussion_of (get (changed_at s.resolutions n (shifted days)) number))
      (next c (Varied days))) (sym one)
      (fits-turned (shifted days) now.0 (next c (Varied days)) found
      (fits-shifted s.header.clock at (on act accepted) days now.0 c (fits-of (Discussing now.0) found)))
  fits-touched (Call resolution days) accepted is =
      let act = Call resolution days in
      let one : resolution ≡ number = cc in
      let was = stage act accepted is in
      let now = discussing was.0 (λ wrong. not_false (sym wrong ∙ was.2)) in
      let found : get s.resolutions number ≡ Some (Discussing now.0) = was.1 ∙ ap Some now.1 in
      let turn = called (live_choices s.choices at resolution) (poll_at s at days) in
      subst (λ n. Fits at (option_and_then discussion_of (get (changed_at s.resolutions n turn) number)) c) (sym one)
      (fits-turned turn now.0 c found
      (subst (λ d. Fits at d c)
      (sym (discussion_of-called (live_choices s.choices at resolution) (poll_at s at days) now.0))
      (fits-later s.header.clock at (on act accepted) (Some now.0) c (fits-of (Discussing now.0) found))))
  fits-touched (Vote resolution login ranks token) accepted is =
      left (on (Vote resolution login ranks token) accepted) s refl
  fits-touched (Close resolution) accepted is =
      left-turned (on (Close resolution) accepted) closed discussion_of-closed resolution
      (let one : resolution ≡ number = cc in one)
  fits-touched (Cast resolution place) accepted is =
      left-turned (on (Cast resolution place) accepted) (decided place) (discussion_of-decided place) resolution
      (let one : resolution ≡ number = cc in one)

  -- any resolution
  fits-step : (act : Act) → IsAccepted s at act
      → Fits at (discussion_under (effect s at act) number) (fold next c (events_in s at act number))
  fits-step act accepted =
      elim (touches s act number) as (λ b. touches s act number ≡ b
      → Fits at (discussion_under (effect s at act) number) (fold next c (cond b (events_by s at act) []))) [
        | true ↦ λ is. fits-touched act accepted (touched-one (touched s act) number is)
        | false ↦ λ is.
            let other = touches_one s at act (reply_to s at act) (counted (effect s at act) at) number
            (accepted, refl, refl) (λ same.
            let found : true ≡ false = sym (nat_eq_equiv.refl number)
            ∙ ap (λ o. option_map_or (nat_eq number) o false) (sym same) ∙ is in cc) in
            left (on act accepted) (effect s at act) other.row
      ] refl

-- ==== lists of acts

fits-run : (s : State) (acts : List (ℕ × Act)) (answers : List Answer) (t : State) (number : ℕ) (c : Option Course)
    → IsValid s → After s acts answers t → Fits s.header.clock (discussion_under s number) c
    → Fits t.header.clock (discussion_under t number) (fold next c (events_of s acts answers number))
fits-run s [] [] t number c valid p fits = subst (λ u. Fits u.header.clock (discussion_under u number) c) (sym p) fits
fits-run s [] (x ∷ xs) t number c valid p fits = absurd p
fits-run s (act ∷ acts) [] t number c valid p fits = absurd p
fits-run s (act ∷ acts) (Accepted reply ∷ xs) t number c valid p fits =
    let mid = counted (effect s act.0 act.1) act.0 in
    let here = events_in s act.0 act.1 number in
    subst (Fits t.header.clock (discussion_under t number)) (sym (fold-append next c here (events_of mid acts xs number)))
    (fits-run mid acts xs t number (fold next c here) (step_valid s act.0 act.1 valid p.1.0)
    (subst (λ u. After u acts xs t) p.1.2 p.2) (fits-step s act.0 valid number c fits act.1 p.1.0))
fits-run s (act ∷ acts) (Refused refusal ∷ xs) t number c valid p fits =
    fits-run s acts xs t number c valid (subst (λ mid. After mid acts xs t) p.1.1 p.2) fits

-- the end is the one of the course
ends-so : (clock : ℕ) (discussion : Option Discussion) (events : List Event) (c : Option Course) → course_of events ≡ c
    → IfSome discussion (IsDiscussion clock) → Fits clock discussion c → FollowsCourse clock discussion c
ends-so clock None events None is within fits = tt
ends-so clock None events (Some c) is within fits = fits
ends-so clock (Some discussion) events None is within fits = fits
ends-so clock (Some discussion) events (Some c) is within fits = record {
  kept = fits.0;
  order = fits.1;
  end = ap end_of fits.0
      ∙ sym (follow events c is (subst (λ (d : Discussion). IsShift d.shift) fits.0 within.shift)
      (from-front c.start c.changes clock fits.1));
}

-- each resolution of a desk follows its course
pub follow_acts : DiscussionsFollowTheirActs
follow_acts acts answers t number resolution p is =
    let valid = keeps_valid new_state acts answers t new_valid p in
    let none : discussion_under new_state number ≡ None = ap (option_and_then discussion_of) (get-empty nat_cmp number) in
    let fits = fits-run new_state acts answers t number None new_valid p
    (subst (λ d. Fits 0 d None) (sym none) tt) in
    let events = events_of new_state acts answers number in
    ends-so t.header.clock (discussion_of resolution) events (course_of events) refl
    (valid.tables.resolutions number resolution is).discussion
    (subst (λ o. Fits t.header.clock (option_and_then discussion_of o) (course_of events)) is fits)
