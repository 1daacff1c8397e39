-- What a valid desk has is what columns can keep.
use Rattle.std.proofs.Common.{◌≡◌, ℕ, ◌<◌, ◌≤◌, ◌^◌, inl, inr, true, false, cond, List, [], ◌∷◌, length, filter, Option, Some, None, is_some, IsSome, IsSomeAnd, IfSome, zero, suc, refl, sym, ap, ◌∙◌, subst, arith}
use Rattle.std.specs.Prelude.{option_and_then}
use Rattle.std.proofs.lemmas.Int.{ints}
use Rattle.std.specs.Prelude.{nat_eq}
use Rattle.std.proofs.Common.{eq-eqb}
use Rattle.std.specs.List.{Contains, cons_option}
use Rattle.std.specs.Ordering.{eq_by_cmp}
use Rattle.std.specs.FinMap.{get, entries, find, get-entries}
use Rattle.std.proofs.lemmas.List.Elements.{Contains-append_left, Contains-append_right, Contains-append_cases}
use Rattle.gr_count.specs.declared.limits.TheConstants.{MAX_OPTIONS}
use Rattle.gr_core.specs.declared.limits.TheConstants.{MAX_CHOICES}
use Rattle.gr_core.specs.Parts.Key.{choice_cmp}
use Rattle.gr_core.specs.Parts.Choice.{choices_of}
use Rattle.gr_core.specs.Desks.Valid.{places_of, up_to}
use Rattle.gr_core.proofs.Collections.PresenceLemmas.{not_None}
use Rattle.gr_core.proofs.Collections.PairKeys.{choice_only}
use Rattle.gr_core.proofs.Collections.TableLemmas.{tied}
use Rattle.gr_core.proofs.Columns.StoredLemmas.{one, one_only}
use Rattle.gr_core.specs.declared.header.Header.{Header}
use Rattle.gr_core.specs.declared.discussion.Discussion.{Discussion}
use Rattle.gr_core.specs.declared.resolution.Poll.{Poll}
use Rattle.gr_core.specs.declared.resolution.Resolution.{Resolution}
use Rattle.gr_core.specs.declared.resolution.Resolution.TheVariants.{Draft, Discussing, Voting, Closed, Cancelled}
use Rattle.gr_core.specs.declared.choice.ChoiceKey.{ChoiceKey}
use Rattle.gr_core.specs.declared.sponsor.Sponsorship.{Sponsorship}
use Rattle.gr_core.specs.Parts.Header.{IsHeader}
use Rattle.gr_core.specs.Parts.Choice.{ChoiceModel}
use Rattle.gr_core.specs.Parts.Key.{SponsorKey, BallotKey}
use Rattle.gr_core.specs.Parts.Ballot.{BallotModel}
use Rattle.gr_core.specs.Parts.Resolution.{discussion_of, poll_of, chosen_of}
use Rattle.gr_core.specs.Desks.Outcome.{place_count}
use Rattle.gr_core.specs.Desks.State.{State}
use Rattle.gr_core.specs.Desks.Valid.{IsValid, IsDiscussion, IsPoll, IsChoice}
use Rattle.gr_core.specs.Columns.Fields.{IsSmall, IsPlaceKept, IsMomentKept, FitsHeader, FitsDiscussion, FitsPoll, FitsResolution, FitsKey, FitsChoice}
use Rattle.gr_core.specs.Columns.Stored.{Fits, FitsSponsor, FitsVoter}
use Rattle.gr_core.proofs.Collections.PresenceLemmas.{each, taken, is_given, present}
use Rattle.gr_core.proofs.Contents.StableLemmas.{lt_or_ge}
use Rattle.gr_core.proofs.Contents.ElectionLemmas.{enough_places, few_places, with_poll}

header_fits : (header : Header) → IsHeader header → FitsHeader header
header_fits header is =
    let accepted = is.accepted in
    let clock = is.clock in
    let version = is.version in
    record { version = omega arith; accepted = omega arith; clock = omega arith }

fits_poll : (clock : ℕ) (discussion : Discussion) (poll : Poll) → clock < 2 ^ 63 → IsPoll clock discussion poll → FitsPoll poll
fits_poll clock discussion poll low is =
    let called = is.called.1 in
    let days = is.days.most in
    let developers = is.developers in
    record { called = omega arith; days = omega (arith, ints); developers = omega arith }

fit_poll : (clock : ℕ) (resolution : Resolution) → clock < 2 ^ 63
    → IfSome (discussion_of resolution) (λ discussion. IfSome (poll_of resolution) (IsPoll clock discussion))
    → IfSome (poll_of resolution) FitsPoll
fit_poll clock Draft low whole = tt
fit_poll clock (Discussing discussion) low whole = tt
fit_poll clock (Voting discussion poll) low whole = fits_poll clock discussion poll low whole
fit_poll clock (Closed discussion poll chosen) low whole = fits_poll clock discussion poll low whole
fit_poll clock (Cancelled discussion) low whole = tt

fits_discussion : (clock : ℕ) (discussion : Discussion) → clock < 2 ^ 63 → IsDiscussion clock discussion → FitsDiscussion discussion
fits_discussion clock discussion low is =
    let start = is.start in
    let least = is.shift.least in
    let most = is.shift.most in
    record {
      start = omega arith;
      changed = each discussion.changed (λ at. (discussion.start ≤ at) × (at ≤ clock)) IsMomentKept
          (λ at h. (omega (arith, h.0, start.0), omega (arith, h.1))) is.changed;
      least = omega (arith, ints);
      most = omega (arith, ints);
    }

for_value : {A : Type 0} (o : Option A) (P : A → Type 0) → ((x : A) → o ≡ Some x → P x) → IfSome o P
for_value None P holds = tt
for_value (Some x) P holds = holds x refl

short_places : (es : List (ChoiceKey × ChoiceModel)) → length (places_of es) ≤ length es
short_places [] = omega arith
short_places (e ∷ es) =
    let rest : length (places_of es) ≤ length es = short_places es in
    elim e.1.place as (λ o. length (cons_option o (places_of es)) ≤ suc (length es)) [
      | Some place ↦ omega arith
      | None ↦ omega arith
    ]

up_to_bound : (n place : ℕ) → Contains (up_to n) place → (0 < place) × (place ≤ n)
up_to_bound zero place has = absurd (let below : has.0 < 0 = has.1 in omega arith)
up_to_bound (suc n) place has = elim (Contains-append_cases (up_to n) (suc n ∷ []) place has) [
  | inl before ↦ let within = up_to_bound n place before in (within.0, omega (arith, within.1))
  | inr last ↦ let is : suc n ≡ place = one_only (suc n) place last in (omega arith, omega arith)
]

-- the place of a choice stands among those of its resolution
place_in : (resolution : ℕ) (key : ChoiceKey) (row : ChoiceModel) (place : ℕ) → row.place ≡ Some place
    → nat_eq resolution key.resolution ≡ true → (es : List (ChoiceKey × ChoiceModel)) → find choice_cmp key es ≡ Some row
    → Contains (places_of (filter (λ entry. nat_eq resolution entry.0.resolution) es)) place
place_in resolution key row place has same [] is = absurd (not_None row is)
place_in resolution key row place has same (e ∷ es) is =
    let rest : List (ChoiceKey × ChoiceModel) = filter (λ entry. nat_eq resolution entry.0.resolution) es in
    elim (eq_by_cmp choice_cmp key e.0) as (λ b. eq_by_cmp choice_cmp key e.0 ≡ b
    → cond b (Some e.1) (find choice_cmp key es) ≡ Some row
    → Contains (places_of (filter (λ entry. nat_eq resolution entry.0.resolution) (e ∷ es))) place) [
      | true ↦ λ tie found.
          let key_is : key ≡ e.0 = choice_only key e.0 (tied _ tie) in
          let row_is : e.1 ≡ row = cc in
          let kept : nat_eq resolution e.0.resolution ≡ true =
          ap (λ (k : ChoiceKey). nat_eq resolution k.resolution) (sym key_is) ∙ same in
          let placed : e.1.place ≡ Some place = ap (λ (r : ChoiceModel). r.place) row_is ∙ has in
          subst (λ b. Contains (places_of (cond b (e ∷ rest) rest)) place) (sym kept)
          (subst (λ o. Contains (cons_option o (places_of rest)) place) (sym placed)
          (Contains-append_left (place ∷ []) (places_of rest) place (one place)))
      | false ↦ λ tie found.
          let later = place_in resolution key row place has same es found in
          elim (nat_eq resolution e.0.resolution) as (λ b. Contains (places_of (cond b (e ∷ rest) rest)) place) [
            | true ↦ elim e.1.place as (λ o. Contains (cons_option o (places_of rest)) place) [
              | Some other ↦ Contains-append_right (other ∷ []) (places_of rest) place later
              | None ↦ later
            ]
            | false ↦ later
          ]
    ] refl is

after_start : (clock : ℕ) (resolution : Resolution) (at : ℕ) → clock < 2 ^ 63
    → IfSome (discussion_of resolution) (IsDiscussion clock)
    → (at ≤ clock) × IsSomeAnd (discussion_of resolution) (λ discussion. discussion.start ≤ at) → IsMomentKept at
after_start clock resolution at low timely is =
    let found = taken (discussion_of resolution) (λ discussion. discussion.start ≤ at) is.1 in
    let holds : IsDiscussion clock found.0 = subst (λ o. IfSome o (IsDiscussion clock)) found.1 timely in
    let start = holds.start.0 in
    let later = found.2 in
    (omega arith, omega (arith, is.0))

module _ (s : State) (valid : IsValid s) where
  low_clock : s.header.clock < 2 ^ 63
  low_clock = let clock = valid.header.clock in omega arith

  number_small : (number : ℕ) → IsSome (get s.resolutions number) → IsSmall number
  number_small number found =
      let within = (valid.tables.numbered.numbered number).0 found in
      let few = valid.tables.numbered.few in
      omega arith

  place_kept : (number place : ℕ) → place_count s.choices number ≤ MAX_OPTIONS
      → (¬ ((0 < place) × (place ≤ place_count s.choices number)) → ⊥) → IsPlaceKept place
  place_kept number place few may = (
    elim (lt_or_ge 0 place) [ inl low ↦ low | inr high ↦ absurd (may (λ is. omega (arith, is.0))) ],
    elim (lt_or_ge place (2 ^ 32)) [ inl low ↦ low | inr high ↦ absurd (may (λ is. omega (arith, is.1))) ],
  )

  chosen_kept : (number : ℕ) (resolution : Resolution) → get s.resolutions number ≡ Some resolution
      → IfSome (chosen_of resolution) IsPlaceKept
  chosen_kept number Draft is = tt
  chosen_kept number (Discussing discussion) is = tt
  chosen_kept number (Voting discussion poll) is = tt
  chosen_kept number (Closed discussion poll None) is = tt
  chosen_kept number (Closed discussion poll (Some place)) is =
      let may = valid.votes.chosen number (Closed discussion poll (Some place)) is in
      let few = few_places s valid.tables number (ap (λ o. is_some (option_and_then poll_of o)) is) in
      place_kept number place few (λ refused. may (inr (λ both. refused both.0)))
  chosen_kept number (Cancelled discussion) is = tt

  resolution_fits : (number : ℕ) (resolution : Resolution) → get s.resolutions number ≡ Some resolution
      → FitsResolution number resolution
  resolution_fits number resolution is =
      let holds = valid.tables.resolutions number resolution is in
      record {
        small = number_small number (is_given (get s.resolutions number) resolution is);
        stage = record {
          discussion = each (discussion_of resolution) (IsDiscussion s.header.clock) FitsDiscussion
              (λ discussion h. fits_discussion s.header.clock discussion low_clock h) holds.discussion;
          poll = fit_poll s.header.clock resolution low_clock holds.poll;
          chosen = chosen_kept number resolution is;
        };
      }

  key_fits : (key : ChoiceKey) → IsSome (get s.choices key) → FitsKey key
  key_fits key found =
      let row = present (get s.choices key) found in
      let owner = taken (get s.resolutions key.resolution) (λ resolution. IsChoice s.header.clock s.developers resolution row.0)
      (valid.tables.choices key row.0 row.1) in
      let holds = valid.tables.resolutions key.resolution owner.0 owner.1 in
      let within = (holds.numbered key.number).0 found in
      let few = holds.few in
      record {
        resolution = number_small key.resolution (is_given (get s.resolutions key.resolution) owner.0 owner.1);
        number = omega arith;
      }

  sponsor_fits : (key : SponsorKey) (sponsorship : Sponsorship) → get s.sponsors key ≡ Some sponsorship → FitsSponsor key sponsorship
  sponsor_fits key sponsorship is =
      let choice = taken (get s.choices key.0) _ (valid.tables.sponsors key.0 key.1 sponsorship is) in
      key_fits key.0 (is_given (get s.choices key.0) choice.0 choice.1)

  ballot_fits : (key : BallotKey) (row : BallotModel) → get s.ballots key ≡ Some row → FitsVoter key row
  ballot_fits key row is =
      let holds = valid.votes.ballots key.0 key.1 row is in
      let enough = enough_places s valid.tables key.0 holds.poll in
      let few = few_places s valid.tables key.0 holds.poll in
      let whole = holds.ranks.whole in
      let called = with_poll (get s.resolutions key.0) holds.poll in
      record {
        small = number_small key.0 (is_given (get s.resolutions key.0) called.0 called.1);
        ranks = record { enough = omega arith; few = omega arith; marks = holds.ranks.marks };
        receipt = holds.receipt;
        received = omega (arith, holds.received.1, valid.header.accepted);
      }

  place_fits : (key : ChoiceKey) (row : ChoiceModel) → get s.choices key ≡ Some row → (resolution : Resolution)
      → get s.resolutions key.resolution ≡ Some resolution → IsChoice s.header.clock s.developers resolution row
      → IfSome row.place IsPlaceKept
  place_fits key row is resolution found choice =
      let holds = valid.tables.resolutions key.resolution resolution found in
      let these : List (ChoiceKey × ChoiceModel) = choices_of s.choices key.resolution in
      for_value row.place IsPlaceKept (λ place at.
      let poll = (subst (λ o. IfSome o (λ _. IsSome row.introduced × IsSome (poll_of resolution))) at choice.place).1 in
      let has = place_in key.resolution key row place at (eq-eqb key.resolution key.resolution refl) (entries s.choices)
      (sym (get-entries s.choices key) ∙ is) in
      let within = up_to_bound (length (places_of these)) place (subst (λ places. Contains places place) (holds.places poll) has) in
      let short : length (places_of these) ≤ length these = short_places these in
      let few : length these ≤ MAX_CHOICES = holds.few in
      (within.0, omega (arith, within.1)))

  choice_fits : (key : ChoiceKey) (row : ChoiceModel) → get s.choices key ≡ Some row → FitsChoice key row
  choice_fits key row is =
      let owner = taken (get s.resolutions key.resolution) (λ resolution. IsChoice s.header.clock s.developers resolution row)
      (valid.tables.choices key row is) in
      let holds = valid.tables.resolutions key.resolution owner.0 owner.1 in
      let clock = low_clock in
      let ratio = owner.2.ratio in
      record {
        small = key_fits key (is_given (get s.choices key) row is);
        ratio = omega (arith, ratio.1);
        introduced = each row.introduced _ IsMomentKept
            (λ at h. after_start s.header.clock owner.0 at clock holds.discussion h) owner.2.introduced;
        short = each row.short _ IsMomentKept (λ at h. (h.0.0, omega (arith, h.0.1))) owner.2.short;
        place = place_fits key row is owner.0 owner.1 owner.2;
      }

pub fits : (s : State) → IsValid s → Fits s
fits s valid = record {
  header = header_fits s.header valid.header;
  resolutions = resolution_fits s valid;
  choices = choice_fits s valid;
  sponsors = sponsor_fits s valid;
  ballots = ballot_fits s valid;
}
