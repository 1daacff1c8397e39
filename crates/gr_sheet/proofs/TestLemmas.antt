-- The tests of the choices on a ballot.
use Rattle.std.proofs.Common.{◌≡◌, ℕ, zero, suc, ◌+◌, ◌-◌, ◌<◌, ◌≤◌, Bool, cond, List, [], ◌∷◌, ◌++◌, length, map, Option, Some, None, is_some, IfSome, IsSomeAnd, slice_index, refl, sym, ap, subst, ◌∙◌, arith}
use Rattle.std.specs.Prelude.{filter}
use Rattle.std.specs.List.{All, cons_option, flat_map, range_with_len}
use Rattle.std.specs.FinMap.{get}
use Rattle.std.proofs.lemmas.List.{append_assoc, length-append, length-map}
use Rattle.std.proofs.lemmas.List.Elements.{All-nil, All-cons, All-weaker}
use Rattle.gr_count.specs.declared.limits.TheConstants.{MAX_DEVELOPERS}
use Rattle.gr_count.specs.declared.outcome.Count.{Count}
use Rattle.gr_count.specs.declared.pairs.Pairs.{Pairs}
use Rattle.gr_count.specs.Election.{Election}
use Rattle.gr_count.specs.Shown.{options_of_pairs}
use Rattle.gr_count.specs.PairwiseCount.{IsPairwiseCountOf}
use Rattle.gr_core.specs.declared.choice.ChoiceKey.{ChoiceKey}
use Rattle.gr_core.specs.declared.resolution.Poll.{Poll}
use Rattle.gr_core.specs.declared.resolution.Resolution.{Resolution}
use Rattle.gr_core.specs.declared.resolution.Resolution.TheVariants.{Draft, Discussing, Voting, Closed, Cancelled}
use Rattle.gr_core.specs.Parts.Ballot.{vote_of}
use Rattle.gr_core.specs.Parts.Choice.{ChoiceModel, IsRatio, choices_of}
use Rattle.gr_core.specs.Desks.Outcome.{place_count, option_at, ratios_on_ballot, election_at}
use Rattle.gr_core.specs.Parts.Resolution.{discussion_of, poll_of}
use Rattle.gr_core.specs.Desks.State.{State}
use Rattle.gr_core.specs.Desks.Valid.{IsValid, IsResolution, IsPoll, IsChoice, IsChoiceIn, places_of, up_to}
use Rattle.gr_sheet.specs.ResultSheet.{IsPollOf, election_shown, findings_of, test_at, test_line, test_line_if}
use Rattle.gr_sheet.specs.Ballot.{IsTimelyPoll}
use Rattle.gr_sheet.proofs.MomentTexts.{timely_poll}
use Rattle.gr_sheet.proofs.LoopLemmas.{range_suc}

abbrev Entry : Type 0
Entry = ChoiceKey × ChoiceModel

abbrev has_place : Entry → Bool
has_place entry = is_some entry.1.place

abbrev ratio_in : Entry → ℕ
ratio_in entry = entry.1.ratio

-- a place of the ballot with these ratios, which has this ratio
pub record IsAt (ratios : List ℕ) (ratio place : ℕ) : Type 0 where
  pub first : 0 < place
  pub inside : place < length ratios
  pub ratio_there : slice_index ratios (option_at place) ≡ ratio

abbrev pub IsPlaced : List ℕ → Entry → Type 0
IsPlaced ratios entry = IfSome entry.1.place (IsAt ratios entry.1.ratio)

behind : (front : List ℕ) (x : ℕ) (rest : List ℕ) → slice_index (front ++ x ∷ rest) (length front) ≡ x
behind [] x rest = refl
behind (y ∷ front) x rest = behind front x rest

-- the ratios of a ballot: some, then those of the entries that have a place, and that of the default option
abbrev ratios_behind : List ℕ → List Entry → List ℕ
ratios_behind front entries = front ++ (map ratio_in entries ++ 1 ∷ [])

step : (front : List ℕ) (e : Entry) (es : List Entry) (n : ℕ) (place : Option ℕ)
    → ((front : List ℕ) (n : ℕ) → places_of es ≡ range_with_len (length front + 1) n → All (IsPlaced (ratios_behind front (filter has_place es))) es)
    → e.1.place ≡ place → cons_option place (places_of es) ≡ range_with_len (length front + 1) n
    → All (IsPlaced (ratios_behind front (cond (is_some place) (e ∷ filter has_place es) (filter has_place es)))) (e ∷ es)
step front e es n None others is same =
    let ratios = ratios_behind front (filter has_place es) in
    All-cons (IsPlaced ratios) e es (let P : Option ℕ → Type 0 = λ o. IfSome o (IsAt ratios e.1.ratio) in subst P (sym is) tt) (others front n same)
step front e es zero (Some place) others is same = absurd (let e : place ∷ places_of es ≡ [] = same in cc)
step front e es (suc n) (Some place) others is same =
    let rest = map ratio_in (filter has_place es) ++ 1 ∷ [] in
    let ratios = front ++ e.1.ratio ∷ rest in
    let long : length ratios ≡ length front + suc (length rest) = length-append front (e.1.ratio ∷ rest) in
    let some : length rest ≡ length (map ratio_in (filter has_place es)) + 1 =
    length-append (map ratio_in (filter has_place es)) (1 ∷ []) in
    let here : place ≡ length front + 1 = cc in
    let later : places_of es ≡ range_with_len (length front + 1 + 1) n = cc in
    let longer : length front + 1 + 1 ≡ length (front ++ e.1.ratio ∷ []) + 1 = omega (arith, length-append front (e.1.ratio ∷ [])) in
    let at : option_at place ≡ length front = omega arith in
    let placed : IsAt ratios e.1.ratio place = record {
      first = omega arith;
      inside = omega arith;
      ratio_there = ap (slice_index ratios) at ∙ behind front e.1.ratio rest;
    } in
    All-cons (IsPlaced ratios) e es (let P : Option ℕ → Type 0 = λ o. IfSome o (IsAt ratios e.1.ratio) in subst P (sym is) placed)
    (let P : List ℕ → Type 0 = λ ratios. All (IsPlaced ratios) es in
    subst P (append_assoc front (e.1.ratio ∷ []) rest)
    (others (front ++ e.1.ratio ∷ []) n (later ∙ ap (λ k. range_with_len k n) longer)))

placed_behind : (es : List Entry) (front : List ℕ) (n : ℕ) → places_of es ≡ range_with_len (length front + 1) n
    → All (IsPlaced (ratios_behind front (filter has_place es))) es
placed_behind [] front n same = All-nil (IsPlaced (ratios_behind front []))
placed_behind (e ∷ es) front n same = step front e es n e.1.place (placed_behind es) refl same

up_to-range : (n : ℕ) → up_to n ≡ range_with_len 1 n
up_to-range zero = refl
up_to-range (suc n) =
    ap (λ xs. xs ++ suc n ∷ []) (up_to-range n)
    ∙ ap (λ x. range_with_len 1 n ++ x ∷ []) (omega arith) ∙ sym (range_suc 1 n)

-- where the choices have the places 1, 2, .. in their order, each has the ratio that stands at its place
pub placed : (es : List Entry) (n : ℕ) → places_of es ≡ up_to n → All (IsPlaced (map ratio_in (filter has_place es) ++ 1 ∷ [])) es
placed es n same = placed_behind es [] n (same ∙ up_to-range n)

-- ---- in a valid state

abbrev pub HasRatio : Entry → Type 0
HasRatio entry = IsRatio entry.1.ratio

ratio_of_choice : (s : State) (entry : Entry) (row : Option Resolution)
    → IsSomeAnd row (λ resolution. IsChoice s.header.clock s.developers resolution entry.1) → HasRatio entry
ratio_of_choice s entry None is = absurd is
ratio_of_choice s entry (Some resolution) is = is.ratio

pub have_ratios : (s : State) (number : ℕ) (es : List Entry) → All (IsChoiceIn s number) es → All HasRatio es
have_ratios s number es each =
    All-weaker (IsChoiceIn s number) HasRatio (λ entry is. ratio_of_choice s entry (get s.resolutions number) is) es each

row_with_poll : (s : State) (number : ℕ) (poll : Poll) (row : Option Resolution) → get s.resolutions number ≡ row
    → IsSomeAnd row (λ resolution. poll_of resolution ≡ Some poll)
    → (resolution : Resolution) × (get s.resolutions number ≡ Some resolution) × (poll_of resolution ≡ Some poll)
row_with_poll s number poll None is has = absurd has
row_with_poll s number poll (Some resolution) is has = (resolution, is, has)

-- on the ballot of a resolution each choice has a place, and its ratio is the one at that place
pub placed_on_ballot : (s : State) (number : ℕ) (poll : Poll) → IsValid s → IsPollOf s number poll
    → All (IsPlaced (ratios_on_ballot s.choices number)) (choices_of s.choices number)
placed_on_ballot s number poll valid has =
    let row = row_with_poll s number poll (get s.resolutions number) refl has in
    let rules : IsResolution s.header.clock s number row.0 = valid.tables.resolutions number row.0 row.1 in
    placed (choices_of s.choices number) (length (places_of (choices_of s.choices number))) (rules.places (ap is_some row.2))

poll_of_row : (clock : ℕ) (row : Resolution) (poll : Poll) → poll_of row ≡ Some poll
    → IfSome (discussion_of row) (λ discussion. IfSome (poll_of row) (IsPoll clock discussion)) → poll.developers ≤ MAX_DEVELOPERS
poll_of_row clock Draft poll is rule = absurd (let e : None ≡ Some poll = is in cc)
poll_of_row clock (Discussing d) poll is rule = absurd (let e : None ≡ Some poll = is in cc)
poll_of_row clock (Cancelled d) poll is rule = absurd (let e : None ≡ Some poll = is in cc)
poll_of_row clock (Voting d p) poll is rule =
    let e : Some p ≡ Some poll = is in let same : p ≡ poll = cc in
    let P : Poll → Type 0 = λ q. q.developers ≤ MAX_DEVELOPERS in subst P same rule.developers
poll_of_row clock (Closed d p chosen) poll is rule =
    let e : Some p ≡ Some poll = is in let same : p ≡ poll = cc in
    let P : Poll → Type 0 = λ q. q.developers ≤ MAX_DEVELOPERS in subst P same rule.developers

-- the developers of a call are not too many
pub few_developers : (s : State) (number : ℕ) (poll : Poll) → IsValid s → IsPollOf s number poll → poll.developers ≤ MAX_DEVELOPERS
few_developers s number poll valid has =
    let row = row_with_poll s number poll (get s.resolutions number) refl has in
    let rules : IsResolution s.header.clock s number row.0 = valid.tables.resolutions number row.0 row.1 in
    poll_of_row s.header.clock row.0 poll row.2 rules.poll

-- and its moments have texts
pub timely : (s : State) (number : ℕ) (poll : Poll) → IsValid s → IsPollOf s number poll → IsTimelyPoll poll
timely s number poll valid has =
    let row = row_with_poll s number poll (get s.resolutions number) refl has in
    subst (λ found. IfSome found IsTimelyPoll) row.2 (timely_poll s valid number row.0 row.1)

-- ---- their lines

-- the tests of the choices that have a place
abbrev pub tests_of : Election → Count → List Entry → List ℕ
tests_of e count entries = flat_map (λ entry. test_line_if e (findings_of e count) entry.1.place) entries

test_of_entry : (e : Election) (count : Count) (place : Option ℕ) (rest : List ℕ)
    → test_line_if e (findings_of e count) place ++ flat_map (λ p. test_line (test_at e (findings_of e count) p)) rest
    ≡ flat_map (λ p. test_line (test_at e (findings_of e count) p)) (cons_option place rest)
test_of_entry e count None rest = refl
test_of_entry e count (Some place) rest = refl

-- they are those of the places
pub tests_by_place : (e : Election) (count : Count) (es : List Entry)
    → tests_of e count es ≡ flat_map (λ place. test_line (test_at e (findings_of e count) place)) (places_of es)
tests_by_place e count [] = refl
tests_by_place e count (entry ∷ es) =
    ap (λ text. test_line_if e (findings_of e count) entry.1.place ++ text) (tests_by_place e count es)
    ∙ test_of_entry e count entry.1.place (places_of es)

abbrev shown_between : ℕ → (ℕ → ℕ → ℕ) → ℕ → ℕ → Election
shown_between options V developers ratio = record { default = options - 1; preference = V; developers = developers; ratio = λ a. ratio }

-- what the pairs of the vote show at the place of a choice is what the election has there
pub same_test : (s : State) (number : ℕ) (poll : Poll) (pairs : Pairs) (count : Count) (ratio : ℕ) (place : Option ℕ)
    → options_of_pairs pairs ≡ place_count s.choices number → IsPairwiseCountOf pairs (vote_of s.ballots number)
    → IfSome place (IsAt (ratios_on_ballot s.choices number) ratio)
    → test_line_if (election_shown pairs poll.developers (λ a. ratio)) (findings_of (election_shown pairs poll.developers (λ a. ratio)) count) place
    ≡ test_line_if (election_at s number poll) (findings_of (election_at s number poll) count) place
same_test s number poll pairs count ratio None options tally is = refl
same_test s number poll pairs count ratio (Some place) options tally is =
    let there = sym is.ratio_there in
    λ i. test_line (test_at (shown_between (options i) (λ a b. tally.counts a b i) poll.developers (there i))
    (findings_of (shown_between (options i) (λ a b. tally.counts a b i) poll.developers (there i)) count) place)

-- the places of a ballot
pub on_the_ballot : (s : State) (number options ratio : ℕ) (place : Option ℕ) → options ≡ place_count s.choices number
    → IfSome place (IsAt (ratios_on_ballot s.choices number) ratio) → IfSome place (λ p. (0 < p) × (p < options))
on_the_ballot s number options ratio None same is = tt
on_the_ballot s number options ratio (Some place) same is =
    let entries = filter has_place (choices_of s.choices number) in
    let long : length (ratios_on_ballot s.choices number) ≡ options =
    length-append (map ratio_in entries) (1 ∷ []) ∙ ap (λ n. n + 1) (length-map entries ratio_in) ∙ sym same in
    (is.first, (let P : ℕ → Type 0 = λ n. place < n in subst P long is.inside))
