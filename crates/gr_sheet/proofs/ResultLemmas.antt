-- The lines of a result.
use Rattle.std.proofs.Common.{◌≡◌, ℕ, ◌+◌, ◌<◌, nat_lt, nat_eq, ◌↔◌, Bool, true, false, cond, List, [], ◌∷◌, ◌++◌, length, get_or, take, Option, Some, None, IsSomeAnd, IsTrue, refl, sym, ap, subst, ◌∙◌, arith, codes, decimal}
use Rattle.std.specs.Prelude.{filter, option_and_then}
use Rattle.std.specs.List.{All, flat_map, join_by}
use Rattle.std.proofs.lemmas.List.{append_assoc, append-nil}
use Rattle.std.proofs.lemmas.List.Elements.{filter_more, filter_passes, All-head, All-weaker}
use Rattle.std.proofs.lemmas.List.Sums.{length-filter}
use Rattle.std.proofs.lemmas.Bool.{ltb-true, lt-ltb, eqb-true, eq-eqb, and_parts, and_from}
use Rattle.gr_count.specs.declared.outcome.Count.{Count}
use Rattle.gr_count.specs.Election.{Election}
use Rattle.gr_count.specs.Findings.{AreFindings}
use Rattle.gr_count.specs.Options.{options_below, size_below}
use Rattle.gr_count.specs.Shown.{round_of_drop, is_member, options_of_count}
use Rattle.gr_core.specs.declared.resolution.Poll.{Poll}
use Rattle.gr_core.specs.declared.resolution.Resolution.{Resolution}
use Rattle.gr_core.specs.Parts.Resolution.{poll_of}
use Rattle.gr_core.specs.Parts.Choice.{choices_of}
use Rattle.gr_core.specs.Desks.Outcome.{IsCountOf, election_at, place_count}
use Rattle.gr_core.specs.Desks.State.{State}
use Rattle.gr_core.specs.Desks.Valid.{places_of}
use Rattle.gr_sheet.specs.ResultSheet.{IsResult, vote_lines, count_lines, members_of, cast_line, last_line, is_dropped_in, findings_of}
use Rattle.gr_sheet.proofs.LoopLemmas.{grown, flat_map-push}

-- what stands before the next one of several texts: nothing before the first one
abbrev pub separator_after : {X : Type 0} → List ℕ → List X → List ℕ
separator_after separator [] = []
separator_after separator (x ∷ xs) = separator

-- texts with a separator, and one more
pub join_by-push : {X : Type 0} (text : X → List ℕ) (separator : List ℕ) (xs : List X) (x : X)
    → join_by text separator (xs ++ x ∷ []) ≡ join_by text separator xs ++ (separator_after separator xs ++ text x)
join_by-push text separator [] x = append-nil (text x)
join_by-push text separator (y ∷ ys) x =
    ap (λ rest. text y ++ rest) (flat_map-push (λ z. separator ++ text z) ys x)
    ∙ sym (append_assoc (text y) (flat_map (λ z. separator ++ text z) ys) (separator ++ text x))

pub separator_after-push : {X : Type 0} (separator : List ℕ) (xs : List X) (x : X) → separator_after separator (xs ++ x ∷ []) ≡ separator
separator_after-push separator [] x = refl
separator_after-push separator (y ∷ ys) x = refl

-- the elements that pass, with one more that does, or with one that does not
pub filter-take_yes : {X : Type 0} (p : X → Bool) (xs : List X) (i : ℕ) (d : X) → i < length xs → p (get_or xs i d) ≡ true
    → filter p (take (i + 1) xs) ≡ filter p (take i xs) ++ get_or xs i d ∷ []
filter-take_yes p xs i d inside passes =
    filter_more p xs i d inside ∙ ap (λ b. filter p (take i xs) ++ cond b (get_or xs i d ∷ []) []) passes

pub filter-take_no : {X : Type 0} (p : X → Bool) (xs : List X) (i : ℕ) (d : X) → i < length xs → p (get_or xs i d) ≡ false
    → filter p (take (i + 1) xs) ≡ filter p (take i xs)
filter-take_no p xs i d inside fails =
    filter_more p xs i d inside ∙ ap (λ b. filter p (take i xs) ++ cond b (get_or xs i d ∷ []) []) fails ∙ append-nil (filter p (take i xs))

-- a defeat more in the line of a round
pub drop_added : (old : List ℕ) (round : ℕ) (one more : List ℕ) {all mid new : List ℕ}
    → mid ≡ old ++ (codes "Round " ++ (decimal round ++ (codes ": drop " ++ one))) → new ≡ mid ++ more → all ≡ one ++ more
    → new ≡ old ++ (codes "Round " ++ (decimal round ++ (codes ": drop " ++ all)))
drop_added old round one more first second whole =
    grown old (codes "Round " ++ (decimal round ++ (codes ": drop " ++ one))) more first second
    (ap (λ text. codes "Round " ++ (decimal round ++ (codes ": drop " ++ text))) whole
    ∙ ap (λ text. codes "Round " ++ text) (sym (append_assoc (decimal round) (codes ": drop " ++ one) more)))

all_one : (one : ℕ) (xs : List ℕ) → length xs ≡ 1 → All (λ x. x ≡ one) xs → xs ≡ one ∷ []
all_one one [] long same = absurd (omega arith)
all_one one (x ∷ []) long same = ap (λ y. y ∷ []) (All-head (λ y. y ≡ one) x [] same)
all_one one (x ∷ y ∷ xs) long same = absurd (omega arith)

-- the only member of a set of options
pub sole_member : (is_in : ℕ → Bool) (options winner : ℕ) → size_below options is_in ≡ 1 → ((a : ℕ) → IsTrue (is_in a) → a ≡ winner)
    → members_of is_in options ≡ winner ∷ []
sole_member is_in options winner size only =
    all_one winner (members_of is_in options) (length-filter is_in (options_below options) ∙ size)
    (All-weaker (λ a. is_in a ≡ true) (λ a. a ≡ winner) only (members_of is_in options) (filter_passes is_in (options_below options)))

not_one : (members : List ℕ) (chosen : Option ℕ) → (length members ≡ 1 → ⊥) → cast_line chosen ≡ last_line members chosen
not_one [] chosen many = refl
not_one (x ∷ []) chosen many = absurd (many refl)
not_one (x ∷ y ∷ xs) chosen many = refl

-- where there is no only member, the casting vote decides
pub no_sole_member : (is_in : ℕ → Bool) (options : ℕ) (chosen : Option ℕ) → (size_below options is_in ≡ 1 → ⊥)
    → cast_line chosen ≡ last_line (members_of is_in options) chosen
no_sole_member is_in options chosen many =
    not_one (members_of is_in options) chosen (λ long. many (sym (length-filter is_in (options_below options)) ∙ long))

-- ---- findings

dropped_told : (count : Count) (round a b : ℕ)
    → IsTrue (is_dropped_in count round a b) ↔ ((0 < round) × (round_of_drop count a b ≡ round))
dropped_told count round a b =
    let there = nat_lt 0 round in
    let drop = round_of_drop count a b in (
      (λ is. let parts = and_parts there (nat_eq drop round) is in (ltb-true 0 round parts.0, eqb-true drop round parts.1)),
      (λ is. and_from there (nat_eq drop round) (lt-ltb 0 round is.0) (eq-eqb drop round is.1)),
    )

-- what a count tells are findings of its election
pub are_findings : (e : Election) (places : ℕ) (count : Count) → IsCountOf e places count → AreFindings e (findings_of e count)
are_findings e places count is = record {
  quorum = λ a. (λ is. is, λ has. has);
  majority = λ a. (λ is. is, λ has. has);
  kept = is.kept;
  rounds = is.rounds;
  dropped = λ round a b.
      let told = dropped_told count round a b in
      let drop = is.dropped round a b in
      ((λ tells. drop.1 (told.0 tells)), (λ drops. told.1 (drop.0 drops)));
  outcome = is.outcome;
}

-- ---- the whole

told : (number lines count last : List ℕ)
    → (((codes "Result of resolution " ++ (number ++ codes "\n")) ++ lines) ++ count) ++ last
    ≡ codes "Result of resolution " ++ (number ++ (codes "\n" ++ (lines ++ (count ++ (last ++ [])))))
told number lines count last = simp (append_assoc, append-nil)

-- the parts of the result, added one after the other
pub result_told : (s : State) (number : ℕ) (poll : Poll) (chosen : Option ℕ) (count : Count) {head voted counted whole : List ℕ}
    → IsCountOf (election_at s number poll) (place_count s.choices number) count
    → head ≡ codes "Result of resolution " ++ (decimal number ++ codes "\n")
    → voted ≡ head ++ vote_lines s number poll
    → counted ≡ voted ++ count_lines (election_at s number poll) (findings_of (election_at s number poll) count)
    (places_of (choices_of s.choices number)) (place_count s.choices number)
    → whole ≡ counted ++ last_line (members_of (is_member count) (options_of_count count)) chosen
    → IsResult s number poll chosen whole
result_told s number poll chosen count is first second third fourth =
    let e = election_at s number poll in
    let lines = vote_lines s number poll in
    let steps = count_lines e (findings_of e count) (places_of (choices_of s.choices number)) (place_count s.choices number) in
    let last = last_line (members_of (is_member count) (place_count s.choices number)) chosen in (
      findings_of e count,
      are_findings e (place_count s.choices number) count is,
      fourth ∙ ap (λ text. text ++ last_line (members_of (is_member count) (options_of_count count)) chosen)
          (third ∙ ap (λ text. text ++ steps) (second ∙ ap (λ text. text ++ lines) first))
          ∙ ap (λ n. (((codes "Result of resolution " ++ (decimal number ++ codes "\n")) ++ lines) ++ steps)
          ++ last_line (members_of (is_member count) n) chosen) is.options
          ∙ told (decimal number) lines steps last,
    )

-- what holds of the poll of a resolution
pub of_poll : (poll : Poll) (P : Poll → Type 0) (row : Option Resolution) → IsSomeAnd row (λ resolution. poll_of resolution ≡ Some poll)
    → IsSomeAnd (option_and_then poll_of row) P → P poll
of_poll poll P None has is = absurd has
of_poll poll P (Some resolution) has is = subst (λ found. IsSomeAnd found P) has is
