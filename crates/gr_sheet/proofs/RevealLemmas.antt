-- What sheets show of ballots is the same on desks that are alike but for ballots of votes that are not closed.
use Rattle.std.proofs.Common.{◌≡◌, ℕ, Bool, true, false, cond, List, [], ◌∷◌, map, length, Option, Some, None, IsSomeAnd, refl, sym, ap, ◌∙◌, subst, codes, decimal}
use Rattle.std.specs.Prelude.{nat_eq, option_and_then, IsSome, IsTrue, slice_index}
use Rattle.std.specs.List.{concat, flat_map, sum_by}
use Rattle.std.specs.List.Sorted.{IsPermutation}
use Rattle.std.specs.Ordering.{nat_cmp}
use Rattle.std.specs.declared.cmp.Ordering.TheVariants.{Equal}
use Rattle.std.specs.Cmp.{IsTotalOrder, nat_cmp_total, on_total, then_total}
use Rattle.std.specs.Cmp.Lexicographic.{nat_list_cmp_total}
use Rattle.std.specs.FinMap.{FinMap, IsAntisymmetric, nat_cmp-IsAntisymmetric, get, entries, entries_sorted, from_entries, get-entries, find}
use Rattle.std.specs.FinMap.Entries.{same_entries, find-where_key, is_sorted-where_key}
use Rattle.std.proofs.lemmas.Bool.{eqb-true}
use Rattle.std.proofs.lemmas.Map.Lookups.{exact_pairs}
use Rattle.gr_count.specs.Election.{Election}
use Rattle.gr_count.specs.Findings.{Findings, AreFindings}
use Rattle.gr_count.specs.Shown.{election_by_voters}
use Rattle.gr_core.specs.declared.resolution.Poll.{Poll}
use Rattle.gr_core.specs.declared.refusal.Refusal.{Refusal}
use Rattle.gr_core.specs.declared.refusal.Refusal.TheVariants.{NoResolution, NotRevealed}
use Rattle.gr_core.specs.declared.resolution.Resolution.{Resolution}
use Rattle.gr_core.specs.declared.resolution.Resolution.TheVariants.{Draft, Discussing, Voting, Closed, Cancelled}
use Rattle.gr_core.specs.Parts.Key.{BallotKey, text_cmp, ballot_cmp}
use Rattle.gr_core.specs.Parts.Resolution.{present_poll, is_closed}
use Rattle.gr_core.specs.Parts.Choice.{choices_of}
use Rattle.gr_core.specs.Desks.Outcome.{place_count, ratios_on_ballot}
use Rattle.gr_core.specs.Desks.Valid.{places_of}
use Rattle.gr_core.specs.Parts.Ballot.{BallotModel, ballots_of, voter_of}
use Rattle.gr_core.specs.Desks.State.{State}
use Rattle.gr_core.specs.Laws.Secrecy.{AreAlike}
use Rattle.gr_sheet.specs.declared.kind.Kind.{Kind}
use Rattle.gr_sheet.specs.declared.kind.Kind.TheVariants.{Roll, Status, Tally, Result}
use Rattle.gr_sheet.specs.declared.no_sheet.NoSheet.{NoSheet}
use Rattle.gr_sheet.specs.declared.no_sheet.NoSheet.TheVariants.{Refused, Memory}
use Rattle.gr_sheet.specs.Ballot.{called_lines, option_lines}
use Rattle.gr_sheet.specs.TallySheet.{IsTally, ballot_line, shown}
use Rattle.gr_sheet.specs.ResultSheet.{IsResultOf, count_lines, last_line, members_of}
use Rattle.gr_sheet.specs.Sheet.{IsSheet, IsRefused, IsMissing, shows_ballots}
use Rattle.gr_sheet.specs.Laws.{SheetsRevealNothing, AreAlikeButForBallots, OnlyTalliesAndResultsShowBallots}
use Rattle.gr_sheet.proofs.OneTally.{text_only}
use Rattle.gr_sheet.proofs.OneResult.{result_is_closed}

-- ==== ballots of a closed vote

ballot_total : IsTotalOrder ballot_cmp
ballot_total = then_total (on_total (λ key. key.0) nat_cmp_total) (on_total (λ key. key.1) nat_list_cmp_total)

ballot_only : IsAntisymmetric ballot_cmp
ballot_only = exact_pairs nat_cmp text_cmp nat_cmp-IsAntisymmetric text_only

-- tables with the same ballots of a resolution, login by login, have the same list of them
ballots_of-same : (m n : FinMap ballot_cmp BallotModel) (number : ℕ)
    → ((login : List ℕ) → get n (number, login) ≡ get m (number, login)) → ballots_of n number ≡ ballots_of m number
ballots_of-same m n number is =
    let on : BallotKey → Bool = λ key. nat_eq number key.0 in
    let alike = λ (q x : BallotKey) (tie : ballot_cmp q x ≡ Equal). ap on (sym (ballot_only q x tie)) in
    same_entries ballot_cmp ballot_total ballot_only (ballots_of n number) (ballots_of m number)
    (is_sorted-where_key ballot_cmp on (entries n) (entries_sorted n))
    (is_sorted-where_key ballot_cmp on (entries m) (entries_sorted m))
    (λ q.
    find-where_key ballot_cmp on q (alike q) (entries n)
    ∙ elim (on q) as (λ b. on q ≡ b → cond b (find ballot_cmp q (entries n)) None ≡ cond b (find ballot_cmp q (entries m)) None) [
      | true ↦ λ here. sym (get-entries n q)
          ∙ subst (λ k. get n (k, q.1) ≡ get m (k, q.1)) (eqb-true number q.0 here) (is q.1) ∙ get-entries m q
      | false ↦ λ other. refl
    ] refl
    ∙ sym (find-where_key ballot_cmp on q (alike q) (entries m)))

-- no vote is held on a closed resolution
closed_is_not_held : (found : Option Resolution) (P : Resolution → Type 0) → IsSomeAnd found (λ row. IsTrue (is_closed row) × P row)
    → ¬ (IsSome (option_and_then present_poll found))
closed_is_not_held None P h = absurd h
closed_is_not_held (Some (Closed discussion poll chosen)) P h = λ held. let never : false ≡ true = held in absurd cc
closed_is_not_held (Some other) P h = absurd (let never : false ≡ true = h.0 in cc)

-- ==== the same state with other ballots

abbrev with_ballots : State → FinMap ballot_cmp BallotModel → State
with_ballots s ballots = record s { ballots = ballots }

-- with the same ballots on the resolution it has the same tally
tally_with : (s : State) (ballots : FinMap ballot_cmp BallotModel) (number : ℕ) (text : List ℕ)
    → ballots_of ballots number ≡ ballots_of s.ballots number → IsTally s number text → IsTally (with_ballots s ballots) number text
tally_with s ballots number text same (lines, are, is) = (
  lines,
  record {
    each = subst (λ rows. IsPermutation (map shown rows) lines) (sym same) are.each;
    ordered = are.ordered;
  },
  is ∙ ap (λ rows. concat (codes "Tally of resolution " ∷ decimal number ∷ codes "\n" ∷ option_lines s number
      ∷ concat (codes "Ballots: " ∷ decimal (length rows) ∷ codes "\n" ∷ []) ∷ flat_map ballot_line lines ∷ [])) (sym same),
)

tally_found : (s : State) (ballots : FinMap ballot_cmp BallotModel) (number : ℕ) (text : List ℕ)
    → ballots_of ballots number ≡ ballots_of s.ballots number → (found : Option Resolution)
    → IsSomeAnd found (λ row. IsTrue (is_closed row) × IsTally s number text)
    → IsSomeAnd found (λ row. IsTrue (is_closed row) × IsTally (with_ballots s ballots) number text)
tally_found s ballots number text same None h = h
tally_found s ballots number text same (Some row) h = (h.0, tally_with s ballots number text same h.1)

-- the same of the result
abbrev election_by : State → ℕ → Poll → List (BallotKey × BallotModel) → Election
election_by s number poll rows = election_by_voters (place_count s.choices number) (from_entries (map voter_of rows))
    poll.developers (slice_index (ratios_on_ballot s.choices number))

-- what the result says where these are the ballots on the resolution
abbrev IsResultBy : State → ℕ → Poll → Option ℕ → List ℕ → List (BallotKey × BallotModel) → Type 0
IsResultBy s number poll chosen text rows = (found : Findings) × AreFindings (election_by s number poll rows) found
    × (text ≡ concat (codes "Result of resolution " ∷ decimal number ∷ codes "\n"
    ∷ concat (called_lines poll ∷ concat (codes "Ballots: " ∷ decimal (length rows) ∷ codes "\n" ∷ [])
    ∷ concat (codes "Received: " ∷ decimal (sum_by (λ entry. entry.1.received) rows) ∷ codes "\n" ∷ [])
    ∷ option_lines s number ∷ [])
    ∷ count_lines (election_by s number poll rows) found (places_of (choices_of s.choices number)) (place_count s.choices number)
    ∷ last_line (members_of found.outcome (place_count s.choices number)) chosen ∷ []))

result_with : (s : State) (ballots : FinMap ballot_cmp BallotModel) (number : ℕ) (row : Resolution) (text : List ℕ)
    → ballots_of ballots number ≡ ballots_of s.ballots number → IsResultOf s number row text → IsResultOf (with_ballots s ballots) number row text
result_with s ballots number (Closed discussion poll chosen) text same h = subst (IsResultBy s number poll chosen text) (sym same) h
result_with s ballots number Draft text same h = absurd h
result_with s ballots number (Discussing discussion) text same h = absurd h
result_with s ballots number (Voting discussion poll) text same h = absurd h
result_with s ballots number (Cancelled discussion) text same h = absurd h

result_found : (s : State) (ballots : FinMap ballot_cmp BallotModel) (number : ℕ) (text : List ℕ)
    → ballots_of ballots number ≡ ballots_of s.ballots number → (found : Option Resolution)
    → IsSomeAnd found (λ row. IsResultOf s number row text) → IsSomeAnd found (λ row. IsResultOf (with_ballots s ballots) number row text)
result_found s ballots number text same None h = h
result_found s ballots number text same (Some row) h = result_with s ballots number row text same h

result_of_closed : (s : State) (number : ℕ) (text : List ℕ) (found : Option Resolution) → IsSomeAnd found (λ row. IsResultOf s number row text)
    → IsSomeAnd found (λ row. IsTrue (is_closed row) × IsResultOf s number row text)
result_of_closed s number text None h = h
result_of_closed s number text (Some row) h = (result_is_closed s number row text h, h)

sheet_with : (s : State) (ballots : FinMap ballot_cmp BallotModel)
    → ((number : ℕ) (login : List ℕ) → ¬ (IsSome (option_and_then present_poll (get s.resolutions number)))
    → get ballots (number, login) ≡ get s.ballots (number, login))
    → (kind : Kind) (number : ℕ) (text : List ℕ) → IsSheet s kind number text → IsSheet (with_ballots s ballots) kind number text
sheet_with s ballots ended Roll number text h = h
sheet_with s ballots ended Status number text h = h
sheet_with s ballots ended Tally number text h =
    tally_found s ballots number text
    (ballots_of-same s.ballots ballots number
    (λ login. ended number login (closed_is_not_held (get s.resolutions number) (λ row. IsTally s number text) h)))
    (get s.resolutions number) h
sheet_with s ballots ended Result number text h =
    result_found s ballots number text
    (ballots_of-same s.ballots ballots number
    (λ login. ended number login (closed_is_not_held (get s.resolutions number) (λ row. IsResultOf s number row text)
    (result_of_closed s number text (get s.resolutions number) h))))
    (get s.resolutions number) h

-- ==== refusals

-- what is refused depends on the resolutions alone
refused_with : (s t : State) → t.resolutions ≡ s.resolutions → (kind : Kind) (number : ℕ) (refusal : Refusal)
    → IsRefused s kind number refusal → IsRefused t kind number refusal
refused_with s t same kind number NoResolution h = (h.0, subst (λ rows. get rows number ≡ None) (sym same) h.1)
refused_with s t same kind number NotRevealed h =
    (h.0, subst (λ rows. IsSomeAnd (get rows number) (λ row. is_closed row ≡ false)) (sym same) h.1)
refused_with s t same kind number other h = h

-- and so does the reason why there is no sheet: memory may be wanting for what is refused on neither
missing_with : (s t : State) → t.resolutions ≡ s.resolutions → (kind : Kind) (number : ℕ) (no_sheet : NoSheet)
    → IsMissing s kind number no_sheet → IsMissing t kind number no_sheet
missing_with s t same kind number (Refused refusal) h = refused_with s t same kind number refusal h
missing_with s t same kind number Memory h = λ refusal is. h refusal (refused_with t s (sym same) kind number refusal is)

-- ==== states that are alike

-- one of two alike states is the other with its own ballots
alike_is : (s t : State) → AreAlike s t → with_ballots s t.ballots ≡ t
alike_is s t alike = sym (λ i. record {
  header = alike.header i;
  developers = alike.developers i;
  resolutions = alike.resolutions i;
  choices = alike.choices i;
  sponsors = alike.sponsors i;
  ballots = t.ballots;
})

pub reveal_nothing : SheetsRevealNothing
reveal_nothing s t kind number valid other alike = record {
  text = λ text h. subst (λ u. IsSheet u kind number text) (alike_is s t alike) (sheet_with s t.ballots alike.ballots kind number text h);
  missing = missing_with s t alike.resolutions kind number;
}

-- ==== sheets that show no ballots

-- the same tables, with the header and the ballots of another state
abbrev with_others : State → State → State
with_others s t = record s { header = t.header; ballots = t.ballots }

others_are : (s t : State) → AreAlikeButForBallots s t → with_others s t ≡ t
others_are s t alike = sym (λ i. record {
  header = t.header;
  developers = alike.developers i;
  resolutions = alike.resolutions i;
  choices = alike.choices i;
  sponsors = alike.sponsors i;
  ballots = t.ballots;
})

sheet_without : (s t : State) (kind : Kind) (number : ℕ) (text : List ℕ) → shows_ballots kind ≡ false
    → IsSheet s kind number text → IsSheet (with_others s t) kind number text
sheet_without s t Roll number text none h = h
sheet_without s t Status number text none h = h
sheet_without s t Tally number text none h = absurd cc
sheet_without s t Result number text none h = absurd cc

pub show_no_ballots : OnlyTalliesAndResultsShowBallots
show_no_ballots s t kind number none alike = record {
  text = λ text h. subst (λ u. IsSheet u kind number text) (others_are s t alike) (sheet_without s t kind number text none h);
  missing = missing_with s t alike.resolutions kind number;
}
