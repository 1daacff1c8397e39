-- The vote of a resolution, as the preference counts of its ballots are added up one after another.
use Rattle.std.proofs.Common.{◌≡◌, ℕ, ◌+◌, List, [], ◌∷◌, ◌++◌, map, take, cond, Option, Some, None, is_some, IsNone, String, string_bytes, refl, sym, ap, ◌∙◌, subst}
use lib.Dec.{T}
use Rattle.std.specs.Prelude.{filter}
use Rattle.std.specs.declared.alloc.Global.{Global}
use Rattle.std.specs.declared.cmp.Ordering.{Ordering}
use Rattle.std.specs.Ordering.{nat_cmp, is_eq, is_lt, ordering_reverse}
use Rattle.std.specs.Cmp.{IsTotalOrder, nat_cmp_total, unsigned_ties}
use Rattle.std.specs.FinMap.{FinMap, from_entries, from_entries_push, get, get-from_entries, insert, find, is_sorted, entries, nat_cmp-IsAntisymmetric}
use Rattle.std.specs.FinMap.Entries.{below_all}
use Rattle.std.specs.BTreeMap.{get_by}
use Rattle.std.proofs.lemmas.List.{map-append}
use Rattle.std.proofs.lemmas.Simd.{map-map}
use Rattle.gr_count.specs.declared.pairs.Pairs.{Pairs}
use Rattle.gr_count.specs.Ballot.{Vote}
use Rattle.gr_count.specs.PairwiseCount.{IsPairwiseCountOf}
use Rattle.gr_count.specs.Shown.{marks_in}
use Rattle.gr_core.specs.declared.ballot.Ballot.{Ballot}
use Rattle.gr_core.specs.Parts.Key.{text_cmp, ballot_cmp}
use Rattle.gr_core.specs.Parts.Ballot.{BallotModel, ballot_model, ballots_of, voter_of}
use Rattle.gr_core.specs.InMemory.Ballots.{ByVoter, ByResolution, ballot_map, AreBallotsOrdered, voter_in}
use Rattle.gr_core.specs.InMemory.Table.{rows_under}
use Rattle.gr_core.proofs.Collections.TableLemmas.{former, latter, less}
use Rattle.gr_core.proofs.Collections.TextKeys.{text_total, text_only}
use Rattle.gr_core.proofs.Collections.TwoLevels.{rows_in, filter-two_levels}
use Rattle.gr_core.proofs.Collections.WalkLemmas.{Turn}

module _ {J R : Type 0} (cmp : J → J → Ordering) where
  below-middle : (k : J) (xs : List (J × R)) (x : J × R) (ys : List (J × R)) → T (below_all cmp k (xs ++ x ∷ ys))
      → T (is_lt (cmp k x.0))
  below-middle k [] x ys below = former _ _ below
  below-middle k (z ∷ xs) x ys below = below-middle k xs x ys (latter _ _ below)

  -- in a list in order, a key does not stand before its entry
  pub not_before : IsTotalOrder cmp → (xs : List (J × R)) (x : J × R) (ys : List (J × R))
      → T (is_sorted cmp (xs ++ x ∷ ys))
      → find cmp x.0 xs ≡ None
  not_before total [] x ys sorted = refl
  not_before total (z ∷ xs) x ys sorted =
      let after = total.antisymm x.0 z.0
      ∙ ap ordering_reverse (less _ (below-middle z.0 xs x ys (former _ _ sorted))) in
      ap (λ r. cond (is_eq r) (Some z.1) (find cmp x.0 xs)) after ∙ not_before total xs x ys (latter _ _ sorted)

-- The counts of the first ballots' vote, with the next ballot added, are those of the vote with one ballot more: its
-- voter is not among the earlier ones.
pub one_voter_more : (all : List (String Global × Ballot)) (turn : _) (ballot : Ballot)
    → T (is_sorted text_cmp (map voter_in all))
    → Turn (λ entry. entry.1) all turn ballot → (old new : Pairs)
    → ((vote : Vote) (login : _) → IsPairwiseCountOf old vote → IsNone (get vote login)
    → IsPairwiseCountOf new (insert vote login (marks_in ballot.ranks)))
    → IsPairwiseCountOf old (from_entries (map voter_in (take turn all)))
    → IsPairwiseCountOf new (from_entries (map voter_in (take (turn + 1) all)))
one_voter_more all turn ballot sorted at old new adds tally =
    let before = take turn all in
    let vote : Vote = from_entries (map voter_in before) in
    let voter = voter_in at.element in
    let voters : map voter_in all ≡ map voter_in before ++ voter ∷ map voter_in at.behind =
    ap (map voter_in) at.split ∙ map-append voter_in before (at.element ∷ at.behind) in
    let none : find text_cmp voter.0 (map voter_in before) ≡ None =
    not_before text_cmp text_total (map voter_in before) voter (map voter_in at.behind)
    (subst (λ es. T (is_sorted text_cmp es)) voters sorted) in
    let new_vote : from_entries (map voter_in (take (turn + 1) all)) ≡ insert vote voter.0 (marks_in ballot.ranks) =
    ap (λ es. from_entries (map voter_in es)) at.next
    ∙ ap from_entries (map-append voter_in before (at.element ∷ []))
    ∙ from_entries_push text_total text_only (map voter_in before) voter.0 voter.1 none
    ∙ ap (λ (b : Ballot). insert vote voter.0 (marks_in b.ranks)) at.is in
    subst (IsPairwiseCountOf new) (sym new_vote)
    (adds vote voter.0 tally (ap is_some (get-from_entries text_total (map voter_in before) voter.0 ∙ none)))

-- the ballots of a resolution are the rows of the table that is found under its number
pub ballots_of-table : (m : ByResolution) → AreBallotsOrdered m → (ballots : FinMap ballot_cmp BallotModel)
    → ballot_map m ≡ ballots
    → (resolution : ℕ) (table : Option ByVoter) → get_by (nat_cmp resolution) m ≡ table
    → ballots_of ballots resolution ≡ rows_in string_bytes ballot_model resolution table
ballots_of-table m ordered ballots view resolution table found =
    ap (λ these. ballots_of these resolution) (sym view)
    ∙ (λ i. filter (λ e. unsigned_ties resolution e.0.0 i) (entries (ballot_map m)))
    ∙ filter-two_levels nat_cmp_total nat_cmp-IsAntisymmetric text_total text_only
    (λ number. number) string_bytes ballot_model resolution m ordered
    ∙ ap (rows_in string_bytes ballot_model resolution) found

-- and its voters are those of the rows
pub voters_under : (resolution : ℕ) (es : List (String Global × Ballot))
    → map voter_of (rows_under string_bytes ballot_model resolution es) ≡ map voter_in es
voters_under resolution es = map-map voter_of (λ entry. ((resolution, string_bytes entry.0), ballot_model entry.1)) es
