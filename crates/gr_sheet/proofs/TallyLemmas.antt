-- The ballots of a tally, and its lines.
use Rattle.std.proofs.Common.{◌≡◌, ◌<◌, ℕ, ◌+◌, List, [], ◌∷◌, ◌++◌, map, length, get_or, String, refl, sym, ap, ◌∙◌, subst, arith, codes, decimal}
use Rattle.std.specs.declared.alloc.Global.{Global}
use Rattle.std.specs.declared.cmp.Ordering.{Ordering}
use Rattle.std.specs.Ordering.{is_lt}
use Rattle.std.specs.List.{flat_map}
use Rattle.std.specs.List.Sorted.{IsPermutation, IsSorted}
use Rattle.std.proofs.lemmas.List.{append-nil, append_assoc, get_or-map, length-map}
use Rattle.std.proofs.lemmas.List.Sorted.{IsPermutation-map, length_permutation}
use Rattle.gr_core.specs.declared.ballot.Ballot.{Ballot}
use Rattle.gr_core.specs.Parts.Ballot.{BallotModel, ballot_model, ballots_of}
use Rattle.gr_core.specs.InMemory.Ballots.{ballot_entry}
use Rattle.gr_core.specs.Parts.Key.{BallotKey}
use Rattle.gr_core.specs.Desks.State.{State}
use Rattle.gr_sheet.specs.Ballot.{option_lines}
use Rattle.gr_sheet.specs.TallySheet.{ShownBallot, AreShown, IsTally, ballot_line, shown, shown_row, shown_cmp}
use Rattle.gr_sheet.proofs.AppendLemmas.{then}

-- what elements show is in order where they are, by what they show
IsSorted-map : {X Y : Type 0} (f : X → Y) (cmp : Y → Y → Ordering) (xs : List X)
    → IsSorted (λ a b. cmp (f a) (f b)) xs → IsSorted cmp (map f xs)
IsSorted-map f cmp [] sorted = λ k d low high. absurd (omega arith)
IsSorted-map f cmp (x ∷ xs) sorted = λ k d low high.
    let long = length-map (x ∷ xs) f in
    let first : k < length (x ∷ xs) = omega (arith, long) in
    let second : k + 1 < length (x ∷ xs) = omega (arith, long) in
    ap (λ b. is_lt (cmp b (get_or (map f (x ∷ xs)) k d))) (get_or-map f (x ∷ xs) (k + 1) x d second)
    ∙ ap (λ a. is_lt (cmp (f (get_or (x ∷ xs) (k + 1) x)) a)) (get_or-map f (x ∷ xs) k x d first)
    ∙ sorted k x low second

-- what shows the ballots of a resolution shows them in the order of the tally once it is sorted by that
pub are_shown : {X : Type 0} (s : State) (number : ℕ) (show : X → ShownBallot) (before after : List X)
    → map show before ≡ map shown (ballots_of s.ballots number)
    → IsPermutation before after → IsSorted (λ a b. shown_cmp (show a) (show b)) after
    → AreShown s number (map show after)
are_shown s number show before after same moved sorted = record {
  each = subst (λ rows. IsPermutation rows (map show after)) same (IsPermutation-map show before after moved);
  ordered = IsSorted-map show shown_cmp after sorted;
}

entries_shown : (number : ℕ) (es : List (String Global × Ballot))
    → map (λ ballot. shown_row (ballot_model ballot)) (map (λ e. e.1) es) ≡ map shown (map (ballot_entry number) es)
entries_shown number [] = refl
entries_shown number (e ∷ es) = ap (λ rows. shown_row (ballot_model e.1) ∷ rows) (entries_shown number es)

-- the values of a table of ballots show what its rows show
pub values_shown : (number : ℕ) (es : List (String Global × Ballot)) {rows : List (BallotKey × BallotModel)} → map (ballot_entry number) es ≡ rows
    → map (λ ballot. shown_row (ballot_model ballot)) (map (λ e. e.1) es) ≡ map shown rows
values_shown number es same = entries_shown number es ∙ ap (map shown) same

-- the lines of the tally, added one after the other
pub tally_told : (s : State) (number : ℕ) (ballots : List ShownBallot) (count : ℕ) {head mid counted whole : List ℕ}
    → AreShown s number ballots → count ≡ length ballots
    → head ≡ codes "Tally of resolution " ++ (decimal number ++ codes "\n")
    → mid ≡ head ++ option_lines s number
    → counted ≡ mid ++ (codes "Ballots: " ++ (decimal count ++ codes "\n"))
    → whole ≡ counted ++ flat_map ballot_line ballots
    → IsTally s number whole
tally_told s number ballots count {head} {mid} {counted} {whole} are same first second third fourth =
    let options = option_lines s number in
    let lines = flat_map ballot_line ballots in
    let counts : count ≡ length (ballots_of s.ballots number) =
    same ∙ length_permutation (map shown (ballots_of s.ballots number)) ballots are.each ∙ length-map (ballots_of s.ballots number) shown in
    let ends : lines ≡ lines ++ [] = sym (append-nil lines) in
    let line = codes "Ballots: " ++ (decimal count ++ codes "\n") in (
      ballots,
      are,
      then head options (line ++ lines) second (then mid line lines third fourth)
          ∙ ap (λ text. text ++ (options ++ (line ++ lines))) first
          ∙ ap (λ rest. codes "Tally of resolution " ++ rest) (append_assoc (decimal number) (codes "\n") (options ++ (line ++ lines)))
          ∙ (λ i. codes "Tally of resolution " ++ (decimal number ++ (codes "\n" ++ (options
          ++ ((codes "Ballots: " ++ (decimal (counts i) ++ codes "\n")) ++ ends i))))),
    )
