-- Rows of an act stand apart: no two of them in one table under one key.
use Rattle.std.proofs.Common.{◌≡◌, ℕ, ◌+◌, ◌<◌, Bool, true, false, cond, List, [], ◌∷◌, ◌++◌, map, Some, None, option_map, refl, sym, ap, ◌∙◌, arith}
use Rattle.std.specs.Prelude.{not, option_to_list}
use lib.Dec.{T}
use Rattle.std.specs.List.{AllByRecursion, AllPairs, filter}
use Rattle.std.proofs.lemmas.List.Elements.{All-from_recursion}
use Rattle.std.proofs.lemmas.List.Kept.{AllPairs-cons}
use Rattle.std.specs.declared.cmp.Ordering.{Ordering}
use Rattle.std.specs.declared.cmp.Ordering.TheVariants.{Less, Equal, Greater}
use Rattle.std.specs.Ordering.{is_eq, is_lt, eq_by_cmp}
use Rattle.std.specs.Cmp.{eq_by_cmp_equiv}
use Rattle.std.specs.FinMap.{FinMap, get, is_sorted}
use Rattle.std.specs.FinMap.Entries.{below_all}
use Rattle.gr_core.specs.declared.choice.ChoiceKey.{ChoiceKey}
use Rattle.gr_core.specs.declared.import.Novelty.TheVariants.{Same}
use Rattle.gr_core.specs.declared.refusal.Refusal.TheVariants.{BadRoll}
use Rattle.gr_core.specs.Parts.Key.{choice_cmp}
use Rattle.gr_core.specs.Machine.Import.{RollRow, HasNoBadRow, novelty, is_same_novelty}
use Rattle.gr_core.specs.Parts.Choice.{ChoiceModel, Developer, Leader, Committee}
use Rattle.gr_core.specs.Parts.Sponsor.{is_active_sponsor}
use Rattle.gr_core.specs.Machine.Bookkeeping.{gain_at, becomes_short}
use Rattle.gr_core.specs.Desks.State.{State}
use Rattle.gr_core.specs.Machine.Act.{Act, SetDeveloper, ImportRoll, Propose, AddChoice, Sponsor, Unsponsor, Withdraw, Adopt, Amend, Vary, Call, Vote, Close, Cast}
use Rattle.gr_core.specs.Machine.Refusal.{IsAccepted}
use Rattle.gr_core.specs.Machine.Row.{RowModel, HeaderOf, ResolutionOf, ChoiceOf, SponsorOf, BallotOf, RowKey, TheHeader, DeveloperAt, ResolutionAt, ChoiceAt, SponsorAt, BallotAt, row_key}
use Rattle.gr_core.specs.Machine.Effect.{own, effect, counted, imported_row, developer_rows, only_if, is_gain, introduces, next_choice_key, changes_ballot, live_choices, resolutions_put, choices_put, sponsors_put, ballots_put, rows_at, puts_by, rows_by}
use Rattle.gr_core.specs.Laws.MachineLaws.{RowsHaveDifferentKeys}
use Rattle.gr_core.proofs.Collections.ListLemmas.{all-append}
use Rattle.gr_core.proofs.Collections.PresenceLemmas.{not_false}
use Rattle.gr_core.proofs.Collections.TableLemmas.{former, latter}
use Rattle.gr_core.proofs.Collections.PairKeys.{choice_total}
use Rattle.gr_core.proofs.Contents.PlaceLemmas.{live_choices_sorted}
use Rattle.gr_core.proofs.Effects.RollAfterImportLemmas.{each-all}
use Rattle.gr_core.proofs.Effects.ImportLemmas.{logins_differ, no_bad_row-rest, no_bad_row-from_none}

-- ==== lists

-- R holds of each element and each later one
abbrev Apart : {A : Type 0} → (A → A → Type 0) → List A → Type 0
Apart R [] = Unit {0}
Apart R (x ∷ xs) = AllByRecursion (R x) xs × Apart R xs

-- two values differ
abbrev Differ : {A : Type 0} → A → A → Type 0
Differ one other = one ≡ other → ⊥

pairs_apart : {A : Type 0} (R : A → A → Type 0) (xs : List A) → Apart R xs → AllPairs R xs
pairs_apart R [] apart = λ i j d less below. absurd (omega arith)
pairs_apart R (x ∷ xs) apart = AllPairs-cons R x xs (All-from_recursion (R x) xs apart.0) (pairs_apart R xs apart.1)

all-weaker : {A : Type 0} (P Q : A → Type 0) (xs : List A) → ((x : A) → P x → Q x) → AllByRecursion P xs
    → AllByRecursion Q xs
all-weaker P Q [] more all = tt
all-weaker P Q (x ∷ xs) more all = (more x all.0, all-weaker P Q xs more all.1)

apart-append : {A : Type 0} (R : A → A → Type 0) (xs ys : List A) → Apart R xs → Apart R ys
    → AllByRecursion (λ x. AllByRecursion (R x) ys) xs → Apart R (xs ++ ys)
apart-append R [] ys first then across = then
apart-append R (x ∷ xs) ys first then across =
    (all-append (R x) xs ys first.0 across.0, apart-append R xs ys first.1 then across.1)

-- one key or none
apart-only : {K : Type 0} (is : Bool) (key : K) → Apart Differ (only_if is key)
apart-only true key = (tt, tt)
apart-only false key = tt

-- ==== the rows of one table

-- rows stand in different places
abbrev StandApart : RowModel → RowModel → Type 0
StandApart one other = Differ (row_key one) (row_key other)

module _ {K R : Type 0} {cmp : K → K → Ordering} (row : K → R → RowModel) (m : FinMap cmp R) where
  -- what holds of all rows of some keys
  rows_at-all : (Q : K → Type 0) (P : RowModel → Type 0) → ((key : K) (found : R) → Q key → P (row key found))
      → (keys : List K) → AllByRecursion Q keys → AllByRecursion P (rows_at row m keys)
  rows_at-all Q P holds [] all = tt
  rows_at-all Q P holds (key ∷ keys) all =
      elim (get m key) as (λ o. AllByRecursion P (option_to_list (option_map (row key) o) ++ rows_at row m keys)) [
        | None ↦ rows_at-all Q P holds keys all.1
        | Some found ↦ (holds key found all.0, rows_at-all Q P holds keys all.1)
      ]

  -- rows of different keys
  rows_at-apart : ((one other : K) (x y : R) → Differ one other → StandApart (row one x) (row other y))
      → (keys : List K) → Apart Differ keys → Apart StandApart (rows_at row m keys)
  rows_at-apart differ [] apart = tt
  rows_at-apart differ (key ∷ keys) apart =
      elim (get m key) as (λ o. Apart StandApart (option_to_list (option_map (row key) o) ++ rows_at row m keys)) [
        | None ↦ rows_at-apart differ keys apart.1
        | Some found ↦ (
          rows_at-all (Differ key) (StandApart (row key found)) (λ other y. differ key other found y) keys apart.0,
          rows_at-apart differ keys apart.1,
        )
      ]

-- the rows of a roll
abbrev HaveOtherLogins : RollRow → RollRow → Type 0
HaveOtherLogins one other = Differ other.login one.login

-- what holds of each row holds of those that pass a test
all-filtered : (P : RollRow → Type 0) (Q : RowModel → Type 0) (test : RollRow → Bool) → ((row : RollRow) → P row → Q (imported_row row))
    → (rows : List RollRow) → AllByRecursion P rows → AllByRecursion Q (map imported_row (filter test rows))
all-filtered P Q test more [] all = tt
all-filtered P Q test more (row ∷ rows) all =
    elim (test row) as (λ b. AllByRecursion Q (map imported_row (cond b (row ∷ filter test rows) (filter test rows)))) [
      | true ↦ (more row all.0, all-filtered P Q test more rows all.1)
      | false ↦ all-filtered P Q test more rows all.1
    ]

-- the rows of an import
imported-apart : (test : RollRow → Bool) (rows : List RollRow) → HasNoBadRow rows
    → Apart StandApart (map imported_row (filter test rows))
imported-apart test [] good = tt
imported-apart test (row ∷ rows) good =
    let rest = imported-apart test rows (no_bad_row-rest row rows good) in
    elim (test row) as (λ b. Apart StandApart (map imported_row (cond b (row ∷ filter test rows) (filter test rows)))) [
      | true ↦ (
        all-filtered (HaveOtherLogins row) (StandApart (imported_row row)) test
            (λ other differs same. differs (let one : DeveloperAt row.login ≡ DeveloperAt other.login = same in cc)) rows
            (each-all (HaveOtherLogins row) rows (logins_differ row rows good)),
        rest,
      )
      | false ↦ rest
    ]

developers-apart : (s : State) (at : ℕ) (act : Act) → IsAccepted s at act → Apart StandApart (developer_rows s act)
developers-apart s at (SetDeveloper login name standing) accepted = (tt, tt)
developers-apart s at (ImportRoll rows) accepted =
    imported-apart (λ row. not (is_same_novelty (novelty s.developers row) Same)) rows
    (no_bad_row-from_none rows (λ line. accepted (BadRoll line)))
developers-apart s at other accepted = tt

-- ==== the keys that an act puts

resolutions_put-apart : (s : State) (at : ℕ) (act : Act) → Apart Differ (resolutions_put s at act)
resolutions_put-apart s at (Propose proposer wording ratio) = (tt, tt)
resolutions_put-apart s at (AddChoice resolution proposer wording ratio) =
    apart-only (introduces s at (AddChoice resolution proposer wording ratio) (next_choice_key s resolution)) resolution
resolutions_put-apart s at (Sponsor choice login) =
    apart-only (introduces s at (Sponsor choice login) choice) choice.resolution
resolutions_put-apart s at (Adopt choice proposer) =
    apart-only (introduces s at (Adopt choice proposer) choice) choice.resolution
resolutions_put-apart s at (Amend choice amendment wording) =
    apart-only (changes_ballot amendment (get s.resolutions choice.resolution) (get s.choices choice)) choice.resolution
resolutions_put-apart s at (Vary resolution days) = (tt, tt)
resolutions_put-apart s at (Call resolution days) = (tt, tt)
resolutions_put-apart s at (Close resolution) = (tt, tt)
resolutions_put-apart s at (Cast resolution place) = (tt, tt)
resolutions_put-apart s at other = tt

-- a key differs from those above it
below-differs : (key q : ChoiceKey) → T (is_lt (choice_cmp key q)) → Differ key q
below-differs key q less same =
    let tie : is_eq (choice_cmp key q) ≡ true =
    ap (eq_by_cmp choice_cmp key) (sym same) ∙ (eq_by_cmp_equiv choice_total).refl key in
    elim (choice_cmp key q) as (λ r. T (is_lt r) → is_eq r ≡ true → ⊥) [
      | Less ↦ λ is e. not_false e
      | Equal ↦ λ is e. is
      | Greater ↦ λ is e. is
    ] less tie

below_all-differ : (key : ChoiceKey) (entries : List (ChoiceKey × ChoiceModel)) → T (below_all choice_cmp key entries)
    → AllByRecursion (Differ key) (map (λ entry. entry.0) entries)
below_all-differ key [] below = tt
below_all-differ key (entry ∷ entries) below = (
  below-differs key entry.0 (former (is_lt (choice_cmp key entry.0)) (below_all choice_cmp key entries) below),
  below_all-differ key entries (latter (is_lt (choice_cmp key entry.0)) (below_all choice_cmp key entries) below),
)

sorted-apart : (entries : List (ChoiceKey × ChoiceModel)) → T (is_sorted choice_cmp entries)
    → Apart Differ (map (λ entry. entry.0) entries)
sorted-apart [] sorted = tt
sorted-apart (entry ∷ entries) sorted = (
  below_all-differ entry.0 entries (former (below_all choice_cmp entry.0 entries) (is_sorted choice_cmp entries) sorted),
  sorted-apart entries (latter (below_all choice_cmp entry.0 entries) (is_sorted choice_cmp entries) sorted),
)

choices_put-apart : (s : State) (at : ℕ) (act : Act) → Apart Differ (choices_put s at act)
choices_put-apart s at (Propose proposer wording ratio) = (tt, tt)
choices_put-apart s at (AddChoice resolution proposer wording ratio) = (tt, tt)
choices_put-apart s at (Sponsor choice login) =
    apart-only (is_gain (gain_at (own s at (Sponsor choice login)) choice)) choice
choices_put-apart s at (Unsponsor choice login) =
    apart-only (becomes_short (own s at (Unsponsor choice login)) choice) choice
choices_put-apart s at (Withdraw choice) = (tt, tt)
choices_put-apart s at (Adopt choice proposer) = (tt, tt)
choices_put-apart s at (Amend choice amendment wording) = (tt, tt)
choices_put-apart s at (Call resolution days) =
    sorted-apart (live_choices s.choices at resolution) (live_choices_sorted s.choices at resolution)
choices_put-apart s at other = tt

sponsors_put-apart : (s : State) (act : Act) → Apart Differ (sponsors_put s act)
sponsors_put-apart s (Sponsor choice login) = (tt, tt)
sponsors_put-apart s (Unsponsor choice login) = (tt, tt)
sponsors_put-apart s (Adopt choice (Developer login)) = apart-only (is_active_sponsor s.sponsors (choice, login)) (choice, login)
sponsors_put-apart s (Adopt choice Leader) = tt
sponsors_put-apart s (Adopt choice Committee) = tt
sponsors_put-apart s other = tt

ballots_put-apart : (act : Act) → Apart Differ (ballots_put act)
ballots_put-apart (Vote resolution login ranks token) = (tt, tt)
ballots_put-apart other = tt

-- ==== all rows

-- the tables in the order in which an act puts their rows
abbrev turn : RowKey → ℕ
turn (DeveloperAt login) = 0
turn (ResolutionAt number) = 1
turn (ChoiceAt key) = 2
turn (SponsorAt key) = 3
turn (BallotAt key) = 4
turn TheHeader = 5

-- the rows are of tables before this turn
abbrev AreBefore : ℕ → List RowModel → Type 0
AreBefore n rows = AllByRecursion (λ row. turn (row_key row) < n) rows

-- the rows are of the table whose turn it is
abbrev AreOf : ℕ → List RowModel → Type 0
AreOf n rows = AllByRecursion (λ row. turn (row_key row) ≡ n) rows

-- rows of the tables before, and then those of a table
then-apart : (n : ℕ) (rows more : List RowModel) → AreBefore n rows → AreOf n more → Apart StandApart rows
    → Apart StandApart more → Apart StandApart (rows ++ more)
then-apart n rows more before of first then =
    apart-append StandApart rows more first then
    (all-weaker (λ row. turn (row_key row) < n) (λ row. AllByRecursion (StandApart row) more) rows
    (λ row less. all-weaker (λ other. turn (row_key other) ≡ n) (StandApart row) more
    (λ other is same. let one : turn (row_key row) ≡ turn (row_key other) = ap turn same in omega arith) of) before)

-- are before the next table
then-before : (n : ℕ) (rows more : List RowModel) → AreBefore n rows → AreOf n more → AreBefore (n + 1) (rows ++ more)
then-before n rows more before of =
    all-append (λ row. turn (row_key row) < n + 1) rows more
    (all-weaker (λ row. turn (row_key row) < n) (λ row. turn (row_key row) < n + 1) rows (λ row less. omega arith) before)
    (all-weaker (λ row. turn (row_key row) ≡ n) (λ row. turn (row_key row) < n + 1) more (λ row is. omega arith) of)

any-all : {A : Type 0} (xs : List A) → AllByRecursion (λ x. Unit {0}) xs
any-all [] = tt
any-all (x ∷ xs) = (tt, any-all xs)

developers-first : (s : State) (act : Act) → AreOf 0 (developer_rows s act)
developers-first s (SetDeveloper login name standing) = (refl, tt)
developers-first s (ImportRoll rows) =
    all-filtered (λ row. Unit {0}) (λ row. turn (row_key row) ≡ 0)
    (λ row. not (is_same_novelty (novelty s.developers row) Same)) (λ row any. refl) rows (any-all rows)
developers-first s other = tt

module _ (s : State) (at : ℕ) (act : Act) (accepted : IsAccepted s at act) where
  -- the rows of each table
  abbrev developers : List RowModel
  developers = developer_rows s act

  abbrev resolutions : List RowModel
  resolutions = rows_at ResolutionOf (effect s at act).resolutions (resolutions_put s at act)

  abbrev choices : List RowModel
  choices = rows_at ChoiceOf (effect s at act).choices (choices_put s at act)

  abbrev sponsors : List RowModel
  sponsors = rows_at SponsorOf (effect s at act).sponsors (sponsors_put s act)

  abbrev ballots : List RowModel
  ballots = rows_at BallotOf (effect s at act).ballots (ballots_put act)

  resolutions-of : AreOf 1 resolutions
  resolutions-of =
      rows_at-all ResolutionOf (effect s at act).resolutions (λ key. Unit {0}) (λ row. turn (row_key row) ≡ 1)
      (λ key found any. refl) (resolutions_put s at act) (any-all (resolutions_put s at act))

  choices-of : AreOf 2 choices
  choices-of =
      rows_at-all ChoiceOf (effect s at act).choices (λ key. Unit {0}) (λ row. turn (row_key row) ≡ 2)
      (λ key found any. refl) (choices_put s at act) (any-all (choices_put s at act))

  sponsors-of : AreOf 3 sponsors
  sponsors-of =
      rows_at-all SponsorOf (effect s at act).sponsors (λ key. Unit {0}) (λ row. turn (row_key row) ≡ 3)
      (λ key found any. refl) (sponsors_put s act) (any-all (sponsors_put s act))

  ballots-of : AreOf 4 ballots
  ballots-of =
      rows_at-all BallotOf (effect s at act).ballots (λ key. Unit {0}) (λ row. turn (row_key row) ≡ 4)
      (λ key found any. refl) (ballots_put act) (any-all (ballots_put act))

  resolutions-apart : Apart StandApart resolutions
  resolutions-apart =
      rows_at-apart ResolutionOf (effect s at act).resolutions
      (λ one other x y differs same. differs (let tied : ResolutionAt one ≡ ResolutionAt other = same in cc))
      (resolutions_put s at act) (resolutions_put-apart s at act)

  choices-apart : Apart StandApart choices
  choices-apart =
      rows_at-apart ChoiceOf (effect s at act).choices
      (λ one other x y differs same. differs (let tied : ChoiceAt one ≡ ChoiceAt other = same in cc))
      (choices_put s at act) (choices_put-apart s at act)

  sponsors-apart : Apart StandApart sponsors
  sponsors-apart =
      rows_at-apart SponsorOf (effect s at act).sponsors
      (λ one other x y differs same. differs (let tied : SponsorAt one ≡ SponsorAt other = same in cc))
      (sponsors_put s act) (sponsors_put-apart s act)

  ballots-apart : Apart StandApart ballots
  ballots-apart =
      rows_at-apart BallotOf (effect s at act).ballots
      (λ one other x y differs same. differs (let tied : BallotAt one ≡ BallotAt other = same in cc))
      (ballots_put act) (ballots_put-apart act)

  -- all of them
  rows-apart : Apart StandApart (rows_by s at act)
  rows-apart =
      let first : AreBefore 1 developers =
      all-weaker (λ row. turn (row_key row) ≡ 0) (λ row. turn (row_key row) < 1) developers (λ row is. omega arith)
      (developers-first s act) in
      let second = then-before 1 developers resolutions first resolutions-of in
      let third = then-before 2 (developers ++ resolutions) choices second choices-of in
      let fourth = then-before 3 (developers ++ resolutions ++ choices) sponsors third sponsors-of in
      let fifth = then-before 4 (developers ++ resolutions ++ choices ++ sponsors) ballots fourth ballots-of in
      then-apart 5 (puts_by s at act) (HeaderOf (counted s at).header ∷ []) fifth (refl, tt)
      (then-apart 4 (developers ++ resolutions ++ choices ++ sponsors) ballots fourth ballots-of
      (then-apart 3 (developers ++ resolutions ++ choices) sponsors third sponsors-of
      (then-apart 2 (developers ++ resolutions) choices second choices-of
      (then-apart 1 developers resolutions first resolutions-of (developers-apart s at act accepted) resolutions-apart)
      choices-apart) sponsors-apart) ballots-apart) (tt, tt)

-- no two rows of an accepted act have one key
pub keys_differ : RowsHaveDifferentKeys
keys_differ s at act accepted = pairs_apart StandApart (rows_by s at act) (rows-apart s at act accepted)
