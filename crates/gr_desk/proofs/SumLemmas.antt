-- No clean disk with a wrong sum is opened.
use Rattle.std.proofs.Common.{◌≡◌, ◌∙◌, ◌<◌, ◌≤◌, ℕ, ◌+◌, ◌-◌, ◌*◌, ◌/◌, ◌%◌, true, false, cond, eqb, List, [], ◌∷◌, ◌++◌, length, take, slice_index, Option, Some, unwrap_or, ap, ap₂, subst, sym, refl, inl, inr, arith, get_or-take, zero-add, le-ltb}
use Rattle.std.proofs.Math.Logic.{∥∥₁_elim}
use Rattle.std.proofs.lemmas.Bool.{cases_Bool, cases_lt, le-leb}
use Rattle.std.proofs.lemmas.List.{get_or_past, length-take}
use Rattle.std.proofs.lemmas.Nat.{le-div}
use Rattle.sqlite_trees.specs.Tree.{Trees}
use Rattle.sqlite_pages.specs.PageMap.{PageMap}
use Rattle.sqlite_wal.specs.Format.{part}
use Rattle.sqlite_wal.specs.PageSize.{size_in_file}
use Rattle.sqlite_wal.specs.Recovery.{Image, IsIgnored, file_page, pages_after}
use Rattle.sqlite_wal.proofs.AppendLemmas.{page_from_pages, some_value}
use Rattle.sqlite_wal.proofs.PartLemmas.{slice_index-part}
use Rattle.sqlite_wal.proofs.RecoveryLemmas.{replays_once}
use Rattle.sqlite_pool.specs.File.{header_in, IsSoundFile}
use Rattle.sqlite_pool.specs.Opening.{IsBlankFile}
use Rattle.sqlite_pool.specs.Stored.{Adopts, is_among, reserved, sealed, stored_size, sum_bytes, used_size}
use Rattle.sqlite_pool.specs.StoredLaws.{trimmed_some}
use Rattle.sqlite_pool.proofs.ProbeLemmas.{first_byte}
use Rattle.sqlite.specs.Files.{AreFoundIn}
use Rattle.gr_desk.specs.Sums.{EndsInSum, HasWrongSum}

-- a file has as many bytes as it has to for one of them not to be 0
reaches : (bytes : List ℕ) (k : ℕ) → 0 < slice_index bytes k → k < length bytes
reaches bytes k some = elim (cases_lt k (length bytes)) [
  | inl low ↦ low
  | inr past ↦ absurd (omega (arith, some, get_or_past bytes k 0 (omega arith)))
]

not_among : (numbers : List ℕ) (n : ℕ) → length numbers ≡ 0 → is_among numbers n ≡ false
not_among [] n none = refl
not_among (m ∷ numbers) n none = absurd (omega (arith, none))

-- bytes of such a length get their sum
with_sum : (bytes : List ℕ) → eqb (length bytes % 16) 8 ≡ true → sealed bytes ≡ bytes ++ sum_bytes bytes
unfolding sealed
with_sum bytes on = rw on refl

summed_length : (size : ℕ) → reserved size ≡ 8 → eqb (size % 16) 8 ≡ true
summed_length size is = elim (cases_Bool (eqb (size % 16) 8)) [
  | inl on ↦ on
  | inr off ↦ let none : reserved size ≡ 0 = rw off refl in absurd (omega (arith, is, none))
]

-- a page whose sum is that of its bytes up to eight ends in it
ends_in_sum : (size : ℕ) (page : List ℕ) → reserved size ≡ 8 → length page ≡ stored_size size → page ≡ sealed (take size page)
    → EndsInSum page
ends_in_sum size page reserves len is =
    let used : length page - 8 ≡ size = omega (arith, len, reserves) in
    let cut : length (take size page) ≡ size = omega (arith, length-take size page, len) in
    let on : eqb (length (take size page) % 16) 8 ≡ true = subst (λ n. eqb (n % 16) 8 ≡ true) (sym cut) (summed_length size reserves) in
    subst (λ n. page ≡ take n page ++ sum_bytes (take n page)) (sym used) (is ∙ with_sum (take size page) on)

-- ==== it is a file with a database

no_blank : (other : ℕ) → 0 < other → (image : Image) → slice_index image.db 0 ≡ 83 → slice_index image.db 20 ≡ 8
    → ¬ IsBlankFile other image
no_blank other some image begins summed (inl none) = omega (arith, reaches image.db 20 (omega arith), none)
no_blank other some image begins summed (inr blank) =
    let long = reaches image.db 20 (omega arith) in
    elim blank.1.0 [
      | inl short ↦ omega (arith, long, short)
      | inr more ↦ elim more [
        | inl unwritten ↦ omega (arith, unwritten.1, begins)
        | inr rest ↦ rest.1 (begins ∙ sym (first_byte other some))
      ]
    ]

-- ==== its header

module _ (size : ℕ) (image : Image) (pages : PageMap) (found : Adopts size image pages) (unlogged : IsIgnored image.log) where
  none : found.found.frames ≡ 0
  none = replays_once (stored_size size) image.log found.found.frames 0 found.found.replays (inl (unlogged, refl))

  at_page : (n : ℕ) → found.stored n ≡ pages_after (stored_size size) image.log image.db 0 n
  at_page n = ap (λ (p : PageMap). p n) (sym (ap (pages_after (stored_size size) image.log image.db) (sym none) ∙ found.found.gives))

  -- a page of the file is found as it stands there
  stored_page : (n : ℕ) → 0 < stored_size size → 1 ≤ n → n * stored_size size ≤ length image.db
      → found.stored n ≡ Some (file_page (stored_size size) image.db n)
  unfolding pages_after
  stored_page n some first within =
      let up_to = le-div n (length image.db) (stored_size size) some within in
      at_page n ∙ rw (le-leb 1 n first, le-leb n (length image.db / stored_size size) up_to) refl

  header_at : (k : ℕ) → slice_index (header_in pages) k ≡ slice_index (take 100 (take size (part image.db 0 (stored_size size)))) k
  header_at k =
      let whole = stored_size size in
      let (page, is) = some_value (found.stored 1) found.whole.first in
      let start : (1 - 1) * whole ≡ 0 = omega arith in
      let front : part image.db 0 whole ≡ page =
      ap (λ (at : ℕ). part image.db at whole) (sym start) ∙ (page_from_pages whole image.log image.db 0 1 page (sym (at_page 1) ∙ is)).0 in
      let used : pages 1 ≡ Some (take size page) = ap (λ (p : PageMap). p 1) (sym found.shows) ∙ trimmed_some size _ 1 page is in
      ap (λ (o : Option (List ℕ)). slice_index (take 100 (unwrap_or o [])) k) used
      ∙ ap (λ (b : List ℕ). slice_index (take 100 (take size b)) k) (sym front)

  -- the header is that of the file, as far as a page goes
  in_header : (k : ℕ) → k < size → k < 100 → slice_index (header_in pages) k ≡ slice_index image.db k
  in_header k low few =
      let front = part image.db 0 (stored_size size) in
      header_at k ∙ get_or-take 100 (take size front) k 0 few ∙ get_or-take size front k 0 low
      ∙ slice_index-part image.db 0 (stored_size size) k (omega arith) ∙ ap (slice_index image.db) (zero-add k)

  -- and there is nothing after
  past_header : (k : ℕ) → size ≤ k → k < 100 → slice_index (header_in pages) k ≡ 0
  past_header k past few =
      let front = part image.db 0 (stored_size size) in
      header_at k ∙ get_or-take 100 (take size front) k 0 few
      ∙ get_or_past (take size front) k 0 (omega (arith, length-take size front, past))

  large : IsSoundFile size pages → 20 < size
  large sound = elim (cases_lt 20 size) [
    | inl low ↦ low
    | inr past ↦
        let zero_20 = past_header 20 (omega arith) (omega arith) in
        let zero_21 = past_header 21 (omega arith) (omega arith) in
        let zero_22 = past_header 22 (omega arith) (omega arith) in
        let zero_23 = past_header 23 (omega arith) (omega arith) in
        absurd (omega (arith, sound.header.1.fractions, zero_20, zero_21, zero_22, zero_23))
  ]

  -- the pages end in sums
  reserves : IsSoundFile size pages → slice_index image.db 20 ≡ 8 → reserved size ≡ 8
  reserves sound summed =
      let byte = in_header 20 (omega (arith, large sound)) (omega arith) ∙ summed in
      elim (cases_Bool (eqb (size % 16) 8)) [
        | inl on ↦ rw on refl
        | inr off ↦ let none : reserved size ≡ 0 = rw off refl in absurd (omega (arith, byte, none, sound.header.1.fractions))
      ]

  names : IsSoundFile size pages → 20 < length image.db → size_in_file image.db ≡ stored_size size
  names sound long =
      let high = in_header 16 (omega (arith, large sound)) (omega arith) in
      let low = in_header 17 (omega (arith, large sound)) (omega arith) in
      let named = ap₂ (λ (a b : ℕ). a * 256 + b) high low in
      rw (le-ltb (length image.db) 18 (omega arith)) (ap (λ (n : ℕ). cond (eqb n 1) 65536 n) (sym named) ∙ sound.header.0.size)

  -- no page is found that has another sum
  sums_are_right : IsSoundFile size pages → HasWrongSum image → ⊥
  sums_are_right sound wrong =
      let reserved_so = reserves sound wrong.summed in
      let whole = stored_size size in
      let some : 0 < whole = omega (arith, reserved_so) in
      let named : size_in_file image.db ≡ whole = names sound (reaches image.db 20 (omega (arith, wrong.summed))) in
      let within : wrong.page * whole ≤ length image.db = subst (λ n. wrong.page * n ≤ length image.db) named wrong.within in
      let page = file_page whole image.db wrong.page in
      let there = stored_page wrong.page some wrong.first within in
      let len = found.whole.sized wrong.page page there in
      let unlisted : length found.numbers ≡ 0 =
      replays_once whole image.log (length found.numbers) 0 found.frames.0 (inl (unlogged, refl)) in
      let alone = found.sealed wrong.page page there (not_among found.numbers wrong.page unlisted) in
      wrong.wrong (subst (λ n. EndsInSum (file_page n image.db wrong.page)) (sym named) (ends_in_sum size page reserved_so len alone))

-- no database is found in files with a wrong sum
pub none_found : (image : Image) → HasWrongSum image → (db : Trees) → ¬ (AreFoundIn image db)
none_found image wrong db (inl (size, pages, wanted, found, ours, reads)) =
    ∥∥₁_elim ours (λ a b. absurd a) (λ it. sums_are_right size image pages found wrong.unlogged it.file.sound wrong)
none_found image wrong db (inr (inl plain, empty)) = no_blank (used_size 4096 false) (omega arith) image wrong.begins wrong.summed plain
none_found image wrong db (inr (inr summed, empty)) = no_blank (used_size 4096 true) (omega arith) image wrong.begins wrong.summed summed
