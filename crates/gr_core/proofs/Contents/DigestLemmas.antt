-- A digest is made of bytes.
use Rattle.std.proofs.Common.{ℕ, zero, suc, ◌<◌, ◌/◌, ◌%◌, ◌^◌, List, [], ◌∷◌, arith}
use Rattle.std.proofs.lemmas.Nat.{mod_below}
use Rattle.std.specs.Prelude.{slice_index}
use Rattle.std.specs.List.{AllByRecursion}
use Rattle.std.specs.Int.{w32, to_be_bytes}
use Rattle.hex.specs.Hex.{IsBytes}
use Rattle.sha2.specs.Sha256.{digest_bytes, final_hash, initial_hash_256, sha256}
use Rattle.gr_core.proofs.Collections.ListLemmas.{all-append}

abbrev IsByte : ℕ → Type 0
IsByte n = n < 256

each_byte : (xs : List ℕ) → AllByRecursion IsByte xs → IsBytes xs
each_byte [] all i = omega arith
each_byte (x ∷ xs) all zero = all.0
each_byte (x ∷ xs) all (suc i) = each_byte xs all.1 i

rest : (n : ℕ) → n % 256 < 256
rest n = mod_below n 256 (omega arith)

word_bytes : (w : ℕ) → AllByRecursion IsByte (to_be_bytes w32 w)
word_bytes w = (rest (w / 256 ^ 3), (rest (w / 256 ^ 2), (rest (w / 256 ^ 1), (rest w, tt))))

words_bytes : (hash : List ℕ) (words : ℕ) → AllByRecursion IsByte (digest_bytes hash words)
unfolding digest_bytes
words_bytes hash zero = tt
words_bytes hash (suc words) =
    all-append IsByte (digest_bytes hash words) (to_be_bytes w32 (slice_index hash words)) (words_bytes hash words)
    (word_bytes (slice_index hash words))

pub bytes-sha256 : (message : List ℕ) → IsBytes (sha256 message)
unfolding sha256
bytes-sha256 message = each_byte (sha256 message) (words_bytes (final_hash initial_hash_256 message) 8)
