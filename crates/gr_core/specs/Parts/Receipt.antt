-- The receipt of a ballot, which its voter gets and which the desk keeps with it (this project's profile).
use Rattle.std.specs.Prelude.{◌≡◌, ℕ, List, ◌++◌, length, codes, decimal}
use Rattle.hex.specs.Hex.{IsBytes}
use Rattle.sha2.specs.Sha256.{sha256}
use Rattle.gr_core.specs.declared.receipt.Receipt.{Receipt}

-- the number of the resolution, the login and the token, each on a line of its own
abbrev pub receipt_lines : ℕ → List ℕ → List ℕ → List ℕ
receipt_lines resolution login token =
    decimal resolution ++ codes "\n" ++ login ++ codes "\n" ++ token ++ codes "\n"

-- the SHA-256 of these lines (FIPS 180-4)
abbrev pub receipt_of : ℕ → List ℕ → List ℕ → Receipt
receipt_of resolution login token = record { digest = sha256 (receipt_lines resolution login token) }

-- it has the 32 bytes of a digest
pub record IsReceipt (receipt : Receipt) : Type 0 where
  pub long : length receipt.digest ≡ 32
  pub bytes : IsBytes receipt.digest
