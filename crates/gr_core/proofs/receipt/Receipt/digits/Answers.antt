use Rattle.std.proofs.Common.{rules, arith, ◌≡◌, ℕ, ◌<◌, List, [], ◌∷◌, sym, subst}
use Rattle.std.specs.List.{AllByRecursion}
use Rattle.std.specs.Str.{IsAscii}
use Rattle.std.proofs.lemmas.Str.Ascii.{IsAscii-nil, IsAscii-cons}
use Rattle.hex.specs.Hex.{encode_lower, lower_digits}
use Rattle.hex.proofs.HexLemmas.{IsAscii-encode_with}
use Rattle.gr_core.proofs.receipt.Receipt.digits.Goals as goal

-- a list of ASCII characters is ASCII
all_ascii : (bytes : List ℕ) → AllByRecursion (λ byte. byte < 128) bytes → IsAscii bytes
all_ascii [] all = IsAscii-nil
all_ascii (byte ∷ rest) all = IsAscii-cons byte rest all.0 (all_ascii rest all.1)

-- so are the digits
lower_digits-ascii : IsAscii lower_digits
lower_digits-ascii =
    all_ascii lower_digits (
      omega arith,
      (
        omega arith,
        (
          omega arith,
          (
            omega arith,
            (
              omega arith,
              (
                omega arith,
                (
                  omega arith,
                  (
                    omega arith,
                    (
                      omega arith,
                      (
                        omega arith,
                        (
                          omega arith,
                          (
                            omega arith,
                            (omega arith, (omega arith, (omega arith, (omega arith, tt)))),
                          ),
                        ),
                      ),
                    ),
                  ),
                ),
              ),
            ),
          ),
        ),
      ),
    )

-- and the digits of the digest
pub invariant_of-result : goal.invariant_of-result
invariant_of-result c =
    let written : c.encode_to_slice.new.output ≡ encode_lower c.args.self.now.digest = search rules in
    subst IsAscii (sym written) (IsAscii-encode_with lower_digits c.args.self.now.digest lower_digits-ascii)
