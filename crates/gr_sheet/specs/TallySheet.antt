-- The tally of a resolution whose vote is closed, as exact text: all votes that were cast, each with its receipt
-- (Constitution, 4.2.3; the form is this project's profile).
use Rattle.std.specs.Prelude.{◌≡◌, ℕ, List, [], ◌∷◌, length, map, string_bytes, codes, decimal}
use Rattle.std.specs.List.{concat, flat_map}
use Rattle.std.specs.List.Sorted.{IsPermutation, IsSorted}
use Rattle.std.specs.declared.cmp.Ordering.{Ordering}
use Rattle.hex.specs.Hex.{encode_lower}
use Rattle.gr_count.specs.Ballot.{character_of}
use Rattle.gr_core.specs.Parts.Key.{BallotKey, text_cmp, pair_cmp}
use Rattle.gr_core.specs.Parts.Ballot.{BallotModel, ballots_of}
use Rattle.gr_core.specs.Desks.State.{State}
use Rattle.gr_sheet.specs.Ballot.{option_lines}
use Rattle.gr_sheet.specs.declared.tally_sheet.ShownBallot as rust

-- a ballot as the tally shows it: the digits of its receipt, and a character for what it says of each place
pub record ShownBallot : Type 0 where
  pub receipt : List ℕ
  pub ranks : List ℕ

abbrev pub shown_row : BallotModel → ShownBallot
shown_row row = record { receipt = encode_lower row.receipt.digest; ranks = map character_of row.ranks }

-- that of a key with its row shows nothing of the key, which has the login
abbrev pub shown : BallotKey × BallotModel → ShownBallot
shown entry = shown_row entry.1

-- a ballot as it lies in memory for the tally
abbrev pub shown_ballot : rust.ShownBallot → ShownBallot
shown_ballot ballot = record { receipt = string_bytes ballot.receipt; ranks = string_bytes ballot.ranks }

-- the order of the bytes of the receipts, and of the ranks where receipts are the same
abbrev pub shown_cmp : ShownBallot → ShownBallot → Ordering
shown_cmp a b = pair_cmp text_cmp text_cmp (a.receipt, a.ranks) (b.receipt, b.ranks)

-- the ballots on the resolution in that order, each as often as there is one that shows so
pub record AreShown (s : State) (number : ℕ) (ballots : List ShownBallot) : Type 0 where
  pub each : IsPermutation (map shown (ballots_of s.ballots number)) ballots
  pub ordered : IsSorted shown_cmp ballots

abbrev pub ballot_line : ShownBallot → List ℕ
ballot_line ballot = concat (codes "V: " ∷ ballot.ranks ∷ codes " " ∷ ballot.receipt ∷ codes "\n" ∷ [])

-- how many ballots were cast
abbrev pub ballots_line : State → ℕ → List ℕ
ballots_line s number = concat (codes "Ballots: " ∷ decimal (length (ballots_of s.ballots number)) ∷ codes "\n" ∷ [])

-- the tally of the resolution with this number, with these ballots
abbrev pub tally_sheet : State → ℕ → List ShownBallot → List ℕ
tally_sheet s number ballots = concat (
    codes "Tally of resolution " ∷ decimal number ∷ codes "\n"
    ∷ option_lines s number
    ∷ ballots_line s number
    ∷ flat_map ballot_line ballots ∷ [])

-- the text is the tally of the resolution with this number
abbrev pub IsTally : State → ℕ → List ℕ → Type 0
IsTally s number text = (ballots : List ShownBallot) × AreShown s number ballots × (text ≡ tally_sheet s number ballots)
