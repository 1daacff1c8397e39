-- The rows of a valid state have numbers and texts in the columns of that kind, and their texts are UTF-8.
use Rattle.gr_core.specs.Columns.Stored.{DeskTable, DeveloperTable, ResolutionTable, ChoiceTable}
use Rattle.gr_core.specs.Columns.Stored.{SponsorTable, BallotTable}
use Rattle.std.proofs.Common.{◌≡◌, ℕ, ◌<◌, List, [], ◌∷◌, Option, Some, None, inl, inr, true, nat_lt, IsTrue, refl}
use Rattle.std.proofs.Common.{sym, subst, arith, IsSome, IfSome, option_and_then, unwrap_or}
use Rattle.std.specs.List.{All, list_all}
use Rattle.std.specs.Str.{IsUtf8, IsAscii}
use Rattle.std.specs.declared.cmp.Ordering.{Ordering}
use Rattle.std.specs.FinMap.{FinMap, get}
use Rattle.std.proofs.lemmas.Bool.{and_parts}
use Rattle.std.proofs.lemmas.Bool.Decides.{nat_tests}
use Rattle.std.proofs.lemmas.List.Elements.{All-nil, All-cons, All-head, All-tail, Contains-get_or}
use Rattle.std.proofs.lemmas.Str.{IsUtf8-from_ascii, IsUtf8-nil}
use Rattle.std.proofs.lemmas.Str.Ascii.{IsAscii-nil, IsAscii-cons}
use Rattle.hex.specs.Hex.{encode_lower, lower_digits}
use Rattle.hex.proofs.HexLemmas.{IsAscii-encode_with}
use Rattle.gr_count.specs.declared.mark.Mark.{Mark}
use Rattle.gr_count.specs.Ballot.{IsMarkCharacter}
use Rattle.gr_core.specs.declared.resolution.Resolution.{Resolution}
use Rattle.gr_core.specs.declared.resolution.Resolution.TheVariants.{Draft, Discussing, Voting, Closed, Cancelled}
use Rattle.gr_core.specs.Parts.Key.{text_cmp}
use Rattle.gr_core.specs.Parts.Login.{IsLogin, is_login_character}
use Rattle.gr_core.specs.Parts.Developer.{DeveloperModel}
use Rattle.gr_core.specs.Parts.Choice.{login_of_proposer}
use Rattle.gr_core.specs.Parts.Ballot.{IsMark}
use Rattle.gr_core.specs.Desks.State.{State}
use Rattle.gr_core.specs.declared.header.Header.{Header}
use Rattle.gr_core.specs.Desks.Valid.{IsValid, AreDevelopers, AreTables}
use Rattle.gr_core.specs.Desks.Version1.{IsValid1}
use Rattle.gr_core.specs.Columns.Rows1.{ballot_fields1, HasRows1}
use Rattle.gr_core.specs.Columns.Fields.{Field, ranks_text, header_fields}
use Rattle.gr_core.specs.Columns.Fields.{developer_fields, resolution_fields, choice_fields, sponsor_fields, ballot_fields}
use Rattle.gr_core.specs.Columns.Stored.{Stored, HasRows, AreRowsOf}
use Rattle.gr_core.proofs.Collections.PresenceLemmas.{taken, present}
use Rattle.gr_core.proofs.Columns.RanksLemmas.{characters-of-marks}
use Rattle.gr_store.specs.Columns.{Kind, AreOfKinds, desk_kinds, developer_kinds, resolution_kinds, choice_kinds}
use Rattle.gr_store.specs.Columns.{sponsor_kinds, ballot_kinds, ballot1_kinds}
use Rattle.gr_store.specs.Holds.{HaveKindsWith}
use Rattle.gr_store.proofs.TableRows.EachTable.{HaveKinds}

-- ==== texts

-- bytes that pass the test are ASCII
ascii_all : (bytes : List ℕ) → list_all (λ c. nat_lt c 128) bytes ≡ true → IsAscii bytes
ascii_all [] all = IsAscii-nil
ascii_all (c ∷ bytes) all =
    let parts = and_parts (nat_lt c 128) (list_all (λ c. nat_lt c 128) bytes) all in
    IsAscii-cons c bytes (grind (arith, nat_tests)) (ascii_all bytes parts.1)

login_character : (c : ℕ) → IsTrue (is_login_character c) → c < 128
login_character c is = grind (arith, nat_tests)

login_ascii : (text : List ℕ) → All (λ c. IsTrue (is_login_character c)) text → IsAscii text
login_ascii [] all = IsAscii-nil
login_ascii (c ∷ text) all =
    let P = λ (c : ℕ). IsTrue (is_login_character c) in
    IsAscii-cons c text (login_character c (All-head P c text all)) (login_ascii text (All-tail P c text all))

-- a login is ASCII, so it is UTF-8
login_utf8 : (login : List ℕ) → IsLogin login → IsUtf8 login
login_utf8 login is = IsUtf8-from_ascii login (login_ascii login is.characters)

-- so is a login of the roll
on_roll : (developers : FinMap text_cmp DeveloperModel) (login : List ℕ) → AreDevelopers developers
    → IsSome (get developers login) → IsUtf8 login
on_roll developers login are there =
    let it = present (get developers login) there in login_utf8 login (are login it.0 it.1).named

mark_character : (c : ℕ) → IsMarkCharacter c → c < 128
mark_character c (inl digit) = omega (arith, digit)
mark_character c (inr (inl letter)) = omega (arith, letter)
mark_character c (inr (inr unranked)) = omega (arith, unranked)

marks_ascii : (text : List ℕ) → All IsMarkCharacter text → IsAscii text
marks_ascii [] all = IsAscii-nil
marks_ascii (c ∷ text) all =
    IsAscii-cons c text (mark_character c (All-head IsMarkCharacter c text all))
    (marks_ascii text (All-tail IsMarkCharacter c text all))

-- the text of marks is UTF-8
ranks_utf8 : (ranks : List Mark) → All IsMark ranks → IsUtf8 (ranks_text ranks)
ranks_utf8 ranks all = IsUtf8-from_ascii _ (marks_ascii (ranks_text ranks) (characters-of-marks ranks all))

-- hexadecimal digits are UTF-8
digits_utf8 : (digest : List ℕ) → IsUtf8 (encode_lower digest)
digits_utf8 digest =
    IsUtf8-from_ascii _ (IsAscii-encode_with lower_digits digest (ascii_all lower_digits refl))

-- the text of a proposer is a login of the roll, or empty
some_login : (developers : FinMap text_cmp DeveloperModel) (login : Option (List ℕ)) → AreDevelopers developers
    → IfSome login (λ text. IsSome (get developers text)) → IsUtf8 (unwrap_or login [])
some_login developers None are h = IsUtf8-nil
some_login developers (Some login) are h = on_roll developers login are h

-- ==== rows

-- the rows of a table have the kinds that those of its entries have
of_kinds : {K V : Type 0} {cmp : K → K → Ordering} (kinds : List Kind) (fields : K × V → List Field) (m : FinMap cmp V)
    (rows : List (List Field)) → AreRowsOf fields m rows
    → ((key : K) (value : V) → get m key ≡ Some value → AreOfKinds kinds (fields (key, value)))
    → All (AreOfKinds kinds) rows
of_kinds kinds fields m rows are each k row below =
    let it = are.known _ (Contains-get_or rows k row below) in
    subst (AreOfKinds kinds) it.3 (each it.0 it.1 it.2)

kinds_of_desk : (header : Header) (rows : List (List Field)) → rows ≡ header_fields header ∷ []
    → All (AreOfKinds desk_kinds) rows
kinds_of_desk header rows has =
    subst (All (AreOfKinds desk_kinds)) (sym has)
    (All-cons (AreOfKinds desk_kinds) (header_fields header) [] tt (All-nil (AreOfKinds desk_kinds)))

-- a resolution has numbers alone, whatever its stage
resolution_numbers : (number : ℕ) (resolution : Resolution)
    → AreOfKinds resolution_kinds (resolution_fields (number, resolution))
resolution_numbers number Draft = tt
resolution_numbers number (Discussing discussion) = tt
resolution_numbers number (Voting discussion poll) = tt
resolution_numbers number (Closed discussion poll chosen) = tt
resolution_numbers number (Cancelled discussion) = tt

module _ (s : State) (tables : AreTables s.header.clock s) where
  kinds_of_developers : (rows : List (List Field)) → AreRowsOf developer_fields s.developers rows
      → All (AreOfKinds developer_kinds) rows
  kinds_of_developers rows has =
      of_kinds developer_kinds developer_fields s.developers rows has (λ login row got.
      let is = tables.developers login row got in (login_utf8 login is.named, (is.name.utf8, tt)))

  kinds_of_resolutions : (rows : List (List Field)) → AreRowsOf resolution_fields s.resolutions rows
      → All (AreOfKinds resolution_kinds) rows
  kinds_of_resolutions rows has =
      of_kinds resolution_kinds resolution_fields s.resolutions rows has
      (λ number resolution got. resolution_numbers number resolution)

  kinds_of_choices : (rows : List (List Field)) → AreRowsOf choice_fields s.choices rows
      → All (AreOfKinds choice_kinds) rows
  kinds_of_choices rows has =
      of_kinds choice_kinds choice_fields s.choices rows has (λ key row got.
      let it = taken (get s.resolutions key.resolution) _ (tables.choices key row got) in
      let proposer = some_login s.developers (option_and_then login_of_proposer row.proposer) tables.developers
      it.2.proposer in (proposer, (it.2.summary.utf8, (it.2.text.utf8, tt))))

  kinds_of_sponsors : (rows : List (List Field)) → AreRowsOf sponsor_fields s.sponsors rows
      → All (AreOfKinds sponsor_kinds) rows
  kinds_of_sponsors rows has =
      of_kinds sponsor_kinds sponsor_fields s.sponsors rows has (λ key sponsorship got.
      let it = taken (get s.choices key.0) _ (tables.sponsors key.0 key.1 sponsorship got) in
      (on_roll s.developers key.1 tables.developers it.2.on_roll, tt))

kinds_of_ballots : (s : State) (rows : List (List Field)) → IsValid s → AreRowsOf ballot_fields s.ballots rows
    → All (AreOfKinds ballot_kinds) rows
kinds_of_ballots s rows valid has =
    of_kinds ballot_kinds ballot_fields s.ballots rows has (λ key row got.
    let is = valid.votes.ballots key.0 key.1 row got in (
      on_roll s.developers key.1 valid.tables.developers is.on_roll,
      (ranks_utf8 row.ranks is.ranks.marks, (digits_utf8 row.receipt.digest, tt)),
    ))

-- the rows of a valid state have the kinds of columns of their tables
pub have_kinds : (s : State) (rows : Stored) → IsValid s → HasRows s rows → HaveKinds rows
have_kinds s rows valid has DeskTable = kinds_of_desk s.header rows.desk has.desk
have_kinds s rows valid has DeveloperTable = kinds_of_developers s valid.tables rows.developers has.developers
have_kinds s rows valid has ResolutionTable = kinds_of_resolutions s valid.tables rows.resolutions has.resolutions
have_kinds s rows valid has ChoiceTable = kinds_of_choices s valid.tables rows.choices has.choices
have_kinds s rows valid has SponsorTable = kinds_of_sponsors s valid.tables rows.sponsors has.sponsors
have_kinds s rows valid has BallotTable = kinds_of_ballots s rows.ballots valid has.ballots

-- ==== of version 1

kinds_of_ballots1 : (s : State) (rows : List (List Field)) → IsValid1 s → AreRowsOf ballot_fields1 s.ballots rows
    → All (AreOfKinds ballot1_kinds) rows
kinds_of_ballots1 s rows valid has =
    of_kinds ballot1_kinds ballot_fields1 s.ballots rows has (λ key row got.
    let is = valid.votes.ballots key.0 key.1 row got in (
      on_roll s.developers key.1 valid.tables.developers is.on_roll,
      (ranks_utf8 row.ranks is.ranks.marks, (digits_utf8 row.receipt.digest, tt)),
    ))

pub have_kinds1 : (s : State) (rows : Stored) → IsValid1 s → HasRows1 s rows → HaveKindsWith ballot1_kinds rows
have_kinds1 s rows valid has DeskTable = kinds_of_desk s.header rows.desk has.desk
have_kinds1 s rows valid has DeveloperTable = kinds_of_developers s valid.tables rows.developers has.developers
have_kinds1 s rows valid has ResolutionTable = kinds_of_resolutions s valid.tables rows.resolutions has.resolutions
have_kinds1 s rows valid has ChoiceTable = kinds_of_choices s valid.tables rows.choices has.choices
have_kinds1 s rows valid has SponsorTable = kinds_of_sponsors s valid.tables rows.sponsors has.sponsors
have_kinds1 s rows valid has BallotTable = kinds_of_ballots1 s rows.ballots valid has.ballots
