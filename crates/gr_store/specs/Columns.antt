-- What columns a row has: for each a whole number, or a text.
use Rattle.std.specs.Prelude.{⊤, ℕ, List, [], ◌∷◌, All, IsUtf8}
use Rattle.gr_core.specs.Columns.Fields.{Field, Number, Text}
use Rattle.gr_core.specs.Columns.Stored.{TableName, DeskTable, DeveloperTable, ResolutionTable, ChoiceTable}
use Rattle.gr_core.specs.Columns.Stored.{SponsorTable, BallotTable}
use Rattle.sqlite.specs.Effect.{Database}
use Rattle.gr_store.specs.Selects.{SelectsFields}

pub data Kind : Type 0 where
  IsNumber : Kind
  IsText : Kind

-- fields of these kinds, in their order, the texts in UTF-8
abbrev pub AreOfKinds : List Kind → List Field → Type 0
AreOfKinds [] [] = ⊤
AreOfKinds (IsNumber ∷ kinds) (Number n ∷ fields) = AreOfKinds kinds fields
AreOfKinds (IsText ∷ kinds) (Text t ∷ fields) = IsUtf8 t × AreOfKinds kinds fields
AreOfKinds _ _ = ⊥

-- no rows of these kinds are an answer to the text
abbrev pub CannotHold : List ℕ → List Kind → Database → Type 0
CannotHold text kinds db = (kept : List (List Field)) → All (AreOfKinds kinds) kept → ¬ (SelectsFields text db kept)

-- the columns of the six tables
abbrev pub desk_kinds : List Kind
desk_kinds =
    IsNumber ∷ IsNumber ∷ IsNumber ∷ IsNumber ∷ []

abbrev pub developer_kinds : List Kind
developer_kinds =
    IsText ∷ IsText ∷ IsNumber ∷ []

abbrev pub resolution_kinds : List Kind
resolution_kinds =
    IsNumber ∷ IsNumber ∷ IsNumber ∷ IsNumber ∷ IsNumber ∷ IsNumber ∷ IsNumber ∷ IsNumber ∷ IsNumber ∷ []

abbrev pub choice_kinds : List Kind
choice_kinds =
    IsNumber ∷ IsNumber ∷ IsNumber ∷ IsText ∷ IsText ∷ IsText ∷ IsNumber ∷ IsNumber ∷ IsNumber ∷ IsNumber ∷ []

abbrev pub sponsor_kinds : List Kind
sponsor_kinds =
    IsNumber ∷ IsNumber ∷ IsText ∷ IsNumber ∷ []

abbrev pub ballot_kinds : List Kind
ballot_kinds = IsNumber ∷ IsText ∷ IsText ∷ IsText ∷ IsNumber ∷ []

-- and that of ballots in version 1
abbrev pub ballot1_kinds : List Kind
ballot1_kinds = IsNumber ∷ IsText ∷ IsText ∷ IsText ∷ []

-- the columns of the six tables, with these for the ballots
abbrev pub kinds_with : List Kind → TableName → List Kind
kinds_with ballots DeskTable = desk_kinds
kinds_with ballots DeveloperTable = developer_kinds
kinds_with ballots ResolutionTable = resolution_kinds
kinds_with ballots ChoiceTable = choice_kinds
kinds_with ballots SponsorTable = sponsor_kinds
kinds_with ballots BallotTable = ballots
