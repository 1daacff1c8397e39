-- Where each table has its key, and that the columns there tell it.
use Rattle.std.proofs.Common.{◌≡◌, ℕ, List, [], ◌∷◌, map}
use Rattle.sqlite_value.specs.Order.{Row, column}
use Rattle.sqlite_schema.specs.declared.schema.Table.{Table}
use Rattle.gr_core.specs.declared.choice.ChoiceKey.{ChoiceKey}
use Rattle.gr_core.specs.Parts.Key.{SponsorKey, BallotKey}
use Rattle.gr_core.specs.Parts.Choice.{choice_key}
use Rattle.gr_core.specs.Columns.Fields.{Field, Text, natural}
use Rattle.gr_core.specs.Columns.Fields.{developer_fields, resolution_fields, choice_fields, sponsor_fields, ballot_fields}
use Rattle.gr_store.specs.Schema.{developer_table, resolution_table, choice_table, sponsor_table, ballot_table}
use Rattle.gr_store.specs.Tabled.{in_tree}
use Rattle.gr_store.specs.Rows.{value_of, HasFields}

-- no two keys have the same fields
abbrev pub TellKeys : {K : Type 0} → (K → List Field) → Type 0
TellKeys {K} key_fields =
    (key other : K) → map value_of (key_fields key) ≡ map value_of (key_fields other) → key ≡ other

-- the columns of the table's key have the fields of the entry's, and those tell it
pub record HasKeyAt {K V : Type 0} (table : Table) (fields : K × V → List Field) (key_fields : K → List Field) : Type 0
  where
    pub stand : (row : Row) (key : K) (value : V) → HasFields table row (fields (key, value))
        → map (column row) table.primary ≡ map value_of (key_fields key)
    pub tell : TellKeys key_fields

-- ==== developers

abbrev pub login_fields : List ℕ → List Field
login_fields login = Text login ∷ []

pub developer_key : (tree : ℕ) → HasKeyAt (in_tree developer_table tree) developer_fields login_fields
developer_key tree = record {
  stand = λ row login value is. cc;
  tell = λ login other e. cc;
}

-- ==== resolutions

abbrev pub number_fields : ℕ → List Field
number_fields number = natural number ∷ []

pub resolution_key : (tree : ℕ) → HasKeyAt (in_tree resolution_table tree) resolution_fields number_fields
resolution_key tree = record {
  stand = λ row number value is. cc;
  tell = λ number other e. cc;
}

-- ==== choices

abbrev pub choice_key_fields : ChoiceKey → List Field
choice_key_fields key = natural key.resolution ∷ natural key.number ∷ []

choice_told : TellKeys choice_key_fields
choice_told key other e =
    let resolution : key.resolution ≡ other.resolution = cc in
    let number : key.number ≡ other.number = cc in
    let whole : choice_key key.resolution key.number ≡ choice_key other.resolution other.number = cc in
    whole

pub choices_key : (tree : ℕ) → HasKeyAt (in_tree choice_table tree) choice_fields choice_key_fields
choices_key tree = record {
  stand = λ row key value is. cc;
  tell = choice_told;
}

-- ==== sponsors

abbrev pub sponsor_key_fields : SponsorKey → List Field
sponsor_key_fields key = natural key.0.resolution ∷ natural key.0.number ∷ Text key.1 ∷ []

sponsor_told : TellKeys sponsor_key_fields
sponsor_told (choice, login) (other, alike) e =
    let keys : choice ≡ other = choice_told choice other (cc) in
    let text : login ≡ alike = cc in
    cc

pub sponsor_key : (tree : ℕ) → HasKeyAt (in_tree sponsor_table tree) sponsor_fields sponsor_key_fields
sponsor_key tree = record {
  stand = λ row key value is. cc;
  tell = sponsor_told;
}

-- ==== ballots

abbrev pub ballot_key_fields : BallotKey → List Field
ballot_key_fields key = natural key.0 ∷ Text key.1 ∷ []

ballot_told : TellKeys ballot_key_fields
ballot_told (resolution, login) (other, alike) e =
    let number : resolution ≡ other = cc in
    let text : login ≡ alike = cc in
    cc

pub ballot_key : (tree : ℕ) → HasKeyAt (in_tree ballot_table tree) ballot_fields ballot_key_fields
ballot_key tree = record {
  stand = λ row key value is. cc;
  tell = ballot_told;
}
