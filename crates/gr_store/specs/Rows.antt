-- The fields of a row of a tree.
use Rattle.std.specs.Prelude.{◌≡◌, List, length, map}
use Rattle.std.specs.List.{range_with_len}
use Rattle.gr_core.specs.Columns.Fields.{Field, Number, Text}
use Rattle.sqlite_value.specs.declared.value.Value.{Value}
use Rattle.sqlite_value.specs.declared.value.Value.TheVariants as value
use Rattle.sqlite_value.specs.Order.{Row, column}
use Rattle.sqlite_schema.specs.declared.schema.Table.{Table}
use Rattle.sqlite_schema.specs.Names.{place_of}

-- a field as a value of SQL
abbrev pub value_of : Field → Value
value_of (Number n) = value.Int n
value_of (Text t) = value.Text t

-- the columns of a row of a tree, in their order
abbrev pub columns_of : Table → Row → Row
columns_of table row = map (λ at. column row (place_of table at)) (range_with_len 0 (length table.columns))

-- the row of a tree has these fields
abbrev pub HasFields : Table → Row → List Field → Type 0
HasFields table row fields = columns_of table row ≡ map value_of fields
