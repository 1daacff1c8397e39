-- The names of the fields of forms (this project's profile).
use Rattle.std.specs.Prelude.{ℕ, List, codes}
use Rattle.gr_http.specs.declared.field.Field.{Field}
use Rattle.gr_http.specs.declared.field.Field.TheVariants as field

abbrev pub field_name : Field → List ℕ
field_name field.Author = codes "author"
field_name field.Choice = codes "choice"
field_name field.Days = codes "days"
field_name field.Login = codes "login"
field_name field.Minor = codes "minor"
field_name field.Name = codes "name"
field_name field.Place = codes "place"
field_name field.Ranks = codes "ranks"
field_name field.Ratio = codes "ratio"
field_name field.Status = codes "status"
field_name field.Summary = codes "summary"
field_name field.Text = codes "text"
field_name field.Token = codes "token"
