-- A developer of the roll, whom the login names (this project's profile).
use Rattle.std.specs.Prelude.{ℕ, Bool, true, false, List, count_by, Option, Some, None, codes, string_bytes, if◌then◌else◌}
use Rattle.std.specs.Str.{bytes_eq}
use Rattle.std.specs.FinMap.{FinMap, entries}
use Rattle.gr_core.specs.Parts.Key.{text_cmp}
use Rattle.gr_core.specs.declared.developer.Standing.{Standing}
use Rattle.gr_core.specs.declared.developer.Standing.TheVariants.{Current, Retired}
use Rattle.gr_core.specs.declared.developer.Developer.{Developer}
use Rattle.gr_core.specs.Parts.Login.{IsLogin}
use Rattle.gr_core.specs.Parts.Text.{IsName}

-- the standing that a word says
abbrev pub standing_of : List ℕ → Option Standing
standing_of word =
    if bytes_eq word (codes "current") then Some Current
    else if bytes_eq word (codes "retired") then Some Retired
    else None

-- the word that says it
abbrev pub word_of : Standing → List ℕ
word_of Current = codes "current"
word_of Retired = codes "retired"

abbrev pub is_current : Standing → Bool
is_current Current = true
is_current Retired = false

-- what the roll says of a login
pub record DeveloperModel : Type 0 where
  pub name : List ℕ
  pub standing : Standing

-- the row of a developer, without where it lies in memory
abbrev pub developer_model : Developer → DeveloperModel
developer_model developer = record { name = string_bytes developer.name; standing = developer.standing }

-- how many developers of the roll are current
abbrev pub current_count : FinMap text_cmp DeveloperModel → ℕ
current_count developers = count_by (λ entry. is_current entry.1.standing) (entries developers)

-- a row that the roll may have under this login
pub record IsDeveloper (login : List ℕ) (row : DeveloperModel) : Type 0 where
  pub named : IsLogin login
  pub name : IsName row.name
