-- The rows of a roll that is imported (this project's profile).
use Rattle.std.specs.Prelude.{◌≡◌, ℕ, ◌+◌, ◌⊎◌, Bool, true, false, not, ◌&&◌, if◌then◌else◌, List, [], ◌∷◌, ◌++◌, length, filter, count_by, IsTrue, is_some, Option, Some, None, string_bytes, unwrap_or}
use Rattle.std.specs.Str.{bytes_eq}
use Rattle.std.specs.List.{list_any, AllByRecursion}
use Rattle.std.specs.declared.cmp.Ordering.TheVariants.{Less}
use Rattle.std.specs.FinMap.{FinMap, get, insert}
use Rattle.gr_core.specs.declared.developer.Standing.{Standing}
use Rattle.gr_core.specs.declared.developer.Standing.TheVariants.{Current, Retired}
use Rattle.gr_core.specs.declared.reply.Imported.{Imported}
use Rattle.gr_core.specs.declared.import.RollRow as rust
use Rattle.gr_core.specs.declared.import.Novelty.{Novelty}
use Rattle.gr_core.specs.declared.import.Novelty.TheVariants.{Added, Changed, Same}
use Rattle.gr_core.specs.Parts.Key.{text_cmp}
use Rattle.gr_core.specs.Parts.Login.{IsLogin}
use Rattle.gr_core.specs.Parts.Text.{IsName}
use Rattle.gr_core.specs.Parts.Developer.{DeveloperModel, standing_of}

-- a row as it came, without where its texts lie in memory
pub record RollRow : Type 0 where
  pub login : List ℕ
  pub name : List ℕ
  pub status : List ℕ

abbrev pub roll_row : rust.RollRow → RollRow
roll_row row = record {
  login = string_bytes row.login;
  name = string_bytes row.name;
  status = string_bytes row.status;
}

-- What it says of its login. A row with another status is given a standing, since there must be one. It
-- is never used: such a row is bad, and its import is refused.
abbrev pub developer_in : RollRow → DeveloperModel
developer_in row = record { name = row.name; standing = unwrap_or (standing_of row.status) Retired }

abbrev pub is_same_standing : Standing → Standing → Bool
is_same_standing Current Current = true
is_same_standing Retired Retired = true
is_same_standing Current Retired = false
is_same_standing Retired Current = false

abbrev pub is_same_developer : DeveloperModel → DeveloperModel → Bool
is_same_developer one other = bytes_eq one.name other.name && is_same_standing one.standing other.standing

-- what a row does to the row that the roll has under its login, if it has one
abbrev pub novelty_to : Option DeveloperModel → DeveloperModel → Novelty
novelty_to None row = Added
novelty_to (Some found) row = if is_same_developer found row then Same else Changed

abbrev pub novelty : FinMap text_cmp DeveloperModel → RollRow → Novelty
novelty developers row = novelty_to (get developers row.login) (developer_in row)

abbrev pub is_same_novelty : Novelty → Novelty → Bool
is_same_novelty Added Added = true
is_same_novelty Added Changed = false
is_same_novelty Added Same = false
is_same_novelty Changed Added = false
is_same_novelty Changed Changed = true
is_same_novelty Changed Same = false
is_same_novelty Same Added = false
is_same_novelty Same Changed = false
is_same_novelty Same Same = true

-- how many of the rows do this to the roll
abbrev pub row_count : FinMap text_cmp DeveloperModel → List RollRow → Novelty → ℕ
row_count developers rows kind = count_by (λ row. is_same_novelty (novelty developers row) kind) rows

abbrev pub counts_of : FinMap text_cmp DeveloperModel → List RollRow → Imported
counts_of developers rows = record {
  added = row_count developers rows Added;
  changed = row_count developers rows Changed;
  same = row_count developers rows Same;
}

-- the rows that the roll does not have yet
abbrev pub news_of : FinMap text_cmp DeveloperModel → List RollRow → List RollRow
news_of developers rows = filter (λ row. not (is_same_novelty (novelty developers row) Same)) rows

-- the roll with these rows, each under its login, the first of them first
abbrev pub imported : FinMap text_cmp DeveloperModel → List RollRow → FinMap text_cmp DeveloperModel
imported developers [] = developers
imported developers (row ∷ rows) = imported (insert developers row.login (developer_in row)) rows

-- one of the rows has the login
abbrev pub has_login : List ℕ → List RollRow → Bool
has_login login rows = list_any (λ row. bytes_eq login row.login) rows

-- the login of the row is above that of the other one, in the order of their bytes
abbrev pub IsAbove : RollRow → RollRow → Type 0
IsAbove row other = text_cmp other.login row.login ≡ Less

-- none of the rows is above this one
abbrev pub AreUpTo : List RollRow → RollRow → Type 0
AreUpTo rows highest = AllByRecursion (λ row. ¬ (IsAbove row highest)) rows

-- neither the roll nor one of the other rows has the row's login
abbrev pub is_new : FinMap text_cmp DeveloperModel → List RollRow → RollRow → Bool
is_new developers others row = not (is_some (get developers row.login)) && not (has_login row.login others)

-- The roll cannot take a row that stands after these others: its login, its name or its status breaks its rule, or one
-- of the others has its login.
abbrev pub IsBadRow : List RollRow → RollRow → Type 0
IsBadRow others row =
    ¬ (IsLogin row.login)
    ⊎ (¬ (IsName row.name)
    ⊎ ((standing_of row.status ≡ None)
    ⊎ IsTrue (has_login row.login others)))

-- the rows begin with some others and such a row after them
pub record HasBadRowBehind (rows others : List RollRow) : Type 0 where
  pub row : RollRow
  pub later : List RollRow
  pub whole : rows ≡ others ++ row ∷ later
  pub bad : IsBadRow others row

abbrev pub HasNoBadRow : List RollRow → Type 0
HasNoBadRow rows = (others : List RollRow) → ¬ (HasBadRowBehind rows others)

-- The first such row stands on this line. The names of the columns have line 1, and the first row line 2.
pub record IsFirstBadLine (rows : List RollRow) (line : ℕ) : Type 0 where
  pub others : List RollRow
  pub behind : HasBadRowBehind rows others
  pub first : HasNoBadRow others
  pub line_is : line ≡ length others + 2
