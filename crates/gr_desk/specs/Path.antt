-- The path of a file.
use Rattle.std.specs.Prelude.{ℕ, List, ◌++◌, codes, eqb, if◌then◌else◌}
use Rattle.std.specs.List.{starts_with}

-- The path that the database is given for a name. One that begins with `file:` would be a URI to it, and is none with
-- the folder in front.
abbrev pub path_text : List ℕ → List ℕ
path_text name = if starts_with eqb name (codes "file:") then codes "./" ++ name else name
