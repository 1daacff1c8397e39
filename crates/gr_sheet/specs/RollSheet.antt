-- The sheet of the roll, as exact text (this project's profile).
use Rattle.std.specs.Prelude.{ℕ, ◌++◌, List, codes, decimal}
use Rattle.std.specs.List.{flat_map}
use Rattle.std.specs.FinMap.{len, entries}
use Rattle.gr_core.specs.Parts.Developer.{DeveloperModel, current_count, word_of}
use Rattle.gr_core.specs.Desks.State.{State}

-- the line of a developer: the login, the standing and the name
abbrev pub developer_line : List ℕ × DeveloperModel → List ℕ
developer_line entry =
    codes "D: " ++ entry.0 ++ codes " " ++ word_of entry.1.standing ++ codes " " ++ entry.1.name ++ codes "\n"

-- the two lines above the developers
abbrev pub roll_head : State → List ℕ
roll_head s =
    codes "Developers: " ++ (decimal (len s.developers)
    ++ (codes "\nCurrent: " ++ (decimal (current_count s.developers) ++ codes "\n")))

-- the roll: its counts, and then a line for each developer, in the order of the logins' bytes
abbrev pub roll_sheet : State → List ℕ
roll_sheet s = roll_head s ++ flat_map developer_line (entries s.developers)
