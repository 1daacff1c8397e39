-- What an intake takes of the tables of a database.
use Rattle.std.specs.Prelude.{ℕ, List, ◌++◌, map}
use Rattle.gr_core.specs.declared.intake.Intake.{Intake}
use Rattle.gr_core.specs.Columns.Fields.{Field}
use Rattle.gr_core.specs.Columns.Intake.{HasTaken, with_more}
use Rattle.gr_core.specs.Columns.Stored.{TableName}
use Rattle.gr_core.specs.Columns.Stored.{Stored}
use Rattle.sqlite.specs.Effect.{Database}
use Rattle.gr_store.specs.Holds.{SelectsOthersBy}
use Rattle.gr_store.specs.Selects.{SelectsFields}

-- the rows of an answer of the select, each of them as it is meant, after what it took before
pub record TakesAnswer (text : List ℕ) (place : TableName) (meant : List Field → List Field) (db : Database)
    (old new : Intake) : Type 0 where
  pub rows : List (List Field)
  pub selected : SelectsFields text db rows
  pub taken : (before : Stored) → HasTaken before old → HasTaken (with_more place before (map meant rows)) new

-- the rows of all tables but `desk`, after others, each ballot as it is meant
abbrev pub with_others : (List Field → List Field) → Stored → Stored → Stored
with_others meant before others = record before {
  developers = before.developers ++ others.developers;
  resolutions = before.resolutions ++ others.resolutions;
  choices = before.choices ++ others.choices;
  sponsors = before.sponsors ++ others.sponsors;
  ballots = before.ballots ++ map meant others.ballots;
}

-- the rows of the answers of the selects of all tables but `desk`, that of ballots by this text
pub record TakesOthers (text : List ℕ) (meant : List Field → List Field) (db : Database)
    (old new : Intake) : Type 0 where
  pub rows : Stored
  pub selected : SelectsOthersBy text rows db
  pub taken : (before : Stored) → HasTaken before old → HasTaken (with_others meant before rows) new
