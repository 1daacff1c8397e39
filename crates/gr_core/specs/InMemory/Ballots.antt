-- The ballots in memory, as a finite map by resolution and login.
use Rattle.std.specs.Prelude.{ℕ, List, string_bytes, String}
use Rattle.std.specs.Ordering.{nat_cmp}
use Rattle.std.specs.String.{string_cmp}
use Rattle.std.specs.FinMap.{FinMap}
use Rattle.std.specs.BTreeMap.{BTreeMap}
use Rattle.std.specs.declared.alloc.Global.{Global}
use Rattle.gr_count.specs.declared.mark.Mark.{Mark}
use Rattle.gr_count.specs.Shown.{marks_in}
use Rattle.gr_core.specs.declared.ballot.Ballot.{Ballot}
use Rattle.gr_core.specs.Parts.Ballot.{BallotModel, ballot_model}
use Rattle.gr_core.specs.Parts.Key.{BallotKey, text_cmp, ballot_cmp}
use Rattle.gr_core.specs.InMemory.Table.{flat_rows, two_levels_of, AreOrdered}

-- the ballots of one resolution
abbrev pub ByVoter : Type 0
ByVoter = BTreeMap (String Global) Ballot

-- the ballots of each resolution
abbrev pub ByResolution : Type 0
ByResolution = BTreeMap ℕ ByVoter

-- the rows of the ballots, each under its resolution and its login
abbrev pub ballot_rows : List (ℕ × ByVoter) → List (BallotKey × BallotModel)
ballot_rows = flat_rows (λ number. number) string_bytes ballot_model

-- the row of an entry of a resolution's ballots, under the resolution and the login
abbrev pub ballot_entry : ℕ → String Global × Ballot → BallotKey × BallotModel
ballot_entry resolution entry = ((resolution, string_bytes entry.0), ballot_model entry.1)

-- the ballots that the entries make
abbrev pub ballot_map : ByResolution → FinMap ballot_cmp BallotModel
ballot_map = two_levels_of nat_cmp text_cmp (λ number. number) string_bytes ballot_model

-- the resolutions are in order, and the logins of each resolution
abbrev pub AreBallotsOrdered : ByResolution → Type 0
AreBallotsOrdered = AreOrdered nat_cmp string_cmp

-- who voted, and how, by an entry of a resolution's ballots
abbrev pub voter_in : String Global × Ballot → List ℕ × List Mark
voter_in entry = (string_bytes entry.0, marks_in entry.1.ranks)
