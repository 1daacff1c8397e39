use Rattle.std.proofs.Common.{◌↔◌, IsSome, Option, Some, None, List, [], ◌∷◌, String, string_bytes}
use Rattle.std.specs.List.{All}
use Rattle.std.specs.Map.Iter.{deref_pair}
use Rattle.std.specs.FinMap.{FinMap, get}
use Rattle.std.specs.declared.alloc.Global.{Global}
use Rattle.gr_core.specs.declared.ballot.Ballot.{Ballot}
use Rattle.gr_core.specs.Parts.Key.{text_cmp}
use Rattle.gr_core.specs.Parts.Developer.{DeveloperModel}
use Rattle.gr_core.proofs.valid.ballots.are_on_roll.Given as goal

-- the voter is on the roll
abbrev pub IsOn : FinMap text_cmp DeveloperModel → String Global × Ballot → Type 0
IsOn roll entry = IsSome (get roll (string_bytes entry.0))

-- what is left of a walk: the item that was taken and not yet met, and those after it
abbrev pub left : {A X : Type 0} → (A → X) → Option A → List X → List X
left shows (Some item) behind = shows item ∷ behind
left shows None behind = []

-- all voters are on the roll where those are who are left
abbrev pub invariant-loop-developer : goal.invariant-loop-developer
invariant-loop-developer l =
    All (IsOn l.roll) l.fn.ballots.entries ↔ All (IsOn l.roll) (left deref_pair l.next l.ballots)
