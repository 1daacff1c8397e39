-- What becomes of what a desk keeps of votes, the preference counts (Constitution, A.5.3.1) and the votes received, by
-- an accepted act.
use Rattle.std.specs.Prelude.{◌≡◌, ℕ, List, [], ◌∷◌, map, Option, option_map}
use Rattle.std.specs.FinMap.{get}
use Rattle.gr_count.specs.declared.mark.Mark.{Mark}
use Rattle.gr_count.specs.declared.ranks.Ranks.{Ranks}
use Rattle.gr_count.specs.Ballot.{mark_of}
use Rattle.gr_count.specs.Shown.{marks_in}
use Rattle.gr_core.specs.declared.choice.ChoiceKey.{ChoiceKey}
use Rattle.gr_core.specs.declared.counting.Counting.{Counting}
use Rattle.gr_core.specs.declared.counting.Counting.TheVariants.{Nothing, Begins, Replaces}
use Rattle.gr_core.specs.Parts.Choice.{ChoiceModel}
use Rattle.gr_core.specs.Desks.State.{State}
use Rattle.gr_core.specs.Machine.Act.{Act, Call, Vote}
use Rattle.gr_core.specs.Machine.Effect.{live_choices}

-- a call with live choices begins the vote on the resolution; one without any cancels it
abbrev pub counting_of_call : ℕ → List (ChoiceKey × ChoiceModel) → Counting
counting_of_call resolution [] = Nothing
counting_of_call resolution (first ∷ others) = Begins resolution

-- the marks of the ballot of this voter on the resolution, if there is one
abbrev pub marks_of : State → ℕ → List ℕ → Option (List Mark)
marks_of s resolution login = option_map (λ ballot. ballot.ranks) (get s.ballots (resolution, login))

-- The act is counted so on this state: a call begins a vote or none, a vote has its ballot in the place of the one that
-- stood, and other acts leave the counts.
abbrev pub Counts : State → ℕ → Act → Counting → Type 0
Counts s at (Call resolution days) counting =
    counting ≡ counting_of_call resolution (live_choices s.choices at resolution)
Counts s at (Vote resolution login text token) counting =
    (earlier : Option Ranks) × (ranks : Ranks) × (counting ≡ Replaces resolution earlier ranks)
    × (marks_in ranks ≡ map mark_of text) × (option_map marks_in earlier ≡ marks_of s resolution login)
Counts s at other counting = counting ≡ Nothing
