-- A list of commands, one after the other (this project's profile).
use Rattle.std.specs.Prelude.{◌≡◌, ℕ, List, [], ◌∷◌}
use Rattle.gr_core.specs.Desks.State.{State}
use Rattle.gr_core.specs.Machine.Act.{Act}
use Rattle.gr_core.specs.Machine.Step.{Answer, Accepted, Refused, Step}

-- From s these acts, each at its moment, are answered so, and leave the desk with the state t.
abbrev pub After : State → List (ℕ × Act) → List Answer → State → Type 0
After s [] [] t = t ≡ s
After s (act ∷ acts) (answer ∷ answers) t = (mid : State) × Step s act.0 act.1 answer mid × After mid acts answers t
After s [] (answer ∷ answers) t = ⊥
After s (act ∷ acts) [] t = ⊥

-- the acts that were accepted, by their answers
abbrev pub accepted_acts : List (ℕ × Act) → List Answer → List (ℕ × Act)
accepted_acts (act ∷ acts) (Accepted reply ∷ answers) = act ∷ accepted_acts acts answers
accepted_acts (act ∷ acts) (Refused refusal ∷ answers) = accepted_acts acts answers
accepted_acts [] answers = []
accepted_acts (act ∷ acts) [] = []

-- the answers that accept
abbrev pub accepted_answers : List Answer → List Answer
accepted_answers [] = []
accepted_answers (Accepted reply ∷ answers) = Accepted reply ∷ accepted_answers answers
accepted_answers (Refused refusal ∷ answers) = accepted_answers answers
