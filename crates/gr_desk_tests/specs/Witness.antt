-- A vote over several lines of the program, over one host, which may stop in the act after it.
use Rattle.std.specs.Prelude.{◌≡◌, ◌⊎◌, ℕ, pos, List, [], ◌∷◌, codes, Option, Some, Result, Ok, Err}
use Rattle.gr_core.specs.declared.developer.Standing.TheVariants.{Current}
use Rattle.gr_core.specs.declared.reply.Reply.{Reply}
use Rattle.gr_core.specs.Desks.State.{State, new_state}
use Rattle.gr_core.specs.Machine.Act.{Act, Call, Close, ImportRoll, Propose, SetDeveloper, Vote}
use Rattle.gr_core.specs.Machine.Import.{RollRow}
use Rattle.gr_core.specs.Machine.Step.{Accepted, Step}
use Rattle.gr_core.specs.Parts.Choice.{Leader}
use Rattle.gr_sheet.specs.declared.kind.Kind.TheVariants as kinds
use Rattle.gr_sheet.specs.Sheet.{IsSheet}
use Rattle.gr_office.specs.Crash.{AllAccepted}
use Rattle.gr_office.specs.History.{desk}
use Rattle.gr_http.specs.declared.answer.Served.{Served}
use Rattle.gr_http.specs.Answer.{Asks}
use Rattle.gr_http.specs.Demand.{Do}
use Rattle.gr_desk.specs.declared.failure.Failure.{Failure}
use Rattle.gr_desk.specs.Host.{Content, HasDesk, Known}
use Rattle.gr_desk.specs.Lines.{IsReadOf}
use Rattle.gr_desk_tests.specs.declared.witness.TheConstants.{CALLED, CLOSED, PROPOSED}

-- ==== one act

-- on a desk with the state s the act is accepted at this moment, and leaves the state t
abbrev pub Accepts : State → ℕ → Act → State → Type 0
Accepts s at act t = (reply : Reply) × Step s at act (Accepted reply) t

-- the act is accepted, or nothing is done
abbrev pub MayAccept : State → ℕ → Act → State → Type 0
MayAccept s at act t = (t ≡ s) ⊎ Accepts s at act t

-- it was answered Ok, with status 200
abbrev pub IsGranted : Result Served Failure → Type 0
IsGranted (Ok served) = served.status ≡ 200
IsGranted (Err failure) = ⊥

-- ==== the acts of a vote

-- The Leader makes the resolution.
abbrev pub proposal : Act
proposal = Propose Leader (record { summary = codes "Red"; text = codes "a" }) 1

-- Its vote is called, for seven days.
abbrev pub call : Act
call = Call 1 (pos 7)

-- A developer votes, for its one choice before the default option.
abbrev pub vote : Act
vote = Vote 1 (codes "alice") (codes "12") (codes "tokenA01")

-- The vote is closed.
abbrev pub close : Act
close = Close 1

-- A further developer is put on the roll.
abbrev pub further : Act
further = SetDeveloper (codes "carol") (codes "Carol") Current

-- the vote: the roll with these rows, and these acts, each at its moment
abbrev pub acts_of_vote : List RollRow → List (ℕ × Act)
acts_of_vote rows =
    (PROPOSED, ImportRoll rows) ∷ (PROPOSED, proposal) ∷ (CALLED, call) ∷ (CALLED, vote) ∷ (CLOSED, close) ∷ []

-- ==== what one line makes of the desk in the file

-- The file has the desk of this state. (That it has is said; how it holds it, the host tells.)
abbrev pub HasInFile : Known → List ℕ → State → Type 0
HasInFile known file s = ∥ ((content : Content) × (known.content file ≡ Some content) × HasDesk content s) ∥₁

-- what is known of the roll files is what was known of them
abbrev pub LeavesRolls : Known → Known → Type 0
LeavesRolls old new = (name : List ℕ) → new.roll name ≡ old.roll name

-- the rows of the roll file were imported into the desk of the file
abbrev pub ImportsRoll : Known → List ℕ → List ℕ → Known → Type 0
ImportsRoll old roll file new = (s : State) → HasInFile old file s
    → ∥ ((rows : List RollRow) × IsReadOf (old.roll roll) (Ok rows)
    × (t : State) × Accepts s PROPOSED (ImportRoll rows) t × HasInFile new file t) ∥₁

-- The act for which these bytes ask was accepted on the desk of the file.
abbrev pub AcceptsOne : Known → ℕ → List ℕ → List ℕ → Known → Type 0
AcceptsOne old at request file new = (s : State) (act : Act) → HasInFile old file s → Asks request (Ok (Do act))
    → ∥ ((t : State) × Accepts s at act t × HasInFile new file t) ∥₁

-- It was, or nothing was done; and it was where it was answered by the status 200.
abbrev pub AnswersSo : Result Served Failure → Known → ℕ → List ℕ → List ℕ → Known → Type 0
AnswersSo outcome old at request file new = (s : State) (act : Act) → HasInFile old file s → Asks request (Ok (Do act))
    → ∥ ((t : State) × MayAccept s at act t × (IsGranted outcome → Accepts s at act t) × HasInFile new file t) ∥₁

-- the sheet is the result of the resolution, of the desk of the file
abbrev pub ShowsResult : Known → List ℕ → List ℕ → Type 0
ShowsResult old file sheet = (s : State) → HasInFile old file s → ∥ IsSheet s kinds.Result 1 sheet ∥₁

-- ==== what the lines come to

-- The file has a desk to which the acts of the vote led from a new one, each of them accepted at its moment. The roll
-- is what the roll file says, where that is known.
abbrev pub HasVoteInFile : Option (List ℕ) → Known → List ℕ → Type 0
HasVoteInFile roll known file = ∥ ((rows : List RollRow) × IsReadOf roll (Ok rows)
    × (s : State) × AllAccepted desk new_state (acts_of_vote rows) s × HasInFile known file s) ∥₁

-- The sheet is the result of the resolution, of a desk to which the acts of the vote led from a new one, each of them
-- accepted at its moment, and perhaps the further act, which was told so, and no other. That one was accepted where it
-- was told by the status 200.
abbrev pub ShowsTheVote : Option (List ℕ) → Result Served Failure → List ℕ → Type 0
ShowsTheVote roll outcome sheet = ∥ ((rows : List RollRow) × IsReadOf roll (Ok rows)
    × (s : State) × AllAccepted desk new_state (acts_of_vote rows) s
    × (t : State) × MayAccept s CLOSED further t × (IsGranted outcome → Accepts s CLOSED further t)
    × IsSheet t kinds.Result 1 sheet) ∥₁
