-- What a reader expects of the rule book, whatever the state, the moments and the acts.
use Rattle.std.specs.Prelude.{◌≡◌, ◌≢◌, ℕ, ◌+◌, Bool, true, false, List, length, Some, IsFalse, IsSomeAnd}
use Rattle.std.specs.List.{All, AllPairs}
use Rattle.std.specs.FinMap.{get}
use Rattle.gr_core.specs.declared.developer.Standing.{Standing}
use Rattle.gr_core.specs.declared.reply.Reply.{Reply}
use Rattle.gr_core.specs.declared.reply.Imported.{Imported}
use Rattle.gr_core.specs.declared.reply.Note.TheVariants.{Roll}
use Rattle.gr_core.specs.Parts.Developer.{standing_of}
use Rattle.gr_core.specs.Machine.Import.{RollRow, has_login}
use Rattle.gr_core.specs.Desks.State.{State}
use Rattle.gr_core.specs.Desks.Valid.{IsValid}
use Rattle.gr_core.specs.Machine.Act.{Act, SetDeveloper, ImportRoll}
use Rattle.gr_core.specs.Machine.Refusal.{IsAccepted}
use Rattle.gr_core.specs.Machine.Row.{row_key, put_all}
use Rattle.gr_core.specs.Machine.Effect.{rows_by}
use Rattle.gr_core.specs.Machine.Step.{Answer, Accepted, Step, reply_to}
use Rattle.gr_core.specs.Machine.Run.{After, accepted_acts, accepted_answers}

-- the act is a change of the roll
abbrev pub changes_roll : Act → Bool
changes_roll (SetDeveloper login name standing) = true
changes_roll (ImportRoll rows) = true
changes_roll other = false

-- an accepted SetDeveloper puts the row of its login, and every other login has what it had
abbrev pub SetDeveloperPutsItsRow : Type 0
SetDeveloperPutsItsRow = (s : State) (at : ℕ) (login name : List ℕ) (standing : Standing)
    (reply : Reply) (t : State)
    → Step s at (SetDeveloper login name standing) (Accepted reply) t
    → (get t.developers login ≡ Some (record { name = name; standing = standing }))
    × ((other : List ℕ) → other ≢ login → get t.developers other ≡ get s.developers other)

-- an accepted import puts what each of its rows says, and every other login has what it had
abbrev pub ImportsPutTheirRows : Type 0
ImportsPutTheirRows = (s : State) (at : ℕ) (rows : List RollRow) (reply : Reply) (t : State)
    → Step s at (ImportRoll rows) (Accepted reply) t
    → All (λ row. IsSomeAnd (standing_of row.status) (λ standing.
    get t.developers row.login ≡ Some (record { name = row.name; standing = standing }))) rows
    × ((other : List ℕ) → IsFalse (has_login other rows) → get t.developers other ≡ get s.developers other)

-- each of its rows is noted once: as new, as a change, or as known
abbrev pub ImportsCountTheirRows : Type 0
ImportsCountTheirRows = (s : State) (at : ℕ) (rows : List RollRow) (reply : Reply) (t : State)
    → Step s at (ImportRoll rows) (Accepted reply) t
    → (counts : Imported) × (reply.note ≡ Roll counts) × (counts.added + counts.changed + counts.same ≡ length rows)

-- the rows of an accepted act, put in their order, make the state after it
abbrev pub RowsMakeTheStep : Type 0
RowsMakeTheStep = (s : State) (at : ℕ) (act : Act) → IsAccepted s at act
    → Step s at act (Accepted (reply_to s at act)) (put_all s (rows_by s at act))

-- each of them stands elsewhere, so none is put in the place of another one
abbrev pub RowsHaveDifferentKeys : Type 0
RowsHaveDifferentKeys = (s : State) (at : ℕ) (act : Act) → IsAccepted s at act
    → AllPairs (λ one other. row_key one ≢ row_key other) (rows_by s at act)

-- one list of answers and one state, at most, come of a list of acts
abbrev pub EachListHasOneOutcome : Type 0
EachListHasOneOutcome = (s : State) (acts : List (ℕ × Act)) (one other : List Answer) (t u : State)
    → After s acts one t → After s acts other u → (one ≡ other) × (t ≡ u)

-- And there is one: not each list of answers and each state can be wrong. That is a double negation,
-- since the definitions have no procedure that finds the outcome set of a vote.
abbrev pub EachListHasAnOutcome : Type 0
EachListHasAnOutcome = (s : State) (acts : List (ℕ × Act))
    → ¬ ((answers : List Answer) (t : State) → ¬ (After s acts answers t))

-- without its refused acts a list gives the same answers to the rest, and the same state
abbrev pub RefusalsLeaveNoTrace : Type 0
RefusalsLeaveNoTrace = (s : State) (acts : List (ℕ × Act)) (answers : List Answer) (t : State)
    → After s acts answers t → After s (accepted_acts acts answers) (accepted_answers answers) t

-- each accepted act adds one to the count
abbrev pub AcceptedCommandsAreCounted : Type 0
AcceptedCommandsAreCounted = (s : State) (acts : List (ℕ × Act)) (answers : List Answer) (t : State)
    → After s acts answers t → t.header.accepted ≡ s.header.accepted + length (accepted_answers answers)

-- acts keep a desk valid
abbrev pub CommandsKeepADeskValid : Type 0
CommandsKeepADeskValid = (s : State) (acts : List (ℕ × Act)) (answers : List Answer) (t : State)
    → IsValid s → After s acts answers t → IsValid t

-- an import that is accepted again, after whatever acts, adds nobody
abbrev pub ImportsAddOnce : Type 0
ImportsAddOnce = (s t u v : State) (at later : ℕ) (rows : List RollRow) (first again : Reply)
    (acts : List (ℕ × Act)) (answers : List Answer)
    → Step s at (ImportRoll rows) (Accepted first) t
    → After t acts answers u
    → Step u later (ImportRoll rows) (Accepted again) v
    → (counts : Imported) × (again.note ≡ Roll counts) × (counts.added ≡ 0)

-- directly after the first it changes nobody either, and nothing of the roll
abbrev pub ImportsChangeOnce : Type 0
ImportsChangeOnce = (s t u : State) (at later : ℕ) (rows : List RollRow) (first again : Reply)
    → Step s at (ImportRoll rows) (Accepted first) t
    → Step t later (ImportRoll rows) (Accepted again) u
    → (again.note ≡ Roll (record { added = 0; changed = 0; same = length rows })) × (u.developers ≡ t.developers)
