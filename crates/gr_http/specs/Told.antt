-- What a response tells of what was done (this project's profile), whatever was asked.
use Rattle.std.specs.Prelude.{◌≡◌, ◌⊎◌, ℕ, ◌++◌, List, Option, Some, codes}
use Rattle.sqlite_trees.specs.declared.store.Store.{Ghosts}
use Rattle.gr_core.specs.declared.reply.Reply.{Reply}
use Rattle.gr_core.specs.Desks.State.{State}
use Rattle.gr_core.specs.Machine.Act.{Act}
use Rattle.gr_core.specs.Machine.Step.{Accepted, Step}
use Rattle.gr_office.specs.Office.{Office}
use Rattle.gr_office.specs.Crash.{Acknowledged}
use Rattle.gr_office.specs.History.{Fate, Makes}
use Rattle.gr_http.specs.Response.{Response, answer_response}
use Rattle.gr_http.specs.Fates.{IsLineOfClosing, RequestMakes}

-- the response has the line of a reply, which begins with `ok `
abbrev pub SaysOk : Response → Type 0
SaysOk response = (rest : List ℕ) × (response.body ≡ codes "ok " ++ rest)

-- An act that no refusal meets was done once, on the desk of this office: the desk made its step, and the response is
-- that to its reply. The attempt is that command, with the fate of a reply that has this response.
abbrev pub IsDone : {S : Type 0} → Ghosts S → Office S → ℕ → Response → (Fate → Fate) → Office S → Type 0
IsDone g before at response delivery after =
    (s t : State) × (act : Act) × (reply told : Reply) × (before.desk ≡ Some s) × (after.desk ≡ Some t)
    × Step s at act (Accepted reply) t × (response ≡ answer_response (Accepted reply))
    × (response ≡ answer_response (Accepted told))
    × Makes g before (record { command = (at, act); fate = delivery (Acknowledged told) }) after

-- nothing was done; or a fault closed the office in a command, and this is its line
abbrev pub IsUndone : {S : Type 0} → Office S → Response → Office S → Type 0
IsUndone before response after = (after ≡ before) ⊎ IsLineOfClosing before response after

-- Whatever was asked, by bytes that are known or not: a response that says `ok` tells of an act that was done, and with
-- any other one nothing was.
abbrev pub ResponsesTellWhatWasDone : {S : Type 0} → Ghosts S → Type 0
ResponsesTellWhatWasDone {S} g =
    (before after : Office S) (at : ℕ) (coming : Option (List ℕ)) (response : Response) (delivery : Fate → Fate)
    → RequestMakes g before at coming response delivery after
    → (SaysOk response → IsDone g before at response delivery after)
    × (¬ SaysOk response → IsUndone before response after)
