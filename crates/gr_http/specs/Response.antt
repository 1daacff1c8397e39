-- Responses, as bytes (RFC 9112, section 4).
use Rattle.std.specs.Prelude.{◌≡◌, ℕ, ◌++◌, ◌<◌, ◌≤◌, ◌⊎◌, List, [], ◌∷◌, length, Option, Some, None, IsSome, codes, decimal, unwrap_or}
use Rattle.std.specs.List.{concat}
use Rattle.http.specs.StatusCode.{reason_phrase}
use Rattle.gr_core.specs.declared.refusal.Refusal.{Refusal}
use Rattle.gr_core.specs.Machine.Step.{Answer, Accepted, Refused}
use Rattle.gr_core.specs.Desks.State.{State}
use Rattle.gr_sheet.specs.declared.kind.Kind.{Kind}
use Rattle.gr_sheet.specs.Sheet.{IsSheet, IsRefused}
use Rattle.gr_store.specs.declared.fault.Fault.{Fault}
use Rattle.gr_store.specs.declared.fault.Fault.TheVariants.{Memory, Store, Closed, Damaged, TooNew, NotADesk, TooOld, Occupied}
use Rattle.gr_http.specs.declared.response.TheConstants.{MAX_PHRASE_BYTES}
use Rattle.gr_http.specs.declared.problem.Problem.{Problem}
use Rattle.gr_http.specs.Problem.{status_of, allowed_by}
use Rattle.gr_http.specs.Line.{problem_line, reply_line, refusal_line}

-- the phrase of a status: that of RFC 9110, section 15, but the older `Payload Too Large` for 413
unfoldable pub phrase_of : ℕ → List ℕ
phrase_of status = unwrap_or (reason_phrase status) []

-- a status that has a phrase, and whose line has room in every response
pub record IsShortStatus (status : ℕ) : Type 0 where
  pub named : IsSome (reason_phrase status)
  pub code : status < 1000
  pub phrase : length (phrase_of status) ≤ MAX_PHRASE_BYTES

pub record Response : Type 0 where
  pub status : ℕ
  -- the method that a field `Allow` names
  pub allow : Option (List ℕ)
  pub body : List ℕ

unfoldable pub status_line : ℕ → List ℕ
status_line status =
    concat (codes "HTTP/1.1 " ∷ decimal status ∷ codes " " ∷ phrase_of status ∷ codes "\r\n" ∷ [])

unfoldable pub allow_line : Option (List ℕ) → List ℕ
allow_line None = []
allow_line (Some method) = concat (codes "Allow: " ∷ method ∷ codes "\r\n" ∷ [])

unfoldable pub body_lines : ℕ → List ℕ
body_lines count = concat (
    codes "Content-Type: text/plain; charset=utf-8\r\nContent-Length: "
    ∷ decimal count
    ∷ codes "\r\nConnection: close\r\n\r\n"
    ∷ []
    )

-- the bytes of a response: its head with each line ended by carriage return and line feed, an empty line, and the body
unfoldable pub response_bytes : Response → List ℕ
response_bytes response =
    status_line response.status ++ (allow_line response.allow ++ (body_lines (length response.body) ++ response.body))

abbrev pub problem_response : Problem → Response
problem_response problem =
    record { status = status_of problem; allow = allowed_by problem; body = problem_line problem }

-- the response to an act, by the desk's answer
abbrev pub answer_response : Answer → Response
answer_response (Accepted reply) = record { status = 200; allow = None; body = reply_line reply }
answer_response (Refused refusal) = record { status = 409; allow = None; body = refusal_line refusal }

abbrev pub sheet_response : List ℕ → Response
sheet_response text = record { status = 200; allow = None; body = text }

-- The response to the wish for a sheet of a desk with this state: the sheet, or the line of the refusal that the wish
-- meets.
abbrev pub IsSheetResponse : State → Kind → ℕ → Response → Type 0
IsSheetResponse s kind number response =
    ((text : List ℕ) × IsSheet s kind number text × (response ≡ sheet_response text))
    ⊎ ((refusal : Refusal) × IsRefused s kind number refusal × (response ≡ answer_response (Refused refusal)))

abbrev pub fault_line : Fault → List ℕ
fault_line Memory = codes "fault F1 Memory\n"
fault_line Store = codes "fault F2 Store\n"
fault_line Closed = codes "fault F3 Closed\n"
fault_line Damaged = codes "fault F4 Damaged\n"
fault_line TooNew = codes "fault F5 TooNew\n"
fault_line NotADesk = codes "fault F6 NotADesk\n"
fault_line TooOld = codes "fault F7 TooOld\n"
fault_line Occupied = codes "fault F8 Occupied\n"

abbrev pub fault_response : Fault → Response
fault_response fault = record { status = 503; allow = None; body = fault_line fault }
