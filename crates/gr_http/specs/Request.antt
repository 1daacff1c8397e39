-- What a client's bytes say (RFC 9112, within this project's limits): one request, or the problem that is found first.
-- Nothing but the bytes up to their end decides it.
use Rattle.std.specs.Prelude.{◌≡◌, ℕ, ◌+◌, ◌<◌, ◌≤◌, ◌⊎◌, List, length, take, Result, Ok, Err, MatchResult, codes, nat_lt, if◌then◌else◌, ⊤}
use Rattle.httparse.specs.Grammar.{RequestHead}
use Rattle.gr_http.specs.declared.problem.Problem.{Problem}
use Rattle.gr_http.specs.declared.problem.Problem.TheVariants.{BadHead, ShortBody}
use Rattle.gr_http.specs.declared.request.NotReceived.{NotReceived}
use Rattle.gr_http.specs.declared.request.NotReceived.TheVariants as why
use Rattle.gr_http.specs.Problem.{◌>>=◌, problem_text}
use Rattle.gr_http.specs.Head.{IsHead, HasNoHead}
use Rattle.gr_http.specs.Length.{body_length}

-- the three texts of a whole request
pub record Texts : Type 0 where
  pub method : List ℕ
  pub target : List ℕ
  pub body : List ℕ

-- what is received where a head announces a body of count bytes, and rest follows the head
abbrev pub received_behind : RequestHead → List ℕ → ℕ → Result Texts Problem
received_behind head rest count =
    if nat_lt (length rest) count then Err ShortBody
    else Ok (record { method = head.method; target = head.target; body = take count rest })

-- what is received where the bytes are this head and then rest
abbrev pub received_from : RequestHead → List ℕ → Result Texts Problem
received_from head rest = body_length head.fields >>= received_behind head rest

-- what is received where the bytes up to their end are these
abbrev pub IsReceived : List ℕ → Result Texts Problem → Type 0
IsReceived bytes received =
    (HasNoHead bytes × (received ≡ Err BadHead))
    ⊎ ((head : RequestHead) × (rest : List ℕ) × IsHead bytes head rest × (received ≡ received_from head rest))

-- After a head that announces this there is enough: a body of that length; or none, where no length can be read.
abbrev pub IsEnough : Result ℕ Problem → List ℕ → Type 0
IsEnough (Ok count) rest = count ≤ length rest
IsEnough (Err problem) rest = ⊤

-- the bytes have a whole request: a head within the limits, and enough after it
abbrev pub HasRequest : List ℕ → Type 0
HasRequest bytes = (head : RequestHead) × (rest : List ℕ) × IsHead bytes head rest
    × IsEnough (body_length head.fields) rest

-- the bytes determine what is received
abbrev pub ReceivedIsDetermined : Type 0
ReceivedIsDetermined =
    (bytes : List ℕ) (one other : Result Texts Problem) → IsReceived bytes one → IsReceived bytes other → one ≡ other

-- The answer says what is received where the bytes up to their end are these. A lost read and running out of memory say
-- nothing of the bytes.
abbrev pub Receives : List ℕ → Result Texts NotReceived → Type 0
Receives bytes (Ok request) = IsReceived bytes (Ok request)
Receives bytes (Err (why.Problem problem)) = IsReceived bytes (Err problem)
Receives bytes (Err (why.Failed failed)) = ⊤
Receives bytes (Err why.Memory) = ⊤

-- the same for a body of count bytes that is to come from these, after a head with this method and target
abbrev pub ReceivesBody : List ℕ → List ℕ → List ℕ → ℕ → Result Texts NotReceived → Type 0
ReceivesBody method target bytes count (Ok request) =
    (count ≤ length bytes)
    × (request.method ≡ method) × (request.target ≡ target) × (request.body ≡ take count bytes)
ReceivesBody method target bytes count (Err (why.Problem problem)) = (problem ≡ ShortBody) × (length bytes < count)
ReceivesBody method target bytes count (Err (why.Failed failed)) = ⊤
ReceivesBody method target bytes count (Err why.Memory) = ⊤

-- how many failed reads an error reports
abbrev pub losses : NotReceived → ℕ
losses (why.Problem problem) = 0
losses (why.Failed failed) = 1
losses why.Memory = 0

-- one failure more where a read was lost, and with any other answer as many as before
abbrev pub CountsFailedRead : {T : Type 0} → ℕ → ℕ → Result T NotReceived → Type 0
CountsFailedRead old new r = MatchResult r (λ _. new ≡ old) (λ e. new ≡ old + losses e)

-- what a reason why there is no request prints
abbrev pub not_received_text : NotReceived → List ℕ
not_received_text (why.Problem problem) = problem_text problem
not_received_text (why.Failed failed) = codes "a read or a write failed"
not_received_text why.Memory = codes "out of memory"
