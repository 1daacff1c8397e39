-- Why a request asks nothing of the office: the status (RFC 9110, section 15) and the line (this project's profile) of
-- the response.
use Rattle.std.specs.Prelude.{◌≡◌, ℕ, ◌++◌, List, [], Option, Some, None, Result, Ok, Err, codes, decimal, ⊤}
use Rattle.gr_http.specs.declared.problem.Problem.{Problem}
use Rattle.gr_http.specs.declared.problem.Problem.TheVariants.{BadHead, BadLength, TooLarge, ShortBody, NotFound, MethodNotAllowed, BadField, BadRoll}
use Rattle.gr_http.specs.declared.problem.NoDemand.{NoDemand}
use Rattle.gr_http.specs.declared.problem.NoDemand.TheVariants as none
use Rattle.gr_http.specs.declared.roll_file.NoRoll.{NoRoll}
use Rattle.gr_http.specs.declared.roll_file.NoRoll.TheVariants as roll
use Rattle.gr_http.specs.Field.{field_name}
use Rattle.gr_http.specs.Method.{method_of}

-- readings one after the other: the first problem that is found is the problem of all
infixl 10 ◌>>=◌
abbrev pub ◌>>=◌ : {A B : Type 0} → Result A Problem → (A → Result B Problem) → Result B Problem
(Ok x) >>= read = read x
(Err problem) >>= read = Err problem

-- The answer is what is to be read, as a contract sees it, or the problem that is found there. Running out of memory
-- says nothing of it.
abbrev pub Understands : {A B : Type 0} → (B → A) → Result A Problem → Result B NoDemand → Type 0
Understands view asked (Ok found) = asked ≡ Ok (view found)
Understands view asked (Err (none.Problem problem)) = asked ≡ Err problem
Understands view asked (Err none.Memory) = ⊤

abbrev pub status_of : Problem → ℕ
status_of BadHead = 400
status_of BadLength = 400
status_of TooLarge = 413
status_of ShortBody = 400
status_of NotFound = 404
status_of (MethodNotAllowed method) = 405
status_of (BadField which) = 400
status_of (BadRoll number) = 400

-- the method that would do, which a response of status 405 names (RFC 9110, section 15.5.6)
abbrev pub allowed_by : Problem → Option (List ℕ)
allowed_by BadHead = None
allowed_by BadLength = None
allowed_by TooLarge = None
allowed_by ShortBody = None
allowed_by NotFound = None
allowed_by (MethodNotAllowed method) = Some (method_of method)
allowed_by (BadField which) = None
allowed_by (BadRoll number) = None

-- what the line says, but for the name of the field or the number of the record
abbrev pub words_of : Problem → List ℕ
words_of BadHead = codes "bad head"
words_of BadLength = codes "bad length"
words_of TooLarge = codes "too large"
words_of ShortBody = codes "short body"
words_of NotFound = codes "not found"
words_of (MethodNotAllowed method) = codes "method not allowed"
words_of (BadField which) = codes "bad field "
words_of (BadRoll number) = codes "bad roll "

-- which field or record it is
abbrev pub detail_of : Problem → List ℕ
detail_of (BadField which) = field_name which
detail_of (BadRoll number) = decimal number
detail_of other = []

-- why a request asks nothing that brings no roll
abbrev pub no_demand_of : NoRoll → NoDemand
no_demand_of (roll.BadLine number) = none.Problem (BadRoll number)
no_demand_of roll.Memory = none.Memory

-- what is printed of a problem
abbrev pub problem_text : Problem → List ℕ
problem_text problem = words_of problem ++ detail_of problem

-- and of why a request asks nothing
abbrev pub no_demand_text : NoDemand → List ℕ
no_demand_text (none.Problem problem) = problem_text problem
no_demand_text none.Memory = codes "out of memory"
