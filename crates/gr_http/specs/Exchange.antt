-- An exchange: a request that came to an office, and the response to it. It is what answer and
-- answer_once of gr_desk say alike.
use Rattle.std.specs.Prelude.{ℕ, List, Option, IfSome}
use Rattle.sqlite_trees.specs.declared.store.Store.{Ghosts}
use Rattle.gr_core.specs.Desks.State.{State}
use Rattle.gr_office.specs.Office.{Office, IsOpenWith}
use Rattle.gr_office.specs.Crash.{IsAfterPrefix}
use Rattle.gr_office.specs.History.{Attempt, Fate}
use Rattle.gr_http.specs.Response.{Response}
use Rattle.gr_http.specs.Answer.{Responds}
use Rattle.gr_http.specs.Fates.{RequestMakes}
use Rattle.gr_http.specs.Secrecy.{RevealsNothing}

-- At this moment a request, with these bytes where they are known, has this response, delivered or not: the office
-- responds so to the bytes, the request makes that of the office, and the response reveals nothing of votes that are
-- not closed.
abbrev pub IsExchange : {S : Type 0} → Ghosts S → Office S → ℕ → Option (List ℕ) → Response → (Fate → Fate)
    → Office S → Type 0
IsExchange g before at coming response delivery after =
    IfSome coming (λ bytes. Responds before.desk at bytes response after.desk)
    × RequestMakes g before at coming response delivery after
    × IfSome coming (λ bytes. RevealsNothing before.desk at bytes response after.desk)

-- The same of an office that is opened over what a stop left: it was open with the desk after a prefix of these
-- attempts on this desk, and the exchange is one with that office. So the office after it is as the exchange leaves it.
abbrev pub IsExchangeAfterPrefix : {S : Type 0} → Ghosts S → State → List Attempt → ℕ → Option (List ℕ) → Response
    → (Fate → Fate) → Office S → Type 0
IsExchangeAfterPrefix {S} g s attempts at coming response delivery after =
    (t : State) × IsAfterPrefix s attempts t
    × (before : Office S) × IsOpenWith g t before
    × IsExchange g before at coming response delivery after
