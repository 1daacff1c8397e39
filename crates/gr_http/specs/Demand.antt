-- What the bytes of a client ask of the office (this project's profile).
use Rattle.std.specs.Prelude.{ℕ, List, Result, Ok, Err, if◌then◌else◌}
use Rattle.std.specs.Option.{ok_or}
use Rattle.std.specs.Str.{bytes_eq}
use Rattle.gr_core.specs.Machine.Act.{Act, act_of}
use Rattle.gr_sheet.specs.declared.kind.Kind.{Kind}
use Rattle.gr_http.specs.declared.demand.Demand as rust
use Rattle.gr_http.specs.declared.route.Route.{Route}
use Rattle.gr_http.specs.declared.problem.Problem.{Problem}
use Rattle.gr_http.specs.declared.problem.Problem.TheVariants.{NotFound, MethodNotAllowed}
use Rattle.gr_http.specs.Route.{Task, Sheet, Form, entry_of, route_of, resolution_in, path_of}
use Rattle.gr_http.specs.Method.{method_of}
use Rattle.gr_http.specs.Problem.{◌>>=◌}
use Rattle.gr_http.specs.Request.{Texts}

pub data Demand : Type 0 where
  -- an act
  Do : Act → Demand
  -- the sheet of this kind, of the resolution with this number
  Show : Kind → ℕ → Demand

-- what is asked of a desk where the path names this resolution and the body is this
abbrev pub demanded : Task → ℕ → List ℕ → Result Demand Problem
demanded (Sheet kind) resolution body = Ok (Show kind resolution)
demanded (Form reads) resolution body = do
  act ← reads resolution body
  Ok (Do act)

abbrev pub asked_of : Route → ℕ → List ℕ → Result Demand Problem
asked_of route resolution body = demanded (entry_of route).task resolution body

-- the same where the request has this method
abbrev pub asked_by : List ℕ → Route → ℕ → List ℕ → Result Demand Problem
asked_by method route resolution body =
    if bytes_eq method (method_of (entry_of route).method) then asked_of route resolution body
    else Err (MethodNotAllowed (entry_of route).method)

-- what a whole request asks
abbrev pub asked_in : Texts → Result Demand Problem
asked_in request = do
  route ← ok_or (route_of (path_of request.target)) NotFound
  asked_by request.method route (resolution_in (path_of request.target)) request.body

-- what is asked by what was received
abbrev pub demand_of : Result Texts Problem → Result Demand Problem
demand_of received = received >>= asked_in

-- a demand, without where its texts lie in memory
abbrev pub demand_view : rust.Demand → Demand
demand_view (rust.TheVariants.Do command) = Do (act_of command)
demand_view (rust.TheVariants.Show kind number) = Show kind number
