-- The routes (this project's profile): which paths the desk knows, by which method each is asked, and what it asks.
-- They know nothing of the words of paths: which path is of which route is said segment by segment.
use Rattle.std.specs.Prelude.{◌≡◌, ℕ, Bool, IsTrue, true, false, ◌&&◌, List, [], ◌∷◌, map, Option, Some, None, Result, Ok, Err, codes, ◌==◌, if◌then◌else◌, not, unwrap_or}
use Rattle.std.specs.List.{Contains, before_first, list_any}
use Rattle.std.specs.Str.{bytes_eq}
use Rattle.gr_core.specs.declared.choice.ChoiceKey.{ChoiceKey}
use Rattle.gr_core.specs.Machine.Act as act
use Rattle.gr_core.specs.Machine.Act.{Act}
use Rattle.gr_core.specs.Parts.Choice.{Wording}
use Rattle.gr_core.specs.Machine.Import.{RollRow}
use Rattle.gr_sheet.specs.declared.kind.Kind.{Kind}
use Rattle.gr_sheet.specs.declared.kind.Kind.TheVariants as kind
use Rattle.gr_http.specs.declared.route.Route.{Route}
use Rattle.gr_http.specs.declared.route.Route.TheVariants as at
use Rattle.gr_http.specs.declared.method.AllowedMethod.{AllowedMethod}
use Rattle.gr_http.specs.declared.method.AllowedMethod.TheVariants.{Get, Post}
use Rattle.gr_http.specs.declared.field.Field.TheVariants as field
use Rattle.gr_http.specs.declared.problem.Problem.{Problem}
use Rattle.gr_http.specs.declared.problem.Problem.TheVariants.{BadRoll}
use Rattle.gr_http.specs.Number.{is_number, number_said}
use Rattle.gr_http.specs.Problem.{◌>>=◌}
use Rattle.gr_http.specs.Form.{text_in, standing_in, number_in, signed_number_in, amendment_in, proposer_in}
use Rattle.gr_http.specs.RollFile.{roll_in}

-- what a route is for: to show the sheet of this kind; or to do an act, by what the body says, where the path names
-- this resolution
pub data Task : Type 0 where
  Sheet : Kind → Task
  Form : (ℕ → List ℕ → Result Act Problem) → Task

pub record Entry : Type 0 where
  pub method : AllowedMethod
  -- in which {r} stands for the number of a resolution
  pub path : List ℕ
  pub task : Task

abbrev pub get : List ℕ → Kind → Entry
get path kind = record { method = Get; path = path; task = Sheet kind }

abbrev pub post : List ℕ → (ℕ → List ℕ → Result Act Problem) → Entry
post path reads = record { method = Post; path = path; task = Form reads }

-- a choice of the resolution that the path names
abbrev pub choice_in : ℕ → List ℕ → Result ChoiceKey Problem
choice_in resolution form = do
  number ← number_in form field.Choice
  Ok (record { resolution = resolution; number = number })

abbrev pub wording_in : List ℕ → Result Wording Problem
wording_in form = do
  summary ← text_in form field.Summary
  text ← text_in form field.Text
  Ok (record { summary = summary; text = text })

-- the rows of a roll file, whose problem is its first bad record
abbrev pub rows_in : Result (List RollRow) ℕ → Result (List RollRow) Problem
rows_in (Ok rows) = Ok rows
rows_in (Err record_number) = Err (BadRoll record_number)

-- The table of the routes. The fields of a form are looked at in this order.
abbrev pub entry_of : Route → Entry
entry_of at.Roll = get (codes "/roll") kind.Roll
entry_of at.Status = get (codes "/status/{r}") kind.Status
entry_of at.Tally = get (codes "/tally/{r}") kind.Tally
entry_of at.Result = get (codes "/result/{r}") kind.Result
entry_of at.Developers = post (codes "/developers") (λ r form. do
  login ← text_in form field.Login
  name ← text_in form field.Name
  standing ← standing_in form field.Status
  Ok (act.SetDeveloper login name standing))
entry_of at.Import = post (codes "/import") (λ r body. do
  rows ← rows_in (roll_in body)
  Ok (act.ImportRoll rows))
entry_of at.Resolutions = post (codes "/resolutions") (λ r form. do
  proposer ← proposer_in form field.Author
  wording ← wording_in form
  ratio ← number_in form field.Ratio
  Ok (act.Propose proposer wording ratio))
entry_of at.Choice = post (codes "/resolutions/{r}/choice") (λ r form. do
  proposer ← proposer_in form field.Author
  wording ← wording_in form
  ratio ← number_in form field.Ratio
  Ok (act.AddChoice r proposer wording ratio))
entry_of at.Sponsor = post (codes "/resolutions/{r}/sponsor") (λ r form. do
  choice ← choice_in r form
  login ← text_in form field.Login
  Ok (act.Sponsor choice login))
entry_of at.Unsponsor = post (codes "/resolutions/{r}/unsponsor") (λ r form. do
  choice ← choice_in r form
  login ← text_in form field.Login
  Ok (act.Unsponsor choice login))
entry_of at.Withdraw = post (codes "/resolutions/{r}/withdraw") (λ r form. do
  choice ← choice_in r form
  Ok (act.Withdraw choice))
entry_of at.Adopt = post (codes "/resolutions/{r}/adopt") (λ r form. do
  choice ← choice_in r form
  proposer ← proposer_in form field.Author
  Ok (act.Adopt choice proposer))
entry_of at.Amend = post (codes "/resolutions/{r}/amend") (λ r form. do
  choice ← choice_in r form
  minor ← amendment_in form field.Minor
  wording ← wording_in form
  Ok (act.Amend choice minor wording))
entry_of at.Vary = post (codes "/resolutions/{r}/vary") (λ r form. do
  days ← signed_number_in form field.Days
  Ok (act.Vary r days))
entry_of at.Call = post (codes "/resolutions/{r}/call") (λ r form. do
  days ← signed_number_in form field.Days
  Ok (act.Call r days))
entry_of at.Vote = post (codes "/resolutions/{r}/vote") (λ r form. do
  login ← text_in form field.Login
  ranks ← text_in form field.Ranks
  token ← text_in form field.Token
  Ok (act.Vote r login ranks token))
entry_of at.Close = post (codes "/resolutions/{r}/close") (λ r form. Ok (act.Close r))
entry_of at.Cast = post (codes "/resolutions/{r}/cast") (λ r form. do
  place ← number_in form field.Place
  Ok (act.Cast r place))

-- all of them, in the order of their paths' bytes, where a path comes before its beginnings
abbrev pub routes : List Route
routes =
    at.Developers ∷ at.Import ∷ at.Adopt ∷ at.Amend ∷ at.Call ∷ at.Cast ∷ at.Choice ∷ at.Close ∷ at.Sponsor
    ∷ at.Unsponsor ∷ at.Vary ∷ at.Vote ∷ at.Withdraw ∷ at.Resolutions ∷ at.Result ∷ at.Roll ∷ at.Status ∷ at.Tally ∷ []

-- no path stands twice
abbrev pub are_distinct : List (List ℕ) → Bool
are_distinct [] = true
are_distinct (path ∷ paths) = not (list_any (bytes_eq path) paths) && are_distinct paths

-- the paths of the table
abbrev pub paths : List (List ℕ)
paths = map (λ route. (entry_of route).path) routes

-- the first segment of what follows, with one character more before it
abbrev pub longer : ℕ → List (List ℕ) → List (List ℕ)
longer character [] = (character ∷ []) ∷ []
longer character (segment ∷ others) = (character ∷ segment) ∷ others

-- the segments of a path: its parts between slashes, of which the first is before the first slash
abbrev pub segments : List ℕ → List (List ℕ)
segments [] = [] ∷ []
segments (character ∷ path) = if character == 47 then [] ∷ segments path else longer character (segments path)

-- the segments after a slash, where there is one
abbrev pub segments_behind : Option (List ℕ) → List (List ℕ)
segments_behind None = []
segments_behind (Some rest) = segments rest

-- A segment fits that of a route's path which is the same byte by byte. {r} fits each number, and no other.
abbrev pub fits : List ℕ → List ℕ → Bool
fits wanted segment = if bytes_eq wanted (codes "{r}") then is_number segment else bytes_eq wanted segment

abbrev pub all_fit : List (List ℕ) → List (List ℕ) → Bool
all_fit [] [] = true
all_fit [] (segment ∷ others) = false
all_fit (wanted ∷ more) [] = false
all_fit (wanted ∷ more) (segment ∷ others) = fits wanted segment && all_fit more others

-- the first of these routes that has the path
abbrev pub first_with : List ℕ → List Route → Option Route
first_with path [] = None
first_with path (route ∷ others) =
    if all_fit (segments (entry_of route).path) (segments path) then Some route else first_with path others

-- the path is one of the route's
abbrev pub IsPathOf : Route → List ℕ → Type 0
IsPathOf route path = IsTrue (all_fit (segments (entry_of route).path) (segments path))

-- No path is one of two routes. So the order of the table makes no difference.
abbrev pub PathsHaveOneRoute : Type 0
PathsHaveOneRoute = (path : List ℕ) (one other : Route) → IsPathOf one path → IsPathOf other path → one ≡ other

-- each route stands in the table
abbrev pub RoutesAreInTheTable : Type 0
RoutesAreInTheTable = (route : Route) → Contains routes route

-- the route of a path
unfoldable pub route_of : List ℕ → Option Route
route_of path = first_with path routes

-- the resolution that stands in a path's second place after a slash, and 0 where no number does
abbrev pub number_behind : List (List ℕ) → ℕ
number_behind (before ∷ first ∷ second ∷ others) = unwrap_or (number_said second) 0
number_behind (before ∷ first ∷ []) = 0
number_behind (before ∷ []) = 0
number_behind [] = 0

unfoldable pub resolution_in : List ℕ → ℕ
resolution_in path = number_behind (segments path)

-- the path of a target: what stands before its first question mark
abbrev pub path_of : List ℕ → List ℕ
path_of target = before_first (λ b. b == 63) target
