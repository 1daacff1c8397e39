-- What a router answers whose patterns have no parameter, and that one can be made of the words of the routes.
use Rattle.std.proofs.Common.{◌≡◌, ℕ, zero, suc, ◌+◌, ◌-◌, ◌<◌, ◌≤◌, Bool, true, false, cond, ◌&&◌, List, [], ◌∷◌, length, map, drop, get_or, Option, Some, None, refl, sym, ap, subst, ◌∙◌, arith, Result, Ok, Err, option_map}
use Rattle.std.specs.Prelude.{◌==◌, ltb, ⊤}
use Rattle.std.specs.List.{list_all}
use Rattle.std.specs.Str.{bytes_eq}
use Rattle.std.specs.Map.{lookup}
use Rattle.std.proofs.lemmas.Bool.{and_parts}
use Rattle.std.proofs.lemmas.Bool.Decides.{nat_tests}
use Rattle.std.proofs.lemmas.List.{drop_more}
use Rattle.std.proofs.lemmas.Map.Made.{lookup-map_values}
use Rattle.matchit.specs.Order.{placed}
use Rattle.matchit.specs.Rows.{RowsOf, param_token, catch_all_token}
use Rattle.matchit.specs.Seek.{seek, first, step, own, or_else, param_step, has_slash}
use Rattle.matchit.specs.Route.{Scan, scan_start, parse_route}
use Rattle.matchit.specs.declared.error.InsertError.{InsertError}
use Rattle.matchit.proofs.OnLiterals.{matchit_on_literals}
use Rattle.matchit.specs.Router.{RouteOf, nearest, route_from}
use Rattle.gr_http.specs.declared.route.Route.{Route}
use Rattle.gr_http.specs.declared.route.Route.TheVariants.{Roll}
use Rattle.gr_http.specs.declared.route.Shape.{Shape}
use Rattle.gr_http.specs.declared.route.Shape.TheVariants.{Plain, OfResolution, InResolution}
use Rattle.gr_http.specs.PathWords.{IsTable, IsFree, Adds, routes_of, by_word, path_word, route_with}

-- no token of the pattern is a parameter or a catch-all
abbrev is_literal : List ℕ → Bool
is_literal = list_all (λ x. ltb x 256)

module _ {K : Type 0} where
  abbrev are_literal : RowsOf K → Bool
  are_literal = list_all (λ row. is_literal row.0)

  -- the first row whose pattern is the path
  abbrev pub exact : RowsOf K → List ℕ → Option K
  exact rows path = lookup (λ known. bytes_eq known path) rows

  own-exact : (rows : RowsOf K) → own rows ≡ exact rows []
  own-exact [] = refl
  own-exact (([], key) ∷ rows) = refl
  own-exact ((x ∷ t, key) ∷ rows) = own-exact rows

  or_else-None : (a : Option K) → or_else a None ≡ a
  or_else-None None = refl
  or_else-None (Some key) = refl

  after_none : (path : List ℕ) → (param_step {K = K} [] path).1 ≡ []
  unfolding param_step
  after_none path = elim (has_slash path) as (λ b. (cond {A = ℕ × RowsOf K} b (0, []) (length path, [])).1 ≡ []) [ true ↦ refl | false ↦ refl ]

  seek-none : (skip : ℕ) (path : List ℕ) → seek {K = K} skip [] path ≡ None
  unfolding seek
  seek-none skip [] = refl
  seek-none (suc skip) (b ∷ path) = seek-none skip path
  seek-none zero (b ∷ path) = simp (seek-none 0 path, after_none (b ∷ path), seek-none ((param_step {K = K} [] (b ∷ path)).0 - 1) path)

  -- literal rows do not go on with a parameter or a catch-all
  step-wild : (t : ℕ) → 256 ≤ t → (rows : RowsOf K) → are_literal rows ≡ true → step t rows ≡ []
  step-wild t large [] literal = refl
  step-wild t large (([], key) ∷ rows) literal = step-wild t large rows literal
  step-wild t large ((x ∷ w, key) ∷ rows) literal =
      let (front, rest) = and_parts (ltb x 256 && is_literal w) (are_literal rows) literal in
      let small = (and_parts (ltb x 256) (is_literal w) front).0 in
      let other : (x == t) ≡ false = grind (arith, nat_tests) in
      ap (λ b. cond b ((w, key) ∷ step t rows) (step t rows)) other ∙ step-wild t large rows rest

  step-literal : (b : ℕ) (rows : RowsOf K) → are_literal rows ≡ true → are_literal (step b rows) ≡ true
  step-literal b [] literal = refl
  step-literal b (([], key) ∷ rows) literal = step-literal b rows literal
  step-literal b ((x ∷ w, key) ∷ rows) literal =
      let (front, rest) = and_parts (ltb x 256 && is_literal w) (are_literal rows) literal in
      elim (x == b) as (λ c. are_literal (cond c ((w, key) ∷ step b rows) (step b rows)) ≡ true) [
        | true ↦ ap (λ c. c && are_literal (step b rows)) (and_parts (ltb x 256) (is_literal w) front).1 ∙ step-literal b rows rest
        | false ↦ step-literal b rows rest
      ]

  step-exact : (b : ℕ) (rows : RowsOf K) (path : List ℕ) → exact (step b rows) path ≡ exact rows (b ∷ path)
  step-exact b [] path = refl
  step-exact b (([], key) ∷ rows) path = step-exact b rows path
  step-exact b ((x ∷ w, key) ∷ rows) path =
      elim (x == b) as (λ c. exact (cond c ((w, key) ∷ step b rows) (step b rows)) path
      ≡ cond (c && bytes_eq w path) (Some key) (exact rows (b ∷ path))) [
        | true ↦ ap (cond (bytes_eq w path) (Some key)) (step-exact b rows path)
        | false ↦ step-exact b rows path
      ]

  -- a path is looked up among literal rows as a whole
  first-literal : (rows : RowsOf K) (path : List ℕ) → are_literal rows ≡ true → first rows path ≡ exact rows path
  unfolding seek
  first-literal rows [] literal = own-exact rows
  first-literal rows (b ∷ path) literal =
      let same : seek 0 rows (b ∷ path) ≡ seek 0 (step b rows) path =
      simp (
        step-wild param_token (omega arith) rows literal,
        step-wild catch_all_token (omega arith) rows literal,
        after_none (b ∷ path),
        seek-none ((param_step {K = K} [] (b ∷ path)).0 - 1) path,
        or_else-None,
      ) in
      same ∙ first-literal (step b rows) path (step-literal b rows literal) ∙ step-exact b rows path

-- a router whose rows are those of the routes of a shape finds them
finds-routes : (shape : Shape) (rows : RowsOf (RouteOf Route)) → are_literal rows ≡ true
    → map (λ row. (row.0, row.1.value)) rows ≡ by_word (routes_of shape) → IsTable shape rows
unfolding route_with
finds-routes shape rows literal same word =
    ap (option_map (λ found. found.value)) (first-literal rows word literal)
    ∙ sym (lookup-map_values (λ found. found.value) (λ known. bytes_eq known word) rows)
    ∙ ap (lookup (λ known. bytes_eq known word)) same

-- the scan of a pattern
abbrev scan_in : Result Scan InsertError → Scan
scan_in (Ok scan) = scan
scan_in (Err e) = scan_start

abbrev row_of : Route → List ℕ × RouteOf Route
row_of route =
    let scan = scan_in (parse_route (path_word route)) in
    (scan.pattern, route_from scan route)

-- the rows with those of these routes in their places
abbrev pub built : RowsOf (RouteOf Route) → List Route → RowsOf (RouteOf Route)
built rows [] = rows
built rows (route ∷ list) = built (placed (row_of route) rows) list

abbrev IsFreeIn : Result Scan InsertError → RowsOf (RouteOf Route) → Type 0
IsFreeIn (Ok scan) rows = nearest scan.pattern rows ≡ None
IsFreeIn (Err e) rows = ⊥

-- each of these routes is free before it is added
abbrev pub AreFree : RowsOf (RouteOf Route) → List Route → Type 0
AreFree rows [] = ⊤
AreFree rows (route ∷ list) = IsFreeIn (parse_route (path_word route)) rows × AreFree (placed (row_of route) rows) list

-- the rows with the routes of the list from this place on are those of the list
pub record Leads (list : List Route) (rows : RowsOf (RouteOf Route)) (i : ℕ) : Type 0 where
  pub built : built rows (drop i list) ≡ built [] list
  pub free : AreFree rows (drop i list)

is-free : (read : Result Scan InsertError) (rows : RowsOf (RouteOf Route)) → IsFreeIn read rows
    → (scan : Scan) × (read ≡ Ok scan) × (nearest scan.pattern rows ≡ None)
is-free (Ok scan) rows free = (scan, refl, free)
is-free (Err e) rows free = absurd free

module _ (list : List Route) (old : RowsOf (RouteOf Route)) (i : ℕ) (inside : i < length list) (leads : Leads list old i) where
  abbrev next : Route
  next = get_or list i Roll

  pub next-free : IsFree (path_word next) old
  next-free = is-free (parse_route (path_word next)) old (subst (AreFree old) (drop_more list i Roll inside) leads.free).0

  pub next-leads : (new : RowsOf (RouteOf Route)) → Adds (path_word next) next old new → Leads list new (i + 1)
  next-leads new (scan, read, new_is) =
      let row_is = new_is ∙ ap (λ r. placed (r.pattern, route_from r next) old) (sym (ap scan_in read)) in
      record {
        built = ap (λ rows. built rows (drop (i + 1) list)) row_is ∙ sym (ap (built old) (drop_more list i Roll inside)) ∙ leads.built;
        free = subst (λ rows. AreFree rows (drop (i + 1) list)) (sym row_is) (subst (AreFree old) (drop_more list i Roll inside) leads.free).1;
      }

-- the routes of a shape can be added, and make a table
pub nothing-leads : (shape : Shape) → Leads (routes_of shape) [] 0
unfolding matchit_on_literals
nothing-leads Plain = record { built = refl; free = search }
nothing-leads OfResolution = record { built = refl; free = search }
nothing-leads InResolution = record { built = refl; free = search }

pub makes-table : (shape : Shape) → IsTable shape (built [] (routes_of shape))
unfolding matchit_on_literals
makes-table Plain = finds-routes Plain (built [] (routes_of Plain)) refl refl
makes-table OfResolution = finds-routes OfResolution (built [] (routes_of OfResolution)) refl refl
makes-table InResolution = finds-routes InResolution (built [] (routes_of InResolution)) refl refl
