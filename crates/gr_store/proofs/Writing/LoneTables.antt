-- What the actions of foreign keys leave as it is: each table that has no foreign key.
use Rattle.std.proofs.Common.{◌≡◌, ◌≢◌, ℕ, ℤ, ◌+◌, zero, suc, List, [], ◌∷◌, ◌++◌, ◌&&◌, ◌==◌, Option, None, Some, Ok, refl, sym, ap, subst, ◌∙◌, inl, inr, nat_lt, length}
use Rattle.std.specs.List.{AllByRecursion, filter_map, flat_map, cons_option, list_any}
use Rattle.std.proofs.lemmas.Bool.{cases_Bool}
use Rattle.std.proofs.lemmas.Bool.Decides.{when_true, when_false}
use Rattle.sqlite_value.specs.Order.{Row}
use Rattle.sqlite_trees.specs.Tree.{Trees}
use Rattle.sqlite_schema.specs.declared.schema.Keys.{Keys}
use Rattle.sqlite_schema.specs.declared.schema.Reference.{Reference}
use Rattle.sqlite_schema.specs.declared.schema.Schema.{Schema}
use Rattle.sqlite_schema.specs.declared.schema.Table.{Table}
use Rattle.sqlite_schema.specs.Rules.{ParentKey, parent_key}
use Rattle.sqlite_rules.specs.declared.action.Deed.{Deed}
use Rattle.sqlite_rules.specs.Action.{Work, work_by, work_for, works, loses, pairs, deed_for, action_edit, refuses, max_depth, ActsOn, Goes, Leads, Settles, Writes}
use Rattle.sqlite_rules.specs.Edit.{Edit, Applies, taken_by}
use Rattle.sqlite_rules.specs.Lists.{Has}
use Rattle.sqlite_rules.proofs.ListLemmas.{all_has, all_from, has_either}
use Rattle.gr_store.specs.Own.{IsLone}

has_mapped : {X Y : Type 0} (f : X → Option Y) (xs : List X) (y : Y) → Has (filter_map f xs) y
    → (x : X) × Has xs x × (f x ≡ Some y)
has_mapped f [] y h = absurd h
has_mapped {Y = Y} f (x ∷ xs) y h = go (f x) refl h (has_mapped f xs y)
  where
    go : (o : Option Y) → f x ≡ o → Has (cons_option o (filter_map f xs)) y
        → (Has (filter_map f xs) y → (z : _) × Has xs z × (f z ≡ Some y)) → (z : _) × Has (x ∷ xs) z × (f z ≡ Some y)
    go None e h more = let it = more h in (it.0, inr it.1, it.2)
    go (Some z) e (inl same) more = (x, inl refl, e ∙ ap Some (sym same))
    go (Some z) e (inr later) more = let it = more later in (it.0, inr it.1, it.2)

has_flat : {X Y : Type 0} (f : X → List Y) (xs : List X) (y : Y) → Has (flat_map f xs) y → (x : X) × Has xs x × Has (f x) y
has_flat f [] y h = absurd h
has_flat f (x ∷ xs) y h = elim (has_either (f x) (flat_map f xs) y h) [
  | inl here ↦ (x, inl refl, here)
  | inr later ↦ let it = has_flat f xs y later in (it.0, inr it.1, it.2)
]

-- the work on a reference is on its table
of_child : (depth tree : ℕ) (moves : List (Row × Row)) (child : Table) (ref : Reference) (deed : Option Deed)
    (key : Option ParentKey) (w : Work) → work_by depth tree moves child ref deed key ≡ Some w → w.child ≡ child
of_child depth tree moves child ref None key w h = absurd (cc)
of_child depth tree moves child ref (Some deed) None w h = absurd (cc)
of_child depth tree moves child ref (Some deed) (Some key) w h =
    elim (cases_Bool ((key.0 == tree) && list_any (loses key.2 key.1) moves)) [
      | inl acts ↦ let same = rw acts at h in sym (ap (λ o. child_of o) same)
      | inr idle ↦ absurd (let none = rw idle at h in cc)
    ]
  where
    child_of : Option Work → Table
    child_of None = child
    child_of (Some w) = w.child

module _ (schema : Schema) (keys : Keys) (table : Table) (lone : IsLone schema table) where
  abbrev Spares : Work → Type 0
  Spares w = w.child.tree ≢ table.tree

  -- a table that has a foreign key has another tree
  other_tree : (child : Table) (ref : Reference) → Has schema.tables child → Has child.references ref
      → child.tree ≢ table.tree
  other_tree child ref listed has same =
      subst (λ l. Has l ref) (lone.free child listed same) has

  works_spare : (depth tree : ℕ) (olds news : List Row) → AllByRecursion Spares (works schema keys depth tree olds news)
  works_spare depth tree olds news = all_from Spares _ (λ w among.
      let on = has_flat (λ child. filter_map (work_for schema keys depth tree olds news child) child.references) schema.tables w among in
      let by = has_mapped (work_for schema keys depth tree olds news on.0) on.0.references w on.2 in
      let child = of_child depth tree (pairs olds news) on.0 by.0 _ _ w by.2 in
      λ same. other_tree on.0 by.0 on.1 by.1 (ap (λ (t : Table). t.tree) (sym child) ∙ same))

  both_spare : (ws vs : List Work) → AllByRecursion Spares ws → AllByRecursion Spares vs → AllByRecursion Spares (ws ++ vs)
  both_spare [] vs one two = two
  both_spare (w ∷ ws) vs one two = (one.0, both_spare ws vs one.1 two)

  front_spares : (ws : List Work) (w : Work) → AllByRecursion Spares (ws ++ w ∷ []) → AllByRecursion Spares ws × Spares w
  front_spares [] w all = (tt, all.0)
  front_spares (v ∷ ws) w all = let it = front_spares ws w all.1 in ((all.0, it.0), it.1)

  -- one step, and then those after it
  goes_spare : (n : ℕ) (db next : Trees) (edit : Edit) (depth : ℕ) (below : List Work) → edit.table.tree ≢ table.tree
      → AllByRecursion Spares below
      → ((mid : Trees) (stack : List Work) → AllByRecursion Spares stack → Leads schema keys n mid stack (Ok next)
      → next table.tree ≡ mid table.tree)
      → Goes schema keys (Leads schema keys n) db edit depth below (Ok next) → next table.tree ≡ db table.tree
  goes_spare n db next edit depth below other spare more (inl refused) = absurd (let e = refused.2 in cc)
  goes_spare n db next edit depth below other spare more (inr (inl big)) = absurd (let e = big.3 in cc)
  goes_spare n db next edit depth below other spare more (inr (inr went)) =
      let step : went.0 table.tree ≡ db table.tree
      = all_has _ schema.tables table went.1.tables lone.listed (λ same. other (sym same)) in
      more went.0 _ (both_spare below _ spare (works_spare depth edit.table.tree (taken_by db edit) edit.news)) went.2 ∙ step

  children_spare : (n : ℕ) (db next : Trees) (below : List Work) (w : Work) (ids : List ℤ)
      → AllByRecursion Spares below → Spares w
      → ((mid : Trees) (stack : List Work) → AllByRecursion Spares stack → Leads schema keys n mid stack (Ok next)
      → next table.tree ≡ mid table.tree)
      → ActsOn schema keys (Leads schema keys n) db w below (Ok next) ids → next table.tree ≡ db table.tree
  children_spare n db next below w [] spare other more on = more db below spare on
  children_spare n db next below w (id ∷ ids) spare other more on = elim (cases_Bool (refuses w.deed)) [
    | inl refused ↦ absurd (let e = when_true _ _ refused on in cc)
    | inr does ↦ goes_spare n db next (action_edit db w (id ∷ ids)) (w.depth + 1) below other spare more (when_false _ _ does on)
  ]

  -- the actions do not write in it
  acts_spare : (n : ℕ) (next db : Trees) (stack : List Work) → AllByRecursion Spares stack
      → Leads schema keys n db stack (Ok next) → next table.tree ≡ db table.tree
  acts_spare zero next db stack spare h = let same : next ≡ db = let e = h.1 in cc in ap (λ (t : Trees). t table.tree) same
  acts_spare (suc n) next db stack spare h =
      let parts = front_spares h.0 h.1 (subst (AllByRecursion Spares) h.2 spare) in
      elim (cases_Bool (nat_lt h.1.depth max_depth)) [
        | inl low ↦
            let on = when_true _ _ low h.3 in
            children_spare n db next h.0 h.1 on.0 parts.0 parts.1 (acts_spare n next) on.2
        | inr deep ↦ absurd (let e = when_false _ _ deep h.3 in cc)
      ]

  -- what a step sets off leaves it as the step left it
  pub goes_lone : (db next : Trees) (edit : Edit) (mid : Trees)
      → Settles schema keys mid (works schema keys 0 edit.table.tree (taken_by db edit) edit.news) (Ok next)
      → next table.tree ≡ mid table.tree
  goes_lone db next edit mid settles = acts_spare settles.0 next mid _ (works_spare 0 edit.table.tree (taken_by db edit) edit.news) settles.1

-- A write is its step, and then nothing is written in a table that has no foreign key.
pub one_step_lone : (schema : Schema) (keys : Keys) (db next : Trees) (edit : Edit) → Writes schema keys db edit (Ok next)
    → (mid : Trees) × Applies schema keys db edit mid
    × ((table : Table) → IsLone schema table → next table.tree ≡ mid table.tree)
one_step_lone schema keys db next edit (inl refused) = absurd (let e = refused.2 in cc)
one_step_lone schema keys db next edit (inr (inl big)) = absurd (let e = big.3 in cc)
one_step_lone schema keys db next edit (inr (inr went)) =
    (went.0, went.1, λ table lone. goes_lone schema keys table lone db next edit went.0 went.2)

-- Where no row is taken out, nothing is set off.
flat_none : {X Y : Type 0} (f : X → List Y) (xs : List X) → ((x : X) → f x ≡ []) → flat_map f xs ≡ []
flat_none f [] none = refl
flat_none f (x ∷ xs) none = rw (none x) (flat_none f xs none)

mapped_none : {X Y : Type 0} (f : X → Option Y) (xs : List X) → ((x : X) → f x ≡ None) → filter_map f xs ≡ []
mapped_none f [] none = refl
mapped_none f (x ∷ xs) none = rw (none x) (mapped_none f xs none)

no_work : (depth tree : ℕ) (child : Table) (ref : Reference) (deed : Option Deed) (key : Option ParentKey)
    → work_by depth tree [] child ref deed key ≡ None
no_work depth tree child ref None key = refl
no_work depth tree child ref (Some deed) None = refl
no_work depth tree child ref (Some deed) (Some key) = elim (cases_Bool (key.0 == tree)) [
  | inl is ↦ rw is refl
  | inr other ↦ rw other refl
]

pub no_works : (schema : Schema) (keys : Keys) (depth tree : ℕ) (news : List Row)
    → works schema keys depth tree [] news ≡ []
no_works schema keys depth tree news =
    flat_none (λ child. filter_map (work_for schema keys depth tree [] news child) child.references) schema.tables
    (λ child. mapped_none (work_for schema keys depth tree [] news child) child.references (λ ref.
    no_work depth tree child ref (deed_for keys (length news == 0) ref) (parent_key schema.tables ref)))
