-- What a text that makes a table does, whatever else the schema has.
use Rattle.gr_store.specs.Schema.{tables_with}
use Rattle.gr_core.specs.Columns.Stored.{TableName, DeskTable, DeveloperTable, ResolutionTable, ChoiceTable}
use Rattle.gr_core.specs.Columns.Stored.{SponsorTable, BallotTable}
use Rattle.std.specs.List.{list_any}
use Rattle.std.proofs.lemmas.Bool.{cases_Bool}
use Rattle.sqlite_schema.specs.Names.{table_named, same_name}
use Rattle.sqlite.specs.Rows.{sequence}
use Rattle.std.proofs.Common.{not, ◌&&◌, ◌++◌, Option, codes, is_some, slice_get, Some, suc, ◌≡◌, ◌≢◌, ℕ, ◌<◌, ◌^◌, List, [], ◌∷◌, Bool, true, false, None, Ok, Err, Result, OnOk, slice_index_or, refl, sym, ap, subst, ◌∙◌, inl, inr, arith, ◌⊎◌, IsTrue}
use Rattle.std.proofs.lemmas.Bool.Decides.{when_true, when_false}
use Rattle.sqlite_value.specs.Keys.{plain}
use Rattle.sqlite_schema.specs.declared.schema.Schema.{Schema}
use Rattle.sqlite_schema.specs.declared.schema.Table.{Table}
use Rattle.sqlite_schema.specs.declared.command.Command.TheVariants.{CreateTable}
use Rattle.sqlite_rules.specs.Lists.{Has}
use Rattle.sqlite_rules.proofs.ListLemmas.{all_has, has_got, has_right}
use Rattle.sqlite_resolve.specs.Compile.{table_defined_by}
use Rattle.sqlite_catalog.specs.Change.{created, next_tree, is_used}
use Rattle.sqlite_catalog.specs.Calls.{CreatesTable}
use Rattle.sqlite.specs.declared.error.Error.{Error}
use Rattle.sqlite.specs.Listing.{understood}
use Rattle.sqlite.specs.Effect.{Database, IsDatabase}
use Rattle.sqlite.specs.Does.{Tally, lacks_sequence, MakesSequence}
use Rattle.sqlite.specs.State.{State, Writes, ExecutesIn, ExecutesInside}
use Rattle.sqlite.proofs.Callers.{IsPlain, command_of, statement_of, runs_as}
use Rattle.gr_store.specs.Tabled.{in_tree}
use Rattle.gr_store.proofs.Writing.CompiledCreates.{IsCreateText, understood_made}
use Rattle.sqlite_catalog.proofs.StepLemmas.{table_below}
use Rattle.gr_store.proofs.Writing.GrownSchema.{got_front, placed_front, still_own, new_own, index_of_table, low_tree}
use Rattle.sqlite_value.specs.Order.{Row}
use Rattle.gr_store.specs.Own.{HasOwnTable}
use Rattle.gr_store.specs.Schema.{desk_table, developer_table, resolution_table, choice_table, sponsor_table}
use Rattle.gr_store.specs.Schema.{ballot_table, ballot1_table}
use Rattle.gr_store.specs.Version1.{HasNewTables1}
use Rattle.gr_store.specs.Makes.{KeepsTables, MakesTable, MakesDesk}

-- a part that gave a value did not stop on the way
pub went : {B E R : Type 0} {b : B} {Stops : E → Type 0} → ((stop : E) × Stops stop × (Ok b ≡ Err stop)) ⊎ R → R
went (inl stopped) = absurd (let e = stopped.2 in cc)
went (inr on) = on

-- a part that gave a value gave just that one
pub same_value : {B E : Type 0} {a b : B} → ◌≡◌ {A = Result B E} (Ok a) (Ok b) → a ≡ b
same_value e = cc

-- what the text is: one CREATE TABLE of this table, whose keys go up and which does not count
pub record IsCreating (text : List ℕ) (table : Table) : Type 0 where
  pub is : IsCreateText text
  pub defined : table_defined_by text ≡ Ok table
  pub orders : (k : ℕ) → slice_index_or table.orders k plain ≡ plain
  pub uncounted : table.is_counted ≡ false

-- what a list has stands somewhere in it
place_in : {X : Type 0} (xs : List X) (x : X) → Has xs x → (at : ℕ) × (slice_get xs at ≡ Some x)
place_in [] x h = absurd h
place_in (y ∷ xs) x (inl here) = (0, ap Some (sym here))
place_in (y ∷ xs) x (inr later) = let it = place_in xs x later in (suc it.0, it.1)

pub still_there : (old new : Database) → KeepsTables old new → (t : Table) → Has old.schema.tables t
    → Has new.schema.tables t
still_there old new kept t h =
    let it = place_in old.schema.tables t h in
    has_got new.schema.tables it.0 t (kept.tables it.0 t it.1)

pub then_keeps : (old mid new : Database) → KeepsTables old mid → KeepsTables mid new → KeepsTables old new
then_keeps old mid new one two = record {
  tables = λ at t h. two.tables at t (one.tables at t h);
  rows = λ t h. two.rows t (still_there old mid one t h) ∙ one.rows t h;
}

-- the tables are there still, with their rows, and each that was its own is so still
record Stay (old new : Database) : Type 0 where
  kept : KeepsTables old new
  own : (other : Table) (was : HasOwnTable old.schema other)
      → (now : HasOwnTable new.schema other) × (now.has.tree ≡ was.has.tree)

grown_stays : (old : Database) (text : List ℕ) (new : Database)
    → CreatesTable old.schema text old.trees new.schema new.trees → Stay old new
grown_stays old text new made = record {
  kept = record {
    tables = λ at t h. subst (λ (s : Schema). slice_get s.tables at ≡ Some t) (sym made.is)
        (got_front old.schema.tables _ at t h);
    rows = λ t h. all_has _ old.schema.tables t made.others h;
  };
  own = λ other was.
      let it = still_own old.schema made.table other was in
      subst (λ (s : Schema). (now : HasOwnTable s other) × (now.has.tree ≡ was.has.tree)) (sym made.is) (it.0, it.1);
}

-- ---- the table of the counts

any_more : (p : Table → Bool) (xs : List Table) (x : Table) → list_any p xs ≡ false → p x ≡ false
    → list_any p (xs ++ x ∷ []) ≡ false
any_more p [] x none plain = rw plain refl
any_more p (y ∷ xs) x none plain = elim (cases_Bool (p y)) [
  | inl is ↦ absurd (let e = rw is at none in cc)
  | inr other ↦ rw other (any_more p xs x (rw other at none) plain)
]

and_not : (a b : Bool) → b ≡ true → a && not b ≡ false
and_not true b there = rw there refl
and_not false b there = refl

module _ (schema : Schema) (table : Table) where
  abbrev more : List Table
  more = in_tree table (next_tree schema) ∷ []

  abbrev counters : List ℕ
  counters = codes "sqlite_sequence"

  -- it is there still with a table more
  still_counted : is_some (sequence schema) ≡ true → is_some (sequence (created schema table)) ≡ true
  still_counted there = named (table_named schema counters) refl
    where
      at_place : (at : ℕ) → table_named schema counters ≡ Some at → (found : Option Table)
          → slice_get schema.tables at ≡ found → is_some (sequence (created schema table)) ≡ true
      at_place at name None is = absurd (let e = rw (name, is) at there in cc)
      at_place at name (Some t) is =
          rw (
            placed_front (λ (t : Table). same_name t.name counters) schema.tables more 0 at name,
            got_front schema.tables more at t is,
          ) refl

      named : (found : Option ℕ) → table_named schema counters ≡ found
          → is_some (sequence (created schema table)) ≡ true
      named None name = absurd (let e = rw name at there in cc)
      named (Some at) name = at_place at name (slice_get schema.tables at) refl

  -- so a schema that does not lack it does not with a table more that does not count
  still_has : table.is_counted ≡ false → lacks_sequence schema ≡ false
      → lacks_sequence (created schema table) ≡ false
  still_has plain has = elim (cases_Bool (list_any (λ t. t.is_counted) schema.tables)) [
    | inl counts ↦ elim (cases_Bool (is_some (sequence schema))) [
      | inl there ↦ and_not _ _ (still_counted there)
      | inr none ↦ absurd (let e = rw (counts, none) at has in cc)
    ]
    | inr none ↦ rw (any_more (λ (t : Table). t.is_counted) schema.tables (in_tree table (next_tree schema)) none plain)
        refl
  ]

-- the table that counts for others may be made beside it
sequence_stays : (mid after : Database) (b : Bool) → lacks_sequence mid.schema ≡ b → MakesSequence mid (Ok after)
    → Stay mid after
sequence_stays mid after true lacks h = grown_stays mid _ after (when_true _ _ lacks h)
sequence_stays mid after false lacks h =
    let same : after ≡ mid = same_value (when_false _ _ lacks h) in
    subst (Stay mid) (sym same) (record {
      kept = record { tables = λ at t h. h; rows = λ t h. refl };
      own = λ other was. (was, refl);
    })

module _ (text : List ℕ) (table : Table) (is : IsCreating text table) (old mid after : Database)
    (grown : CreatesTable old.schema text old.trees mid.schema mid.trees) (same : grown.table ≡ table)
    (later : Stay mid after) (alone : lacks_sequence mid.schema ≡ false → after ≡ mid) (sound : IsDatabase old)
    (sound_after : IsDatabase after) where
  is_mid : mid.schema ≡ created old.schema table
  is_mid = grown.is ∙ ap (created old.schema) same

  -- the new table, where it is
  abbrev its : Table
  its = in_tree table (next_tree old.schema)

  listed : Has mid.schema.tables its
  listed = subst (λ (s : Schema). Has s.tables its) (sym is_mid)
      (has_right old.schema.tables (its ∷ []) its (inl refl))

  low : next_tree old.schema < 2 ^ 31
  low = low_tree after sound_after its (still_there mid after later.kept its listed)

  fresh : (own : HasOwnTable mid.schema table) × (own.has.tree ≡ next_tree old.schema)
  fresh = subst (λ (s : Schema). (own : HasOwnTable s table) × (own.has.tree ≡ next_tree old.schema)) (sym is_mid)
      (new_own old.schema table (subst (λ (t : Table). is_used old.schema t.name ≡ false) same grown.free) is.orders
      (λ i h e. omega (arith, e, index_of_table old sound i h)) low)

  added : MakesTable table old after
  added =
      let own = later.own table fresh.0 in
      let at_next : own.0.has.tree ≡ next_tree old.schema = own.1 ∙ fresh.1 in
      let grown_from = grown_stays old text mid grown in
      record {
        own = own.0;
        empty = ap after.trees at_next ∙ later.kept.rows its listed ∙ grown.empty;
        fresh = λ other was same. omega (arith, same, at_next, table_below old.schema other was);
        kept = then_keeps old mid after grown_from.kept later.kept;
        still = λ other was.
            let in_mid = grown_from.own other was in
            let now = later.own other in_mid.0 in
            (now.0, now.1 ∙ in_mid.1);
        alone = λ has.
            let kept = subst (λ c. lacks_sequence c ≡ false) (sym is_mid) (still_has old.schema table is.uncounted has) in
            ap (λ (d : Database). d.schema) (alone kept) ∙ is_mid;
        sound = sound_after;
      }

pub creates : (text : List ℕ) (table : Table) (old new : State) (r : Result ℕ Error) → IsCreating text table
    → (IsTrue old.is_open → IsDatabase old.now) → ExecutesInside 0 text [] old new r → OnOk r (MakesTable table old.now new.now)
unfolding ExecutesIn
creates text table old new (Err e) is sound h = tt
creates text table old new (Ok count) is sound h =
    let c = h.0.0 in
    let known = h.0.1.is in
    let made = understood_made text old.now.schema c is.is known in
    let command : command_of (understood old.now.schema text) ≡ CreateTable = ap command_of known ∙ made.0 in
    let bare : IsPlain (understood old.now.schema text) = subst IsPlain (sym known) (made.1, made.2) in
    let whole : statement_of text (understood old.now.schema text) ≡ text = ap (statement_of text) known ∙ made.3 in
    let w = subst (λ t. Writes old new None CreateTable t [] count) whole
    (runs_as text [] old new old.now.schema refl CreateTable command bare count h.0) in
    let all = went w.changed in
    let first = went all.1 in
    let now : new.now ≡ all.0 = ap (λ (p : Tally × Database). p.1) (same_value all.2) in
    let later = sequence_stays first.0 all.0 (lacks_sequence first.0.schema) refl first.2 in
    added text table is old.now first.0 new.now first.1 (same_value (sym first.1.defined ∙ is.defined))
    (subst (Stay first.0) (sym now) later) (λ has. now ∙ same_value (when_false _ _ has first.2))
    (sound w.shown.was_open) w.sound

-- a statement that ran leaves the transaction under way
pub stays_inside : (text : List ℕ) (params : Row) (old new : State) (r : Result ℕ Error) → ExecutesInside 0 text params old new r → OnOk r
    (IsTrue new.in_transaction)
stays_inside text params old new (Ok count) h = h.1.mode
stays_inside text params old new (Err e) h = tt

-- ---- the six, one after the other

-- a table of its own with no rows, in a tree that none of the first database had
abbrev pub IsMade : Database → Table → Database → Type 0
IsMade first table db = (own : HasOwnTable db.schema table) × (db.trees own.has.tree ≡ [])
    × ((other : Table) → Has first.schema.tables other → other.tree ≢ own.has.tree)

just_made : (first old new : Database) (table : Table) → KeepsTables first old → MakesTable table old new
    → IsMade first table new
just_made first old new table kept makes =
    (makes.own, makes.empty, λ other was. makes.fresh other (still_there first old kept other was))

-- it is one still when another is made
still_made : (first old new : Database) (table other : Table) → MakesTable other old new → IsMade first table old
    → IsMade first table new
still_made first old new table other makes was =
    let now = makes.still table was.0 in
    let listed = has_got old.schema.tables was.0.has.at (in_tree table was.0.has.tree) was.0.has.is in
    (now.0, ap new.trees now.1 ∙ makes.kept.rows _ listed ∙ was.1, λ it there same. was.2 it there (same ∙ now.1))

-- nothing else was made so far, and nothing else is made then
then_alone : (mid new whole : Schema) (table : Table) → table.is_counted ≡ false
    → (mid ≡ whole) × (lacks_sequence mid ≡ false) → (lacks_sequence mid ≡ false → new ≡ created mid table)
    → (new ≡ created whole table) × (lacks_sequence new ≡ false)
then_alone mid new whole table plain was made =
    let is = made was.1 in
    (is ∙ ap (λ c. created c table) was.0, subst (λ c. lacks_sequence c ≡ false) (sym is) (still_has mid table plain was.1))

-- the six are such tables, that of ballots is this one
pub record AreMade (ballots : Table) (first db : Database) : Type 0 where
  pub each : (name : TableName) → IsMade first (tables_with ballots name) db
  pub kept : KeepsTables first db
  pub alone : lacks_sequence first.schema ≡ false
      → (db.schema ≡ created (created (created (created (created (created first.schema desk_table) developer_table)
      resolution_table) choice_table) sponsor_table) ballots) × (lacks_sequence db.schema ≡ false)

pub are_made : (ballots : Table) (a b c d e f g : Database) → ballots.is_counted ≡ false → MakesTable desk_table a b → MakesTable developer_table b c
    → MakesTable resolution_table c d → MakesTable choice_table d e → MakesTable sponsor_table e f → MakesTable ballots f g
    → AreMade ballots a g
are_made ballots a b c d e f g plain one two three four five six =
    let to_a : KeepsTables a a = record { tables = λ at t h. h; rows = λ t h. refl } in
    let to_b = one.kept in
    let to_c = then_keeps a b c to_b two.kept in
    let to_d = then_keeps a c d to_c three.kept in
    let to_e = then_keeps a d e to_d four.kept in
    let to_f = then_keeps a e f to_e five.kept in
    record {
      each = λ name. elim name as (λ name. IsMade a (tables_with ballots name) g) [
        | DeskTable ↦ still_made a f g desk_table ballots six (still_made a e f desk_table sponsor_table five
            (still_made a d e desk_table choice_table four (still_made a c d desk_table resolution_table three
            (still_made a b c desk_table developer_table two (just_made a a b desk_table to_a one)))))
        | DeveloperTable ↦ still_made a f g developer_table ballots six (still_made a e f developer_table sponsor_table five
            (still_made a d e developer_table choice_table four (still_made a c d developer_table resolution_table three
            (just_made a b c developer_table to_b two))))
        | ResolutionTable ↦ still_made a f g resolution_table ballots six (still_made a e f resolution_table sponsor_table five
            (still_made a d e resolution_table choice_table four (just_made a c d resolution_table to_c three)))
        | ChoiceTable ↦ still_made a f g choice_table ballots six (still_made a e f choice_table sponsor_table five
            (just_made a d e choice_table to_d four))
        | SponsorTable ↦ still_made a f g sponsor_table ballots six (just_made a e f sponsor_table to_e five)
        | BallotTable ↦ just_made a f g ballots to_f six
      ];
      kept = then_keeps a f g to_f six.kept;
      alone = λ has.
          let at_b = then_alone a.schema b.schema a.schema desk_table refl (refl, has) one.alone in
          let at_c = then_alone b.schema c.schema _ developer_table refl at_b two.alone in
          let at_d = then_alone c.schema d.schema _ resolution_table refl at_c three.alone in
          let at_e = then_alone d.schema e.schema _ choice_table refl at_d four.alone in
          let at_f = then_alone e.schema f.schema _ sponsor_table refl at_e five.alone in
          then_alone f.schema g.schema _ ballots plain at_f six.alone;
    }

pub makes_six : (a b c d e f g : Database) → MakesTable desk_table a b → MakesTable developer_table b c
    → MakesTable resolution_table c d → MakesTable choice_table d e → MakesTable sponsor_table e f → MakesTable ballot_table f g
    → MakesDesk a g
makes_six a b c d e f g one two three four five six =
    let made = are_made ballot_table a b c d e f g refl one two three four five six in
    record {
      own = λ name. (made.each name).0;
      empty = λ name. (made.each name).1;
      fresh = λ other was name. (made.each name).2 other was;
      adds = record { kept = made.kept; alone = λ has. (made.alone has).0 };
      sound = six.sound;
    }

-- those of version 1
pub makes_six1 : (a b c d e f g : Database) → MakesTable desk_table a b → MakesTable developer_table b c
    → MakesTable resolution_table c d → MakesTable choice_table d e → MakesTable sponsor_table e f → MakesTable ballot1_table f g
    → HasNewTables1 a g
makes_six1 a b c d e f g one two three four five six =
    let made = are_made ballot1_table a b c d e f g refl one two three four five six in
    record {
      own = λ name. (made.each name).0;
      empty = λ name. (made.each name).1;
      counted = λ has. (made.alone has).1;
      sound = six.sound;
    }
