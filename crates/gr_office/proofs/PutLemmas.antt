-- Rows that acts put, one act after the other.
use Rattle.std.proofs.Common.{◌≡◌, ℕ, List, [], ◌∷◌, ◌++◌, map, Result, Ok, Err, refl, sym, ap, subst, ◌∙◌}
use Rattle.std.specs.Prelude.{IsSome, OnOk, OnErr}
use Rattle.std.proofs.lemmas.List.{map-append, append_assoc, append-nil}
use Rattle.sqlite_schema.specs.declared.schema.Schema.{Schema}
use Rattle.sqlite_schema.specs.declared.schema.Table.{Table}
use Rattle.sqlite.specs.Effect.{Database}
use Rattle.sqlite.specs.Held.{state}
use Rattle.sqlite_trees.specs.declared.store.Store.{Ghosts}
use Rattle.gr_core.specs.declared.reply.Reply.{Reply}
use Rattle.gr_core.specs.declared.refusal.Refusal.{Refusal}
use Rattle.gr_core.specs.Columns.Fields.{row_fields}
use Rattle.gr_core.specs.Columns.Stored.{DeskTable, DeveloperTable, ResolutionTable, ChoiceTable, SponsorTable}
use Rattle.gr_core.specs.Columns.Stored.{BallotTable}
use Rattle.gr_core.specs.Desks.State.{State}
use Rattle.gr_core.specs.Machine.Act.{Act}
use Rattle.gr_core.specs.Machine.Effect.{rows_by, effect, counted}
use Rattle.gr_core.specs.Machine.Row as core
use Rattle.gr_core.specs.Machine.Run.{After, accepted_acts}
use Rattle.gr_core.specs.Machine.Step as step
use Rattle.gr_store.specs.Commits.{PutsAll, table_for}
use Rattle.gr_store.specs.Own.{HasOwnTable, HasOwnTables, in_its_tree}
use Rattle.gr_store.specs.Puts.{Puts}
use Rattle.gr_store.specs.Tabled.{in_tree}
use Rattle.gr_office.specs.History.{AcceptedArePut, rows_by_all}
use Rattle.gr_office.specs.Office.{Office, Acts, IsOpenWith, answer_of}
use Rattle.gr_office.proofs.BesideLemmas.{same_tree}
use Rattle.gr_office.proofs.RunLemmas.{as_act}

-- however the table of a row is found, it is the same
one_place : {schema : Schema} {table : Table} (a b : HasOwnTable schema table) → in_its_tree a ≡ in_its_tree b
one_place {schema} {table} a b = ap (in_tree table) (same_tree a.has b.has)

one_table : {schema : Schema} (a b : HasOwnTables schema) (row : core.RowModel) → table_for a row ≡ table_for b row
one_table a b (core.HeaderOf header) = one_place (a DeskTable) (b DeskTable)
one_table a b (core.DeveloperOf login row) = one_place (a DeveloperTable) (b DeveloperTable)
one_table a b (core.ResolutionOf number resolution) = one_place (a ResolutionTable) (b ResolutionTable)
one_table a b (core.ChoiceOf key row) = one_place (a ChoiceTable) (b ChoiceTable)
one_table a b (core.SponsorOf key sponsorship) = one_place (a SponsorTable) (b SponsorTable)
one_table a b (core.BallotOf key row) = one_place (a BallotTable) (b BallotTable)

-- so rows are put however the tables are found
puts_each : {schema : Schema} (a b : HasOwnTables schema) (rows : List core.RowModel) (old new : Database) → PutsAll a rows old new
    → PutsAll b rows old new
puts_each a b [] old new puts = puts
puts_each a b (row ∷ rows) old new puts = (
  puts.0,
  subst (λ table. Puts table (row_fields row) old puts.0) (one_table a b row) puts.1,
  puts_each a b rows puts.0 new puts.2,
)

puts_still : (one two : Schema) → two ≡ one → (own : HasOwnTables one) (later : HasOwnTables two) (rows : List core.RowModel)
    (old new : Database) → PutsAll later rows old new → PutsAll own rows old new
puts_still one two same own later rows old new puts =
    subst (λ s. (later : HasOwnTables s) → PutsAll later rows old new → PutsAll own rows old new) (sym same)
    (λ later puts. puts_each later own rows old new puts) later puts

-- rows after rows
puts_then : {schema : Schema} (own : HasOwnTables schema) (rows more : List core.RowModel) (old mid new : Database) → PutsAll own rows old mid
    → PutsAll own more mid new → PutsAll own (rows ++ more) old new
puts_then own [] more old mid new puts last = subst (λ d. PutsAll own more d new) puts last
puts_then own (row ∷ rows) more old mid new puts last = (puts.0, puts.1, puts_then own rows more puts.0 mid new puts.2 last)

-- one act more puts its rows after the others
rows_last : (s t : State) (commands : List (ℕ × Act)) (answers : List step.Answer) (command : ℕ × Act) (answer : step.Answer)
    → After s commands answers t
    → rows_by_all s (accepted_acts (commands ++ command ∷ []) (answers ++ answer ∷ []))
    ≡ rows_by_all s (accepted_acts commands answers) ++ rows_by_all t (accepted_acts (command ∷ []) (answer ∷ []))
rows_last s t [] [] command answer ran = ap (λ u. rows_by_all u (accepted_acts (command ∷ []) (answer ∷ []))) (sym ran)
rows_last s t [] (a ∷ answers) command answer ran = absurd ran
rows_last s t (c ∷ commands) [] command answer ran = absurd ran
rows_last s t (c ∷ commands) (step.Accepted reply ∷ answers) command answer (mid, stepped, ran) =
    let next = counted (effect s c.0 c.1) c.0 in
    let rest = rows_last next t commands answers command answer (subst (λ u. After u commands answers t) stepped.2 ran) in
    ap (λ rows. rows_by s c.0 c.1 ++ rows) rest
    ∙ sym (append_assoc (rows_by s c.0 c.1) (rows_by_all next (accepted_acts commands answers)) _)
rows_last s t (c ∷ commands) (step.Refused refusal ∷ answers) command answer (mid, stepped, ran) =
    rows_last s t commands answers command answer (subst (λ u. After u commands answers t) stepped.1 ran)

module _ {S : Type 0} (g : Ghosts S) where
  pub puts_nothing : (s : State) (office : Office S) (answers : List (Result Reply Refusal)) → AcceptedArePut g s office [] answers office
  puts_nothing s office answers is = refl

  -- what one more command puts, that is answered
  last_puts : (t : State) (now after : Office S) (command : ℕ × Act) (answer : Result Reply Refusal) (is : IsOpenWith g t now)
      → Acts now.desk command.0 command.1 (as_act answer) after.desk
      → OnOk (as_act answer) (PutsAll is.kept.tables.own (rows_by t command.0 command.1) (state g now.conn).now (state g after.conn).now)
      → OnErr (as_act answer) (IsSome after.desk → after ≡ now)
      → PutsAll is.kept.tables.own (rows_by_all t (accepted_acts (command ∷ []) (answer_of answer ∷ []))) (state g now.conn).now
      (state g after.conn).now
  last_puts t now after command (Ok reply) is acts puts same =
      subst (λ rows. PutsAll is.kept.tables.own rows (state g now.conn).now (state g after.conn).now)
      (sym (append-nil (rows_by t command.0 command.1))) puts
  last_puts t now after command (Err refusal) is acts puts same =
      let stays = subst (λ desk. Acts desk command.0 command.1 (as_act (Err refusal)) after.desk) is.desk acts in
      ap (λ (office : Office S). (state g office.conn).now) (same (subst IsSome (sym stays.1) refl))

  pub puts_one_more : (s t : State) (first now after : Office S) (commands : List (ℕ × Act)) (answers : List (Result Reply Refusal))
      (command : ℕ × Act) (answer : Result Reply Refusal) → After s commands (map answer_of answers) t → (later : IsOpenWith g t now)
      → (IsOpenWith g s first → (state g now.conn).now.schema ≡ (state g first.conn).now.schema)
      → AcceptedArePut g s first commands answers now → Acts now.desk command.0 command.1 (as_act answer) after.desk
      → OnOk (as_act answer) (PutsAll later.kept.tables.own (rows_by t command.0 command.1) (state g now.conn).now (state g after.conn).now)
      → OnErr (as_act answer) (IsSome after.desk → after ≡ now)
      → AcceptedArePut g s first (commands ++ command ∷ []) (answers ++ answer ∷ []) after
  puts_one_more s t first now after commands answers command answer ran later schema so_far acts puts same is =
      let old = (state g first.conn).now in
      let mid = (state g now.conn).now in
      let new = (state g after.conn).now in
      let own = is.kept.tables.own in
      let last = last_puts t now after command answer later acts puts same in
      let still = puts_still old.schema mid.schema (schema is) own later.kept.tables.own _ mid new last in
      subst (λ l. PutsAll own (rows_by_all s (accepted_acts (commands ++ command ∷ []) l)) old new)
      (sym (map-append answer_of answers (answer ∷ [])))
      (subst (λ rows. PutsAll own rows old new) (sym (rows_last s t commands (map answer_of answers) command (answer_of answer) ran))
      (puts_then own (rows_by_all s (accepted_acts commands (map answer_of answers))) _ old mid new (so_far is) still))
