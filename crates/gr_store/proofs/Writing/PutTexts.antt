-- What the texts that put one row mean, each computed once, wherever a schema has the table of its own.
use Rattle.std.proofs.Common.{ℕ, List, [], ◌∷◌, refl}
use Rattle.sqlite_value.specs.declared.value.Value.TheVariants.{Null}
use Rattle.sqlite_sql.specs.Term.{Term, lit, col}
use Rattle.sqlite_schema.specs.declared.schema.Schema.{Schema}
use Rattle.sqlite_schema.specs.declared.command.Conflict.TheVariants.{Replace}
use Rattle.sqlite_resolve.specs.Compile.{first}
use Rattle.sqlite_tied.specs.Compute.{everything}
use Rattle.gr_core.specs.declared.rows.HeaderRow.{HeaderRow}
use Rattle.gr_core.specs.declared.rows.DeveloperRow.{DeveloperRow}
use Rattle.gr_core.specs.declared.rows.ResolutionRow.{ResolutionRow}
use Rattle.gr_core.specs.declared.rows.ChoiceRow.{ChoiceRow}
use Rattle.gr_core.specs.declared.rows.SponsorRow.{SponsorRow}
use Rattle.gr_core.specs.Columns.Stored.{fields_of_header, fields_of_developer, fields_of_resolution}
use Rattle.gr_core.specs.Columns.Stored.{fields_of_choice, fields_of_sponsor}
use Rattle.gr_store.specs.Schema.{desk_table, developer_table, resolution_table, choice_table, sponsor_table}
use Rattle.gr_store.specs.Tabled.{HasTable, in_tree}
use Rattle.gr_store.specs.Own.{HasOwnTable, in_its_tree}
use Rattle.gr_store.specs.Puts.{desk_put, developer_put, resolution_put, choice_put, sponsor_put}
use Rattle.gr_store.proofs.Writing.CompiledInserts.{ReplacesIn, replaces_text}
use Rattle.gr_store.proofs.Writing.InsertLemmas.{IsInsertText, source_of, kept_source}
use Rattle.gr_store.proofs.Writing.ReplaceLemmas.{IsReplacing, meets_by_rowid, meets_by_index}

-- ---- desk

abbrev pub desk_terms : List Term
desk_terms = col 0 0 ∷ lit Null ∷ col 0 1 ∷ col 0 2 ∷ col 0 3 ∷ []

desk_inserts : (schema : Schema) (at tree : ℕ)
    → ReplacesIn schema (in_tree desk_table tree) at desk_terms (first desk_put)
unfolding everything
desk_inserts schema at tree = (refl, (refl, refl))

pub desk_puts : (schema : Schema) (has : HasTable schema desk_table)
    → IsInsertText schema desk_put has.at Replace desk_terms []
desk_puts schema has =
    replaces_text schema (in_tree desk_table has.tree) has.at desk_terms has.named has.is refl desk_put
    (desk_inserts schema has.at has.tree)

pub desk_replacing : (schema : Schema) (own : HasOwnTable schema desk_table) (row : HeaderRow)
    → IsReplacing schema (in_its_tree own) desk_terms (fields_of_header row)
desk_replacing schema own row = record {
  given = record {
    uncounted = refl;
    wide = refl;
    one = refl;
    cast = λ rows. kept_source (in_its_tree own) _ _ refl refl;
    mended = kept_source (in_its_tree own) _ _ refl refl;
    number = λ rows. refl;
    has = λ rows. refl;
  };
  meets = meets_by_rowid schema (in_its_tree own) (source_of (in_its_tree own) (fields_of_header row)) refl own.keys;
}

-- ---- developer

abbrev pub developer_terms : List Term
developer_terms = lit Null ∷ col 0 0 ∷ col 0 1 ∷ col 0 2 ∷ []

developer_inserts : (schema : Schema) (at tree : ℕ)
    → ReplacesIn schema (in_tree developer_table tree) at developer_terms (first developer_put)
unfolding everything
developer_inserts schema at tree = (refl, (refl, refl))

pub developer_puts : (schema : Schema) (has : HasTable schema developer_table)
    → IsInsertText schema developer_put has.at Replace developer_terms []
developer_puts schema has =
    replaces_text schema (in_tree developer_table has.tree) has.at developer_terms has.named has.is refl developer_put
    (developer_inserts schema has.at has.tree)

pub developer_replacing : (schema : Schema) (own : HasOwnTable schema developer_table) (row : DeveloperRow)
    → IsReplacing schema (in_its_tree own) developer_terms (fields_of_developer row)
developer_replacing schema own row = record {
  given = record {
    uncounted = refl;
    wide = refl;
    one = refl;
    cast = λ rows. kept_source (in_its_tree own) _ _ refl refl;
    mended = kept_source (in_its_tree own) _ _ refl refl;
    number = λ rows. refl;
    has = λ rows. refl;
  };
  meets = meets_by_index schema (in_its_tree own) (fields_of_developer row) refl own.keys;
}

-- ---- resolution

abbrev pub resolution_terms : List Term
resolution_terms = col 0 0 ∷ lit Null ∷ col 0 1 ∷ col 0 2 ∷ col 0 3 ∷ col 0 4 ∷ col 0 5 ∷ col 0 6 ∷ col 0 7 ∷ col 0 8 ∷ []

resolution_inserts : (schema : Schema) (at tree : ℕ)
    → ReplacesIn schema (in_tree resolution_table tree) at resolution_terms (first resolution_put)
unfolding everything
resolution_inserts schema at tree = (refl, (refl, refl))

pub resolution_puts : (schema : Schema) (has : HasTable schema resolution_table)
    → IsInsertText schema resolution_put has.at Replace resolution_terms []
resolution_puts schema has =
    replaces_text schema (in_tree resolution_table has.tree) has.at resolution_terms has.named has.is refl resolution_put
    (resolution_inserts schema has.at has.tree)

pub resolution_replacing : (schema : Schema) (own : HasOwnTable schema resolution_table) (row : ResolutionRow)
    → IsReplacing schema (in_its_tree own) resolution_terms (fields_of_resolution row)
resolution_replacing schema own row = record {
  given = record {
    uncounted = refl;
    wide = refl;
    one = refl;
    cast = λ rows. kept_source (in_its_tree own) _ _ refl refl;
    mended = kept_source (in_its_tree own) _ _ refl refl;
    number = λ rows. refl;
    has = λ rows. refl;
  };
  meets = meets_by_rowid schema (in_its_tree own) (source_of (in_its_tree own) (fields_of_resolution row)) refl own.keys;
}

-- ---- choice

abbrev pub choice_terms : List Term
choice_terms = lit Null ∷ col 0 0 ∷ col 0 1 ∷ col 0 2 ∷ col 0 3 ∷ col 0 4 ∷ col 0 5 ∷ col 0 6 ∷ col 0 7 ∷ col 0 8 ∷ col 0 9 ∷ []

choice_inserts : (schema : Schema) (at tree : ℕ)
    → ReplacesIn schema (in_tree choice_table tree) at choice_terms (first choice_put)
unfolding everything
choice_inserts schema at tree = (refl, (refl, refl))

pub choice_puts : (schema : Schema) (has : HasTable schema choice_table)
    → IsInsertText schema choice_put has.at Replace choice_terms []
choice_puts schema has =
    replaces_text schema (in_tree choice_table has.tree) has.at choice_terms has.named has.is refl choice_put
    (choice_inserts schema has.at has.tree)

pub choice_replacing : (schema : Schema) (own : HasOwnTable schema choice_table) (row : ChoiceRow)
    → IsReplacing schema (in_its_tree own) choice_terms (fields_of_choice row)
choice_replacing schema own row = record {
  given = record {
    uncounted = refl;
    wide = refl;
    one = refl;
    cast = λ rows. kept_source (in_its_tree own) _ _ refl refl;
    mended = kept_source (in_its_tree own) _ _ refl refl;
    number = λ rows. refl;
    has = λ rows. refl;
  };
  meets = meets_by_index schema (in_its_tree own) (fields_of_choice row) refl own.keys;
}

-- ---- sponsor

abbrev pub sponsor_terms : List Term
sponsor_terms = lit Null ∷ col 0 0 ∷ col 0 1 ∷ col 0 2 ∷ col 0 3 ∷ []

sponsor_inserts : (schema : Schema) (at tree : ℕ)
    → ReplacesIn schema (in_tree sponsor_table tree) at sponsor_terms (first sponsor_put)
unfolding everything
sponsor_inserts schema at tree = (refl, (refl, refl))

pub sponsor_puts : (schema : Schema) (has : HasTable schema sponsor_table)
    → IsInsertText schema sponsor_put has.at Replace sponsor_terms []
sponsor_puts schema has =
    replaces_text schema (in_tree sponsor_table has.tree) has.at sponsor_terms has.named has.is refl sponsor_put
    (sponsor_inserts schema has.at has.tree)

pub sponsor_replacing : (schema : Schema) (own : HasOwnTable schema sponsor_table) (row : SponsorRow)
    → IsReplacing schema (in_its_tree own) sponsor_terms (fields_of_sponsor row)
sponsor_replacing schema own row = record {
  given = record {
    uncounted = refl;
    wide = refl;
    one = refl;
    cast = λ rows. kept_source (in_its_tree own) _ _ refl refl;
    mended = kept_source (in_its_tree own) _ _ refl refl;
    number = λ rows. refl;
    has = λ rows. refl;
  };
  meets = meets_by_index schema (in_its_tree own) (fields_of_sponsor row) refl own.keys;
}
