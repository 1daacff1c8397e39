-- What the creating texts mean, each computed once, apart from any schema.
use Rattle.std.proofs.Common.{◌≡◌, ℕ, zero, suc, List, refl}
use Rattle.std.specs.Prelude.{◌++◌, codes, slice_index_or}
use Rattle.sqlite_value.specs.Keys.{plain}
use Rattle.sqlite_tied.specs.Compute.{everything}
use Rattle.sqlite_schema.specs.declared.schema.Table.{Table}
use Rattle.gr_store.proofs.Writing.CreateLemmas.{IsCreating}
use Rattle.gr_store.specs.Schema.{desk_text, developer_text, resolution_text, choice_text, sponsor_text, ballot_text}
use Rattle.gr_store.specs.Schema.{desk_table, developer_table, resolution_table, choice_table, sponsor_table}
use Rattle.gr_store.specs.Schema.{ballot_table, ballot1_table}

-- each key of the table goes up
abbrev GoUp : Table → Type 0
GoUp table = (k : ℕ) → slice_index_or table.orders k plain ≡ plain

pub desk_creates : IsCreating desk_text desk_table
unfolding everything
desk_creates = record { is = (refl, refl); defined = refl; orders = λ k. refl; uncounted = refl }

developer_up : GoUp developer_table
developer_up zero = refl
developer_up (suc k) = refl

pub developer_creates : IsCreating developer_text developer_table
unfolding everything
developer_creates = record { is = (refl, refl); defined = refl; orders = developer_up; uncounted = refl }

pub resolution_creates : IsCreating resolution_text resolution_table
unfolding everything
resolution_creates = record { is = (refl, refl); defined = refl; orders = λ k. refl; uncounted = refl }

choice_up : GoUp choice_table
choice_up zero = refl
choice_up (suc k) = refl

pub choice_creates : IsCreating choice_text choice_table
unfolding everything
choice_creates = record { is = (refl, refl); defined = refl; orders = choice_up; uncounted = refl }

sponsor_up : GoUp sponsor_table
sponsor_up zero = refl
sponsor_up (suc k) = refl

pub sponsor_creates : IsCreating sponsor_text sponsor_table
unfolding everything
sponsor_creates = record { is = (refl, refl); defined = refl; orders = sponsor_up; uncounted = refl }

ballot_up : GoUp ballot_table
ballot_up zero = refl
ballot_up (suc k) = refl

pub ballot_creates : IsCreating ballot_text ballot_table
unfolding everything
ballot_creates = record { is = (refl, refl); defined = refl; orders = ballot_up; uncounted = refl }

-- of version 1
abbrev pub ballot1_text : List ℕ
ballot1_text =
    codes "CREATE TABLE ballot (resolution INTEGER NOT NULL, login TEXT NOT NULL,\n"
    ++ codes "  ranks TEXT NOT NULL, receipt TEXT NOT NULL,\n"
    ++ codes "  PRIMARY KEY (resolution, login)) STRICT"

ballot1_up : GoUp ballot1_table
ballot1_up zero = refl
ballot1_up (suc k) = refl

pub ballot1_creates : IsCreating ballot1_text ballot1_table
unfolding everything
ballot1_creates = record { is = (refl, refl); defined = refl; orders = ballot1_up; uncounted = refl }
