-- What the texts that select rows are, each computed once: one SELECT, and the columns of its table that it asks for.
use Rattle.std.proofs.Common.{refl}
use Rattle.sqlite_tied.specs.Compute.{everything}
use Rattle.gr_store.specs.Selects.{desk_select, developer_select, resolution_select, choice_select, sponsor_select, ballot_select, ballot1_select}
use Rattle.gr_store.proofs.Connections.SelectRuns.{IsSelectText}
use Rattle.std.proofs.Common.{[], ◌∷◌, codes, refl, arith}
use Rattle.gr_store.specs.Schema.{desk_table, developer_table, resolution_table, choice_table, sponsor_table, ballot_table}
use Rattle.gr_store.specs.Schema.{ballot1_table}
use Rattle.gr_store.specs.Selects.{desk_select, developer_select, resolution_select, choice_select, sponsor_select, ballot_select}
use Rattle.gr_store.specs.Selects.{ballot1_select}
use Rattle.gr_store.proofs.Reading.CompiledSelects.{AsksForTable}

-- ---- each is a select

pub desk_selects : IsSelectText desk_select
unfolding everything
desk_selects = (refl, refl)

pub developer_selects : IsSelectText developer_select
unfolding everything
developer_selects = (refl, refl)

pub resolution_selects : IsSelectText resolution_select
unfolding everything
resolution_selects = (refl, refl)

pub choice_selects : IsSelectText choice_select
unfolding everything
choice_selects = (refl, refl)

pub sponsor_selects : IsSelectText sponsor_select
unfolding everything
sponsor_selects = (refl, refl)

pub ballot_selects : IsSelectText ballot_select
unfolding everything
ballot_selects = (refl, refl)

pub ballot1_selects : IsSelectText ballot1_select
unfolding everything
ballot1_selects = (refl, refl)

-- ---- the columns that each asks for

pub desk_asks : AsksForTable desk_select desk_table (codes "id" ∷ [])
unfolding everything
desk_asks = record {
  reads = refl;
  named = ((refl, refl), ((refl, refl), ((refl, refl), ((refl, refl), tt))));
  ordered = λ other has. (has.0, tt);
  few = omega arith;
}

pub developer_asks : AsksForTable developer_select developer_table (codes "login" ∷ [])
unfolding everything
developer_asks = record {
  reads = refl;
  named = ((refl, refl), ((refl, refl), ((refl, refl), tt)));
  ordered = λ other has. (has.0, tt);
  few = omega arith;
}

pub resolution_asks : AsksForTable resolution_select resolution_table (codes "number" ∷ [])
unfolding everything
resolution_asks = record {
  reads = refl;
  named =
      ((refl, refl), ((refl, refl), ((refl, refl), ((refl, refl), ((refl, refl), ((refl, refl), ((refl, refl), ((refl, refl), ((refl, refl), tt)))))))));
  ordered = λ other has. (has.0, tt);
  few = omega arith;
}

pub choice_asks : AsksForTable choice_select choice_table (codes "resolution" ∷ codes "number" ∷ [])
unfolding everything
choice_asks = record {
  reads = refl;
  named = (
    (refl, refl),
    (
      (refl, refl),
      (
        (refl, refl),
        (
          (refl, refl),
          (
            (refl, refl),
            ((refl, refl), ((refl, refl), ((refl, refl), ((refl, refl), ((refl, refl), tt))))),
          ),
        ),
      ),
    ),
  );
  ordered = λ other has. (has.0, (has.1.0, tt));
  few = omega arith;
}

pub sponsor_asks : AsksForTable sponsor_select sponsor_table (codes "resolution" ∷ codes "choice" ∷ codes "login" ∷ [])
unfolding everything
sponsor_asks = record {
  reads = refl;
  named = ((refl, refl), ((refl, refl), ((refl, refl), ((refl, refl), tt))));
  ordered = λ other has. (has.0, (has.1.0, (has.1.1.0, tt)));
  few = omega arith;
}

pub ballot_asks : AsksForTable ballot_select ballot_table (codes "resolution" ∷ codes "login" ∷ [])
unfolding everything
ballot_asks = record {
  reads = refl;
  named = ((refl, refl), ((refl, refl), ((refl, refl), ((refl, refl), ((refl, refl), tt)))));
  ordered = λ other has. (has.0, (has.1.0, tt));
  few = omega arith;
}

pub ballot1_asks : AsksForTable ballot1_select ballot1_table (codes "resolution" ∷ codes "login" ∷ [])
unfolding everything
ballot1_asks = record {
  reads = refl;
  named = ((refl, refl), ((refl, refl), ((refl, refl), ((refl, refl), tt))));
  ordered = λ other has. (has.0, (has.1.0, tt));
  few = omega arith;
}
