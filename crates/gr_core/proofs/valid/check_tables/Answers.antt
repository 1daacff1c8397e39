use Rattle.std.proofs.Common.{Ok, Err, Result, IsOk, OnOk, refl}
use Rattle.gr_core.specs.Desks.Valid.{AreTables}
use Rattle.gr_core.proofs.valid.check_tables.Goals as goal

on_ok : {A E : Type 0} (P : Type 0) (r : Result A E) → (IsOk r → P) → OnOk r P
on_ok P (Ok x) p = p refl
on_ok P (Err e) p = tt

pub returns-clause-tables : goal.returns-clause-tables
returns-clause-tables c =
    let developers = c.are_developers.ensures.0 (c.in_ok-hold-2.ensures.0 refl) in
    on_ok (AreTables c.args.tables.now.header.clock c.args.tables.now) c.hold-7.result (λ ok. record {
      few = developers.0;
      developers = developers.1;
      numbered = c.are_numbered.ensures.0 (c.in_ok-hold-3.ensures.0 refl);
      resolutions = c.are_resolutions.ensures.0 (c.in_ok-hold-4.ensures.0 refl);
      choices = c.are_choices.ensures.0 (c.in_ok-hold-5.ensures.0 refl);
      sponsors = c.are_sponsors.ensures.0 (c.in_ok-hold-6.ensures.0 refl);
    })

pub returns-clause-ballots : goal.returns-clause-ballots
returns-clause-ballots c = on_ok _ c.hold-7.result (λ ok. c.are_ballots.ensures.0 (c.hold-7.ensures.0 ok))
