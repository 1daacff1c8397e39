use Rattle.std.proofs.Common.{◌≡◌, Some, inl, inr, refl, subst}
use Rattle.std.specs.Prelude.{⊤, MatchOption}
use Rattle.gr_desk.specs.Connections.{between}
use Rattle.gr_desk.specs.Lines.{IsUnheard, Stopped, Unheard}
use Rattle.gr_desk.proofs.LineLemmas.{at_moments, clean_connections, desk_at, of_moments, same_clean, serve_unopened}
use Rattle.gr_desk.proofs.ServeLemmas.{calls_of}
use Rattle.gr_desk.proofs.serve.serve.Goals as goal

pub returns-in-Err-listen-clause-does : goal.returns-in-Err-listen-clause-does
returns-in-Err-listen-clause-does g c =
    let office = c.in-Ok.office in
    Unheard (record {
      office = office;
      failure = c.in-Err-listen.failure;
      desk = desk_at g.H.Store.Store _ _ office office.conn c.connection_of.result c.in-Ok.ensures.desk
          (same_clean g.H.Store.Store c.connection_of.result office.conn c.connection_of.ensures.same);
      failed = refl;
      unheard = subst
          (λ known. IsUnheard known c.args.port (g.O.Output.written c.args.output.now)
          (g.O.Output.written c.listen.new.output) c.in-Err-listen.failure)
          (c.in-Ok.ensures.others.1 c.args.port) c.in-Err-listen.ensures.failed;
      left = c.connection_of.ensures.same;
    })

pub returns-in-Err-clause-does : goal.returns-in-Err-clause-does
returns-in-Err-clause-does g c =
    let unopened = c.in-Err.unopened in
    serve_unopened g.H.Store.Store (g.H.Host.known c.args.host.now) c.args.file.now _ _ c.args.port c.args.count
    (g.O.Output.written c.args.output.now) unopened.failure unopened.ending c.in-Err.ensures.unopened

pub returns-in-Ok-serve_all-clause-does : goal.returns-in-Ok-serve_all-clause-does
returns-in-Ok-serve_all-clause-does g c =
    let store = g.H.Store.Store in
    let before = c.in-Ok.office in
    let after = c.serve_all.new.office in
    let first = between before (g.H.Door.Door.awaited c.in-Ok-listen.listening.1) (g.H.Door.Door.ended c.in-Ok-listen.listening.1) in
    let last = between after (g.H.Door.Door.awaited c.serve_all.new.door) (g.H.Door.Door.ended c.serve_all.new.door) in
    let served = c.in-Ok-serve_all.ensures.served in
    let calls = calls_of store _ first last served.0 served.1 in (
      refl,
      record {
        before = before;
        after = after;
        first = first;
        betweens = served.0;
        last = last;
        desk = desk_at store _ _ before before.conn c.connection_of-in-Ok-serve_all.result c.in-Ok.ensures.desk
            (λ clean. clean_connections store _ first last served.0 served.1
            (same_clean store c.connection_of-in-Ok-serve_all.result after.conn c.connection_of-in-Ok-serve_all.ensures.same clean));
        says = c.in-Ok-listen.ensures.listens.0;
        at_first = refl;
        come = subst (λ known. MatchOption known ⊤ (λ all. g.H.Door.Door.awaited c.in-Ok-listen.listening.1 ≡ Some all))
            (c.in-Ok.ensures.others.1 c.args.port) c.in-Ok-listen.ensures.listens.1;
        connections = at_moments store _ _ (λ t is. is) first last served.0 served.1;
        at_last = refl;
        attempts = calls.0;
        made = calls.1;
        its = of_moments store _ _ (λ t is. is) first served.0 calls.0 calls.2;
        all = served.2;
        failed = tt;
        left = c.connection_of-in-Ok-serve_all.ensures.same;
      },
    )

pub returns-clause-does : goal.returns-clause-does
returns-clause-does g c =
    let store = g.H.Store.Store in
    let before = c.in-Ok.office in
    let after = c.serve_all.new.office in
    let first = between before (g.H.Door.Door.awaited c.in-Ok-listen.listening.1) (g.H.Door.Door.ended c.in-Ok-listen.listening.1) in
    let last = between after (g.H.Door.Door.awaited c.serve_all.new.door) (g.H.Door.Door.ended c.serve_all.new.door) in
    let served = c.in-Err-serve_all.ensures.served in
    let calls = calls_of store _ first last served.0 served.1 in
    Stopped refl
    (record {
      before = before;
      after = after;
      first = first;
      betweens = served.0;
      last = last;
      desk = desk_at store _ _ before before.conn c.connection_of-in-Err-serve_all.result c.in-Ok.ensures.desk
          (λ clean. clean_connections store _ first last served.0 served.1
          (same_clean store c.connection_of-in-Err-serve_all.result after.conn c.connection_of-in-Err-serve_all.ensures.same clean));
      says = c.in-Ok-listen.ensures.listens.0;
      at_first = refl;
      come = subst (λ known. MatchOption known ⊤ (λ all. g.H.Door.Door.awaited c.in-Ok-listen.listening.1 ≡ Some all))
          (c.in-Ok.ensures.others.1 c.args.port) c.in-Ok-listen.ensures.listens.1;
      connections = at_moments store _ _ (λ t is. is) first last served.0 served.1;
      at_last = refl;
      attempts = calls.0;
      made = calls.1;
      its = of_moments store _ _ (λ t is. is) first served.0 calls.0 calls.2;
      all = tt;
      failed = elim c.in-Err-serve_all.ensures.caused
          [ inl none ↦ inl (none.0, (none.1, c.serve_all.new.door, none.2, refl, refl)) | inr closed ↦ inr closed ];
      left = c.connection_of-in-Err-serve_all.ensures.same;
    })
