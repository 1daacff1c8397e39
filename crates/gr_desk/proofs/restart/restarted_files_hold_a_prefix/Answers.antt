use Rattle.std.proofs.Common.{subst}
use Rattle.std.proofs.Math.Logic.{∥∥₁_map}
use Rattle.sqlite_wal.specs.Files.{image_at}
use Rattle.gr_core.specs.Desks.State.{State}
use Rattle.gr_store.specs.Faults.{IsOfStore}
use Rattle.gr_office.specs.Crash.{IsAfterPrefix}
use Rattle.gr_office.proofs.HistoryLemmas.{valid_after}
use Rattle.gr_office.specs.Office.{ShowsSheet}
use Rattle.gr_desk.specs.Openings.{HasStill}
use Rattle.gr_desk.specs.Restart.{IsFoundWith}
use Rattle.gr_desk.proofs.restart.restarted_files_hold_a_prefix.Goals as goal

pub returns-clause-found : goal.returns-clause-found
returns-clause-found g c clean s start attempts stop now =
    let before = c.in-Ok.office in
    let asked = c.args.asked in
    let coming = g.I.Input.coming c.args.input.now in
    let old = g.O.Output.written c.args.output.now in
    let new = g.O.Output.written c.shown_and_answered-office.new.output in
    let (after, sheet, served) = c.shown_and_answered-office.result in
    let said = c.shown_and_answered-office.ensures in
    let was = said.clean now in
    ∥∥₁_map (c.stopped_files_hold_a_prefix-ended.ensures.stopped clean s attempts (image_at g.T.Start) stop) (λ held.
    let (t, prefix, leaves) = held.2 in
    let valid = valid_after c.lifted_desks_are_valid.ensures c.commands_keep_a_desk_valid.ensures s t attempts start prefix in
    let opened = c.in-Ok.ensures.held was held.0 held.1 t valid leaves in
    let found : (t : State) × IsAfterPrefix s attempts t × IsFoundWith t asked coming old new
    (record { office = after; sheet = sheet; served = served })
    = (
      t,
      prefix,
      record {
        opened = before;
        with_state = opened;
        shows = subst (λ desk. ShowsSheet desk asked.kind asked.number sheet) opened.desk said.shows;
        answered = said.answered;
      },
    ) in found)

pub returns-in-Err-clause-failed : goal.returns-in-Err-clause-failed
returns-in-Err-clause-failed g c clean s start attempts stop now =
    let e = c.in-Err.no_office in
    ∥∥₁_map (c.stopped_files_hold_a_prefix-ended.ensures.stopped clean s attempts (image_at g.T.Start) stop) (λ held.
    let (t, prefix, leaves) = held.2 in
    let valid = valid_after c.lifted_desks_are_valid.ensures c.commands_keep_a_desk_valid.ensures s t attempts start prefix in
    let (of_store, has) = c.in-Err.ensures.valid now held.0 held.1 t valid leaves in
    let left : (t : State) × IsAfterPrefix s attempts t × IsOfStore e.fault × HasStill (image_at g.T.Start) t e.left
    = (t, prefix, of_store, has) in left)
