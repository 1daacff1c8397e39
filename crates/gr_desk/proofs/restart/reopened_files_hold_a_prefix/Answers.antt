use Rattle.std.proofs.Common.{Result, Ok, Err}
use Rattle.std.proofs.Math.Logic.{∥∥₁_map}
use Rattle.std.specs.Prelude.{IfErr}
use Rattle.sqlite_wal.specs.Files.{image_at}
use Rattle.sqlite.specs.Files.{over_files}
use Rattle.gr_core.specs.Desks.State.{State}
use Rattle.gr_store.specs.Faults.{IsOfStore}
use Rattle.gr_office.specs.Crash.{IsAfterPrefix}
use Rattle.gr_office.specs.Office.{IsOpenWith}
use Rattle.gr_office.proofs.HistoryLemmas.{valid_after}
use Rattle.gr_desk.specs.Openings.{HasStill}
use Rattle.gr_desk.proofs.AnswerLemmas.{IfOk-map}
use Rattle.gr_desk.proofs.restart.reopened_files_hold_a_prefix.Goals as goal

IfErr-map : {A E : Type 0} {P Q : E → Type 0} (r : Result A E) → ((e : E) → P e → Q e) → IfErr r P → IfErr r Q
IfErr-map (Ok x) f p = tt
IfErr-map (Err e) f p = f e p

pub returns-clause-opened : goal.returns-clause-opened
returns-clause-opened g c clean attempts stop =
    let s = c.args.first.now in
    IfOk-map c.open_file.result (λ office held now.
    ∥∥₁_map (c.stopped_files_hold_a_prefix-ended.ensures.stopped clean s attempts (image_at g.T.Start) stop) (λ it.
    let (t, prefix, leaves) = it.2 in
    let valid = valid_after c.lifted_desks_are_valid.ensures c.commands_keep_a_desk_valid.ensures s t attempts c.desks_are_starts.ensures prefix in
    let opened : (t : State) × IsAfterPrefix s attempts t × IsOpenWith over_files t office
    = (t, prefix, held now it.0 it.1 t valid leaves) in opened)) c.open_file.ensures.held

pub returns-clause-failed : goal.returns-clause-failed
returns-clause-failed g c clean attempts stop =
    let s = c.args.first.now in
    IfErr-map c.open_file.result (λ e fails now.
    ∥∥₁_map (c.stopped_files_hold_a_prefix-ended.ensures.stopped clean s attempts (image_at g.T.Start) stop) (λ it.
    let (t, prefix, leaves) = it.2 in
    let valid = valid_after c.lifted_desks_are_valid.ensures c.commands_keep_a_desk_valid.ensures s t attempts c.desks_are_starts.ensures prefix in
    let (of_store, has) = fails now it.0 it.1 t valid leaves in
    let left : (t : State) × IsAfterPrefix s attempts t × IsOfStore e.fault × HasStill (image_at g.T.Start) t e.left
    = (t, prefix, of_store, has) in left)) c.open_file.ensures.valid
