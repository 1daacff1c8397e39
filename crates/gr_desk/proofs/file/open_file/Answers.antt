use Rattle.std.proofs.Common.{◌≡◌, ◌∙◌, ap, sym, subst, inl}
use Rattle.gr_store.specs.Commits.{LeavesDesk}
use Rattle.gr_office.proofs.OpenLemmas.{was_clean}
use Rattle.sqlite_wal.specs.Files.{image_at}
use Rattle.sqlite.specs.Files.{file_state, IsOpened}
use Rattle.sqlite.specs.State.{HasCleanDisk}
use Rattle.gr_desk.proofs.OpeningLemmas.{handed_on, unconnected_has, unconnected_unopened}
use Rattle.gr_desk.proofs.file.open_file.Goals as goal

pub returns-in-Ok-clause-held : goal.returns-in-Ok-clause-held
returns-in-Ok-clause-held g c clean db holds s valid leaves =
    let conn = c.in_ok-conn.conn in
    let was : HasCleanDisk (file_state conn) = c.in-Ok.ensures.clean clean in
    let opened : IsOpened conn = c.in_ok-conn.ensures.opened was in
    let there : (file_state conn).now.trees ≡ db
    = ap (λ d. d.trees) opened.0.clean ∙ (c.in_ok-conn.ensures.found was).holds db holds in
    c.in-Ok.ensures.held clean opened.0 s valid (subst (LeavesDesk s) (sym there) leaves)

pub returns-in-Err-clause-faults : goal.returns-in-Err-clause-faults
returns-in-Err-clause-faults g c = rw c.from.ensures c.in-Err.ensures.faults

pub returns-in-Err-clause-failed : goal.returns-in-Err-clause-failed
returns-in-Err-clause-failed g c = rw c.from.ensures (
  c.in_ok-conn.conn,
  record {
    fresh = c.in_ok-conn.ensures.fresh;
    opened = c.in_ok-conn.ensures.opened;
    found = c.in_ok-conn.ensures.found;
  },
  c.in-Err.ensures.failed,
)

pub returns-in-Err-clause-valid : goal.returns-in-Err-clause-valid
returns-in-Err-clause-valid g c = rw c.from.ensures λ clean db holds s valid leaves.
    let conn = c.in_ok-conn.conn in
    let was : HasCleanDisk (file_state conn) = was_clean _ _ c.in-Err.ensures.failed.wrote_nothing clean in
    let opened : IsOpened conn = c.in_ok-conn.ensures.opened was in
    let there : (file_state conn).now.trees ≡ db
    = ap (λ d. d.trees) opened.0.clean ∙ (c.in_ok-conn.ensures.found was).holds db holds in
    c.in-Err.ensures.valid clean opened.0 s valid (subst (LeavesDesk s) (sym there) leaves)

pub returns-in_err-conn-clause-faults : goal.returns-in_err-conn-clause-faults
returns-in_err-conn-clause-faults g c =
    handed_on _ c.from_residual.result c.in_err-conn.field-0.0 c.from_residual.ensures.1 (inl (inl (inl c.in_err-conn.ensures.faults)))

pub returns-in_err-conn-clause-failed : goal.returns-in_err-conn-clause-failed
returns-in_err-conn-clause-failed g c =
    handed_on _ c.from_residual.result c.in_err-conn.field-0.0 c.from_residual.ensures.1
    (unconnected_unopened (image_at g.S.Start) _ _ c.in_err-conn.ensures.failed)

pub returns-in_err-conn-clause-valid : goal.returns-in_err-conn-clause-valid
returns-in_err-conn-clause-valid g c =
    handed_on _ c.from_residual.result c.in_err-conn.field-0.0 c.from_residual.ensures.1
    (λ clean db holds s valid leaves.
    unconnected_has (image_at g.S.Start) db s _ _ holds leaves c.in_err-conn.ensures.failed clean)
