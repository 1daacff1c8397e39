use Rattle.gr_core.specs.Columns.Stored.{DeskTable}
use Rattle.gr_core.proofs.Validity.LiftedLemmas.{rows1_tell}
use Rattle.gr_store.proofs.StoredDesks.TreesAndAnswers.{same_rows1}
use Rattle.gr_store.proofs.Reading.RightTables.{right_columns1}
use Rattle.gr_store.proofs.laws.one_desk_of_version_1_is_held.Goals as goal

pub returns : goal.returns
returns c db has s t sound valid held holds =
    rows1_tell s t held.rows sound valid held.are
    (same_rows1 t db held.rows (right_columns1 db has) holds (held.selected DeskTable) (λ name other. held.selected name))
