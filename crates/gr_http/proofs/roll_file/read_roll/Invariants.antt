use Rattle.std.proofs.Common.{◌≡◌, ◌+◌, length, map, vec_len}
use Rattle.gr_core.specs.Machine.Import.{roll_row}
use Rattle.gr_http.specs.Records.{IsBetweenRecords, records_left, unread}
use Rattle.gr_http.specs.RollFile.{roll_in, rows_from}
use Rattle.gr_http.proofs.RollFileRows.{behind}
use Rattle.gr_http.proofs.roll_file.read_roll.Given as goal

-- the rows so far and those of the records that are left are the rows of the file
abbrev pub invariant-loop-rows : goal.invariant-loop-rows
invariant-loop-rows l = record {
  between : IsBetweenRecords l.reader;
  rest : roll_in l.bytes ≡ behind (map roll_row l.rows.items) (rows_from (vec_len l.rows + 2) (records_left l.reader));
}

abbrev pub decreases-loop-rows : goal.decreases-loop-rows
decreases-loop-rows l = length (unread l.reader)
