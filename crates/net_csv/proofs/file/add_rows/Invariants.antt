use Rattle.std.proofs.Common.{◌≡◌, ◌≤◌, ◌+◌, length}
use Rattle.net_csv.specs.Left.{IsReading, records_left, trimmed_left}
use Rattle.net_csv.specs.Reading.{read_rows, rows_from, rows_of}
use Rattle.net_check.specs.declared.TheConstants.{MAX_FILE_BYTES}
use Rattle.net_csv.proofs.file.add_rows.Given as goal

-- what is still to be read gives, from the network so far, what all rows give
abbrev pub invariant-rows : goal.invariant-rows
invariant-rows l = record {
  reading : IsReading l.reader;
  few : l.row + length (records_left l.reader) ≤ MAX_FILE_BYTES;
  same : read_rows l.fn.by l.fn.layout l.fn.net (rows_of (trimmed_left l.fn.reader))
      ≡ read_rows l.fn.by l.fn.layout l.net (rows_from (l.row + 1) (trimmed_left l.reader));
}

abbrev pub decreases-rows : goal.decreases-rows
decreases-rows l = length (records_left l.reader)
