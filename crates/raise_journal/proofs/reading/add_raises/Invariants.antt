use Rattle.std.proofs.Common.{◌≡◌, ◌≤◌, ◌<◌, ◌+◌, [], length, All}
use Rattle.net_csv.specs.Left.{IsReading, records_left, trimmed_left}
use Rattle.net_csv.specs.Reading.{rows_from}
use Rattle.raise_journal.specs.ReadJournal.{read_raises}
use Rattle.net_check.specs.declared.TheConstants.{MAX_JOURNAL_BYTES}
use Rattle.raise_journal.proofs.reading.add_raises.Given as goal

-- what is still to be read gives, after the raises so far, what all that was left gives
abbrev pub invariant-rows : goal.invariant-rows
invariant-rows l = record {
  reading : IsReading l.reader;
  few : l.row + length (records_left l.reader) ≤ MAX_JOURNAL_BYTES;
  same : read_raises l.fn.by l.net [] (rows_from 1 (trimmed_left l.fn.reader))
      ≡ read_raises l.fn.by l.net l.journal.raises (rows_from (l.row + 1) (trimmed_left l.reader));
  debts : All (λ r. r.debt.0 < length l.net.debts) l.journal.raises;
}

abbrev pub decreases-rows : goal.decreases-rows
decreases-rows l = length (records_left l.reader)
