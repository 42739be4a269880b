use Rattle.std.proofs.Common.{◌≡◌, ◌++◌, map, take}
use Rattle.clear_report.specs.Fields.{bytes_of}
use Rattle.clear_report.specs.Words.{with_commas}
use Rattle.clear_report.proofs.line.push_fields.Given as goal

abbrev pub invariant-loop-field : goal.invariant-loop-field
invariant-loop-field l = l.text.items ≡ l.fn.text.items
    ++ with_commas (map bytes_of (take l.field-index l.fields))
