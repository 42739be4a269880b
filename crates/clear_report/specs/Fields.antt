-- The fields of a line, as bytes.
use Rattle.std.specs.Prelude.{ℕ, List}
use Rattle.std.specs.Fmt.{decimal}
use Rattle.clear_report.specs.declared.line.Field.{Field}
use Rattle.clear_report.specs.declared.line.Field.TheVariants as field

-- the bytes of a field
abbrev pub bytes_of : Field → List ℕ
bytes_of (field.Word word) = word.now
bytes_of (field.Number n) = decimal n
bytes_of (field.Sum n) = decimal n
