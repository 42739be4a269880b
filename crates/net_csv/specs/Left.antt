-- The records that a reader of a text in memory has left.
use Rattle.std.specs.Prelude.{◌≡◌, ℕ, ◌+◌, true, false, List, [], length, map, Option, Some, None}
use Rattle.std.specs.Borrow.{Bor}
use Rattle.csv.specs.Machine.{ends_at_end}
use Rattle.csv.specs.Reading.{records_from, source_of, default_config, reader_config, reader_trim, reader_state, is_flexible, Ready}
use Rattle.csv.specs.declared.error.ErrorKind.{ErrorKind}
use Rattle.csv.specs.declared.error.ErrorKind.TheVariants as kind
use Rattle.csv.specs.declared.parser.State.{State}
use Rattle.csv.specs.declared.reader.Reader.{Reader}
use Rattle.csv.specs.declared.reader.Trim.TheVariants as trim
use Rattle.net_csv.specs.Reading.{trimmed_fields}

-- the text that a reader has left
abbrev pub text_left : Reader (Bor (List ℕ)) → Option (List ℕ)
text_left reader = source_of (λ text. Some text.now) reader

-- the records of a text from a state between two records
abbrev pub records_after : State → Option (List ℕ) → List (List (List ℕ))
records_after s None = []
records_after s (Some text) = records_from default_config (length text + 1) s text

-- the records that a reader has left
abbrev pub records_left : Reader (Bor (List ℕ)) → List (List (List ℕ))
records_left reader = records_after (reader_state reader) (text_left reader)

-- the same, each field without the spaces and tabs at its ends
abbrev pub trimmed_left : Reader (Bor (List ℕ)) → List (List (List ℕ))
trimmed_left reader = map trimmed_fields (records_left reader)

-- a reader between two records of a text, with the default format, that leaves fields as they are
-- and takes records of any number of fields
pub record IsReading (reader : Reader (Bor (List ℕ))) : Type 0 where
  pub by_default : reader_config reader ≡ default_config
  pub untrimmed : reader_trim reader ≡ trim.None
  pub flexible : is_flexible reader ≡ true
  pub ready : Ready reader
  pub between : ends_at_end (reader_state reader) ≡ false
  pub text : List ℕ
  pub text_is : text_left reader ≡ Some text

-- an error that may come where a text in memory is read: want of memory, and what `csv` does not
-- exclude
abbrev pub MayCome : ErrorKind → Type 0
MayCome kind.OutOfMemory = Unit {0}
MayCome (kind.Io e) = Unit {0}
MayCome (kind.Utf8 pos err) = ⊥
MayCome (kind.UnequalLengths pos expected len) = ⊥
MayCome (kind.Serialize text) = ⊥
MayCome (kind.Deserialize pos err) = ⊥
