-- A printed file, read record by record.
use Rattle.std.proofs.Common.{◌≡◌, ◌∙◌, ℕ, false, List, [], ◌∷◌, ◌++◌, map, Some, refl, sym, ap}
use Rattle.std.specs.List.{AllByRecursion, flat_map, join_with_byte, list_any}
use Rattle.std.proofs.lemmas.Bool.{or_parts}
use Rattle.std.proofs.lemmas.List.{append-nil}
use Rattle.std.proofs.lemmas.List.Concat.{flat_map-cons}
use Rattle.csv.specs.Machine.{next_record}
use Rattle.csv.specs.Reading.{records, default_config, strip_bom}
use Rattle.csv.specs.Writing.{default_writer, fields_text, needs_byte, row_text, is_blank}
use Rattle.csv.specs.declared.parser.State.TheVariants as st
use Rattle.csv.proofs.RoundTrip.{read-write-many}
use Rattle.clr_net.specs.Lines.{line}
use Rattle.net_csv.specs.Left.{records_after}
use Rattle.net_csv.specs.Reading.{Fields}
use Rattle.net_csv.proofs.Left.{records-some, records-none}
use Rattle.net_csv.proofs.PlainFields.{IsPlain}

-- each field calls for no quotes
abbrev pub ArePlain : Fields → Type 0
ArePlain fields = AllByRecursion IsPlain fields

-- a record of two fields or more that need no quotes
pub record IsRow (fields : Fields) : Type 0 where
  pub first : List ℕ
  pub second : List ℕ
  pub others : Fields
  pub are : fields ≡ first ∷ second ∷ others
  pub plain : ArePlain (first ∷ second ∷ others)

-- words that call for no quotes, by a test
plain_words : (words : Fields) → list_any (list_any (needs_byte default_writer)) words ≡ false → ArePlain words
plain_words [] h = tt
plain_words (x ∷ rest) h =
    let parts = or_parts (list_any (needs_byte default_writer) x)
    (list_any (list_any (needs_byte default_writer)) rest) h in
    (record { unquoted = parts.0 }, plain_words rest parts.1)

-- two fields or more of which none has a byte that calls for quotes are a record as printed
pub word_row : (first second : List ℕ) (others : Fields) → list_any (list_any (needs_byte default_writer)) (first ∷ second ∷ others) ≡ false
    → IsRow (first ∷ second ∷ others)
word_row first second others h =
    record { first = first; second = second; others = others; are = refl; plain = plain_words (first ∷ second ∷ others) h }

-- fields joined by commas are the text that a writer of records makes
joined-text : (x : List ℕ) (rest : Fields) → ArePlain (x ∷ rest) → join_with_byte 44 (x ∷ rest) ≡ x ++ fields_text default_writer rest
unfolding fields_text
joined-text x [] plain = sym (append-nil x)
joined-text x (y ∷ ys) plain =
    rw plain.1.0.unquoted (ap (λ t. x ++ (44 ∷ t)) (joined-text y ys plain.1))

-- a line of plain fields is what a writer of records makes of them
line-row : (x y : List ℕ) (rest : Fields) → ArePlain (x ∷ y ∷ rest) → line (x ∷ y ∷ rest) ≡ row_text default_writer (x ∷ y ∷ rest)
unfolding is_blank
line-row x y rest plain = rw plain.0.unquoted (ap (λ t. t ++ 10 ∷ []) (joined-text x (y ∷ rest) plain))

-- a line is read as its record
read_line : (fields : Fields) (tail : List ℕ) → IsRow fields
    → next_record default_config st.StartRecord [] [] (line fields ++ tail) ≡ Some (fields, st.StartRecord, tail)
read_line fields tail row =
    rw row.are (rw (line-row row.first row.second row.others row.plain) (read-write-many row.first row.second row.others tail))

-- each record is such
abbrev pub AreRows : List Fields → Type 0
AreRows rows = AllByRecursion IsRow rows

-- lines printed one after another are read as their records
read_lines : (rows : List Fields) → AreRows rows → records_after st.StartRecord (Some (flat_map line rows)) ≡ rows
unfolding next_record
read_lines [] all = records-none st.StartRecord [] refl
read_lines (fields ∷ rest) all =
    rw (flat_map-cons line fields rest)
    (records-some st.StartRecord (line fields ++ flat_map line rest) (fields, st.StartRecord, flat_map line rest) refl (read_line fields (flat_map line rest) all.0)
    ∙ ap (λ t. fields ∷ t) (read_lines rest all.1))

-- lines made of other things
pub lines-map : {X : Type 0} (fields_of : X → Fields) (line_of : X → List ℕ) → ((x : X) → line_of x ≡ line (fields_of x)) → (xs : List X)
    → flat_map line_of xs ≡ flat_map line (map fields_of xs)
lines-map fields_of line_of each [] = refl
lines-map fields_of line_of each (x ∷ xs) =
    rw (flat_map-cons line_of x xs, flat_map-cons line (fields_of x) (map fields_of xs), each x, lines-map fields_of line_of each xs) refl

-- the records of a header and lines
pub read_printed : (header : Fields) (rows : List Fields) → IsRow header → AreRows rows
    → strip_bom (line header ++ flat_map line rows) ≡ line header ++ flat_map line rows
    → records default_config (strip_bom (line header ++ flat_map line rows)) ≡ header ∷ rows
read_printed header rows head all no_mark =
    ap (records default_config) (no_mark ∙ sym (flat_map-cons line header rows)) ∙ read_lines (header ∷ rows) (head, all)
