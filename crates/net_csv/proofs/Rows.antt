-- A file read row by row.
use Rattle.std.proofs.Common.{◌≡◌, ◌↔◌, ◌∙◌, ℕ, suc, ◌+◌, ◌≤◌, not, true, false, length, map}
use Rattle.std.proofs.Common.{List, [], ◌∷◌, ◌++◌, Result, Ok, Err, refl, ap, arith}
use Rattle.std.specs.List.{enumerate_from}
use Rattle.std.proofs.lemmas.List.{length-map}
use Rattle.std.proofs.lemmas.List.Elements.{filter-append}
use Rattle.csv.specs.Reading.{records, default_config, strip_bom}
use Rattle.net_csv.proofs.Left.{length-records}
use Rattle.clr_net.specs.Net.{Net}
use Rattle.net_check.specs.Checks.{and_then}
use Rattle.net_check.specs.Field.{are_words}
use Rattle.net_check.specs.Record.{fault_at}
use Rattle.net_check.specs.declared.fault.FaultKind.TheVariants as fault
use Rattle.net_check.specs.declared.fault.Fault.{Fault}
use Rattle.net_check.specs.declared.fault.FileKind.{FileKind}
use Rattle.net_check.specs.declared.limits.Limits.{Limits}
use Rattle.net_check.proofs.Passed.{fault_unless-ok}
use Rattle.net_csv.specs.declared.layout.Layout.{Layout}
use Rattle.net_csv.specs.Reading.{Fields, trimmed_fields, is_blank, rows_from, records_of}
use Rattle.net_csv.specs.Reading.{below_header, header, file_of, with_row, read_rows, with_file}

-- the first record's row, and then those after it
rows_from-cons : (row : ℕ) (fields : Fields) (rest : List Fields)
    → rows_from row (fields ∷ rest) ≡ rows_from row (fields ∷ []) ++ rows_from (row + 1) rest
rows_from-cons row fields rest =
    filter-append (λ r. not (is_blank r.1)) ((row, fields) ∷ []) (enumerate_from (row + 1) rest)

-- rows read after others
and_then-then : (a : Result Net Fault) (first both more : Net → Result Net Fault)
    → ((x : Net) → both x ≡ and_then (first x) more) → and_then a both ≡ and_then (and_then a first) more
and_then-then (Ok x) first both more each = each x
and_then-then (Err f) first both more each = refl

-- rows read after others go on from the network that those gave
read_rows-append : (by : Limits) (l : Layout) (net : Net) (xs ys : List (ℕ × Fields))
    → read_rows by l net (xs ++ ys)
    ≡ and_then (read_rows by l net xs) (λ next. read_rows by l next ys)
unfolding read_rows
read_rows-append by l net [] ys = refl
read_rows-append by l net (r ∷ rest) ys =
    and_then-then (with_row by l net r) (λ next. read_rows by l next rest)
    (λ next. read_rows by l next (rest ++ ys)) (λ next. read_rows by l next ys)
    (λ next. read_rows-append by l next rest ys)

-- a blank record adds nothing
pub none_added : (by : Limits) (l : Layout) (net : Net) (row : ℕ) (fields : Fields)
    → is_blank fields ≡ true → read_rows by l net (rows_from row (fields ∷ [])) ≡ Ok net
unfolding read_rows
none_added by l net row fields blank = rw blank refl

-- another is what its row says
pub one_row : (by : Limits) (l : Layout) (net : Net) (row : ℕ) (fields : Fields)
    → is_blank fields ≡ false
    → read_rows by l net (rows_from row (fields ∷ [])) ≡ with_row by l net (row, fields)
unfolding read_rows
one_row by l net row fields full = rw full (grind arith)

-- a row has the fault of what it gives
pub fault_of_row : {A B E : Type 0} (r : Result A E) (f : A → B) (e : E)
    → (and_then r (λ a. Ok (f a)) ≡ Err e) ↔ (r ≡ Err e)
fault_of_row r f e = grind arith

-- what the first record says, and then the others
rows-next : (by : Limits) (l : Layout) (net : Net) (row : ℕ) (fields : Fields) (rest : List Fields)
    → read_rows by l net (rows_from row (fields ∷ rest))
    ≡ and_then (read_rows by l net (rows_from row (fields ∷ [])))
    (λ next. read_rows by l next (rows_from (row + 1) rest))
rows-next by l net row fields rest =
    ap (read_rows by l net) (rows_from-cons row fields rest)
    ∙ read_rows-append by l net (rows_from row (fields ∷ [])) (rows_from (row + 1) rest)

-- where the first record passes, the others are read beside what it added
pub rows-pass : (by : Limits) (l : Layout) (net next : Net) (row : ℕ) (fields : Fields)
    (rest : List Fields)
    → read_rows by l net (rows_from row (fields ∷ [])) ≡ Ok next
    → read_rows by l net (rows_from row (fields ∷ rest))
    ≡ read_rows by l next (rows_from (row + 1) rest)
rows-pass by l net next row fields rest e = rw (rows-next by l net row fields rest, e) refl

-- where the first record is at fault, its fault is the answer
pub rows-stop : (by : Limits) (l : Layout) (net : Net) (row : ℕ) (fields : Fields)
    (rest : List Fields) (f : Fault)
    → read_rows by l net (rows_from row (fields ∷ [])) ≡ Err f
    → read_rows by l net (rows_from row (fields ∷ rest)) ≡ Err f
rows-stop by l net row fields rest f e = rw (rows-next by l net row fields rest, e) refl

-- no record is left
pub rows-end : (by : Limits) (l : Layout) (net : Net) (row : ℕ)
    → read_rows by l net (rows_from row []) ≡ Ok net
unfolding read_rows
rows-end by l net row = refl

-- the header of a file, and then its rows
pub file-below : (by : Limits) (l : Layout) (bytes : List ℕ) (net : Net)
    (left below : List Fields) → left ≡ records_of bytes
    → below_header (file_of l) (header l) left ≡ Ok below
    → with_file by l bytes net ≡ read_rows by l net (rows_from 1 below)
file-below by l bytes net left below all e = rw (← all, e) refl

-- the records below the header are fewer than all records
below_header-fewer : (kind : FileKind) (header : Fields) (left below : List Fields) → below_header kind header left ≡ Ok below
    → length left ≡ suc (length below)
below_header-fewer kind header [] below e = absurd (cc e)
below_header-fewer kind header (fields ∷ rest) below e =
    let passed =
    fault_unless-ok (are_words header fields) (fault_at kind 0 fault.Header) (Ok rest) below e in
    let same : rest ≡ below = cc in
    ap (λ t. suc (length t)) same

-- and no more than the file has bytes
pub few_below : (kind : FileKind) (words : Fields) (bytes : List ℕ) (left below : List Fields)
    → left ≡ records default_config (strip_bom bytes) → below_header kind words (map trimmed_fields left) ≡ Ok (map trimmed_fields below)
    → length below ≤ length bytes
few_below kind words bytes left below all e =
    let fewer = below_header-fewer kind words (map trimmed_fields left) (map trimmed_fields below) e in
    let few = length-records bytes in
    let mapped = length-map left trimmed_fields in
    let mapped_too = length-map below trimmed_fields in
    let sizes = ap length all in
    omega arith
