-- A journal file read row by row.
use Rattle.std.proofs.Common.{⊎_elim}
use Rattle.std.proofs.lemmas.Bool.{cases_Bool}
use Rattle.std.proofs.lemmas.Bool.Decides.{nat_tests}
use Rattle.std.proofs.Common.{◌≡◌, ℕ, ◌+◌, ◌≤◌, ◌==◌, true, false, length, List, [], ◌∷◌, ◌++◌, Result, Ok, Err, refl, ap, arith}
use Rattle.std.specs.Prelude.{codes}
use Rattle.std.specs.List.{list_all}
use Rattle.std.specs.Option.{is_some}
use Rattle.std.specs.Str.{bytes_eq}
use Rattle.std.proofs.lemmas.Bool.{and_parts, le-leb}
use Rattle.std.proofs.lemmas.Slice.Eq.{bytes_eq-Decides}
use Rattle.clr_net.specs.Net.{Net}
use Rattle.clear_core.specs.declared.event.Raise.{Raise}
use Rattle.net_check.specs.Checks.{and_then}
use Rattle.net_check.specs.Field.{number_in}
use Rattle.net_check.specs.declared.fault.Fault.{Fault}
use Rattle.net_check.specs.declared.fault.FileKind.TheVariants as file
use Rattle.net_check.specs.declared.fault.FaultKind.TheVariants as fault
use Rattle.net_check.specs.Within.{most_journal_bytes}
use Rattle.net_check.specs.declared.limits.Limits.{Limits}
use Rattle.net_csv.specs.Reading.{Fields, is_blank, rows_from, below_header, records_of}
use Rattle.raise_journal.specs.Texts.{journal_header}
use Rattle.raise_journal.specs.ReadJournal.{raise_from, raise_in_row, is_closing, read_raises}
use Rattle.raise_journal.specs.ReadJournal.{added, closed_early_at, raises_in_file}
use Rattle.raise_journal.specs.ReadJournal.{journal_within}

-- a record that closes a journal is not blank
closing-full : (fields : Fields) → is_closing fields ≡ true → is_blank fields ≡ false
closing-full (word ∷ number ∷ []) e =
    let both = and_parts (bytes_eq word (codes "rounds")) (is_some (number_in number)) e in
    let same : word ≡ codes "rounds" = (bytes_eq-Decides word (codes "rounds")).0 both.0 in
    rw same refl
closing-full _ e = cc

-- and it has no raise
closing-none : (net : Net) (fields : Fields) → is_closing fields ≡ true → raise_from net fields ≡ Err fault.Fields
closing-none net (word ∷ number ∷ []) e = refl
closing-none net _ e = cc

-- read as a raise it would be a fault
closing-fault : (by : Limits) (net : Net) (raises row : ℕ) (fields : Fields)
    → is_closing fields ≡ true
    → raise_in_row by net raises (row, fields) ≡ Err (closed_early_at by raises row)
closing-fault by net raises row fields e = grind (arith, closing-none net fields e)

-- no row is left exactly where each record is blank
none_left : (row : ℕ) (rest : List Fields)
    → (length (rows_from row rest) == 0) ≡ list_all is_blank rest
none_left row [] = refl
none_left row (fields ∷ rest) = grind (arith, nat_tests, none_left (row + 1) rest)

-- the raise of one record, and then those of the others
raise-then : (r : Result Raise Fault) (f : Raise → Result (List Raise) Fault)
    (g : List Raise → Result (List Raise) Fault) (h : Raise → List Raise)
    → ((x : Raise) → f x ≡ g (h x)) → and_then r f ≡ and_then (and_then r (λ x. Ok (h x))) g
raise-then (Ok x) f g h e = e x
raise-then (Err k) f g h e = refl

-- a record that does not close is read, and then the others
pub raises-next : (by : Limits) (net : Net) (done : List Raise) (row : ℕ) (fields : Fields)
    (rest : List Fields) (next : Result (List Raise) Fault) → is_closing fields ≡ false
    → added by net done row fields ≡ next
    → read_raises by net done (rows_from row (fields ∷ rest))
    ≡ and_then next (λ n. read_raises by net n (rows_from (row + 1) rest))
unfolding read_raises
raises-next by net done row fields rest next kept e = rw (← e) (⊎_elim
    (λ (blank : is_blank fields ≡ true). rw blank)
    (λ (full : is_blank fields ≡ false). rw (full, kept)
    (raise-then (raise_in_row by net (length done) (row, fields))
    (λ x. read_raises by net (done ++ x ∷ []) (rows_from (row + 1) rest))
    (λ n. read_raises by net n (rows_from (row + 1) rest)) (λ x. done ++ x ∷ []) (λ x. refl)))
    (cases_Bool (is_blank fields)))

-- the closing record, last or not
pub raises-closed : (by : Limits) (net : Net) (done : List Raise) (row : ℕ) (fields : Fields)
    (rest : List Fields) → is_closing fields ≡ true → list_all is_blank rest ≡ true
    → read_raises by net done (rows_from row (fields ∷ rest)) ≡ Ok done
unfolding read_raises
raises-closed by net done row fields rest closing blank =
    rw (closing-full fields closing, closing, none_left (row + 1) rest, blank) refl

-- the fault where records follow it that are not blank
pub raises-closed_early : (by : Limits) (net : Net) (done : List Raise) (row : ℕ)
    (fields : Fields) (rest : List Fields) → is_closing fields ≡ true
    → list_all is_blank rest ≡ false
    → read_raises by net done (rows_from row (fields ∷ rest))
    ≡ Err (closed_early_at by (length done) row)
unfolding read_raises
raises-closed_early by net done row fields rest closing full =
    rw (closing-full fields closing, closing, none_left (row + 1) rest, full)
    (ap (λ (r : Result Raise Fault). and_then r
    (λ x. read_raises by net (done ++ x ∷ []) (rows_from (row + 1) rest)))
    (closing-fault by net (length done) row fields closing))

-- no record is left
pub raises-end : (by : Limits) (net : Net) (done : List Raise) (row : ℕ)
    → read_raises by net done (rows_from row []) ≡ Ok done
unfolding read_raises
raises-end by net done row = refl

-- the header of a file, and then its rows
pub raises-below : (by : Limits) (net : Net) (bytes : List ℕ) (left below : List Fields)
    → left ≡ records_of bytes → below_header file.Journal journal_header left ≡ Ok below
    → raises_in_file by net bytes ≡ read_raises by net [] (rows_from 1 below)
raises-below by net bytes left below all e = rw (← all, e) refl

-- a file within its size means what its records mean
pub journal-sized : (by : Limits) (net : Net) (bytes : List ℕ) (r : Result (List Raise) Fault)
    → length bytes ≤ most_journal_bytes by → raises_in_file by net bytes ≡ r
    → journal_within by net bytes ≡ r
journal-sized by net bytes r small e =
    rw (le-leb (length bytes) (most_journal_bytes by) small) e
