-- A printed network is read back as it was.
use Rattle.std.proofs.Common.{◌≡◌, ◌∙◌, ◌<◌, ◌≤◌, ◌+◌, ◌*◌, ◌==◌, ℕ, Bool, true, false, List, []}
use Rattle.std.proofs.Common.{◌∷◌, ◌++◌, length, map, sum_by, Result, Ok, refl, sym, ap, arith}
use Rattle.std.proofs.Common.{append_assoc, if◌then◌else◌}
use Rattle.std.specs.Prelude.{codes}
use Rattle.std.specs.List.{flat_map, list_all}
use Rattle.std.proofs.lemmas.Bool.{eqb-true}
use Rattle.std.proofs.lemmas.List.{append-nil, length-append, length-map}
use Rattle.std.proofs.lemmas.Option.{slice_get_within, get_or_from_slice_get}
use Rattle.std.proofs.lemmas.List.Sums.{AllPass-from_list_all, sum_by-append, sum_by-cons}
use Rattle.csv.specs.Reading.{strip_bom}
use Rattle.clr_net.specs.Lines.{line}
use Rattle.clr_net.specs.Net.{Net, empty_net, units_owed, with_bank, with_debt}
use Rattle.clr_net.specs.Limits.{IsNetwork}
use Rattle.clr_net.specs.declared.bank.Bank.{Bank}
use Rattle.clr_net.specs.declared.debt.Debt.{Debt}
use Rattle.net_check.specs.Checks.{and_then}
use Rattle.net_check.specs.Field.{trimmed_start}
use Rattle.net_check.specs.Within.{file_limit, most_banks, most_debts, most_owed, IsWithin}
use Rattle.net_check.specs.declared.fault.Fault.{Fault}
use Rattle.net_check.specs.declared.fault.FileKind.TheVariants as file
use Rattle.net_check.specs.declared.limits.Limits.{Limits}
use Rattle.net_check.specs.declared.limits.Limits.TheVariants as limits
use Rattle.net_check.proofs.Passed.{and_then-ok}
use Rattle.net_csv.specs.Printing.{bank_fields, debt_fields, banks_text_in, banks_text_2}
use Rattle.net_csv.specs.Printing.{banks_text, debts_text, version_for, KeepsNames}
use Rattle.net_csv.specs.Reading.{Fields, trimmed_fields, rows_from, records_of, banks_header}
use Rattle.net_csv.specs.Reading.{header, file_of, version_of, with_row, bank_in_row, debt_in_row}
use Rattle.net_csv.specs.Reading.{read_rows, below_header, with_file, with_debts_of}
use Rattle.net_csv.specs.Reading.{network_within}
use Rattle.net_csv.specs.declared.layout.Layout.{Layout}
use Rattle.net_csv.specs.declared.layout.Layout.TheVariants as layout
use Rattle.net_csv.specs.declared.layout.Version.{Version}
use Rattle.net_csv.specs.declared.layout.Version.TheVariants as version
use Rattle.net_csv.proofs.Networks.{RowKeeps, are_read, with_file-keeps, network_of_ok}
use Rattle.net_csv.proofs.Networks.{network_of_read, network_is_within}
use Rattle.net_csv.proofs.KeptNames.{network_of_names}
use Rattle.net_csv.proofs.Rows.{one_row, rows-pass, rows-end, file-below}
use Rattle.net_csv.proofs.PrintedRecords.{IsRow, word_row, lines-map}
use Rattle.net_csv.proofs.BackFacts.{with_banks, with_debts, at_end, bank_back, debt_back}
use Rattle.net_csv.proofs.BackFacts.{name_back}
use Rattle.net_csv.proofs.BackRows.{IsKeptRow, AreKeptRows, records_printed, kept_short, SaysAll}
use Rattle.net_csv.proofs.BackRows.{bank_row, debt_row, bank_read_back, debt_read_back}

-- the headers
header_row : (l : Layout) → IsRow (header l)
header_row (layout.Banks version.One) =
    word_row (codes "name") (codes "cash") (codes "rule" ∷ []) refl
header_row (layout.Banks version.Two) =
    word_row (codes "name") (codes "cash") (codes "rule" ∷ codes "outside" ∷ []) refl
header_row layout.Debts =
    word_row (codes "debtor") (codes "creditor") (codes "class" ∷ codes "claim" ∷ []) refl

-- below a printed header stand the records that follow it
header_back : (l : Layout) (below : List Fields)
    → below_header (file_of l) (header l) (trimmed_fields (header l) ∷ below) ≡ Ok below
unfolding trimmed_start
header_back (layout.Banks version.One) below = refl
header_back l below = refl

-- the header of a banks file tells its version
version_back : (v : Version) (below : List Fields)
    → version_of (trimmed_fields (banks_header v) ∷ below) ≡ v
unfolding trimmed_start
version_back version.One below = refl
version_back version.Two below = refl

-- a printed file begins with no mark of its encoding
unmarked : (l : Layout) (text : List ℕ)
    → strip_bom (line (header l) ++ text) ≡ line (header l) ++ text
unfolding strip_bom
unmarked (layout.Banks version.One) text = refl
unmarked l text = refl

-- a header with its line end has at most 40 bytes
short_header : (l : Layout) → length (line (header l)) ≤ 40
short_header (layout.Banks version.One) = omega arith
short_header l = omega arith

-- things that a file has line by line, each of which is read back beside those before it
record IsPrinted (X : Type 0) (by : Limits) (l : Layout) (fields_of : X → Fields)
    (so_far : List X → Net) (all : List X) : Type 0 where
  kept : (done rest : List X) (x : X) → all ≡ done ++ x ∷ rest → IsKeptRow (fields_of x)
  read : (done rest : List X) (x : X) (row : ℕ) → all ≡ done ++ x ∷ rest
      → with_row by l (so_far done) (row, fields_of x) ≡ Ok (so_far (done ++ x ∷ []))

-- the file of such things
abbrev file_text : {X : Type 0} → Layout → (X → Fields) → List X → List ℕ
file_text l fields_of all = line (header l) ++ flat_map (λ x. line (fields_of x)) all

-- what holds of every file
module _ {X : Type 0} {by : Limits} {l : Layout} {fields_of : X → Fields}
    {so_far : List X → Net} {all : List X} (printed : IsPrinted X by l fields_of so_far all) where
  -- a file keeps the records
  all_kept : (rest done : List X) → all ≡ done ++ rest → AreKeptRows (map fields_of rest)
  all_kept [] done e = tt
  all_kept (x ∷ rest) done e = (
    printed.kept done rest x e,
    all_kept rest (done ++ x ∷ [])
        (e ∙ sym (append_assoc done (x ∷ []) rest)),
  )

  -- it is short
  short : length (file_text l fields_of all) ≤ 40 + 151 * length all
  short = omega (
    arith,
    short_header l,
    length-append (line (header l)) (flat_map (λ x. line (fields_of x)) all),
    ap length (lines-map fields_of (λ x. line (fields_of x)) (λ x. refl) all),
    kept_short (map fields_of all) (all_kept all [] refl),
    length-map all fields_of,
  )

  -- the rows are read as what was printed
  rows_back : (rest done : List X) (row : ℕ) → all ≡ done ++ rest
      → read_rows by l (so_far done) (rows_from row (map fields_of rest))
      ≡ Ok (so_far (done ++ rest))
  rows_back [] done row e =
      rows-end by l (so_far done) row ∙ ap (λ xs. Ok (so_far xs)) (sym (append-nil done))
  rows_back (x ∷ rest) done row e =
      rows-pass by l (so_far done) (so_far (done ++ x ∷ [])) row (fields_of x) (map fields_of rest)
      (one_row by l (so_far done) row (fields_of x) (printed.kept done rest x e).full
      ∙ printed.read done rest x row e)
      ∙ rows_back rest (done ++ x ∷ []) (row + 1) (e ∙ sym (append_assoc done (x ∷ []) rest))
      ∙ ap (λ xs. Ok (so_far xs)) (append_assoc done (x ∷ []) rest)

  -- a printed file is read as what it was printed of
  records_back : records_of (file_text l fields_of all)
      ≡ trimmed_fields (header l) ∷ map fields_of all
  records_back =
      ap (λ t. records_of (line (header l) ++ t))
      (lines-map fields_of (λ x. line (fields_of x)) (λ x. refl) all)
      ∙ records_printed (header l) (map fields_of all) (header_row l) (all_kept all [] refl)
      (unmarked l (flat_map line (map fields_of all)))

  -- reading a printed file adds all that it was printed of
  file_back : with_file by l (file_text l fields_of all) (so_far []) ≡ Ok (so_far all)
  file_back =
      file-below by l (file_text l fields_of all) (so_far [])
      (trimmed_fields (header l) ∷ map fields_of all) (map fields_of all)
      (sym records_back) (header_back l (map fields_of all))
      ∙ rows_back all [] 1 refl

-- a version says all of the banks of a network
abbrev SaysBanks : Version → Net → Type 0
SaysBanks v net = (done rest : List Bank) (b : Bank) → net.banks ≡ done ++ b ∷ rest → SaysAll v b

-- what a part of a network is beside its limits
part_room : {X : Type 0} (all done rest : List X) (x : X) (most : ℕ) → all ≡ done ++ x ∷ rest
    → length all ≤ most → length done < most
part_room all done rest x most e few =
    omega (arith, ap length e, length-append done (x ∷ rest))

-- the units owed up to a debt, with that debt, are within the limit of all units owed
part_low : (net : Net) (done rest : List Debt) (d : Debt) (most : ℕ)
    → net.debts ≡ done ++ d ∷ rest → units_owed net ≤ most
    → units_owed (with_debts net done) + d.claim ≤ most
part_low net done rest d most e few =
    let claim : Debt → ℕ = λ x. x.claim in
    let here : units_owed (with_debts net done) ≡ sum_by claim done = refl in
    let all : units_owed net ≡ sum_by claim done + (d.claim + sum_by claim rest) =
    ap (sum_by claim) e ∙ sum_by-append claim done (d ∷ rest)
    ∙ ap (λ n. sum_by claim done + n) (sum_by-cons claim d rest) in
    omega (arith, here, all)

-- printed files are no longer than files may be
bank_bytes : (by : Limits) → 40 + 151 * most_banks by ≤ file_limit by file.Banks
bank_bytes limits.Standard = omega arith
bank_bytes limits.Wide = omega arith

-- and so is the file of debts
debt_bytes : (by : Limits) → 40 + 151 * most_debts by ≤ file_limit by file.Debts
debt_bytes limits.Standard = omega arith
debt_bytes limits.Wide = omega arith

module _ (by : Limits) (net : Net) (network : IsNetwork net) (within : IsWithin by net)
    (names : KeepsNames net) where
  -- the banks of a network are read back
  banks_printed : (v : Version) → SaysBanks v net
      → IsPrinted Bank by (layout.Banks v) (bank_fields v) with_banks net.banks
  banks_printed v says = record {
    kept = λ done rest b e.
        let at = at_end net.banks done rest b e in
        bank_row v (with_banks done) b (bank_back net network done rest b e)
        (rw at at (names (length done) (slice_get_within net.banks (length done) b at)));
    read =
        λ done rest b row e. ap (λ (r : Result Bank Fault). and_then r
        (λ b. Ok (with_bank (with_banks done) b)))
        (bank_read_back by v (with_banks done) row b
        (part_room net.banks done rest b (most_banks by) e within.banks)
        (bank_back net network done rest b e) (says done rest b e));
  }

  -- and its debts
  debts_printed : IsPrinted Debt by layout.Debts (debt_fields net) (with_debts net) net.debts
  debts_printed = record {
    kept = λ done rest d e.
        let new = debt_back net network done rest d e in
        debt_row net done d new (name_back net network names d.debtor.0 new.debtor_known)
        (name_back net network names d.creditor.0 new.creditor_known);
    read = λ done rest d row e.
        let new = debt_back net network done rest d e in
        ap (λ (r : Result Debt Fault). and_then r (λ d. Ok (with_debt (with_debts net done) d)))
        (debt_read_back by net done row d
        (part_room net.debts done rest d (most_debts by) e within.debts)
        (part_low net done rest d (most_owed by) e within.owed) new
        (name_back net network names d.debtor.0 new.debtor_known)
        (name_back net network names d.creditor.0 new.creditor_known));
  }

  -- with the banks that a printed file gives, a file of debts that is read with them is read as
  -- before
  banks_back : (v : Version) (debts : List ℕ) → SaysBanks v net
      → length debts ≤ file_limit by file.Debts
      → with_debts_of by debts (with_banks net.banks) ≡ Ok net
      → network_within by (banks_text_in v net) debts ≡ Ok net
  banks_back v debts says small read =
      let printed = banks_printed v says in
      let text = banks_text_in v net in
      let version : version_of (records_of text) ≡ v =
      ap version_of (records_back printed) ∙ version_back v (map (bank_fields v) net.banks) in
      network_of_read by text debts net (record {
        some = with_banks net.banks;
        small = omega (arith, short printed, within.banks, bank_bytes by);
        small_too = small;
        read = rw version (file_back printed);
        read_too = read;
      })

-- the version of a printed banks file says all of the banks
version_says : (net : Net) → SaysBanks (version_for net) net
version_says net done rest b e = by (list_all (λ b. b.outside == 0) net.banks) refl
  where
    by : (t : Bool) → list_all (λ b. b.outside == 0) net.banks ≡ t → SaysAll (if t then version.One else version.Two) b
    by true h =
        eqb-true b.outside 0 (rw (get_or_from_slice_get net.banks (length done) b b
        (at_end net.banks done rest b e))
        at (AllPass-from_list_all (λ b. b.outside == 0) net.banks h (length done) b
        (slice_get_within net.banks (length done) b (at_end net.banks done rest b e))))
    by false h = tt

-- what is printed of a network is read back as the same network
pub printed_is_read_back : (by : Limits) (net : Net) → IsNetwork net → IsWithin by net
    → KeepsNames net → network_within by (banks_text net) (debts_text net) ≡ Ok net
printed_is_read_back by net network within names =
    let printed = debts_printed by net network within names in
    banks_back by net network within names (version_for net) (debts_text net) (version_says net)
    (omega (arith, short printed, within.debts, debt_bytes by)) (file_back printed)

-- rows of banks add no debt, and rows of debts no bank
no_debt_added : (by : Limits) (v : Version) → RowKeeps by (λ net. net.debts ≡ []) (layout.Banks v)
no_debt_added by v net r next trimmed none h =
    let read = and_then-ok (bank_in_row by v net r) (λ b. Ok (with_bank net b)) next h in
    let same : with_bank net read.0 ≡ next = cc in
    ap (λ (n : Net). n.debts) (sym same) ∙ none

-- rows of debts add no bank
no_bank_added : (by : Limits) (banks : List Bank)
    → RowKeeps by (λ net. net.banks ≡ banks) layout.Debts
no_bank_added by banks net r next trimmed same h =
    let read = and_then-ok (debt_in_row by net r) (λ d. Ok (with_debt net d)) next h in
    let still : with_debt net read.0 ≡ next = cc in
    ap (λ (n : Net). n.banks) (sym still) ∙ same

-- the banks file in version 2 stands for any banks file
pub converted_is_read_back : (by : Limits) (banks debts : List ℕ) (net : Net)
    → network_within by banks debts ≡ Ok net
    → network_within by (banks_text_2 net) debts ≡ Ok net
converted_is_read_back by banks debts net h =
    let r = are_read by banks debts net h in
    let network = network_of_ok by banks debts net h in
    let within = network_is_within by banks debts net h in
    let names = network_of_names by banks debts net h in
    let v = version_of (records_of banks) in
    let no_debts = with_file-keeps by (λ n. n.debts ≡ []) (layout.Banks v) (no_debt_added by v)
    banks empty_net r.some refl r.read in
    let same_banks = with_file-keeps by (λ n. n.banks ≡ r.some.banks) layout.Debts
    (no_bank_added by r.some.banks) debts r.some net refl r.read_too in
    let some : r.some ≡ with_banks net.banks =
    ap (λ ds. record { banks = r.some.banks; debts = ds }) no_debts
    ∙ ap with_banks (sym same_banks) in
    banks_back by net network within names version.Two debts (λ done rest b e. tt) r.small_too
    (ap (with_debts_of by debts) (sym some) ∙ r.read_too)
