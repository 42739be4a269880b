-- What every network that is read has: what the bank or the debt of each row keeps.
use Rattle.std.proofs.Common.{◌≡◌, ◌<◌, ◌≤◌, ℕ, List, [], ◌∷◌, length, Ok, subst}
use Rattle.std.proofs.Common.{ltb-true, arith}
use Rattle.std.proofs.lemmas.Bool.{le-leb, leb-true}
use Rattle.csv.specs.Reading.{records, default_config, strip_bom}
use Rattle.clr_net.specs.Net.{Net, empty_net, with_bank, with_debt}
use Rattle.clr_net.specs.Limits.{IsNetwork}
use Rattle.clr_net.specs.declared.bank.Bank.{Bank}
use Rattle.clr_net.specs.declared.debt.Debt.{Debt}
use Rattle.clr_net.proofs.Networks.{IsNetwork-empty_net, IsNetwork-with_bank, IsNetwork-with_debt}
use Rattle.std.proofs.lemmas.List.{length_push}
use Rattle.std.proofs.lemmas.List.Sums.{sum_by_push}
use Rattle.net_check.specs.Record.{bank_from, debt_from}
use Rattle.net_check.specs.Within.{file_limit, most_banks, most_debts, IsWithin}
use Rattle.net_check.specs.declared.fault.FileKind.TheVariants as file
use Rattle.net_check.proofs.Passed.{fault_unless-ok, and_then-ok, in_row-ok}
use Rattle.net_check.specs.declared.limits.Limits.{Limits}
use Rattle.net_check.proofs.Within.{banks_allowed, debts_allowed}
use Rattle.net_check.proofs.Additions.{bank_from-ok, debt_from-ok}
use Rattle.net_csv.specs.Reading.{Fields, trimmed_fields, records_of, header, file_of}
use Rattle.net_csv.specs.Reading.{bank_in_row, debt_in_row, with_row, read_rows, rows_in_file}
use Rattle.net_csv.specs.Reading.{with_file, version_of, with_banks_of, with_debts_of}
use Rattle.net_csv.specs.Reading.{network_within}
use Rattle.net_csv.specs.declared.layout.Layout.{Layout}
use Rattle.net_csv.specs.declared.layout.Layout.TheVariants as layout
use Rattle.net_csv.specs.declared.layout.Version.{Version}
use Rattle.net_csv.proofs.Trimmed.{AreTrimmed, file_rows}

-- what a row passed that gives a bank
pub bank_in_row-ok : (by : Limits) (v : Version) (net : Net) (r : ℕ × Fields) (b : Bank)
    → bank_in_row by v net r ≡ Ok b
    → (length net.banks < most_banks by) × (bank_from net r.1 ≡ Ok b)
bank_in_row-ok by v net r b h =
    let room = fault_unless-ok _ _ _ b (in_row-ok file.Banks r.0 _ b h) in
    (ltb-true (length net.banks) (most_banks by) room.0, (fault_unless-ok _ _ _ b room.1).1)

-- and a debt
debt_in_row-ok : (by : Limits) (net : Net) (r : ℕ × Fields) (d : Debt)
    → debt_in_row by net r ≡ Ok d
    → (length net.debts < most_debts by) × (debt_from by net r.1 ≡ Ok d)
debt_in_row-ok by net r d h =
    let room = fault_unless-ok _ _ _ d (in_row-ok file.Debts r.0 _ d h) in
    (ltb-true (length net.debts) (most_debts by) room.0, room.1)

-- a row of a file keeps what holds of a network
abbrev pub RowKeeps : Limits → (Net → Type 0) → Layout → Type 0
RowKeeps by P l = (net : Net) (r : ℕ × Fields) (next : Net) → trimmed_fields r.1 ≡ r.1 → P net
    → with_row by l net r ≡ Ok next → P next

-- what each row of a file keeps, all of them keep
read_rows-keeps : (by : Limits) (P : Net → Type 0) (l : Layout) → RowKeeps by P l
    → (net : Net) (rows : List (ℕ × Fields)) (out : Net) → AreTrimmed rows → P net
    → read_rows by l net rows ≡ Ok out → P out
unfolding read_rows
read_rows-keeps by P l each net [] out trimmed has h =
    let same : net ≡ out = cc in subst P same has
read_rows-keeps by P l each net (r ∷ rest) out trimmed has h =
    let read = and_then-ok (with_row by l net r) (λ next. read_rows by l next rest) out h in
    read_rows-keeps by P l each read.0 rest out trimmed.1
    (each net r read.0 trimmed.0 has read.1) read.2

-- what each row keeps is kept by the whole file
pub with_file-keeps : (by : Limits) (P : Net → Type 0) (l : Layout) → RowKeeps by P l
    → (bytes : List ℕ) (net out : Net) → P net → with_file by l bytes net ≡ Ok out → P out
with_file-keeps by P l each bytes net out has h =
    let read = and_then-ok (rows_in_file (file_of l) (header l) bytes)
    (λ rows. read_rows by l net rows) out h in
    read_rows-keeps by P l each net read.0 out
    (file_rows (file_of l) (header l) (records default_config (strip_bom bytes)) read.0 read.1)
    has read.2

-- two files that give a network by some limits, by way of its banks
pub record AreRead (by : Limits) (banks debts : List ℕ) (net : Net) : Type 0 where
  pub some : Net
  pub small : length banks ≤ file_limit by file.Banks
  pub small_too : length debts ≤ file_limit by file.Debts
  pub read : with_banks_of by banks empty_net ≡ Ok some
  pub read_too : with_debts_of by debts some ≡ Ok net

-- an accepted pair of files is read by way of the network of the banks file
pub are_read : (by : Limits) (banks debts : List ℕ) (net : Net)
    → network_within by banks debts ≡ Ok net → AreRead by banks debts net
are_read by banks debts net h =
    let first = fault_unless-ok _ _ _ net h in
    let second = fault_unless-ok _ _ _ net first.1 in
    let read = and_then-ok (with_banks_of by banks empty_net) (with_debts_of by debts) net
    second.1 in
    record {
      some = read.0;
      small = leb-true (length banks) (file_limit by file.Banks) first.0;
      small_too = leb-true (length debts) (file_limit by file.Debts) second.0;
      read = read.1;
      read_too = read.2;
    }

-- and back
pub network_of_read : (by : Limits) (banks debts : List ℕ) (net : Net)
    → AreRead by banks debts net → network_within by banks debts ≡ Ok net
network_of_read by banks debts net r = rw (
  le-leb (length banks) (file_limit by file.Banks) r.small,
  le-leb (length debts) (file_limit by file.Debts) r.small_too,
  r.read,
) r.read_too

-- what the empty network has and each row keeps, what two files give has
pub network_of-keeps : (by : Limits) (P : Net → Type 0) → P empty_net
    → ((l : Layout) → RowKeeps by P l) → (banks debts : List ℕ) (net : Net)
    → network_within by banks debts ≡ Ok net → P net
network_of-keeps by P empty each banks debts net h =
    let r = are_read by banks debts net h in
    let first = layout.Banks (version_of (records_of banks)) in
    with_file-keeps by P layout.Debts (each layout.Debts) debts r.some net
    (with_file-keeps by P first (each first) banks empty_net r.some empty r.read) r.read_too

-- a network, within the limits by which it is read
record IsRead (by : Limits) (net : Net) : Type 0 where
  network : IsNetwork net
  within : IsWithin by net

-- one row more leaves a network within its limits
row_keeps_network : (by : Limits) (l : Layout) → RowKeeps by (IsRead by) l
row_keeps_network by (layout.Banks v) net r next trimmed has h =
    let read = and_then-ok (bank_in_row by v net r) (λ b. Ok (with_bank net b)) next h in
    let bank = bank_in_row-ok by v net r read.0 read.1 in
    let same : with_bank net read.0 ≡ next = cc in
    subst (IsRead by) same (record {
      network = IsNetwork-with_bank net read.0 has.network
          (bank_from-ok net r.1 read.0 bank.1 (omega (arith, bank.0, banks_allowed by)));
      within = record {
        banks = omega (arith, bank.0, length_push net.banks read.0);
        debts = has.within.debts;
        owed = has.within.owed;
      };
    })
row_keeps_network by layout.Debts net r next trimmed has h =
    let read = and_then-ok (debt_in_row by net r) (λ d. Ok (with_debt net d)) next h in
    let debt = debt_in_row-ok by net r read.0 read.1 in
    let same : with_debt net read.0 ≡ next = cc in
    let new = debt_from-ok by net r.1 read.0 debt.1 (omega (arith, debt.0, debts_allowed by)) in
    subst (IsRead by) same (record {
      network = IsNetwork-with_debt net read.0 has.network new.0;
      within = record {
        banks = has.within.banks;
        debts = omega (arith, debt.0, length_push net.debts read.0);
        owed = omega (arith, sum_by_push (λ d. d.claim) net.debts read.0, new.1);
      };
    })

-- the network without banks is within all limits
nothing_read : (by : Limits) → IsRead by empty_net
nothing_read by = record {
  network = IsNetwork-empty_net;
  within = record { banks = omega arith; debts = omega arith; owed = omega arith };
}

-- what two files give is such a network
are_read_as : (by : Limits) (banks debts : List ℕ) (net : Net)
    → network_within by banks debts ≡ Ok net → IsRead by net
are_read_as by = network_of-keeps by (IsRead by) (nothing_read by) (row_keeps_network by)

-- each of its banks and debts is as it must be
pub network_of_ok : (by : Limits) (banks debts : List ℕ) (net : Net)
    → network_within by banks debts ≡ Ok net → IsNetwork net
network_of_ok by banks debts net h = (are_read_as by banks debts net h).network

-- and it is within the limits by which it is read
pub network_is_within : (by : Limits) (banks debts : List ℕ) (net : Net)
    → network_within by banks debts ≡ Ok net → IsWithin by net
network_is_within by banks debts net h = (are_read_as by banks debts net h).within
