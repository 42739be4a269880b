-- The names of a network that was read begin and end with no space.
use Rattle.std.proofs.Common.{◌≡◌, ℕ, List, [], ◌∷◌, length, Some, None, Ok, arith, subst}
use Rattle.std.proofs.lemmas.Bool.{cases_eq}
use Rattle.std.proofs.lemmas.List.{length_push}
use Rattle.clr_net.specs.Net.{Net, with_bank, with_debt}
use Rattle.clr_net.specs.declared.bank.Bank.{Bank}
use Rattle.clr_net.proofs.Networks.{slice_get_push_before, slice_get_push_at}
use Rattle.net_check.specs.Field.{trimmed_field}
use Rattle.net_check.specs.Record.{bank_from}
use Rattle.net_check.specs.declared.limits.Limits.{Limits}
use Rattle.net_check.proofs.Passed.{and_then-ok}
use Rattle.net_check.proofs.Additions.{new_bank-given}
use Rattle.net_csv.specs.Printing.{KeepsNames}
use Rattle.net_csv.specs.Reading.{Fields, trimmed_fields, bank_in_row, debt_in_row, network_within}
use Rattle.net_csv.specs.declared.layout.Layout.{Layout}
use Rattle.net_csv.specs.declared.layout.Layout.TheVariants as layout
use Rattle.net_csv.proofs.Networks.{RowKeeps, bank_in_row-ok, network_of-keeps}

-- the name of a bank that a record gives is the record's first field
bank_from-name : (net : Net) (fields : Fields) (b : Bank) → trimmed_fields fields ≡ fields → bank_from net fields ≡ Ok b
    → trimmed_field b.name ≡ b.name
bank_from-name net (name ∷ cash ∷ rule ∷ []) b kept h =
    rw (new_bank-given net name cash rule None b h).name_is (cc)
bank_from-name net (name ∷ cash ∷ rule ∷ outside ∷ []) b kept h =
    rw (new_bank-given net name cash rule (Some outside) b h).name_is (cc)
bank_from-name net fields b kept h = cc

-- all names are still trimmed with one bank more, whose name is
KeepsNames-with_bank : (net : Net) (b : Bank) → KeepsNames net → trimmed_field b.name ≡ b.name → KeepsNames (with_bank net b)
KeepsNames-with_bank net b keeps kept i l =
    let longer = length_push net.banks b in
    let at = slice_get_push_at net.banks b in
    grind (arith, slice_get_push_before net.banks b i, keeps i, cases_eq i (length net.banks))

-- a row adds no other name
row_keeps_names : (by : Limits) (l : Layout) → RowKeeps by KeepsNames l
row_keeps_names by (layout.Banks v) net r next trimmed keeps h =
    let read = and_then-ok (bank_in_row by v net r) (λ b. Ok (with_bank net b)) next h in
    let bank = bank_in_row-ok by v net r read.0 read.1 in
    let same : with_bank net read.0 ≡ next = cc in
    subst KeepsNames same
    (KeepsNames-with_bank net read.0 keeps (bank_from-name net r.1 read.0 trimmed bank.1))
row_keeps_names by layout.Debts net r next trimmed keeps h =
    let read = and_then-ok (debt_in_row by net r) (λ d. Ok (with_debt net d)) next h in
    let same : with_debt net read.0 ≡ next = cc in
    subst KeepsNames same keeps

-- the names of what two files give
pub network_of_names : (by : Limits) (banks debts : List ℕ) (net : Net)
    → network_within by banks debts ≡ Ok net → KeepsNames net
network_of_names by =
    network_of-keeps by KeepsNames (λ i l. absurd (omega arith)) (row_keeps_names by)
