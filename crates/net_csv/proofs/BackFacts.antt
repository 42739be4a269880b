-- What a network's banks and debts are, beside those that stand before them.
use Rattle.std.proofs.Common.{◌≡◌, ◌<◌, ℕ, true, false, List, [], ◌∷◌, ◌++◌, length, get_or, slice_get, Some, refl, sym, ap, arith}
use Rattle.std.specs.Prelude.{position}
use Rattle.std.specs.List.{list_any}
use Rattle.std.specs.Option.{option_map_or}
use Rattle.std.proofs.lemmas.Bool.{and_parts, lt-ltb, false_from_ne_true, eqb-true}
use Rattle.std.proofs.lemmas.List.{take_at}
use Rattle.std.proofs.lemmas.List.Folds.{list_any_none}
use Rattle.std.proofs.lemmas.List.Sums.{position_or_len_is}
use Rattle.std.proofs.lemmas.Option.{slice_get-get_or}
use Rattle.std.proofs.lemmas.Slice.Eq.{bytes_eq-Decides}
use Rattle.clr_net.specs.Name.{is_name}
use Rattle.clr_net.specs.Net.{Net, name_of, has_name, is_debt_of}
use Rattle.clr_net.specs.Limits.{IsNetwork, IsNewBank, IsNewDebt, IsNewName, IsNewKind}
use Rattle.clr_net.specs.Samples.{bank}
use Rattle.clr_net.specs.declared.bank.Bank.{Bank}
use Rattle.clr_net.specs.declared.debt.Debt.{Debt}
use Rattle.clr_net.proofs.Copies.{next_bank_is_new, next_debt_is_new}
use Rattle.net_check.specs.Field.{trimmed_field}
use Rattle.net_csv.specs.Printing.{KeepsNames}

-- the banks of a network without its debts
abbrev pub with_banks : List Bank → Net
with_banks banks = record { banks = banks; debts = [] }

-- the first debts of a network, with all its banks
abbrev pub with_debts : Net → List Debt → Net
with_debts net debts = record { banks = net.banks; debts = debts }

-- the element after the first part of a list stands in the place that the part's length names
pub at_end : {X : Type 0} (all done rest : List X) (x : X) → all ≡ done ++ x ∷ rest
    → slice_get all (length done) ≡ Some x
at_end all [] rest x e = rw e refl
at_end all (y ∷ done) rest x e = rw e (at_end (done ++ x ∷ rest) done rest x refl)

-- no bank of a network has a name that is new
pub no_name : (net : Net) (name : List ℕ) → IsNewName net name
    → list_any (has_name name) net.banks ≡ false
no_name net name new = list_any_none (has_name name) net.banks (λ k b l. false_from_ne_true _ (λ e.
    new k l (rw (slice_get-get_or net.banks k b l)
    ((bytes_eq-Decides (get_or net.banks k b).name name).0 e))))

-- no debt is of a kind that is new
pub no_kind : (net : Net) (debtor creditor class : ℕ) → IsNewKind net debtor creditor class
    → list_any (is_debt_of debtor creditor class) net.debts ≡ false
no_kind net debtor creditor class new =
    list_any_none (is_debt_of debtor creditor class) net.debts (λ k d l. false_from_ne_true _ (λ e.
    let all = and_parts _ _ e in
    let two = and_parts _ _ all.0 in
    new k l (rw (slice_get-get_or net.debts k d l)
    (eqb-true _ _ two.0, eqb-true _ _ two.1, eqb-true _ _ all.1))))

-- each bank of a network may be added to those before it
pub bank_back : (net : Net) → IsNetwork net → (done rest : List Bank) (b : Bank)
    → net.banks ≡ done ++ b ∷ rest → IsNewBank (with_banks done) b
bank_back net network done rest b e =
    rw (e, take_at done (b ∷ rest) (length done) refl) at (next_bank_is_new net network
    (length done) b (at_end net.banks done rest b e))

-- and each debt
pub debt_back : (net : Net) → IsNetwork net → (done rest : List Debt) (d : Debt)
    → net.debts ≡ done ++ d ∷ rest → IsNewDebt (with_debts net done) d
debt_back net network done rest d e =
    rw (e, take_at done (d ∷ rest) (length done) refl) at (next_debt_is_new net network
    (length done) d (at_end net.debts done rest d e))

-- the name of a bank of a network
pub record IsBackName (net : Net) (i : ℕ) : Type 0 where
  pub named : is_name (name_of net i) ≡ true
  pub kept : trimmed_field (name_of net i) ≡ name_of net i
  pub place : position (has_name (name_of net i)) net.banks ≡ Some i

-- a bank's name is found at that bank again, and nothing is trimmed of it
pub name_back : (net : Net) → IsNetwork net → KeepsNames net → (i : ℕ) → i < length net.banks → IsBackName net i
name_back net network keeps i below =
    let z : Bank = bank [] 0 in
    let fact = network.each_bank i below in
    let first = position_or_len_is (has_name (name_of net i)) net.banks i z (omega arith)
    (λ k l. false_from_ne_true _ (λ e.
    fact.only_of_its_name k l (rw (slice_get-get_or net.banks k z (omega arith))
    ((bytes_eq-Decides _ _).0 e))))
    (λ l. (bytes_eq-Decides _ _).1 (sym
    (ap (λ o. option_map_or (λ b. b.name) o []) (slice_get-get_or net.banks i z l)))) in
    record { named = fact.named; kept = keeps i below; place = rw (first, lt-ltb i (length net.banks) below) refl }
