-- What makes plain data a network: the limits, and what its banks and its debts must be.
use Rattle.std.specs.Prelude.{◌≡◌, ◌≢◌, ℕ, ◌+◌, ◌<◌, ◌≤◌, List, length, IsTrue}
use Rattle.clr_net.specs.declared.TheConstants.{MAX_BANKS, MAX_DEBTS, MAX_CLASS, MAX_CLAIM, MAX_OWED, MAX_CASH, MAX_OUTSIDE}
use Rattle.clr_net.specs.declared.bank.Bank.{Bank}
use Rattle.clr_net.specs.declared.debt.Debt.{Debt}
use Rattle.clr_net.specs.Name.{is_name}
use Rattle.clr_net.specs.Net.{Net, name_of, cash_of, outside_of, debtor_of, creditor_of, class_of, claim_of, units_owed}

-- the debt x has this debtor, creditor and class: no network has two such
abbrev pub IsOfKind : Net → ℕ → ℕ → ℕ → ℕ → Type 0
IsOfKind net x debtor creditor class =
    (debtor_of net x ≡ debtor) × (creditor_of net x ≡ creditor) × (class_of net x ≡ class)

-- no bank has this name yet
abbrev pub IsNewName : Net → List ℕ → Type 0
IsNewName net name = (j : ℕ) → j < length net.banks → name_of net j ≢ name

-- no debt has this debtor, creditor and class yet
abbrev pub IsNewKind : Net → ℕ → ℕ → ℕ → Type 0
IsNewKind net debtor creditor class =
    (y : ℕ) → y < length net.debts → ¬ (IsOfKind net y debtor creditor class)

-- what the bank i of a network is
pub record IsBankOf (net : Net) (i : ℕ) : Type 0 where
  pub named : IsTrue (is_name (name_of net i))
  pub cash_in_limit : cash_of net i ≤ MAX_CASH
  pub outside_in_limit : outside_of net i ≤ MAX_OUTSIDE
  pub only_of_its_name : (j : ℕ) → j < i → name_of net j ≢ name_of net i

-- what the debt x of a network is
pub record IsDebtOf (net : Net) (x : ℕ) : Type 0 where
  pub debtor_known : debtor_of net x < length net.banks
  pub creditor_known : creditor_of net x < length net.banks
  pub between_two_banks : debtor_of net x ≢ creditor_of net x
  pub class_at_least_1 : 1 ≤ class_of net x
  pub class_in_limit : class_of net x ≤ MAX_CLASS
  pub claim_in_limit : claim_of net x ≤ MAX_CLAIM
  pub only_of_its_kind : (y : ℕ) → y < x
      → ¬ (IsOfKind net y (debtor_of net x) (creditor_of net x) (class_of net x))

-- a network: what the readers make, and the type `Network` keeps
pub record IsNetwork (net : Net) : Type 0 where
  pub banks_in_limit : length net.banks ≤ MAX_BANKS
  pub debts_in_limit : length net.debts ≤ MAX_DEBTS
  pub owed_in_limit : units_owed net ≤ MAX_OWED
  pub each_bank : (i : ℕ) → i < length net.banks → IsBankOf net i
  pub each_debt : (x : ℕ) → x < length net.debts → IsDebtOf net x

-- a bank that may be added to a network
pub record IsNewBank (net : Net) (b : Bank) : Type 0 where
  pub banks_in_limit : length net.banks < MAX_BANKS
  pub named : IsTrue (is_name b.name)
  pub cash_in_limit : b.cash ≤ MAX_CASH
  pub outside_in_limit : b.outside ≤ MAX_OUTSIDE
  pub only_of_its_name : IsNewName net b.name

-- a debt that may be added to a network
pub record IsNewDebt (net : Net) (d : Debt) : Type 0 where
  pub debts_in_limit : length net.debts < MAX_DEBTS
  pub owed_in_limit : units_owed net + d.claim ≤ MAX_OWED
  pub debtor_known : d.debtor.0 < length net.banks
  pub creditor_known : d.creditor.0 < length net.banks
  pub between_two_banks : d.debtor.0 ≢ d.creditor.0
  pub class_at_least_1 : 1 ≤ d.class
  pub class_in_limit : d.class ≤ MAX_CLASS
  pub claim_in_limit : d.claim ≤ MAX_CLAIM
  pub only_of_its_kind : IsNewKind net d.debtor.0 d.creditor.0 d.class
