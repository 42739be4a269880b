-- What one bank knows of its network, and what it would pay by that alone.
use Rattle.std.specs.Prelude.{◌≡◌, ℕ, ◌≤◌, All, List, length, sum}
use Rattle.clr_net.specs.declared.TheConstants.{MAX_CASH, MAX_CLAIM, MAX_CLASS, MAX_OUTSIDE, MAX_OWED}
use Rattle.clr_net.specs.declared.rule.RuleKind.{RuleKind}
use Rattle.clr_net.specs.Division.{AreClasses, share}
use Rattle.clr_net.specs.Net.{Net, cash_of, outside_of, rule_of, row, column, claims_of, classes_of}
use Rattle.clear_core.specs.Clearing.{spendable}

-- a bank: its number, its cash and what it owes outside the network, in units, and its rule; the
-- numbers, claims and classes of the debts that it owes, place by place in file order; and the
-- numbers of the debts that are owed to it, in file order
pub record BankView : Type 0 where
  pub bank : ℕ
  pub cash : ℕ
  pub outside : ℕ
  pub rule : RuleKind
  pub debts_out : List ℕ
  pub claims : List ℕ
  pub classes : List ℕ
  pub debts_in : List ℕ

-- what the bank i of a network knows
abbrev pub desk_of : Net → ℕ → BankView
desk_of net i = record {
  bank = i;
  cash = cash_of net i;
  outside = outside_of net i;
  rule = rule_of net i;
  debts_out = row net i;
  claims = claims_of net i;
  classes = classes_of net i;
  debts_in = column net i;
}

-- the same desk, with the cash that its bank has in this network
abbrev pub with_cash_in : Net → BankView → BankView
with_cash_in net desk = record desk { cash = cash_of net desk.bank }

-- what the bank's rule gives each debt that it owes, where it receives r units
abbrev pub target : BankView → ℕ → List ℕ
target desk r = share desk.rule desk.claims desk.classes (spendable desk.cash desk.outside r)

-- a claim and a class for each debt that the bank owes, all within the limits of a network
pub record IsSound (desk : BankView) : Type 0 where
  pub a_claim_each : length desk.claims ≡ length desk.debts_out
  pub a_class_each : length desk.classes ≡ length desk.debts_out
  pub cash_in_limit : desk.cash ≤ MAX_CASH
  pub outside_in_limit : desk.outside ≤ MAX_OUTSIDE
  pub claims_in_limit : All (λ claim. claim ≤ MAX_CLAIM) desk.claims
  pub owed_in_limit : sum desk.claims ≤ MAX_OWED
  pub classes_in_limit : AreClasses desk.classes 1 MAX_CLASS
