-- What the fields of one record give, beside the network read so far: a bank, a debt, or the first
-- fault.
use Rattle.std.specs.Prelude.{ℕ, ◌+◌, ◌==◌, nat_le, not, List, [], ◌∷◌, position, Option, Some, None, Result, Ok, Err}
use Rattle.std.specs.List.{list_any}
use Rattle.std.specs.Option.{ok_or}
use Rattle.std.specs.Result.{result_map_both}
use Rattle.clr_net.specs.Name.{is_name}
use Rattle.clr_net.specs.Net.{Net, units_owed, has_name, is_debt_of}
use Rattle.clr_net.specs.declared.TheConstants.{MAX_CASH, MAX_CLAIM, MAX_OUTSIDE}
use Rattle.clr_net.specs.declared.bank.Bank.{Bank}
use Rattle.clr_net.specs.declared.debt.Debt.{Debt}
use Rattle.clr_net.specs.declared.rule.RuleKind.{RuleKind}
use Rattle.net_check.specs.Checks.{and_then, fault_unless}
use Rattle.net_check.specs.Field.{number_in, class_in, rule_in}
use Rattle.net_check.specs.Within.{most_owed}
use Rattle.net_check.specs.declared.fault.Fault.{Fault}
use Rattle.net_check.specs.declared.fault.FileKind.{FileKind}
use Rattle.net_check.specs.declared.fault.FaultKind.{FaultKind}
use Rattle.net_check.specs.declared.fault.FaultKind.TheVariants as fault
use Rattle.net_check.specs.declared.limits.Limits.{Limits}

-- the number in a field, if it is at most the limit
abbrev pub number_up_to : ℕ → List ℕ → Result ℕ FaultKind
number_up_to limit field =
    and_then (ok_or (number_in field) fault.Number) (λ n.
    fault_unless (nat_le n limit) fault.Limit (Ok n))

-- the number of the bank that a field names
abbrev pub bank_in : Net → List ℕ → Result ℕ FaultKind
bank_in net field =
    fault_unless (is_name field) fault.Name (
    ok_or (position (has_name field) net.banks) fault.UnknownBank)

-- what a bank owes outside the network: nothing, where a record has no field for it
abbrev pub outside_in : Option (List ℕ) → Result ℕ FaultKind
outside_in None = Ok 0
outside_in (Some field) = number_up_to MAX_OUTSIDE field

-- a bank of this name, with its cash, its rule and what it owes outside
abbrev pub as_bank : List ℕ → ℕ × RuleKind × ℕ → Bank
as_bank name p = record { name = name; cash = p.0; rule = p.1; outside = p.2 }

-- the bank of the fields name, cash, rule and, where a record has one, outside
abbrev pub new_bank : Net → List ℕ → List ℕ → List ℕ → Option (List ℕ) → Result Bank FaultKind
new_bank net name cash rule outside =
    fault_unless (is_name name) fault.Name (
    fault_unless (not (list_any (has_name name) net.banks)) fault.DoubleBank (
    and_then (number_up_to MAX_CASH cash) (λ n.
    and_then (ok_or (rule_in rule) fault.Rule) (λ r.
    and_then (outside_in outside) (λ o.
    Ok (as_bank name (n, r, o)))))))

-- the bank of a record: outside is its fourth field
abbrev pub bank_from : Net → List (List ℕ) → Result Bank FaultKind
bank_from net (name ∷ cash ∷ rule ∷ []) = new_bank net name cash rule None
bank_from net (name ∷ cash ∷ rule ∷ outside ∷ []) = new_bank net name cash rule (Some outside)
bank_from net fields = Err fault.Fields

-- the debt of the fields debtor, creditor, class and claim, which may be added by these limits
abbrev pub debt_from : Limits → Net → List (List ℕ) → Result Debt FaultKind
debt_from by net (debtor ∷ creditor ∷ class ∷ claim ∷ []) =
    and_then (bank_in net debtor) (λ a.
    and_then (bank_in net creditor) (λ b.
    fault_unless (not (a == b)) fault.SelfDebt (
    and_then (ok_or (class_in class) fault.Class) (λ c.
    and_then (number_up_to MAX_CLAIM claim) (λ n.
    fault_unless (not (list_any (is_debt_of a b c) net.debts)) fault.DoubleDebt (
    fault_unless (nat_le (units_owed net + n) (most_owed by)) fault.Total (
    Ok (record {
      debtor = record { 0 = a };
      creditor = record { 0 = b };
      class = c;
      claim = n;
    }))))))))
debt_from by net fields = Err fault.Fields

-- a fault of a row: the header's is 0
abbrev pub fault_at : FileKind → ℕ → FaultKind → Fault
fault_at f row k = record { file = f; row = row; kind = k }

-- what a row gives, or its fault
abbrev pub in_row : {A : Type 0} → FileKind → ℕ → Result A FaultKind → Result A Fault
in_row f row r = result_map_both (λ a. a) (fault_at f row) r
