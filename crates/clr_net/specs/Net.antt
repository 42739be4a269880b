-- A network as plain data: its banks and its debts, each known by its number in file order.
use Rattle.std.specs.Prelude.{ℕ, zero, suc, ◌==◌, ◌&&◌, Bool, false, List, [], ◌∷◌, ◌++◌, length, map, filter, count_by, sum_by, slice_get}
use Rattle.std.specs.List.{range_with_len}
use Rattle.std.specs.Option.{option_map_or}
use Rattle.std.specs.Str.{bytes_eq}
use Rattle.clr_net.specs.declared.bank.Bank.{Bank}
use Rattle.clr_net.specs.declared.debt.Debt.{Debt}
use Rattle.clr_net.specs.declared.debt.DebtId.{DebtId}
use Rattle.clr_net.specs.declared.rule.RuleKind.{RuleKind}
use Rattle.clr_net.specs.declared.rule.RuleKind.TheVariants as kind

-- the list with the item in the place i changed
abbrev pub changed_at : {A : Type 0} → (A → A) → List A → ℕ → List A
changed_at f [] i = []
changed_at f (x ∷ xs) zero = f x ∷ xs
changed_at f (x ∷ xs) (suc i) = x ∷ changed_at f xs i

pub record Net : Type 0 where
  pub banks : List Bank
  pub debts : List Debt

-- no bank and no debt
abbrev pub empty_net : Net
empty_net = record { banks = []; debts = [] }

-- the network with one bank more, at the end
abbrev pub with_bank : Net → Bank → Net
with_bank net b = record net { banks = net.banks ++ b ∷ [] }

-- the network with one debt more, at the end
abbrev pub with_debt : Net → Debt → Net
with_debt net d = record net { debts = net.debts ++ d ∷ [] }

-- the bank with this cash
abbrev pub of_cash : ℕ → Bank → Bank
of_cash cash b = record b { cash = cash }

-- the network with another cash at the bank i
abbrev pub with_cash : Net → ℕ → ℕ → Net
with_cash net i cash = record net { banks = changed_at (of_cash cash) net.banks i }

-- the name of the bank i: no bytes past the end
abbrev pub name_of : Net → ℕ → List ℕ
name_of net i = option_map_or (λ b. b.name) (slice_get net.banks i) []

-- the cash of the bank i: 0 past the end
abbrev pub cash_of : Net → ℕ → ℕ
cash_of net i = option_map_or (λ b. b.cash) (slice_get net.banks i) 0

-- what the bank i owes outside the network, before all its debts: 0 past the end
abbrev pub outside_of : Net → ℕ → ℕ
outside_of net i = option_map_or (λ b. b.outside) (slice_get net.banks i) 0

-- the rule of the bank i: the order rule past the end
abbrev pub rule_of : Net → ℕ → RuleKind
rule_of net i = option_map_or (λ b. b.rule) (slice_get net.banks i) kind.Order

-- the number of the bank that owes the debt x: 0 past the end
abbrev pub debtor_of : Net → ℕ → ℕ
debtor_of net x = option_map_or (λ d. d.debtor.0) (slice_get net.debts x) 0

-- the number of the bank that the debt x is owed to: 0 past the end
abbrev pub creditor_of : Net → ℕ → ℕ
creditor_of net x = option_map_or (λ d. d.creditor.0) (slice_get net.debts x) 0

-- the class of the debt x: 0, which is no class, past the end
abbrev pub class_of : Net → ℕ → ℕ
class_of net x = option_map_or (λ d. d.class) (slice_get net.debts x) 0

-- the units that the debt x claims: 0 past the end
abbrev pub claim_of : Net → ℕ → ℕ
claim_of net x = option_map_or (λ d. d.claim) (slice_get net.debts x) 0

-- all units owed
abbrev pub units_owed : Net → ℕ
units_owed net = sum_by (λ d. d.claim) net.debts

-- all cash
abbrev pub all_cash : Net → ℕ
all_cash net = sum_by (λ b. b.cash) net.banks

-- all that banks owe outside the network
abbrev pub all_outside : Net → ℕ
all_outside net = sum_by (λ b. b.outside) net.banks

-- the bank has this name, byte for byte
abbrev pub has_name : List ℕ → Bank → Bool
has_name name b = bytes_eq b.name name

-- the debt has this debtor, creditor and class
abbrev pub is_debt_of : ℕ → ℕ → ℕ → Debt → Bool
is_debt_of debtor creditor class d =
    (d.debtor.0 == debtor) && (d.creditor.0 == creditor) && (d.class == class)

-- the debt of this number has this debtor, creditor and class: none has, past the end
abbrev pub is_of_kind : Net → ℕ → ℕ → ℕ → ℕ → Bool
is_of_kind net debtor creditor class x =
    option_map_or (is_debt_of debtor creditor class) (slice_get net.debts x) false

-- the numbers of some debts
abbrev pub numbers : List DebtId → List ℕ
numbers ids = map (λ id. id.0) ids

-- the numbers of all debts, in file order
abbrev pub debt_numbers : Net → List ℕ
debt_numbers net = range_with_len 0 (length net.debts)

-- the debts that the bank i owes, in file order
abbrev pub row : Net → ℕ → List ℕ
row net i = filter (λ x. debtor_of net x == i) (debt_numbers net)

-- the debts that are owed to the bank i, in file order
abbrev pub column : Net → ℕ → List ℕ
column net i = filter (λ x. creditor_of net x == i) (debt_numbers net)

-- the claims that the bank i owes, place by place of its row
abbrev pub claims_of : Net → ℕ → List ℕ
claims_of net i = map (claim_of net) (row net i)

-- the classes of the debts that the bank i owes, place by place of its row
abbrev pub classes_of : Net → ℕ → List ℕ
classes_of net i = map (class_of net) (row net i)

-- the place of the debt x in its debtor's row: how many debts of that debtor stand before it
abbrev pub place_in_row : Net → ℕ → ℕ
place_in_row net x = count_by (λ y. debtor_of net y == debtor_of net x) (range_with_len 0 x)
