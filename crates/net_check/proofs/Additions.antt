-- A bank or a debt that a record gives may be added to the network read so far.
use Rattle.std.proofs.Common.{◌≡◌, ℕ, ◌+◌, ◌<◌, ◌≤◌, ◌==◌, not, true, false, List, [], ◌∷◌, length}
use Rattle.std.proofs.Common.{Option, Some, None, Result, Ok, Err, IfOk, nat_le}
use Rattle.std.proofs.Common.{refl, sym, ap, ◌∙◌, subst, eq-eqb, arith}
use Rattle.std.specs.List.{list_any}
use Rattle.std.specs.Option.{ok_or}
use Rattle.std.proofs.lemmas.Bool.{leb-true, not-true, true≢false}
use Rattle.clr_net.proofs.OfKind.{new_kind}
use Rattle.clr_net.specs.Name.{is_name}
use Rattle.clr_net.specs.Net.{Net, units_owed, has_name, is_debt_of}
use Rattle.clr_net.specs.Limits.{IsNewBank, IsNewDebt}
use Rattle.clr_net.specs.declared.TheConstants.{MAX_BANKS, MAX_DEBTS, MAX_CASH, MAX_CLAIM, MAX_CLASS}
use Rattle.clr_net.specs.declared.bank.Bank.{Bank}
use Rattle.clr_net.specs.declared.debt.Debt.{Debt}
use Rattle.clr_net.specs.declared.rule.RuleKind.{RuleKind}
use Rattle.net_check.specs.Checks.{and_then, fault_unless}
use Rattle.net_check.specs.Field.{class_in, rule_in}
use Rattle.net_check.specs.Record.{number_up_to, outside_in, bank_in, as_bank, new_bank, bank_from, debt_from, in_row}
use Rattle.net_check.specs.Within.{most_owed}
use Rattle.net_check.specs.declared.fault.Fault.{Fault}
use Rattle.net_check.specs.declared.fault.FileKind.{FileKind}
use Rattle.net_check.specs.declared.fault.FaultKind.{FaultKind}
use Rattle.net_check.specs.declared.fault.FaultKind.TheVariants as fault
use Rattle.net_check.specs.declared.limits.Limits.{Limits}
use Rattle.net_check.proofs.Within.{units_allowed}
use Rattle.net_check.proofs.Passed.{fault_unless-ok, and_then-ok, ok_or-ok, number_up_to-ok, outside_in-ok, bank_in-ok, class_in-some, new_name}

-- what the fields of a record passed that give a bank
pub record IsGiven (net : Net) (name cash : List ℕ) (outside : Option (List ℕ)) (b : Bank) : Type 0 where
  pub name_is : b.name ≡ name
  pub named : is_name name ≡ true
  pub new : list_any (has_name name) net.banks ≡ false
  pub cash_is : number_up_to MAX_CASH cash ≡ Ok b.cash
  pub outside_is : outside_in outside ≡ Ok b.outside

-- such fields give it, where their numbers and the name are those of a bank
given_as : (net : Net) (name cash : List ℕ) (outside : Option (List ℕ)) (n o : ℕ) (r : RuleKind) (b : Bank)
    → is_name name ≡ true → not (list_any (has_name name) net.banks) ≡ true → number_up_to MAX_CASH cash ≡ Ok n → outside_in outside ≡ Ok o
    → as_bank name (n, r, o) ≡ b → IsGiven net name cash outside b
given_as net name cash outside n o r b named new cash_is outside_is same = record {
  name_is = sym (ap (λ (x : Bank). x.name) same);
  named = named;
  new = not-true (list_any (has_name name) net.banks) new;
  cash_is = cash_is ∙ ap (λ (x : Bank). Ok x.cash) same;
  outside_is = outside_is ∙ ap (λ (x : Bank). Ok x.outside) same;
}

-- a record that passes the checks of a bank gives one whose name and cash are those of its fields
pub new_bank-given : (net : Net) (name cash rule : List ℕ) (outside : Option (List ℕ)) (b : Bank)
    → new_bank net name cash rule outside ≡ Ok b → IsGiven net name cash outside b
new_bank-given net name cash rule outside b h =
    let after_outside : ℕ → RuleKind → ℕ → Result Bank FaultKind = λ n r o. Ok (as_bank name (n, r, o)) in
    let after_rule : ℕ → RuleKind → Result Bank FaultKind = λ n r. and_then (outside_in outside) (after_outside n r) in
    let after_cash = λ (n : ℕ). and_then (ok_or (rule_in rule) fault.Rule) (after_rule n) in
    let after_name = and_then (number_up_to MAX_CASH cash) after_cash in
    let after_named = fault_unless (not (list_any (has_name name) net.banks)) fault.DoubleBank after_name in
    let named = fault_unless-ok (is_name name) fault.Name after_named b h in
    let is_new = fault_unless-ok (not (list_any (has_name name) net.banks)) fault.DoubleBank after_name b named.1 in
    let the_cash = and_then-ok (number_up_to MAX_CASH cash) after_cash b is_new.1 in
    let the_rule = and_then-ok (ok_or (rule_in rule) fault.Rule) (after_rule the_cash.0) b the_cash.2 in
    let owed = and_then-ok (outside_in outside) (after_outside the_cash.0 the_rule.0) b the_rule.2 in
    given_as net name cash outside the_cash.0 owed.0 the_rule.0 b named.0 is_new.0 the_cash.1 owed.1 (cc owed.2)

-- such a bank is new, within the limits
pub new_bank-ok : (net : Net) (name cash rule : List ℕ) (outside : Option (List ℕ)) (b : Bank)
    → new_bank net name cash rule outside ≡ Ok b → length net.banks < MAX_BANKS → IsNewBank net b
new_bank-ok net name cash rule outside b h l =
    let given = new_bank-given net name cash rule outside b h in
    record {
      banks_in_limit = l;
      named = rw given.name_is given.named;
      cash_in_limit = number_up_to-ok MAX_CASH cash b.cash given.cash_is;
      outside_in_limit = outside_in-ok outside b.outside given.outside_is;
      only_of_its_name = rw given.name_is (new_name name net.banks given.new);
    }

-- so does a record
pub bank_from-ok : (net : Net) (fields : List (List ℕ)) (b : Bank) → bank_from net fields ≡ Ok b → length net.banks < MAX_BANKS
    → IsNewBank net b
bank_from-ok net (name ∷ cash ∷ rule ∷ []) b h l = new_bank-ok net name cash rule None b h l
bank_from-ok net (name ∷ cash ∷ rule ∷ outside ∷ []) b h l = new_bank-ok net name cash rule (Some outside) b h l
bank_from-ok net fields b h l = cc

-- a debt is new in a network, and all units owed are within some limits then
abbrev IsAllowed : Limits → Net → Debt → Type 0
IsAllowed by net d = IsNewDebt net d × (units_owed net + d.claim ≤ most_owed by)

-- the debt of these numbers
abbrev debt_with : ℕ → ℕ → ℕ → ℕ → Debt
debt_with a b c n = record {
  debtor = record { 0 = a };
  creditor = record { 0 = b };
  class = c;
  claim = n;
}

-- what the checks of a debt say, from the last one: of the total, of the debts before, of the claim,
-- of the class, and of the two banks
abbrev by_total : Limits → Net → ℕ → ℕ → ℕ → ℕ → Result Debt FaultKind
by_total by net a b c n =
    fault_unless (nat_le (units_owed net + n) (most_owed by)) fault.Total (Ok (debt_with a b c n))

-- from that of the debts before
abbrev by_kind : Limits → Net → ℕ → ℕ → ℕ → ℕ → Result Debt FaultKind
by_kind by net a b c n =
    fault_unless (not (list_any (is_debt_of a b c) net.debts)) fault.DoubleDebt (by_total by net a b c n)

-- from that of the claim
abbrev by_claim : Limits → Net → List ℕ → ℕ → ℕ → ℕ → Result Debt FaultKind
by_claim by net claim a b c = and_then (number_up_to MAX_CLAIM claim) (by_kind by net a b c)

-- from that of the class
abbrev by_class : Limits → Net → List ℕ → List ℕ → ℕ → ℕ → Result Debt FaultKind
by_class by net class claim a b = and_then (ok_or (class_in class) fault.Class) (by_claim by net claim a b)

-- from that of the two banks
abbrev by_banks : Limits → Net → List ℕ → List ℕ → ℕ → ℕ → Result Debt FaultKind
by_banks by net class claim a b = fault_unless (not (a == b)) fault.SelfDebt (by_class by net class claim a b)

-- from that of the creditor
abbrev by_creditor : Limits → Net → List ℕ → List ℕ → List ℕ → ℕ → Result Debt FaultKind
by_creditor by net creditor class claim a = and_then (bank_in net creditor) (by_banks by net class claim a)

module _ (by : Limits) (net : Net) (d : Debt) (l : length net.debts < MAX_DEBTS) where
  -- a debt that passes the last checks is allowed, where its numbers are within their limits
  kind_passes : (a b c n : ℕ) → a < length net.banks → b < length net.banks → not (a == b) ≡ true → (1 ≤ c) × (c ≤ MAX_CLASS) → n ≤ MAX_CLAIM
      → by_kind by net a b c n ≡ Ok d → IsAllowed by net d
  kind_passes a b c n debtor creditor apart in_class in_claim h =
      let is_new = fault_unless-ok (not (list_any (is_debt_of a b c) net.debts)) fault.DoubleDebt (by_total by net a b c n) d h in
      let in_total = fault_unless-ok (nat_le (units_owed net + n) (most_owed by)) fault.Total (Ok (debt_with a b c n)) d is_new.1 in
      let same : debt_with a b c n ≡ d = cc in_total.1 in
      let within = leb-true (units_owed net + n) (most_owed by) in_total.0 in
      subst (IsAllowed by net) {x = debt_with a b c n} same (
        record {
          debts_in_limit = l;
          owed_in_limit = omega (arith, within, units_allowed by);
          debtor_known = debtor;
          creditor_known = creditor;
          between_two_banks = λ e. true≢false (sym (eq-eqb a b e) ∙ not-true (a == b) apart);
          class_at_least_1 = in_class.0;
          class_in_limit = in_class.1;
          claim_in_limit = in_claim;
          only_of_its_kind = new_kind net a b c false (sym (not-true (list_any (is_debt_of a b c) net.debts) is_new.0));
        },
        within,
      )

  -- so is one that passes those from the class on
  class_passes : (class claim : List ℕ) (a b : ℕ) → a < length net.banks → b < length net.banks → not (a == b) ≡ true
      → by_class by net class claim a b ≡ Ok d → IsAllowed by net d
  class_passes class claim a b debtor creditor apart h =
      let the_class = and_then-ok (ok_or (class_in class) fault.Class) (by_claim by net claim a b) d h in
      let the_claim = and_then-ok (number_up_to MAX_CLAIM claim) (by_kind by net a b the_class.0) d the_class.2 in
      kind_passes a b the_class.0 the_claim.0 debtor creditor apart
      (class_in-some class the_class.0 (ok_or-ok (class_in class) fault.Class the_class.0 the_class.1))
      (number_up_to-ok MAX_CLAIM claim the_claim.0 the_claim.1) the_claim.2

-- a debt that a record gives by some limits is new, and all units owed are within them then
pub debt_from-ok : (by : Limits) (net : Net) (fields : List (List ℕ)) (d : Debt)
    → debt_from by net fields ≡ Ok d → length net.debts < MAX_DEBTS
    → IsNewDebt net d × (units_owed net + d.claim ≤ most_owed by)
debt_from-ok by net (debtor ∷ creditor ∷ class ∷ claim ∷ []) d h l =
    let the_debtor = and_then-ok (bank_in net debtor) (by_creditor by net creditor class claim) d h in
    let the_creditor = and_then-ok (bank_in net creditor) (by_banks by net class claim the_debtor.0) d the_debtor.2 in
    let apart = fault_unless-ok (not (the_debtor.0 == the_creditor.0)) fault.SelfDebt
    (by_class by net class claim the_debtor.0 the_creditor.0) d the_creditor.2 in
    class_passes by net d l class claim the_debtor.0 the_creditor.0 (bank_in-ok net debtor the_debtor.0 the_debtor.1)
    (bank_in-ok net creditor the_creditor.0 the_creditor.1) apart.0 apart.1
debt_from-ok by net fields d h l = cc

-- so is the debt of a row: what holds of each debt that a record gives holds of it
pub debt_in_row-keeps : (P : Debt → Type 0) (from : Result Debt FaultKind)
    → ((d : Debt) → from ≡ Ok d → P d)
    → (f : FileKind) (row : ℕ) (r : Result Debt Fault) → r ≡ in_row f row from → IfOk r P
debt_in_row-keeps P (Ok d) each f row r e = rw e (each d refl)
debt_in_row-keeps P (Err k) each f row r e = rw e tt
