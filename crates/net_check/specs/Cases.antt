-- Worked cases: what a field gives, and a record beside the chain, where A owes B 10 and B owes C 9
use Rattle.std.specs.Prelude.{◌≡◌, ⊤, ℕ, List, [], ◌∷◌, codes, refl, map, Some, None, Result, Ok, Err}
use Rattle.std.specs.Result.{result_map_both}
use Rattle.std.specs.Str.{is_utf8, chars}
use lib.Utf8.{encode}
use Rattle.clr_net.specs.Net.{Net}
use Rattle.clr_net.specs.Samples.{chain}
use Rattle.net_check.specs.Field.{trimmed_start, trimmed_field, number_after, number_in}
use Rattle.net_check.specs.Record.{bank_from, debt_from}
use Rattle.net_check.specs.declared.fault.FaultKind.{FaultKind}
use Rattle.net_check.specs.Within.{limits_named}
use Rattle.net_check.specs.declared.fault.FaultKind.TheVariants as fault
use Rattle.net_check.specs.declared.limits.Limits.{Limits}
use Rattle.net_check.specs.declared.limits.Limits.TheVariants as limits

-- what a case unfolds to compute on literals
unfoldable fields_on_literals : ⊤
unfolding is_utf8 chars encode trimmed_start number_after
fields_on_literals = tt

-- a number is 1 to 20 digits, whatever it would be
pub digits_are_a_number : map number_in (
    codes "0" ∷ codes "00000000000000000007" ∷ codes "99999999999999999999" ∷ [])
    ≡ Some 0 ∷ Some 7 ∷ Some 99999999999999999999 ∷ []
unfolding fields_on_literals
digits_are_a_number = refl

pub nothing_else_is : map number_in (
    codes "000000000000000000007" ∷ codes "" ∷ codes "+1" ∷ codes "1.0" ∷ codes " 1" ∷ [])
    ≡ None ∷ None ∷ None ∷ None ∷ None ∷ []
unfolding fields_on_literals
nothing_else_is = refl

-- what a record gives: the fault, or 0 beside the chain
abbrev told : {A : Type 0} → Result A FaultKind → Result ℕ FaultKind
told r = result_map_both (λ _. 0) (λ k. k) r

-- a bank of these fields
abbrev bank : List ℕ → List ℕ → List ℕ → Result ℕ FaultKind
bank name cash rule = told (bank_from chain (map trimmed_field (name ∷ cash ∷ rule ∷ [])))

-- a bank of these fields, of which the last is what it owes outside
abbrev bank_outside : List ℕ → List ℕ → List ℕ → List ℕ → Result ℕ FaultKind
bank_outside name cash rule outside =
    told (bank_from chain (map trimmed_field (name ∷ cash ∷ rule ∷ outside ∷ [])))

-- banks of every rule, up to the limit of cash
pub banks_given :
    bank (codes " D") (codes "1000000000000") (codes "order")
    ∷ bank (codes "D") (codes "1") (codes "equal")
    ∷ bank (codes "D") (codes "1") (codes " losses")
    ∷ bank (codes "D") (codes "1") (codes "jefferson")
    ∷ bank (codes "D") (codes "1") (codes "webster")
    ∷ bank (codes "D") (codes "1") (codes "adams\t") ∷ []
    ≡ Ok 0 ∷ Ok 0 ∷ Ok 0 ∷ Ok 0 ∷ Ok 0 ∷ Ok 0 ∷ []
unfolding fields_on_literals
banks_given = refl

-- the first fault of a bank: its name, its cash, its rule
pub faults_of_banks :
    bank (codes "") (codes "x") (codes "none")
    ∷ bank (codes "D\"") (codes "x") (codes "none")
    ∷ bank (codes " A ") (codes "x") (codes "none")
    ∷ bank (codes "D") (codes "-1") (codes "none")
    ∷ bank (codes "D") (codes "1000000000001") (codes "none")
    ∷ bank (codes "D") (codes "1") (codes "Order") ∷ []
    ≡ Err fault.Name ∷ Err fault.Name ∷ Err fault.DoubleBank
    ∷ Err fault.Number ∷ Err fault.Limit ∷ Err fault.Rule ∷ []
unfolding fields_on_literals
faults_of_banks = refl

-- what a bank owes outside is a number up to its limit, and judged after the rule
pub outside_of_banks :
    bank_outside (codes "D") (codes "1") (codes "order") (codes "100000000000")
    ∷ bank_outside (codes "D") (codes "1") (codes "order") (codes "")
    ∷ bank_outside (codes "D") (codes "1") (codes "order") (codes "100000000001")
    ∷ bank_outside (codes "D") (codes "1") (codes "none") (codes "x") ∷ []
    ≡ Ok 0 ∷ Err fault.Number ∷ Err fault.Limit ∷ Err fault.Rule ∷ []
unfolding fields_on_literals
outside_of_banks = refl

-- a debt of these fields
abbrev debt : List ℕ → List ℕ → List ℕ → List ℕ → Result ℕ FaultKind
debt debtor creditor class claim =
    let fields = map trimmed_field (debtor ∷ creditor ∷ class ∷ claim ∷ []) in
    told (debt_from limits.Standard chain fields)

-- debts of the first and the last class, of nothing and of the limit, and of another class between
-- the same banks
pub debts_given :
    debt (codes "A") (codes " C") (codes "1") (codes "1000000")
    ∷ debt (codes "A") (codes "C") (codes "9") (codes "0")
    ∷ debt (codes "A") (codes "B") (codes "2\t") (codes "2") ∷ []
    ≡ Ok 0 ∷ Ok 0 ∷ Ok 0 ∷ []
unfolding fields_on_literals
debts_given = refl

-- the first fault of a debt: its debtor and its creditor
pub faults_of_its_banks :
    debt (codes ",") (codes "") (codes "x") (codes "x")
    ∷ debt (codes "X") (codes "") (codes "x") (codes "x")
    ∷ debt (codes "A") (codes "") (codes "x") (codes "x")
    ∷ debt (codes "A") (codes "X") (codes "x") (codes "x")
    ∷ debt (codes "A") (codes "A") (codes "x") (codes "x") ∷ []
    ≡ Err fault.Name ∷ Err fault.UnknownBank
    ∷ Err fault.Name ∷ Err fault.UnknownBank ∷ Err fault.SelfDebt ∷ []
unfolding fields_on_literals
faults_of_its_banks = refl

-- and then its class, its claim, and the debts before it
pub faults_of_debts :
    debt (codes "A") (codes "B") (codes "0") (codes "x")
    ∷ debt (codes "A") (codes "B") (codes "11") (codes "x")
    ∷ debt (codes "A") (codes "B") (codes "1") (codes "x")
    ∷ debt (codes "A") (codes "B") (codes "1") (codes "1000001")
    ∷ debt (codes "A") (codes "B") (codes "1") (codes "2") ∷ []
    ≡ Err fault.Class ∷ Err fault.Class
    ∷ Err fault.Number ∷ Err fault.Limit ∷ Err fault.DoubleDebt ∷ []
unfolding fields_on_literals
faults_of_debts = refl

-- two words name limits, in lower case
pub limits_have_names : map limits_named (
    codes "standard" ∷ codes "wide" ∷ codes "Wide" ∷ codes "big" ∷ codes "" ∷ [])
    ≡ Some limits.Standard ∷ Some limits.Wide ∷ None ∷ None ∷ None ∷ []
limits_have_names = refl

-- a debt of A to C by some limits, where A owes B so much
abbrev debt_beside : Limits → ℕ → List ℕ → Result ℕ FaultKind
debt_beside by owed claim =
    let net : Net = record {
      banks = chain.banks;
      debts = record {
        debtor = record { 0 = 0 };
        creditor = record { 0 = 1 };
        class = 1;
        claim = owed;
      } ∷ [];
    } in
    told (debt_from by net (codes "A" ∷ codes "C" ∷ codes "1" ∷ claim ∷ []))

-- all claims together are within the limits that are asked for
pub totals_by_limits :
    debt_beside limits.Standard 9000000 (codes "1000000")
    ∷ debt_beside limits.Standard 9000001 (codes "1000000")
    ∷ debt_beside limits.Standard 10000001 (codes "0")
    ∷ debt_beside limits.Wide 9000001 (codes "1000000")
    ∷ debt_beside limits.Wide 24000000 (codes "1000000")
    ∷ debt_beside limits.Wide 24000001 (codes "1000000") ∷ []
    ≡ Ok 0 ∷ Err fault.Total ∷ Err fault.Total ∷ Ok 0 ∷ Ok 0 ∷ Err fault.Total ∷ []
unfolding fields_on_literals
totals_by_limits = refl
