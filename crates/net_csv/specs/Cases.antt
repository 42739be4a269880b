-- Worked cases of reading and printing.
use Rattle.std.specs.Prelude.{◌≡◌, ⊤, ℕ, List, [], ◌∷◌, ◌++◌, codes, length, map, refl, Result, Ok, Err}
use Rattle.std.specs.Result.{result_map_both}
use Rattle.csv.proofs.OnLiterals.{csv_on_literals}
use Rattle.std.specs.Fmt.{digits}
use Rattle.std.specs.Str.{is_utf8, chars}
use lib.Utf8.{encode}
use Rattle.clr_net.specs.Net.{Net}
use Rattle.clr_net.specs.Samples.{bank, chain}
use Rattle.clr_net.specs.declared.debt.Debt.{Debt}
use Rattle.clr_net.specs.declared.rule.RuleKind.TheVariants as kind
use Rattle.net_check.specs.Field.{trimmed_start, number_after}
use Rattle.net_check.specs.declared.fault.Fault.{Fault}
use Rattle.net_check.specs.declared.fault.FileKind.TheVariants as file
use Rattle.net_check.specs.declared.fault.FaultKind.{FaultKind}
use Rattle.net_check.specs.declared.fault.FaultKind.TheVariants as fault
use Rattle.net_check.specs.Record.{fault_at}
use Rattle.net_csv.specs.Printing.{banks_text, banks_text_2, debts_text}
use Rattle.net_csv.specs.Reading.{network_of, read_rows}

-- what a case unfolds to compute the reading of two texts
unfoldable pub reading_on_literals : ⊤
unfolding is_utf8 chars encode csv_on_literals read_rows trimmed_start number_after
reading_on_literals = tt

abbrev pub chain_banks : List ℕ
chain_banks = codes "name,cash,rule\nA,7,order\nB,1,order\nC,0,order\n"

abbrev pub no_debts : List ℕ
no_debts = codes "debtor,creditor,class,claim\n"

abbrev pub chain_debts : List ℕ
chain_debts = codes "debtor,creditor,class,claim\nA,B,1,10\nB,C,1,9\n"

pub chain_reads : network_of chain_banks chain_debts ≡ Ok chain
unfolding reading_on_literals
chain_reads = refl

-- the same, with a byte order mark, lines that end with CR LF, spaces and tabs round fields, and no
-- end of the last line
abbrev pub marked_banks : List ℕ
marked_banks =
    0xEF ∷ 0xBB ∷ 0xBF ∷ codes "name,cash,rule\r\n A ,\t7,order \r\nB, 1 ,order\r\nC,0,order"

abbrev pub spaced_debts : List ℕ
spaced_debts = codes " debtor,creditor,class,claim \r\nA,B,1,10\r\nB,\tC,1 ,9"

pub mark_and_spaces_read : network_of marked_banks spaced_debts ≡ Ok chain
unfolding reading_on_literals
mark_and_spaces_read = refl

-- how many banks a file gives, or its first fault
abbrev banks_read : List ℕ → Result ℕ Fault
banks_read text = result_map_both (λ net. length net.banks) (λ f. f) (network_of text no_debts)

-- how many debts a file gives beside the chain's banks, or its first fault
abbrev debts_read : List ℕ → Result ℕ Fault
debts_read text = result_map_both (λ net. length net.debts) (λ f. f) (network_of chain_banks text)

-- the faults of a row
abbrev bank_fault : ℕ → FaultKind → Result ℕ Fault
bank_fault row k = Err (fault_at file.Banks row k)

abbrev debt_fault : ℕ → FaultKind → Result ℕ Fault
debt_fault row k = Err (fault_at file.Debts row k)

-- a header stands alone, with spaces round its words, or in quotes; version 2 has one word more
pub headers_read : map banks_read (
    codes "name,cash,rule\n"
    ∷ codes "name,cash,rule"
    ∷ codes " name,cash\t,\trule \nA,7,order\n"
    ∷ codes "\"name\",\"cash\",\"rule\"\n\"A\",7,order\n"
    ∷ codes "name,cash,rule,outside"
    ∷ codes " name,cash,rule,\toutside \nA,7,order,3\n"
    ∷ [])
    ≡ Ok 0 ∷ Ok 0 ∷ Ok 1 ∷ Ok 1 ∷ Ok 0 ∷ Ok 1 ∷ []
unfolding reading_on_literals
headers_read = refl

-- and nothing else is a header
pub headers_refused : map banks_read (
    codes ""
    ∷ codes "NAME,CASH,RULE\n"
    ∷ codes "name,cash\n"
    ∷ codes "name,cash,rule,\n"
    ∷ codes ",,\nname,cash,rule\n"
    ∷ codes "A,7,order\n"
    ∷ codes "name,cash,outside,rule\n"
    ∷ codes "name,cash,rule,outside,\n"
    ∷ [])
    ≡ bank_fault 0 fault.Header ∷ bank_fault 0 fault.Header ∷ bank_fault 0 fault.Header
    ∷ bank_fault 0 fault.Header ∷ bank_fault 0 fault.Header ∷ bank_fault 0 fault.Header
    ∷ bank_fault 0 fault.Header ∷ bank_fault 0 fault.Header ∷ []
unfolding reading_on_literals
headers_refused = refl

-- lines end with CR as well; a record whose fields are all blank is passed over, and so is a line
-- with no byte
pub records_read : map banks_read (
    codes "name,cash,rule\rA,7,order\rB,1,order\r"
    ∷ codes "name,cash,rule\n,,\nA,7,order\n , \t,\n,\n\"\"\n,,,,,\n"
    ∷ codes "name,cash,rule\n\n\n\r\nA,7,order\n"
    ∷ codes "name,cash,rule\nA,7,\"order"
    ∷ codes "name,cash,rule\n\""
    ∷ [])
    ≡ Ok 2 ∷ Ok 1 ∷ Ok 1 ∷ Ok 1 ∷ Ok 0 ∷ []
unfolding reading_on_literals
records_read = refl

-- numbers of twenty digits, the most cash, names that differ in case, and rules with spaces round
-- them
pub banks_given : map banks_read (
    codes "name,cash,rule\nA,00000000000000000007,order\n"
    ∷ codes "name,cash,rule\nA,1000000000000,order\na,0,order\nA A,0,order\n"
    ∷ codes "name,cash,rule\nA,1,order\nB,2,equal\nC,3, losses\nD,4,jefferson\nE,5,adams\t\n"
    ∷ [])
    ≡ Ok 1 ∷ Ok 3 ∷ Ok 5 ∷ []
unfolding reading_on_literals
banks_given = refl

-- blank records count as rows, and lines with no byte do not
pub rows_counted : map banks_read (
    codes "name,cash,rule\nA,7,order\n , \t,\nB,x,order\n"
    ∷ codes "name,cash,rule\nA,7,order\n\n\nB,x,order\n"
    ∷ codes "name,cash,rule\rA,7,order\rB,x,order\r"
    ∷ [])
    ≡ bank_fault 3 fault.Number ∷ bank_fault 2 fault.Number ∷ bank_fault 2 fault.Number ∷ []
unfolding reading_on_literals
rows_counted = refl

-- a record has as many fields as the header
pub fields_counted : map banks_read (
    codes "name,cash,rule\nA,7\n"
    ∷ codes "name,cash,rule\nA,7,order,\n"
    ∷ codes "name,cash,rule\nA,7,order,3\n"
    ∷ codes "name,cash,rule\nA,7,order\nB,1"
    ∷ codes "name,cash,rule\n\"A,7,order\nB,1,order\n"
    ∷ codes "name,cash,rule,outside\nA,7,order\n"
    ∷ codes "name,cash,rule,outside\nA,7,order,3,\n"
    ∷ [])
    ≡ bank_fault 1 fault.Fields ∷ bank_fault 1 fault.Fields ∷ bank_fault 1 fault.Fields
    ∷ bank_fault 2 fault.Fields ∷ bank_fault 1 fault.Fields ∷ bank_fault 1 fault.Fields
    ∷ bank_fault 1 fault.Fields ∷ []
unfolding reading_on_literals
fields_counted = refl

-- a quoted field may have a comma and a quote, and a quote that does not begin its field is part of
-- it; no name has one
pub names_judged : map banks_read (
    codes "name,cash,rule\n\"A,B\",7,order\n"
    ∷ codes "name,cash,rule\n \"A\",7,order\n"
    ∷ codes "name,cash,rule\n\"A\"\"B\",7,order\n"
    ∷ codes "name,cash,rule\n \t,7,order\n"
    ∷ codes "name,cash,rule\nA,7,order\n A\t,x,none\n"
    ∷ [])
    ≡ bank_fault 1 fault.Name ∷ bank_fault 1 fault.Name ∷ bank_fault 1 fault.Name
    ∷ bank_fault 1 fault.Name ∷ bank_fault 2 fault.DoubleBank ∷ []
unfolding reading_on_literals
names_judged = refl

-- the cash, then the rule, then what is owed outside
pub amounts_judged : map banks_read (
    codes "name,cash,rule\nA,,order\n"
    ∷ codes "name,cash,rule\nA,-1,none\n"
    ∷ codes "name,cash,rule\nA,000000000000000000007,order\n"
    ∷ codes "name,cash,rule\nA,99999999999999999999,none\n"
    ∷ codes "name,cash,rule\nA,1000000000001,order\n"
    ∷ codes "name,cash,rule\nA,7,Order\n"
    ∷ codes "name,cash,rule,outside\nA,7,none,x\n"
    ∷ codes "name,cash,rule,outside\nA,7,order,\n"
    ∷ codes "name,cash,rule,outside\nA,7,order,100000000001\n"
    ∷ codes "name,cash,rule,outside\nA,7,order,100000000000\n"
    ∷ [])
    ≡ bank_fault 1 fault.Number ∷ bank_fault 1 fault.Number ∷ bank_fault 1 fault.Number
    ∷ bank_fault 1 fault.Limit ∷ bank_fault 1 fault.Limit ∷ bank_fault 1 fault.Rule
    ∷ bank_fault 1 fault.Rule ∷ bank_fault 1 fault.Number ∷ bank_fault 1 fault.Limit ∷ Ok 1
    ∷ []
unfolding reading_on_literals
amounts_judged = refl

-- debts of all classes, of nothing, and of the most units
pub debts_given : map debts_read (
    codes "debtor,creditor,class,claim\nA,B,1,0\nB,A,1,1000000\n"
    ∷ codes "debtor,creditor,class,claim\nA,B,1,10\nB,C,1,9\nA,B,2,2\nA,B,9,2\n"
    ∷ codes "debtor,creditor,class,claim\n,,,\n\"A\",\"B\",\"1\",00000000000000000005\n,"
    ∷ [])
    ≡ Ok 2 ∷ Ok 4 ∷ Ok 1 ∷ []
unfolding reading_on_literals
debts_given = refl

-- the first fault of the first record at fault
pub debts_refused : map debts_read (
    codes ""
    ∷ codes "Debtor,creditor,class,claim\n"
    ∷ codes "debtor,creditor,class,claim\nA,B,1\n"
    ∷ codes "debtor,creditor,class,claim\nA,B,1,10,\n"
    ∷ codes "debtor,creditor,class,claim\n\"A,B\",D,0,x\n"
    ∷ codes "debtor,creditor,class,claim\nD,,0,x\n"
    ∷ codes "debtor,creditor,class,claim\nA,,0,x\n"
    ∷ codes "debtor,creditor,class,claim\nA,a,0,x\n"
    ∷ codes "debtor,creditor,class,claim\nA,A,0,x\n"
    ∷ codes "debtor,creditor,class,claim\nA,B,0,x\n"
    ∷ codes "debtor,creditor,class,claim\nA,B,2,x\n"
    ∷ codes "debtor,creditor,class,claim\nA,B,9,1000001\n"
    ∷ [])
    ≡ debt_fault 0 fault.Header ∷ debt_fault 0 fault.Header ∷ debt_fault 1 fault.Fields
    ∷ debt_fault 1 fault.Fields ∷ debt_fault 1 fault.Name ∷ debt_fault 1 fault.UnknownBank
    ∷ debt_fault 1 fault.Name ∷ debt_fault 1 fault.UnknownBank ∷ debt_fault 1 fault.SelfDebt
    ∷ debt_fault 1 fault.Class ∷ debt_fault 1 fault.Number ∷ debt_fault 1 fault.Limit ∷ []
unfolding reading_on_literals
debts_refused = refl

-- one debt of a debtor, creditor and class; the earlier row is told
pub debts_of_a_kind : map debts_read (
    codes "debtor,creditor,class,claim\nA,A,1,10\nB,D,1,9\n"
    ∷ codes "debtor,creditor,class,claim\nA,B,1,10\nB,D,1,9\n"
    ∷ codes "debtor,creditor,class,claim\nA,B,1,10\nB,C,1,9\nA,B,1,2\n"
    ∷ codes "debtor,creditor,class,claim\nA,B,1,10\n,,,\nA,B,1,10\n"
    ∷ [])
    ≡ debt_fault 1 fault.SelfDebt ∷ debt_fault 2 fault.UnknownBank
    ∷ debt_fault 3 fault.DoubleDebt ∷ debt_fault 3 fault.DoubleDebt ∷ []
unfolding reading_on_literals
debts_of_a_kind = refl

-- what is owed outside, in version 2
abbrev owing_banks : List ℕ
owing_banks = codes "name,cash,rule,outside\nA,7,order,3\nB,1,order,0\nC,0,equal,2\n"

abbrev owing : Net
owing = record {
  banks =
      record { name = codes "A"; cash = 7; rule = kind.Order; outside = 3 } ∷ bank (codes "B") 1
      ∷ record { name = codes "C"; cash = 0; rule = kind.Equal; outside = 2 } ∷ [];
  debts = chain.debts;
}

pub owing_reads : network_of owing_banks chain_debts ≡ Ok owing
unfolding reading_on_literals
owing_reads = refl

-- debts of two classes are two debts
abbrev debt_of_class : ℕ → ℕ → ℕ → ℕ → Debt
debt_of_class class debtor creditor claim = record {
  debtor = record { 0 = debtor };
  creditor = record { 0 = creditor };
  class = class;
  claim = claim;
}

pub debts_of_two_classes : network_of chain_banks
    (codes "debtor,creditor,class,claim\nA,B,1,10\nB,C,1,9\nA,B,2,2\n")
    ≡ Ok (record {
      banks = chain.banks;
      debts = debt_of_class 1 0 1 10 ∷ debt_of_class 1 1 2 9 ∷ debt_of_class 2 0 1 2 ∷ [];
    })
unfolding reading_on_literals
debts_of_two_classes = refl

-- what is printed of the chain is its two files, and in version 2 its banks owe nothing outside
pub chain_prints_banks : banks_text chain ≡ chain_banks
unfolding digits
chain_prints_banks = refl

pub chain_prints_debts : debts_text chain ≡ chain_debts
unfolding digits
chain_prints_debts = refl

pub chain_converts :
    banks_text_2 chain ≡ codes "name,cash,rule,outside\nA,7,order,0\nB,1,order,0\nC,0,order,0\n"
unfolding digits
chain_converts = refl

-- banks that owe outside are printed in version 2
pub owing_prints : banks_text owing ≡ owing_banks
unfolding digits
owing_prints = refl

-- each rule is printed by its word, and each class by its digit
abbrev every_rule : List ℕ
every_rule =
    codes "name,cash,rule\nA,7,order\nB,1,equal\nC,0,losses\n"
    ++ codes "D,2,jefferson\nE,3,webster\nF,4,adams\n"

abbrev every_class : List ℕ
every_class =
    codes "debtor,creditor,class,claim\nA,B,9,1\nA,B,8,2\nA,B,7,3\nA,B,6,4\n"
    ++ codes "B,C,5,5\nB,C,4,6\nB,C,3,7\nB,C,2,8\n"

pub rules_and_classes_back :
    result_map_both (λ net. banks_text net ∷ debts_text net ∷ []) (λ f. f)
    (network_of every_rule every_class)
    ≡ Ok (every_rule ∷ every_class ∷ [])
unfolding reading_on_literals digits
rules_and_classes_back = refl
