-- What is printed of one bank and of one debt is read back as that bank and that debt.
use Rattle.std.proofs.Common.{◌≡◌, ◌<◌, ◌≤◌, ◌+◌, ◌*◌, ℕ, false, List, [], ◌∷◌, ◌++◌, length, map}
use Rattle.std.proofs.Common.{Some, Ok, refl, sym, ap, ◌∙◌, arith, sum_by}
use Rattle.std.specs.Prelude.{codes}
use Rattle.std.specs.List.{AllByRecursion, flat_map}
use Rattle.std.specs.Fmt.{decimal}
use Rattle.std.proofs.lemmas.Bool.{lt-ltb, le-leb, ne_eqb}
use Rattle.std.proofs.lemmas.List.{length-append}
use Rattle.std.proofs.lemmas.List.Concat.{flat_map-cons}
use Rattle.std.proofs.lemmas.Fmt.{length-decimal-le}
use Rattle.clr_net.specs.Net.{Net, name_of, units_owed}
use Rattle.clr_net.specs.Limits.{IsNewBank, IsNewDebt}
use Rattle.clr_net.specs.declared.TheConstants.{MAX_CASH, MAX_OUTSIDE, MAX_CLAIM}
use Rattle.clr_net.specs.declared.bank.Bank.{Bank}
use Rattle.clr_net.specs.declared.debt.Debt.{Debt}
use Rattle.clr_net.specs.declared.rule.RuleKind.{RuleKind}
use Rattle.clr_net.specs.declared.rule.RuleKind.TheVariants as kind
use Rattle.csv.specs.Reading.{strip_bom}
use Rattle.net_check.specs.Within.{most_banks, most_debts, most_owed}
use Rattle.net_check.specs.declared.limits.Limits.{Limits}
use Rattle.net_check.specs.Field.{trimmed_start, trimmed_field, rule_in}
use Rattle.clr_net.specs.Lines.{line}
use Rattle.net_csv.specs.Printing.{rule_word, bank_fields, debt_fields}
use Rattle.net_csv.specs.declared.layout.Version.{Version}
use Rattle.net_csv.specs.declared.layout.Version.TheVariants as version
use Rattle.net_csv.specs.Reading.{Fields, trimmed_fields, is_blank, records_of, bank_in_row}
use Rattle.net_csv.specs.Reading.{debt_in_row}
use Rattle.net_csv.proofs.PlainFields.{IsPlain, IsKeptField, kept_word, kept_name, kept_decimal}
use Rattle.net_csv.proofs.PlainFields.{name_has_byte, name_is_short, number_in-decimal}
use Rattle.net_csv.proofs.PlainFields.{class_back}
use Rattle.net_csv.proofs.PrintedRecords.{IsRow, read_printed}
use Rattle.net_csv.proofs.BackFacts.{with_debts, no_name, no_kind, IsBackName}

-- the word of a rule is kept, short, and read back as the rule
record IsRuleWord (r : RuleKind) : Type 0 where
  kept : IsKeptField (rule_word r)
  short : length (rule_word r) ≤ 9
  back : rule_in (rule_word r) ≡ Some r

-- each rule's word is such a word
is_rule_word : (r : RuleKind) → IsRuleWord r
unfolding trimmed_start
is_rule_word kind.Order = record { kept = kept_word (codes "order") refl refl; short = omega arith; back = refl }
is_rule_word r = record { kept = kept_word _ refl refl; short = omega arith; back = refl }

-- a record that a file keeps, and whose line is short
pub record IsKeptRow (fields : Fields) : Type 0 where
  pub row : IsRow fields
  pub trimmed : trimmed_fields fields ≡ fields
  pub full : is_blank fields ≡ false
  pub short : length (line fields) ≤ 151

-- it is one where each field is kept
abbrev pub AreKeptFields : Fields → Type 0
AreKeptFields fields = AllByRecursion IsKeptField fields

-- what holds of each item where another fact does
pub each_then : {X : Type 0} (P Q : X → Type 0) → ((x : X) → P x → Q x) → (xs : List X) → AllByRecursion P xs → AllByRecursion Q xs
each_then P Q f [] all = tt
each_then P Q f (x ∷ xs) all = (f x all.0, each_then P Q f xs all.1)

-- a list of which f leaves each item stays
map_same : {X : Type 0} (f : X → X) (xs : List X) → AllByRecursion (λ x. f x ≡ x) xs → map f xs ≡ xs
map_same f [] all = refl
map_same f (x ∷ xs) all = rw (all.0, map_same f xs all.1) refl

-- fields that a file keeps make a record that it keeps, if it is not blank and is short
pub kept_row : (first second : List ℕ) (others : Fields) → AreKeptFields (first ∷ second ∷ others) → is_blank (first ∷ second ∷ others) ≡ false
    → length (line (first ∷ second ∷ others)) ≤ 151 → IsKeptRow (first ∷ second ∷ others)
kept_row first second others all full short = record {
  row = record { first = first; second = second; others = others; are = refl; plain = each_then IsKeptField IsPlain (λ x k. k.plain) (first ∷ second ∷ others) all };
  trimmed = map_same trimmed_field (first ∷ second ∷ others)
      (each_then IsKeptField (λ x. trimmed_field x ≡ x) (λ x k. k.trimmed) (first ∷ second ∷ others) all);
  full = full;
  short = short;
}

-- each record of a list is such
abbrev pub AreKeptRows : List Fields → Type 0
AreKeptRows rows = AllByRecursion IsKeptRow rows

-- the records of a printed file
pub records_printed : (header : Fields) (rows : List Fields) → IsRow header → AreKeptRows rows
    → strip_bom (line header ++ flat_map line rows) ≡ line header ++ flat_map line rows
    → records_of (line header ++ flat_map line rows) ≡ trimmed_fields header ∷ rows
records_printed header rows head all unmarked =
    ap (map trimmed_fields) (read_printed header rows head (each_then IsKeptRow IsRow (λ r k. k.row) rows all) unmarked)
    ∙ ap (λ (t : List Fields). trimmed_fields header ∷ t)
    (map_same trimmed_fields rows (each_then IsKeptRow (λ r. trimmed_fields r ≡ r) (λ r k. k.trimmed) rows all))

-- records of at most 151 bytes make a text of at most as many times 151 bytes
pub kept_short : (rows : List Fields) → AreKeptRows rows → length (flat_map line rows) ≤ 151 * length rows
kept_short [] all = omega arith
kept_short (fields ∷ rest) all =
    let one = all.0.short in
    let more = kept_short rest all.1 in
    let both = length-append (line fields) (flat_map line rest) in
    rw (flat_map-cons line fields rest) (omega arith)

-- the record of a bank, in each version
pub bank_row : (v : Version) (net : Net) (b : Bank) → IsNewBank net b
    → trimmed_field b.name ≡ b.name → IsKeptRow (bank_fields v b)
bank_row version.One net b new kept =
    let name = name_is_short b.name new.named in
    let cash = length-decimal-le 20 b.cash (omega arith) (omega arith) (omega arith) in
    let word = (is_rule_word b.rule).short in
    kept_row b.name (decimal b.cash) (rule_word b.rule ∷ []) (
      kept_name b.name new.named kept,
      (kept_decimal b.cash (omega arith), ((is_rule_word b.rule).kept, tt)),
    )
    (rw (name_has_byte b.name new.named) refl) (simp length-append (omega arith))
bank_row version.Two net b new kept =
    let name = name_is_short b.name new.named in
    let cash = length-decimal-le 20 b.cash (omega arith) (omega arith) (omega arith) in
    let word = (is_rule_word b.rule).short in
    let outside = length-decimal-le 20 b.outside (omega arith) (omega arith) (omega arith) in
    kept_row b.name (decimal b.cash) (rule_word b.rule ∷ decimal b.outside ∷ []) (
      kept_name b.name new.named kept,
      (
        kept_decimal b.cash (omega arith),
        ((is_rule_word b.rule).kept, (kept_decimal b.outside (omega arith), tt)),
      ),
    )
    (rw (name_has_byte b.name new.named) refl) (simp length-append (omega arith))

-- a version says all of a bank
abbrev pub SaysAll : Version → Bank → Type 0
SaysAll version.One b = b.outside ≡ 0
SaysAll version.Two b = Unit {0}

-- the row of a bank is read back, where these limits allow one bank more
pub bank_read_back : (by : Limits) (v : Version) (net : Net) (row : ℕ) (b : Bank)
    → length net.banks < most_banks by → IsNewBank net b → SaysAll v b
    → bank_in_row by v net (row, bank_fields v b) ≡ Ok b
bank_read_back by version.One net row b room new none = rw (
  lt-ltb (length net.banks) (most_banks by) room,
  new.named,
  no_name net b.name new.only_of_its_name,
  number_in-decimal b.cash (omega arith),
  le-leb b.cash MAX_CASH new.cash_in_limit,
  (is_rule_word b.rule).back,
) (ap (λ (n : ℕ). Ok (record b { outside = n })) (sym none))
bank_read_back by version.Two net row b room new all = rw (
  lt-ltb (length net.banks) (most_banks by) room,
  new.named,
  no_name net b.name new.only_of_its_name,
  number_in-decimal b.cash (omega arith),
  le-leb b.cash MAX_CASH new.cash_in_limit,
  (is_rule_word b.rule).back,
  number_in-decimal b.outside (omega arith),
  le-leb b.outside MAX_OUTSIDE new.outside_in_limit,
) refl

-- the record of a debt that may be added is kept, where both names are read back
pub debt_row : (net : Net) (done : List Debt) (d : Debt) → IsNewDebt (with_debts net done) d
    → IsBackName net d.debtor.0 → IsBackName net d.creditor.0 → IsKeptRow (debt_fields net d)
debt_row net done d new debtor creditor =
    let name = name_is_short (name_of net d.debtor.0) debtor.named in
    let name_too = name_is_short (name_of net d.creditor.0) creditor.named in
    let class_short = length-decimal-le 1 d.class (omega arith) (omega arith) (omega arith) in
    let claim_short = length-decimal-le 7 d.claim (omega arith) (omega arith) (omega arith) in
    kept_row (name_of net d.debtor.0) (name_of net d.creditor.0) (decimal d.class ∷ decimal d.claim ∷ []) (
      kept_name (name_of net d.debtor.0) debtor.named debtor.kept,
      (kept_name (name_of net d.creditor.0) creditor.named creditor.kept, (kept_decimal d.class (omega arith), (kept_decimal d.claim (omega arith), tt))),
    )
    (rw (name_has_byte (name_of net d.debtor.0) debtor.named) refl) (simp length-append (omega arith))

-- and the row of a debt, where these limits allow it
pub debt_read_back : (by : Limits) (net : Net) (done : List Debt) (row : ℕ) (d : Debt)
    → length done < most_debts by → units_owed (with_debts net done) + d.claim ≤ most_owed by
    → IsNewDebt (with_debts net done) d
    → IsBackName net d.debtor.0 → IsBackName net d.creditor.0
    → debt_in_row by (with_debts net done) (row, debt_fields net d) ≡ Ok d
debt_read_back by net done row d room low new debtor creditor = rw (
  lt-ltb (length done) (most_debts by) room,
  debtor.named,
  debtor.place,
  creditor.named,
  creditor.place,
  ne_eqb d.debtor.0 d.creditor.0 new.between_two_banks,
  class_back d.class new.class_at_least_1 new.class_in_limit,
  number_in-decimal d.claim (omega arith),
  le-leb d.claim MAX_CLAIM new.claim_in_limit,
  no_kind (with_debts net done) d.debtor.0 d.creditor.0 d.class new.only_of_its_kind,
  le-leb (sum_by (λ d. d.claim) done + d.claim) (most_owed by) low,
) refl
