-- The two files of a network, as bytes.
use Rattle.std.specs.Prelude.{◌≡◌, ◌<◌, ◌==◌, ℕ, List, [], ◌∷◌, ◌++◌, length, codes, if◌then◌else◌}
use Rattle.std.specs.List.{flat_map, list_all}
use Rattle.std.specs.Fmt.{decimal}
use Rattle.clr_net.specs.Lines.{line}
use Rattle.clr_net.specs.Net.{Net, name_of}
use Rattle.clr_net.specs.declared.bank.Bank.{Bank}
use Rattle.clr_net.specs.declared.debt.Debt.{Debt}
use Rattle.clr_net.specs.declared.rule.RuleKind.{RuleKind}
use Rattle.clr_net.specs.declared.rule.RuleKind.TheVariants as kind
use Rattle.net_check.specs.Field.{trimmed_field}
use Rattle.net_csv.specs.Reading.{Fields, banks_header, debts_header}
use Rattle.net_csv.specs.declared.layout.Version.{Version}
use Rattle.net_csv.specs.declared.layout.Version.TheVariants as version

-- the word of a rule
abbrev pub rule_word : RuleKind → List ℕ
rule_word kind.Order = codes "order"
rule_word kind.Equal = codes "equal"
rule_word kind.Losses = codes "losses"
rule_word kind.Jefferson = codes "jefferson"
rule_word kind.Webster = codes "webster"
rule_word kind.Adams = codes "adams"

-- the fields of a bank, and of a debt
abbrev pub bank_fields : Version → Bank → Fields
bank_fields version.One b = b.name ∷ decimal b.cash ∷ rule_word b.rule ∷ []
bank_fields version.Two b = b.name ∷ decimal b.cash ∷ rule_word b.rule ∷ decimal b.outside ∷ []

abbrev pub debt_fields : Net → Debt → Fields
debt_fields net d =
    name_of net d.debtor.0 ∷ name_of net d.creditor.0 ∷ decimal d.class ∷ decimal d.claim ∷ []

-- the line of a bank, and of a debt
abbrev pub bank_line : Version → Bank → List ℕ
bank_line v b = line (bank_fields v b)

abbrev pub debt_line : Net → Debt → List ℕ
debt_line net d = line (debt_fields net d)

-- the banks file in a version: the header, and a line for each bank, in file order
abbrev pub banks_text_in : Version → Net → List ℕ
banks_text_in v net = line (banks_header v) ++ flat_map (bank_line v) net.banks

-- the banks file in version 2
abbrev pub banks_text_2 : Net → List ℕ
banks_text_2 net = banks_text_in version.Two net

-- the version that says all of a network: the first where no bank owes anything outside the network
abbrev pub version_for : Net → Version
version_for net = if list_all (λ b. b.outside == 0) net.banks then version.One else version.Two

-- the banks file
abbrev pub banks_text : Net → List ℕ
banks_text net = banks_text_in (version_for net) net

-- the debts file: the header, and a line for each debt, in file order
abbrev pub debts_text : Net → List ℕ
debts_text net = line debts_header ++ flat_map (debt_line net) net.debts

-- no name begins or ends with a space, which a file would not keep
abbrev pub KeepsNames : Net → Type 0
KeepsNames net = (i : ℕ) → i < length net.banks → trimmed_field (name_of net i) ≡ name_of net i
