-- The network that a number makes.
use Rattle.std.specs.Prelude.{ℕ, zero, suc, ◌+◌, ◌*◌, ◌%◌, ◌==◌, ◌||◌, Bool, List, [], ◌++◌, codes}
use Rattle.std.specs.Prelude.{map, if◌then◌else◌}
use Rattle.std.specs.Fmt.{decimal}
use Rattle.std.specs.List.{list_any, range_with_len}
use Rattle.clr_net.specs.Net.{Net, is_debt_of, with_debt}
use Rattle.clr_net.specs.declared.bank.Bank.{Bank}
use Rattle.clr_net.specs.declared.debt.Debt.{Debt}
use Rattle.clr_net.specs.declared.rule.RuleKind.{RuleKind}
use Rattle.clr_net.specs.declared.rule.RuleKind.TheVariants as kind
use Rattle.rand_pcg.specs.Lcg.{Lcg, increment_of, started}
use Rattle.rand_pcg.specs.Pcg.{multiplier_64, pcg32}

-- the generator that a seed starts, on the stream 0
abbrev pub seeded : ℕ → Lcg
seeded seed = started 64 multiplier_64 seed (increment_of 64 0)

-- the generator after so many words
unfoldable pub after_words : ℕ → ℕ → Lcg
after_words seed zero = seeded seed
after_words seed (suc n) = (pcg32 (after_words seed n)).1

-- the word n of a seed, counted from 0: a number of 32 bits
abbrev pub word : ℕ → ℕ → ℕ
word seed n = (pcg32 (after_words seed n)).0

-- the rule of a number below 6
abbrev pub rule_numbered : ℕ → RuleKind
rule_numbered n =
    if n == 0 then kind.Order
    else if n == 1 then kind.Equal
    else if n == 2 then kind.Losses
    else if n == 3 then kind.Jefferson
    else if n == 4 then kind.Webster
    else kind.Adams

-- the name of the bank i
abbrev pub name_at : ℕ → List ℕ
name_at i = codes "N" ++ decimal i

-- the bank i: a word for its cash, and then one for its rule
abbrev pub bank_at : ℕ → ℕ → Bank
bank_at seed i = record {
  name = name_at i;
  cash = word seed (2 * i) % 2000;
  rule = rule_numbered (word seed (2 * i + 1) % 6);
  outside = 0;
}

-- the first n banks
abbrev pub banks_made : ℕ → ℕ → List Bank
banks_made seed n = map (bank_at seed) (range_with_len 0 n)

-- the debt that the words from n on make among so many banks: a word each for its debtor, its
-- creditor, its class and its claim
abbrev pub debt_from : ℕ → ℕ → ℕ → Debt
debt_from seed size n = record {
  debtor = record { 0 = word seed n % size };
  creditor = record { 0 = word seed (n + 1) % size };
  class = 1 + word seed (n + 2) % 3;
  claim = 1 + word seed (n + 3) % 500;
}

-- the debt of the try t, after the words of the banks
abbrev pub debt_at : ℕ → ℕ → ℕ → Debt
debt_at seed size t = debt_from seed size (2 * size + 4 * t)

-- a debt of a bank to itself, or one of which there is one already, is dropped
abbrev pub is_dropped : Net → Debt → Bool
is_dropped net d =
    d.debtor.0 == d.creditor.0 || list_any (is_debt_of d.debtor.0 d.creditor.0 d.class) net.debts

-- the network after one try
abbrev pub tried : Net → Debt → Net
tried net d = if is_dropped net d then net else with_debt net d

-- the network after n tries
unfoldable pub after_tries : ℕ → ℕ → ℕ → Net
after_tries seed size zero = record { banks = banks_made seed size; debts = [] }
after_tries seed size (suc t) = tried (after_tries seed size t) (debt_at seed size t)

-- the network of a seed, with so many banks and after so many tries
abbrev pub generated : ℕ → ℕ → ℕ → Net
generated seed size tries = after_tries seed size tries
