-- Where the words of debts stand on a board: debts to one bank side by side, bank by bank, since a
-- visit of a bank looks at all of them.
use Rattle.std.specs.Prelude.{◌≡◌, ℕ, ◌+◌, ◌==◌, nat_lt, List, count_by, length}
use Rattle.std.specs.List.{range_with_len}
use Rattle.clr_net.specs.Net.{Net, creditor_of, debt_numbers}
use Rattle.pay_words.specs.Tables.{tabled}

-- how many of the first n debts are owed to the bank b
abbrev pub owed_among : Net → ℕ → ℕ → ℕ
owed_among net b n = count_by (λ x. creditor_of net x == b) (range_with_len 0 n)

-- where the words of the debts to the bank b begin: behind those of the debts to earlier banks
abbrev pub first_position : Net → ℕ → ℕ
first_position net b = count_by (λ x. nat_lt (creditor_of net x) b) (debt_numbers net)

-- the position of the debt x among the words of debts, from 0 on: behind earlier debts to its creditor
unfoldable pub position_of : Net → ℕ → ℕ
position_of net x = first_position net (creditor_of net x) + owed_among net (creditor_of net x) x

-- what a board has in memory of that: the position of each debt, and of each bank the first one
pub record Positions : Type 0 where
  pub of_debts : List ℕ
  pub firsts : List ℕ

-- the positions on a board of the network
pub record ArePositions (net : Net) (p : Positions) : Type 0 where
  pub of_debts : p.of_debts ≡ tabled (length net.debts) (position_of net)
  pub firsts : p.firsts ≡ tabled (length net.banks) (first_position net)
