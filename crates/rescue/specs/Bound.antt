-- A bound below every sum that saves a bank: what it owes above its cash and what it receives where
-- it pays all that it owes.
use Rattle.std.specs.Prelude.{ℕ, ◌-◌}
use Rattle.clr_net.specs.Net.{Net, cash_of}
use Rattle.clear_core.specs.Clearing.{least, receipts}
use Rattle.cascade.specs.Standings.{due}
use Rattle.rescue.specs.Rescue.{added}

-- what the bank i owes above its cash: with so much more it pays all that it owes, whatever it
-- receives
abbrev pub missing : Net → ℕ → ℕ
missing net i = due net i - cash_of net i

-- what it receives with a units more cash, under the least payments that clear then
abbrev pub received_with : Net → ℕ → ℕ → ℕ
received_with net i a = receipts net (least (added net i a)) i

-- a sum below which none saves the bank
abbrev pub bound : Net → ℕ → ℕ
bound net i = missing net i - received_with net i (missing net i)
