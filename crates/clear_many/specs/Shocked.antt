-- The cash that scenarios leave: a row for each, which has a place for each bank.
use Rattle.std.specs.Prelude.{ℕ, List, length, map}
use Rattle.clr_net.specs.Net.{Net}
use Rattle.descent.specs.Cashes.{cash_in_row, lowest}
use Rattle.descent.specs.Halves.{IsDescentOf}
use Rattle.descent.specs.declared.halves.Descent.{Descent}
use Rattle.stress.specs.Shocks.{shocked}
use Rattle.stress.specs.declared.scenario.Scenario.{Scenario}

-- the cash of each bank
abbrev pub cash_row : Net → List ℕ
cash_row net = map (λ b. b.cash) net.banks

-- the cash of each bank in each scenario
abbrev pub cash_rows : Net → List Scenario → List (List ℕ)
cash_rows net scenarios = map (λ s. cash_row (shocked net s)) scenarios

-- a descent through the networks of such rows
abbrev pub IsDescentByRows : Net → List (List ℕ) → Descent → Type 0
IsDescentByRows net rows =
    IsDescentOf net (length rows) (λ low high i. lowest (cash_in_row rows i) low high)
