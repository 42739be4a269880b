-- A network without the cash of some of its banks. A set of banks is a test on their numbers.
use Rattle.std.specs.Prelude.{◌≡◌, ℕ, ◌&&◌, Bool, true, cond, nat_le, nat_lt, length}
use Rattle.clr_net.specs.Net.{Net, cash_of}
use Rattle.descent.specs.Cashes.{with_cashes}
use Rattle.descent.specs.Halves.{IsDescentOf}
use Rattle.descent.specs.declared.halves.Descent.{Descent}

-- the cash of the bank i once all banks of a set have lost theirs
abbrev pub cash_left : Net → (ℕ → Bool) → ℕ → ℕ
cash_left net lost i = cond (lost i) 0 (cash_of net i)

-- the network once all banks of a set have lost all their cash
abbrev pub ruined : Net → (ℕ → Bool) → Net
ruined net lost = with_cashes net (cash_left net lost)

-- each bank of the first set is one of the second
abbrev pub IsPartOf : (ℕ → Bool) → (ℕ → Bool) → Type 0
IsPartOf some all = (i : ℕ) → some i ≡ true → all i ≡ true

-- the banks from the number low on, up to below high
abbrev pub between : ℕ → ℕ → ℕ → Bool
between low high i = nat_le low i && nat_lt i high

-- where each bank from low up to below high is ruined alone, one after another: the least cash that
-- the bank i ever has
abbrev pub least_left : Net → ℕ → ℕ → ℕ → ℕ
least_left net low high = cash_left net (between low high)

-- a descent through the networks in each of which one bank is ruined
abbrev pub IsDescentByRuins : Net → Descent → Type 0
IsDescentByRuins net = IsDescentOf net (length net.banks) (least_left net)
