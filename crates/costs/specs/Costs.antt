-- Costs of default, in the manner of Rogers and Veraart (2013): of the estate of a bank that has
-- not all that it owes, only so many thousandths are kept.
use Rattle.std.specs.Prelude.{◌≡◌, ℕ, ◌+◌, ◌-◌, ◌*◌, ◌/◌, nat_le, List, if◌then◌else◌}
use Rattle.clr_net.specs.Net.{Net, cash_of, outside_of}
use Rattle.clear_least.specs.Paying.{pay_by, IsLeastBy, least_by}
use Rattle.cascade.specs.Standings.{due}
use Rattle.upper.specs.Greatest.{IsGreatestBy, falling_by, greatest_by}

-- what the bank i keeps of an estate of e units, where k thousandths are kept on default: all of it
-- where it is no less than all that the bank owes
abbrev pub kept : Net → ℕ → ℕ → ℕ → ℕ
kept net k i e = if nat_le (due net i) e then e else e * k / 1000

-- what it divides among its debts when it receives r units: what it keeps, less what it owes
-- outside, and nothing where that is more
abbrev pub cost_spend : Net → ℕ → ℕ → ℕ → ℕ
cost_spend net k i r = kept net k i (cash_of net i + r) - outside_of net i

-- what all banks pay at once when they have received the payments P
abbrev pub cost_pay : Net → ℕ → List ℕ → List ℕ
cost_pay net k = pay_by net (cost_spend net k)

-- payments clear with costs if each bank pays what its rule gives from what it then keeps
abbrev pub CostClears : Net → ℕ → List ℕ → Type 0
CostClears net k P = cost_pay net k P ≡ P

-- the least payments that clear with costs
abbrev pub IsCostLeast : Net → ℕ → List ℕ → Type 0
IsCostLeast net k = IsLeastBy net (cost_spend net k)

-- the payments after as many rounds as units are owed, from nothing paid: the least that clear, as
-- the law `cost_least_is_least` says
abbrev pub cost_least : Net → ℕ → List ℕ
cost_least net k = least_by net (cost_spend net k)

-- the greatest payments that clear with costs
abbrev pub IsCostGreatest : Net → ℕ → List ℕ → Type 0
IsCostGreatest net k = IsGreatestBy net (cost_spend net k)

-- the payments after n rounds from all debts paid in full, in each of which all banks pay at once
abbrev pub cost_falling : Net → ℕ → ℕ → List ℕ
cost_falling net k = falling_by net (cost_spend net k)

-- the payments after as many such rounds as units are owed: the greatest that clear, as the law
-- `cost_greatest_is_greatest` says
abbrev pub cost_greatest : Net → ℕ → List ℕ
cost_greatest net k = greatest_by net (cost_spend net k)
