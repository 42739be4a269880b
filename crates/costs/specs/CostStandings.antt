-- How banks stand under payments where default costs: what each has, loses and pays, and what is
-- left to its owners.
use Rattle.std.specs.Prelude.{◌≡◌, ℕ, ◌+◌, ◌-◌, ◌<◌, ◌≤◌, min, List, map, sum_by}
use Rattle.clr_net.specs.Net.{Net, outside_of, all_cash}
use Rattle.clear_core.specs.Clearing.{estate}
use Rattle.cascade.specs.declared.standing.Health.{Health}
use Rattle.cascade.specs.Standings.{bank_numbers, due, health_at, owed_by, paid_by}
use Rattle.costs.specs.declared.standing.CostStanding.{CostStanding}
use Rattle.costs.specs.Costs.{kept}

-- what the bank i keeps of its estate under the payments P
abbrev pub kept_by : Net → ℕ → List ℕ → ℕ → ℕ
kept_by net k P i = kept net k i (estate net P i)

-- what it loses of it
abbrev pub lost_by : Net → ℕ → List ℕ → ℕ → ℕ
lost_by net k P i = estate net P i - kept_by net k P i

-- what it pays outside, before all its debts
abbrev pub cost_outside_paid : Net → ℕ → List ℕ → ℕ → ℕ
cost_outside_paid net k P i = min (outside_of net i) (kept_by net k P i)

-- what is left of what it keeps
abbrev pub cost_equity : Net → ℕ → List ℕ → ℕ → ℕ
cost_equity net k P i = kept_by net k P i - cost_outside_paid net k P i - paid_by net P i

-- its health under the payments P, by its estate
abbrev pub cost_health : Net → List ℕ → ℕ → Health
cost_health net P i = health_at net i (estate net P i)

-- the standing of the bank i
abbrev pub cost_standing : Net → ℕ → List ℕ → ℕ → CostStanding
cost_standing net k P i = record {
  estate = estate net P i;
  lost = lost_by net k P i;
  outside_paid = cost_outside_paid net k P i;
  paid = paid_by net P i;
  equity = cost_equity net k P i;
  health = cost_health net P i;
}

-- the standings of all banks, in file order
abbrev pub cost_standings : Net → ℕ → List ℕ → List CostStanding
cost_standings net k P = map (cost_standing net k P) (bank_numbers net)

-- what a bank does with its estate where payments clear with costs: it pays the smaller of its
-- debts and of what its outside claim leaves of what it keeps; it pays nothing that it has not
-- kept; and something is left only where it has all that it owes
pub record PaysFromKept (net : Net) (k : ℕ) (P : List ℕ) (i : ℕ) : Type 0 where
  pub debts : paid_by net P i ≡ min (owed_by net i) (kept_by net k P i - outside_of net i)
  pub within : cost_outside_paid net k P i + paid_by net P i ≤ kept_by net k P i
  pub equity : 0 < cost_equity net k P i → due net i ≤ estate net P i

-- no unit is made: equities, what is paid outside and what is lost are all opening cash
abbrev pub CostAddsUp : Net → ℕ → List ℕ → Type 0
CostAddsUp net k P =
    sum_by (λ i. cost_equity net k P i + cost_outside_paid net k P i + lost_by net k P i)
    (bank_numbers net)
    ≡ all_cash net
