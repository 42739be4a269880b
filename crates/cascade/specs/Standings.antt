-- How banks stand under payments: what each has, owes and pays, what is left to its owners, and
-- whose fault a default is.
use Rattle.std.specs.Prelude.{◌≡◌, ℕ, ◌+◌, ◌-◌, ◌<◌, ◌≤◌, ◌==◌, ◌&&◌, not, nat_le, nat_lt, Bool, true, false, List, length, map, min, sum, sum_by, if◌then◌else◌}
use Rattle.std.specs.List.{range_with_len}
use Rattle.clr_net.specs.Net.{Net, cash_of, outside_of, claim_of, claims_of, column, all_cash}
use Rattle.clear_core.specs.Clearing.{estate}
pub use Rattle.clear_core.specs.Clearing.{paid_by}
use Rattle.cascade.specs.declared.standing.Health.{Health}
use Rattle.cascade.specs.declared.standing.Health.TheVariants as health
use Rattle.cascade.specs.declared.standing.Standing.{Standing}

-- the numbers of all banks, in file order
abbrev pub bank_numbers : Net → List ℕ
bank_numbers net = range_with_len 0 (length net.banks)

-- what the bank i owes on the debts of its row
abbrev pub owed_by : Net → ℕ → ℕ
owed_by net i = sum (claims_of net i)

-- all that it owes, on these debts and outside
abbrev pub due : Net → ℕ → ℕ
due net i = owed_by net i + outside_of net i

-- what it would have if all its debtors paid it in full
abbrev pub worth : Net → ℕ → ℕ
worth net i = cash_of net i + sum_by (claim_of net) (column net i)

-- what it pays outside, before all its debts
abbrev pub outside_paid : Net → List ℕ → ℕ → ℕ
outside_paid net P i = min (outside_of net i) (estate net P i)

-- what is left of its estate
abbrev pub equity : Net → List ℕ → ℕ → ℕ
equity net P i = estate net P i - outside_paid net P i - paid_by net P i

-- what it does not pay on its debts: its owners and those to whom it owes outside get it
abbrev pub kept : Net → List ℕ → ℕ → ℕ
kept net P i = equity net P i + outside_paid net P i

-- a bank is sound where it pays all that it owes. Another is in default: by its own fundamentals
-- where it could not pay even if all its debtors paid it in full, and by contagion where it could
abbrev pub health_of : Net → List ℕ → ℕ → Health
health_of net P i =
    if (paid_by net P i == owed_by net i) && (outside_paid net P i == outside_of net i)
    then health.Sound
    else if nat_lt (worth net i) (due net i) then health.Fundamental else health.Contagion

-- by its estate: the bank i is sound with an estate that is no less than all that it owes. With a
-- smaller one it is in default: by its own fundamentals where it would be even if all its debtors paid
-- it in full, and otherwise by contagion
abbrev pub health_at : Net → ℕ → ℕ → Health
health_at net i e =
    if nat_le (due net i) e
    then health.Sound
    else if nat_lt (worth net i) (due net i) then health.Fundamental else health.Contagion

-- whether a bank is sound
abbrev pub is_sound : Health → Bool
is_sound health.Sound = true
is_sound health.Fundamental = false
is_sound health.Contagion = false

-- whether a bank is in default
abbrev pub is_default : Health → Bool
is_default h = not (is_sound h)

-- a bank that stands so under the least payments is in gridlock where it is in default, and has no
-- wave: never on the way down to the greatest payments does it have less than all that it owes
abbrev pub is_gridlocked : Health → ℕ → Bool
is_gridlocked h wave = is_default h && (wave == 0)

-- the standing of the bank i
abbrev pub standing : Net → List ℕ → ℕ → Standing
standing net P i = record {
  estate = estate net P i;
  outside = outside_of net i;
  outside_paid = outside_paid net P i;
  paid = paid_by net P i;
  owed = owed_by net i;
  equity = equity net P i;
  health = health_of net P i;
}

-- the standings of all banks, in file order
abbrev pub standings : Net → List ℕ → List Standing
standings net P = map (standing net P) (bank_numbers net)

-- what a bank does with its estate where payments clear: it pays the smaller of its debts and of
-- what its outside claim leaves; it pays nothing that it has not got; and it keeps something only
-- where it pays all
pub record PaysOut (net : Net) (P : List ℕ) (i : ℕ) : Type 0 where
  pub debts : paid_by net P i ≡ min (owed_by net i) (estate net P i - outside_of net i)
  pub within : outside_paid net P i + paid_by net P i ≤ estate net P i
  pub equity : 0 < equity net P i
      → (paid_by net P i ≡ owed_by net i) × (outside_paid net P i ≡ outside_of net i)

-- no unit is made or lost: estates less payments are all opening cash, and so are equities and
-- what is paid outside
pub record AddsUp (net : Net) (P : List ℕ) : Type 0 where
  pub estates : sum_by (λ i. estate net P i - paid_by net P i) (bank_numbers net) ≡ all_cash net
  pub equities : sum_by (λ i. equity net P i + outside_paid net P i) (bank_numbers net)
      ≡ all_cash net
