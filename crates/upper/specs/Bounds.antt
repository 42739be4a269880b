-- The greatest payments that clear a network, and the round in which each bank falls on the way
-- down to them.
use Rattle.std.specs.Prelude.{◌≡◌, ◌≢◌, ◌↔◌, ℕ, ◌<◌, ◌==◌, ◌&&◌, Bool, true, List, length, map, slice_index}
use Rattle.clr_net.specs.Claims.{all_claims}
use Rattle.clr_net.specs.Net.{Net, units_owed}
use Rattle.clear_core.specs.Clearing.{pay, Clears, least}
use Rattle.clear_core.specs.Rounds.{rounds_of}
use Rattle.cascade.specs.declared.standing.Health.{Health}
use Rattle.cascade.specs.declared.standing.Health.TheVariants as health
use Rattle.cascade.specs.Standings.{bank_numbers, equity, health_of, is_default, outside_paid}
use Rattle.upper.specs.Greatest.{IsGreatestOf}
use Rattle.upper.specs.Waves.{IsWaveIn, wave_in, waves_in}

-- the greatest payments that clear the network: no payments that clear are anywhere above them
abbrev pub IsGreatest : Net → List ℕ → Type 0
IsGreatest net = IsGreatestOf (pay net)

-- the payments after n rounds from all debts paid in full, in each of which all banks pay at once
abbrev pub falling : Net → ℕ → List ℕ
falling net = rounds_of (pay net) (all_claims net)

-- the payments after as many rounds as units are owed: the greatest that clear, as the law
-- `greatest_is_greatest` says
abbrev pub greatest : Net → List ℕ
greatest net = falling net (units_owed net)

-- the wave of the bank i is w: the first of these rounds, counted from 1, that it enters with less
-- than all that it owes, and 0 where there is no such round
abbrev pub IsWave : Net → ℕ → ℕ → Type 0
IsWave net = IsWaveIn net (falling net)

-- that round
abbrev pub wave : Net → ℕ → ℕ
wave net = wave_in net (falling net)

-- the waves of all banks, in file order
abbrev pub waves : Net → List ℕ
waves net = waves_in net (falling net)

-- a bank that stands so under the least payments, and whose wave is w, is in gridlock: it is in
-- default there, and never falls short on the way to the greatest
abbrev pub is_gridlocked : Health → ℕ → Bool
is_gridlocked h w = is_default h && (w == 0)

-- whether each bank is in gridlock, in file order
abbrev pub gridlocked : Net → List Bool
gridlocked net = map (λ i. is_gridlocked (health_of net (least net) i) (wave net i)) (bank_numbers net)

-- a bank is in gridlock exactly where it is in default under the least payments and sound under the
-- greatest
abbrev pub IsGridlock : Net → ℕ → Type 0
IsGridlock net i = (is_gridlocked (health_of net (least net) i) (wave net i) ≡ true)
    ↔ ((health_of net (least net) i ≢ health.Sound) × (health_of net (greatest net) i ≡ health.Sound))

-- waves tell how banks stand: a bank's is 1 exactly where its own fundamentals are at fault under
-- the least payments, and 0 exactly where it is sound under the greatest
pub record TellsHealth (net : Net) (i w : ℕ) : Type 0 where
  pub first : (w ≡ 1) ↔ (health_of net (least net) i ≡ health.Fundamental)
  pub none : (w ≡ 0) ↔ (health_of net (greatest net) i ≡ health.Sound)

-- so it is with the waves of all banks
abbrev pub WavesTellHealth : Net → List ℕ → Type 0
WavesTellHealth net ws = (i : ℕ) → i < length net.banks → TellsHealth net i (slice_index ws i)

-- which clearing payments are made changes no equity, and nothing that is paid outside: each bank's
-- are what they are under the least
abbrev pub EquitiesAreFixed : Net → Type 0
EquitiesAreFixed net = (Q : List ℕ) → Clears net Q → (i : ℕ) → i < length net.banks
    → (equity net Q i ≡ equity net (least net) i)
    × (outside_paid net Q i ≡ outside_paid net (least net) i)
