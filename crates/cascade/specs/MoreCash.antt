-- Networks that differ in cash alone, and what more of it does.
use Rattle.std.specs.Prelude.{◌≡◌, ℕ, ◌<◌, ◌≤◌, Bool, length, map, slice_index}
use Rattle.clr_net.specs.Amounts.{IsAtMost}
use Rattle.clr_net.specs.Net.{Net, cash_of, debtor_of, of_cash, outside_of, rule_of}
use Rattle.clear_core.specs.Clearing.{IsOnWayBy, estate, least, pay_by, spend}
use Rattle.cascade.specs.declared.standing.Health.TheVariants as health
use Rattle.cascade.specs.Standings.{health_of, is_sound, kept}

-- another network has the same banks but for their cash, in the same places, and the same debts
abbrev pub IsOfOtherCash : Net → Net → Type 0
IsOfOtherCash net other =
    (map (of_cash 0) other.banks ≡ map (of_cash 0) net.banks) × (other.debts ≡ net.debts)

-- another network has the same debts, and as many banks, of the same rules and outside claims, of
-- which none has less cash
pub record HasMoreCash (net more : Net) : Type 0 where
  pub banks : length more.banks ≡ length net.banks
  pub rules : (i : ℕ) → rule_of more i ≡ rule_of net i
  pub outside : (i : ℕ) → outside_of more i ≡ outside_of net i
  pub cash : (i : ℕ) → cash_of net i ≤ cash_of more i
  pub debts : more.debts ≡ net.debts

-- the bank i is sound under the least payments that clear
abbrev pub IsSoundAtLeast : Net → ℕ → Type 0
IsSoundAtLeast net i = health_of net (least net) i ≡ health.Sound

-- the same, as a test
abbrev pub is_sound_at_least : Net → ℕ → Bool
is_sound_at_least net i = is_sound (health_of net (least net) i)

-- nobody is worse off in another network, under the least payments that clear each: no debt is paid
-- less, no bank has less or keeps less, and the banks that are sound here are sound there
pub record NobodyLoses (net more : Net) : Type 0 where
  pub payments : IsAtMost (least net) (least more)
  pub estates : (i : ℕ) → estate net (least net) i ≤ estate more (least more) i
  pub keeps : (i : ℕ) → kept net (least net) i ≤ kept more (least more) i
  pub sound : (i : ℕ) → IsSoundAtLeast net i → IsSoundAtLeast more i

-- a clearing of the second network goes on from the least payments of the first: they are on the
-- way, and a bank of the same cash in both would pay on its debts just what it has paid
pub record GoesOn (net more : Net) : Type 0 where
  pub way : IsOnWayBy more (spend more) (least net)
  pub quiet : (i : ℕ) → cash_of net i ≡ cash_of more i
      → (x : ℕ) → x < length more.debts → debtor_of more x ≡ i
      → slice_index (least net) x ≡ slice_index (pay_by more (spend more) (least net)) x
