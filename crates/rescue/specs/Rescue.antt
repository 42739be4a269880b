-- A bank that is given cash, and the least sum that saves it.
use Rattle.std.specs.Prelude.{◌≡◌, ℕ, ◌+◌, ◌-◌, ◌<◌, ◌==◌, Bool, find, if◌then◌else◌}
use Rattle.std.specs.List.{range_with_len}
use Rattle.std.specs.Option.{option_map_or}
use Rattle.clr_net.specs.Net.{Net, cash_of, with_cash}
use Rattle.clear_core.specs.Clearing.{estate, least}
use Rattle.cascade.specs.Standings.{due, health_of, is_sound}
use Rattle.cascade.specs.declared.standing.Health.{Health}
use Rattle.cascade.specs.declared.standing.Health.TheVariants.{Sound}

-- the network with a units more cash at the bank i
abbrev pub added : Net → ℕ → ℕ → Net
added net i a = with_cash net i (cash_of net i + a)

-- two networks differ in the cash of the bank i at most
abbrev pub DifferInCash : Net → Net → ℕ → Type 0
DifferInCash net more i = (c : ℕ) → with_cash more i c ≡ with_cash net i c

-- how the bank i stands with a units more cash, under the least payments that clear then
abbrev pub health_with : Net → ℕ → ℕ → Health
health_with net i a = health_of (added net i a) (least (added net i a)) i

-- so much saves the bank i
abbrev pub Saves : Net → ℕ → ℕ → Type 0
Saves net i a = health_with net i a ≡ Sound

-- the least sum that saves the bank i
pub record IsRescue (net : Net) (i a : ℕ) : Type 0 where
  pub saves : Saves net i a
  pub least : (b : ℕ) → b < a → ¬ (Saves net i b)

-- whether so much saves the bank i
abbrev pub is_saved_by : Net → ℕ → ℕ → Bool
is_saved_by net i a = is_sound (health_with net i a)

-- the same sum, found: the first that saves the bank, of those up to what the bank owes above its
-- cash, which saves it in any case
abbrev pub rescue : Net → ℕ → ℕ
rescue net i =
    let sums = range_with_len 0 (due net i - cash_of net i + 1) in
    option_map_or (λ a. a) (find (is_saved_by net i) sums) 0

-- what the bank i lacks of all that it owes, with a units more cash, under the least payments that
-- clear then: 0 where it has enough
abbrev pub lacks : Net → ℕ → ℕ → ℕ
lacks net i a = due net i - estate (added net i a) (least (added net i a)) i

-- what the bank i lacks with one unit less than a: 0 where a is 0
abbrev pub short_of : Net → ℕ → ℕ → ℕ
short_of net i a = if a == 0 then 0 else lacks net i (a - 1)
