-- In which round a bank falls short, where R n are the payments after n rounds.
use Rattle.std.specs.Prelude.{◌≡◌, ℕ, ◌+◌, ◌<◌, ◌≤◌, nat_lt, List, map, find}
use Rattle.std.specs.List.{range_with_len}
use Rattle.std.specs.Option.{option_map_or}
use Rattle.clr_net.specs.Net.{Net, units_owed}
use Rattle.clear_core.specs.Clearing.{estate}
use Rattle.cascade.specs.Standings.{bank_numbers, due}

-- after n rounds the bank i has less than all that it owes
abbrev pub FallsShortIn : Net → (ℕ → List ℕ) → ℕ → ℕ → Type 0
FallsShortIn net R i n = estate net (R n) i < due net i

-- and up to then it never had
abbrev pub HoldsBeforeIn : Net → (ℕ → List ℕ) → ℕ → ℕ → Type 0
HoldsBeforeIn net R i n = (m : ℕ) → m < n → due net i ≤ estate net (R m) i

-- the wave of the bank i is w: the first round, counted from 1, that it enters with less than all
-- that it owes, and 0 where there is no such round
pub record IsWaveIn (net : Net) (R : ℕ → List ℕ) (i w : ℕ) : Type 0 where
  pub falls : (n : ℕ) → w ≡ n + 1 → FallsShortIn net R i n × HoldsBeforeIn net R i n
  pub never : w ≡ 0 → (n : ℕ) → due net i ≤ estate net (R n) i

-- that round, sought among as many as units are owed and one more: after these nothing changes
abbrev pub wave_in : Net → (ℕ → List ℕ) → ℕ → ℕ
wave_in net R i = option_map_or (λ n. n + 1)
    (find (λ n. nat_lt (estate net (R n) i) (due net i)) (range_with_len 0 (units_owed net + 1)))
    0

-- the waves of all banks, in file order
abbrev pub waves_in : Net → (ℕ → List ℕ) → List ℕ
waves_in net R = map (wave_in net R) (bank_numbers net)
