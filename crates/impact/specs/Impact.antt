-- What the ruin of a bank does to each bank, and to all others together.
use Rattle.std.specs.Prelude.{◌≡◌, ℕ, ◌<◌, ◌==◌, ◌&&◌, ◌||◌, not, nat_lt, All, Bool, List, length, map, filter, count_by, sum_by}
use Rattle.clr_net.specs.Net.{Net}
use Rattle.cascade.specs.MoreCash.{is_sound_at_least}
use Rattle.cascade.specs.Ruin.{hit, kept_less}
use Rattle.cascade.specs.Standings.{bank_numbers}
use Rattle.impact.specs.declared.hurt.Hurt.{Hurt}
use Rattle.impact.specs.declared.hurt.Impact.{Impact}

-- the bank i is sound, and no longer once the bank j has lost all its cash
abbrev pub falls_with : Net → ℕ → ℕ → Bool
falls_with net j i = is_sound_at_least net i && not (is_sound_at_least (hit net j) i)

-- all banks but the bank j, in file order
abbrev pub other_banks : Net → ℕ → List ℕ
other_banks net j = filter (λ i. not (i == j)) (bank_numbers net)

-- what all others keep less by the ruin of the bank j
abbrev pub lost_by_others : Net → ℕ → ℕ
lost_by_others net j = sum_by (kept_less net j) (other_banks net j)

-- how many others fall
abbrev pub fallen : Net → ℕ → ℕ
fallen net j = count_by (falls_with net j) (other_banks net j)

-- what the ruin of the bank j does to the bank i
abbrev pub hurt_to : Net → ℕ → ℕ → Hurt
hurt_to net j i = record {
  bank = record { 0 = i };
  lost = kept_less net j i;
  falls = falls_with net j i;
}

-- whether it does anything: the bank keeps less, or falls
abbrev pub is_hurt : Hurt → Bool
is_hurt h = nat_lt 0 h.lost || h.falls

-- whom the ruin of the bank j hurts, in file order
abbrev pub hurt_by : Net → ℕ → List Hurt
hurt_by net j = filter is_hurt (map (hurt_to net j) (bank_numbers net))

-- the ruin of the bank j comes to this: what it keeps less itself, what all others do, how many of
-- them fall, and whom it hurts, all of them banks of the network
pub record IsImpactOf (net : Net) (j : ℕ) (m : Impact) : Type 0 where
  pub own : m.own ≡ kept_less net j j
  pub others : m.others ≡ lost_by_others net j
  pub falls : m.falls ≡ fallen net j
  pub hurts : m.hurts.items ≡ hurt_by net j
  pub known : All (λ h. h.bank.0 < length net.banks) m.hurts.items
