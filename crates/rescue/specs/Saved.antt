-- Whom it saves besides, that a bank is given the least sum that saves it.
use Rattle.std.specs.Prelude.{◌≡◌, ℕ, ◌<◌, ◌==◌, ◌&&◌, not, All, Bool, List, count_by, filter, length, map}
use Rattle.clr_net.specs.Net.{Net}
use Rattle.cascade.specs.MoreCash.{is_sound_at_least}
use Rattle.cascade.specs.Standings.{bank_numbers}
use Rattle.rescue.specs.Rescue.{added, rescue, short_of}
use Rattle.rescue.specs.declared.saved.Saving.{Saving}

-- the banks in default, in file order
abbrev pub banks_in_default : Net → List ℕ
banks_in_default net = filter (λ i. not (is_sound_at_least net i)) (bank_numbers net)

-- the network once the bank i has been given the least sum that saves it
abbrev pub rescued : Net → ℕ → Net
rescued net i = added net i (rescue net i)

-- the bank k is another one, is not sound, and is sound once the bank i is saved
abbrev pub is_saved_with : Net → ℕ → ℕ → Bool
is_saved_with net i k =
    not (k == i) && (not (is_sound_at_least net k) && is_sound_at_least (rescued net i) k)

-- which other banks are saved with the bank i, in file order
abbrev pub saved_with : Net → ℕ → List ℕ
saved_with net i = filter (is_saved_with net i) (bank_numbers net)

-- how many banks are not sound once the bank i is saved
abbrev pub left_in_default : Net → ℕ → ℕ
left_in_default net i =
    count_by (λ k. not (is_sound_at_least (rescued net i) k)) (bank_numbers net)

-- saving the bank i comes to this: the least sum, what the bank lacks with one unit less, which
-- other banks are saved with it, all of them banks of the network, and how many are not sound then
pub record IsSavingOf (net : Net) (i : ℕ) (s : Saving) : Type 0 where
  pub added : s.added ≡ rescue net i
  pub short : s.short ≡ short_of net i (rescue net i)
  pub saves : map (λ b. b.0) s.saves.items ≡ saved_with net i
  pub known : All (λ b. b.0 < length net.banks) s.saves.items
  pub still_short : s.still_short ≡ left_in_default net i
