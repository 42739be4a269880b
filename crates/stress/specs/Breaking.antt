-- What breaks each bank: the least cut that does, and how the bank stands at it.
use Rattle.std.specs.Prelude.{ℕ, ◌+◌, ◌==◌, ◌&&◌, not, nat_lt, nat_le, List, [], ◌∷◌, max, min, if◌then◌else◌}
use Rattle.clr_net.specs.Net.{Net}
use Rattle.clear_core.specs.Clearing.{least}
use Rattle.cascade.specs.declared.standing.Health.{Health}
use Rattle.cascade.specs.declared.standing.Health.TheVariants.{Sound}
use Rattle.cascade.specs.Standings.{health_of, is_sound}
use Rattle.stress.specs.Milder.{breaking_cut, left_by}
use Rattle.stress.specs.declared.TheConstants.{MAX_CUT}
use Rattle.stress.specs.declared.broken.Broken.{Broken}

-- how the bank i stands after a cut of k per mille, under the least payments that clear then
abbrev pub health_after : Net → ℕ → ℕ → Health
health_after net i k = health_of (left_by net k) (least (left_by net k)) i

-- the least cut that breaks the bank i, and how the bank stands at it. Where none breaks it, the
-- number is one more than the greatest cut, and the bank is sound
abbrev pub breaking : Net → ℕ → Broken
breaking net i =
    let cut = breaking_cut net i in
    record { cut = cut; health = if nat_le cut MAX_CUT then health_after net i cut else Sound }

-- the same, told by the cuts from `low` up to below `high` alone: `low` where smaller ones break the
-- bank too, and `high`, and sound, where none of these does
abbrev pub breaking_within : ℕ → ℕ → Net → ℕ → Broken
breaking_within low high net i =
    let cut = max low (min high (breaking_cut net i)) in
    record { cut = cut; health = if nat_lt cut high then health_after net i cut else Sound }

-- what is told of a bank that no cut below `high` breaks
abbrev pub unbroken : ℕ → Broken
unbroken high = record { cut = high; health = Sound }

-- what the cuts below `middle` tell of the banks, and what those from it on tell, put together: the
-- latter of a bank that no cut below breaks
abbrev pub joined : ℕ → List Broken → List Broken → List Broken
joined middle [] upper = []
joined middle (a ∷ lower) [] = a ∷ lower
joined middle (a ∷ lower) (b ∷ upper) =
    (if a.cut == middle then b else a) ∷ joined middle lower upper

-- what is known of the bank i once a cut is tried that is one less than the last: `known` was told by
-- the cuts from the last on, and P are the least payments that clear after the cut
abbrev pub noted : Net → List ℕ → ℕ → ℕ → Broken → Broken
noted left P cut i known =
    let health = health_of left P i in
    if (known.cut == cut + 1) && not (is_sound health)
    then record { cut = cut; health = health }
    else known
