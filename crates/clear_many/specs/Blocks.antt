-- The blocks that the cuts are parted into, and the places in which they are gone through.
use Rattle.std.specs.Prelude.{◌≡◌, ℕ, ◌+◌, ◌-◌, ◌*◌, ◌/◌, ◌%◌, Vec, map, min}
use Rattle.std.specs.Global.{Global}
use Rattle.cascade.specs.Standings.{bank_numbers}
use Rattle.clear_many.specs.declared.cuts.TheConstants.{BLOCKS, BLOCK_CUTS, LAST_CUTS, LAST_EDGE}
use Rattle.clr_net.specs.Net.{Net}
use Rattle.shares.specs.declared.TheConstants.{THREADS}
use Rattle.stress.specs.Breaking.{breaking_within}
use Rattle.stress.specs.declared.broken.Broken.{Broken}

-- the cut at which a block begins. Of the blocks on one thread with the last, the last alone has
-- cuts
abbrev pub edge : ℕ → ℕ
edge block =
    min (BLOCK_CUTS * (block - block / THREADS)) (LAST_EDGE + LAST_CUTS * (block / BLOCKS))

-- the block that is gone through in a place, and the place of a block: row by row of a square, of
-- which each side is as long as there are threads, the places stand, and column by column the
-- blocks
abbrev pub across : ℕ → ℕ
across place = place % THREADS * THREADS + place / THREADS

-- what the block of a place tells of each bank
abbrev pub IsTold : Net → ℕ → Vec Broken Global → Type 0
IsTold net place told = told.items
    ≡ map (breaking_within (edge (across place)) (edge (across place + 1)) net) (bank_numbers net)
