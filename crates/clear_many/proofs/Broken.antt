-- What breaks each bank, told block by block of the cuts.
use Rattle.std.proofs.Common.{◌≡◌, ℕ, ◌+◌, ◌<◌, ◌≤◌, length, map, arith}
use Rattle.std.proofs.lemmas.List.FromFn.{length-map-range_with_len}
use Rattle.clr_net.specs.Net.{Net}
use Rattle.cascade.specs.Standings.{bank_numbers}
use Rattle.stress.specs.Breaking.{breaking_within}
use Rattle.clear_many.specs.Blocks.{across, edge}
use Rattle.clear_many.specs.declared.cuts.TheConstants.{BLOCKS}

-- there is one for each bank
pub as_many_broken : (net : Net) (low high : ℕ) → length (map (breaking_within low high net) (bank_numbers net)) ≡ length net.banks
as_many_broken net low high = length-map-range_with_len (breaking_within low high net) 0 (length net.banks)

-- a block ends no lower than it begins
pub edges_rise : (block : ℕ) → edge block ≤ edge (block + 1)
edges_rise block = omega arith

-- a block is the block of its place
pub across_back : (block : ℕ) → block < BLOCKS → (across block < BLOCKS) × (across (across block) ≡ block)
across_back block l = (omega arith, omega arith)
