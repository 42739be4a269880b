-- A search for the least sum that saves a bank: what it keeps from bank to bank, and how far it has
-- come.
use Rattle.std.specs.Prelude.{◌≡◌, ℕ, ◌-◌, ◌<◌, ◌≤◌, List, length}
use Rattle.clr_net.specs.Net.{Net, cash_of, with_cash}
use Rattle.clear_core.specs.Buffers.{HasRoom}
use Rattle.clear_core.specs.Clearing.{least}
use Rattle.clear_core.specs.Sums.{HaveSums}
use Rattle.cascade.specs.Standings.{due}
use Rattle.rescue.specs.Rescue.{DifferInCash, Saves, added, short_of}
use Rattle.rescue.specs.declared.range.Range.{Range}
use Rattle.rescue.specs.declared.search.Search.{Search}

-- payments are the least that clear where the bank i has no more cash than here
pub record AreLeastWithLess (net : Net) (i : ℕ) (paid : List ℕ) : Type 0 where
  pub cash : ℕ
  pub no_more : cash ≤ cash_of net i
  pub are : paid ≡ least (with_cash net i cash)

-- a search at the bank i of this network: its copy differs in the cash of that bank at most
pub record IsSearchAt (net : Net) (i : ℕ) (s : Search) : Type 0 where
  pub differ : DifferInCash net s.more i
  pub for_each_bank : length s.marks.items ≡ length net.banks
  pub room : HasRoom net s.scratch

-- a search between two banks of this network: its copy is the network
pub record IsSearchOf (net : Net) (s : Search) : Type 0 where
  pub copy : s.more ≡ net
  pub for_each_bank : length s.marks.items ≡ length net.banks
  pub room : HasRoom net s.scratch

-- the least sum that saves the bank i is one of this range, of which the least payments with the
-- greatest sum are known, and those with one unit less than the least, both with their sums, and what
-- the bank lacks then
pub record IsRangeOf (net : Net) (i : ℕ) (r : Range) : Type 0 where
  pub within : r.high ≤ due net i - cash_of net i
  pub order : r.low ≤ r.high
  pub saves : Saves net i r.high
  pub fails : (b : ℕ) → b < r.low → ¬ (Saves net i b)
  pub less : r.less.paid ≡ least (added net i (r.low - 1))
  pub less_sums : HaveSums net r.less
  pub short : r.short ≡ short_of net i r.low
  pub enough : r.enough.paid ≡ least (added net i r.high)
  pub enough_sums : HaveSums net r.enough
