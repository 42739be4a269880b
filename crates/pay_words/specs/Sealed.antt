-- What the record of a sealed board shows.
use Rattle.std.specs.Prelude.{ℕ, List}
use Rattle.clr_net.specs.Net.{Net}
use Rattle.clear_core.specs.declared.event.Raise.{Raise}

-- the network, all raises in order, and how many raises were made on the board, for how many
-- workers, by how many seats
pub record Sealed : Type 0 where
  pub net : Net
  pub journal : List Raise
  pub made : ℕ
  pub workers : ℕ
  pub seats : ℕ
