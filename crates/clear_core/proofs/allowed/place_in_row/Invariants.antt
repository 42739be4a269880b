use Rattle.std.proofs.Common.{◌≢◌, ℕ, ◌<◌, slice_index}
use Rattle.clr_net.specs.Net.{row}
use Rattle.clear_core.proofs.allowed.place_in_row.Given as goal

abbrev pub invariant-loop-place : goal.invariant-loop-place
invariant-loop-place l = (k : ℕ) → k < l.place → slice_index (row l.net l.fn.debtor.0) k ≢ l.debt.0
