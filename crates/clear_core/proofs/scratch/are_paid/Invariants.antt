use Rattle.std.proofs.Common.{◌≡◌, ℕ, ◌<◌, slice_index}
use Rattle.clr_net.specs.Net.{row}
use Rattle.clear_core.proofs.scratch.are_paid.Given as goal

abbrev pub invariant-loop-place : goal.invariant-loop-place
invariant-loop-place l =
    (k : ℕ) → k < l.place → slice_index l.paid (slice_index (row l.net l.fn.bank.0) k) ≡ slice_index l.awards k
