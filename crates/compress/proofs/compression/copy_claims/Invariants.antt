use Rattle.std.proofs.Common.{◌≡◌, ℕ, ◌<◌, slice_index}
use Rattle.clr_net.specs.Net.{claim_of}
use Rattle.compress.proofs.compression.copy_claims.Given as goal

abbrev pub invariant-loop-number : goal.invariant-loop-number
invariant-loop-number l = (x : ℕ) → x < l.number → slice_index l.claims x ≡ claim_of l.net x
