use Rattle.std.proofs.Common.{◌≡◌, ℕ, ◌<◌}
use Rattle.clear_core.specs.Quiet.{IsQuietAt}
use Rattle.clear_core.proofs.quiet.first_unquiet.Given as goal

abbrev pub invariant-loop-number : goal.invariant-loop-number
invariant-loop-number l = record {
  before : (i : ℕ) → i < l.number → IsQuietAt l.net l.paid i;
  room : l.scratch ≡ l.initial.scratch;
}
