use Rattle.std.proofs.Common.{◌≡◌, ◌<◌, ℕ}
use Rattle.compress.specs.Walk.{IsPassed}
use Rattle.compress.proofs.search.next_back.Given as goal

abbrev pub invariant-loop-place : goal.invariant-loop-place
invariant-loop-place l = record {
  passed : (k : ℕ) → k < l.place → IsPassed l.net l.class l.claims l.marks l.fn.bank.0 k;
  cursors : l.cursors ≡ l.fn.cursors;
}
