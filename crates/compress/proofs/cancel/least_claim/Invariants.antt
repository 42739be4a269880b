use Rattle.std.proofs.Common.{ℕ, ◌<◌, ◌≤◌, slice_index}
use Rattle.compress.specs.Walk.{numbers}
use Rattle.compress.proofs.cancel.least_claim.Given as goal

abbrev pub invariant-loop-k : goal.invariant-loop-k
invariant-loop-k l = record {
  positive : 0 < l.least;
  closing : l.least ≤ slice_index l.claims l.fn.closing.0;
  least : (j : ℕ) → l.fn.place ≤ j → j < l.k → l.least ≤ slice_index l.claims
      (slice_index (numbers l.steps) j);
}
