use Rattle.std.proofs.Common.{◌≡◌, All, length}
use Rattle.compress.specs.Walk.{IsStep, numbers}
use Rattle.compress.proofs.Cancelling.{IsCancelling}
use Rattle.compress.proofs.cancel.cancel.Given as goal

abbrev pub invariant-loop-walk : goal.invariant-loop-walk
invariant-loop-walk l = record {
  cancelling : IsCancelling l.net l.class l.walk.start.0 l.place l.least l.fn.claims
      l.fn.walk.marks.items l.claims (numbers l.walk.steps.items) l.walk.marks.items;
  start : l.walk.start ≡ l.fn.walk.start;
  steps : All (IsStep l.net) l.walk.steps.items;
  cursors : l.walk.cursors ≡ l.fn.walk.cursors;
  heads : l.walk.heads ≡ l.fn.walk.heads;
  ranks : l.walk.ranks ≡ l.fn.walk.ranks;
}

abbrev pub decreases-loop-walk : goal.decreases-loop-walk
decreases-loop-walk l = length l.walk.steps.items
