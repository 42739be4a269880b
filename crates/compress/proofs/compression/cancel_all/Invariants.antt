use Rattle.std.proofs.Common.{◌≡◌, []}
use Rattle.compress.specs.Progress.{IsCompressedTo}
use Rattle.compress.specs.Walk.{IsSizedFor}
use Rattle.compress.proofs.compression.cancel_all.Given as goal

abbrev pub invariant-loop-class : goal.invariant-loop-class
invariant-loop-class l = record {
  made : IsCompressedTo l.net l.class l.claims l.ranks;
  sizes : IsSizedFor l.net l.walk;
  empty : l.walk.steps.items ≡ [];
}
