use Rattle.std.proofs.Common.{◌≡◌, ℕ, ◌<◌, length, replicate}
use Rattle.compress.specs.declared.mark.Mark.TheVariants.{Done, New}
use Rattle.compress.specs.Walk.{IsAtRest, IsKept, mark_of}
use Rattle.compress.proofs.classes.cancel_cycles.Given as goal

abbrev pub invariant-loop-number : goal.invariant-loop-number
invariant-loop-number l = record {
  rest : IsAtRest l.net l.class l.claims l.walk;
  kept : IsKept l.net l.class l.fn.claims l.claims (replicate (length l.net.banks) New)
      l.walk.marks.items;
  all : (b : ℕ) → b < l.number → mark_of l.walk.marks.items b ≡ Done;
}
