use Rattle.std.proofs.Common.{◌≡◌, ℕ, ◌<◌, ◌≤◌, get_or}
use Rattle.stress.specs.Breaking.{noted}
use Rattle.stress.specs.declared.broken.Broken.{Broken}
use Rattle.stress.proofs.broken.note.Given as goal

abbrev pub invariant-loop-number : goal.invariant-loop-number
invariant-loop-number l = record {
  done : (i : ℕ) (none : Broken) → i < l.number
      → get_or l.all i none ≡ noted l.left l.payments.paid l.cut i (get_or l.fn.all i none);
  rest : (i : ℕ) (none : Broken) → l.number ≤ i → get_or l.all i none ≡ get_or l.fn.all i none;
}
