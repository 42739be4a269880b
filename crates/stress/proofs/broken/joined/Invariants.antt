use Rattle.std.proofs.Common.{◌≡◌, ◌<◌, ◌≤◌, ℕ, ◌==◌, cond, get_or, length}
use Rattle.stress.specs.declared.broken.Broken.{Broken}
use Rattle.stress.proofs.broken.joined.Given as goal

abbrev pub invariant-loop-place : goal.invariant-loop-place
invariant-loop-place l = record {
  as_many : length l.all.items ≡ length l.fn.lower.items;
  done : (i : ℕ) (d : Broken) → i < l.place → get_or l.all.items i d
      ≡ cond ((get_or l.fn.lower.items i d).cut == l.middle) (get_or l.upper i d)
      (get_or l.fn.lower.items i d);
  rest : (i : ℕ) (d : Broken) → l.place ≤ i → get_or l.all.items i d ≡ get_or l.fn.lower.items i d;
}
