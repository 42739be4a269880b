use Rattle.std.proofs.Common.{◌≡◌, ℕ, ◌<◌, ◌≤◌, get_or}
use Rattle.stress.specs.Outcomes.{both}
use Rattle.stress.specs.declared.tally.Falls.{Falls}
use Rattle.stress.proofs.tally.add_each.Given as goal

abbrev pub invariant-loop-place : goal.invariant-loop-place
invariant-loop-place l = record {
  done : (i : ℕ) (d : Falls) → i < l.place
      → get_or l.falls i d ≡ both (get_or l.fn.falls i d) (get_or l.others i d);
  rest : (i : ℕ) (d : Falls) → l.place ≤ i → get_or l.falls i d ≡ get_or l.fn.falls i d;
}
