use Rattle.std.proofs.Common.{◌≡◌, ℕ, ◌<◌, ◌≤◌, get_or}
use Rattle.cascade.specs.declared.standing.Standing.{Standing}
use Rattle.stress.specs.Outcomes.{both, once}
use Rattle.stress.specs.declared.tally.Falls.{Falls}
use Rattle.stress.proofs.tally.note_each.Given as goal

abbrev pub invariant-loop-place : goal.invariant-loop-place
invariant-loop-place l = record {
  done : (i : ℕ) (d : Falls) (s : Standing) → i < l.place
      → get_or l.falls i d ≡ both (get_or l.fn.falls i d) (once (get_or l.standings i s).health);
  rest : (i : ℕ) (d : Falls) → l.place ≤ i → get_or l.falls i d ≡ get_or l.fn.falls i d;
}
