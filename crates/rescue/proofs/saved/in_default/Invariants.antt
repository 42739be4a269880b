use Rattle.std.proofs.Common.{◌≡◌, ◌≤◌, count_by, not, take}
use Rattle.cascade.specs.Standings.{is_sound}
use Rattle.rescue.proofs.saved.in_default.Given as goal

abbrev pub invariant-loop-standing : goal.invariant-loop-standing
invariant-loop-standing l = record {
  counted : l.count ≡ count_by (λ s. not (is_sound s.health)) (take l.standing-index l.standings);
  few : l.count ≤ l.standing-index;
}
