use Rattle.std.proofs.Common.{◌≡◌, ℕ, ◌<◌, ◌≤◌, get_or, max, take}
use Rattle.std.specs.List.{fold}
use Rattle.rule_class.proofs.order.last_class.Given as goal

abbrev pub invariant-loop-class : goal.invariant-loop-class
invariant-loop-class l = record {
  at_least : (k : ℕ) → k < l.class-index → get_or l.classes k 0 ≤ l.last;
  greatest : l.last ≡ fold max 1 (take l.class-index l.classes);
  positive : 1 ≤ l.last;
  limit : l.last ≤ 9;
}
