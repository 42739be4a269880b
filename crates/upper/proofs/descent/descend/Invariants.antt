use Rattle.std.proofs.Common.{◌≡◌, sum}
use Rattle.upper.proofs.Reached.{IsReached}
use Rattle.upper.proofs.descent.descend.Given as goal

abbrev pub invariant-loop-round : goal.invariant-loop-round
invariant-loop-round g l = record {
  reached : IsReached l.net (g.S.Spending.spends l.spending l.net) l.round l.paid l.next
      l.room.last l.room.falls l.waves;
  room : l.room.scratch ≡ l.fn.room.scratch;
}

abbrev pub decreases-loop-round : goal.decreases-loop-round
decreases-loop-round g l = sum l.paid
