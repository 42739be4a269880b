use Rattle.std.proofs.Common.{◌+◌, ◌-◌, ◌*◌, ◌≤◌}
use Rattle.bank_worker.specs.BankSets.{HaveNoneInBoth}
use Rattle.bank_worker.proofs.bank_set.past_fours.Given as goal

-- no bank of the words so far is in both sets
abbrev pub invariant-loop-place : goal.invariant-loop-place
invariant-loop-place l = record {
  from : l.from ≤ l.place;
  to : l.place ≤ l.to;
  none : HaveNoneInBoth l.words l.others (l.from * 64) (l.place * 64);
}

abbrev pub decreases-loop-place : goal.decreases-loop-place
decreases-loop-place l = l.to + 1 - l.place
