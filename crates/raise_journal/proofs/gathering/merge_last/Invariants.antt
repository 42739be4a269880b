use Rattle.std.proofs.Common.{◌+◌}
use Rattle.raise_journal.proofs.Merged.{IsMerging}
use Rattle.raise_journal.proofs.gathering.merge_last.Given as goal

abbrev pub invariant-loop-left : goal.invariant-loop-left
invariant-loop-left l = IsMerging l.fn.all l.all l.raises l.kept l.left

-- each raise is put in its place once
abbrev pub decreases-loop-left : goal.decreases-loop-left
decreases-loop-left l = l.kept + l.left
