use Rattle.std.proofs.Common.{◌<◌}
use Rattle.clear_many.proofs.singly.are_cut_unlike.Given as goal

abbrev pub invariant-loop-place : goal.invariant-loop-place
invariant-loop-place l = l.alike < l.place
