use Rattle.std.proofs.Common.{◌≡◌, map}
use Rattle.std.specs.List.{range_with_len}
use Rattle.clear_report.specs.Text.{head_of}
use Rattle.clear_report.proofs.heads.line_heads.Given as goal

abbrev pub invariant-loop-x : goal.invariant-loop-x
invariant-loop-x l = map (λ head. head.items) l.heads.items ≡ map (head_of l.net) (range_with_len 0 l.x)
