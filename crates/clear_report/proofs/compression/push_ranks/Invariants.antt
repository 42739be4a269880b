use Rattle.std.proofs.Common.{◌≡◌, ◌++◌}
use Rattle.std.specs.List.{flat_map, range_with_len}
use Rattle.clear_report.specs.Compression.{class_lines}
use Rattle.clear_report.proofs.compression.push_ranks.Given as goal

abbrev pub invariant-loop-below : goal.invariant-loop-below
invariant-loop-below l = l.text.items
    ≡ l.fn.text.items ++ flat_map (class_lines l.net l.ranks) (range_with_len 1 l.below)
