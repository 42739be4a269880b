use Rattle.std.proofs.Common.{◌+◌, arith}
use Rattle.clear_report.specs.Compression.{class_lines}
use Rattle.clear_report.proofs.Lines.{lines_more}
use Rattle.clear_report.proofs.compression.push_ranks.Goals as goal

pub loop-below-preserved : goal.loop-below-preserved
loop-below-preserved c =
    lines_more c.args.text.now.items c.loop-below.text.items c.push_class.new.text.items
    (class_lines c.args.net.now c.args.ranks.now) 1 c.loop-below.below (c.loop-below.below + 1)
    (omega arith) c.loop-below.invariant c.in_ok-push_class.ensures
