use Rattle.std.proofs.Common.{[], refl}
use Rattle.clear_report.specs.Impact.{hurt_line}
use Rattle.raise_journal.proofs.Taken.{taken_more}
use Rattle.clear_report.proofs.ruins.hurt_rows.Goals as goal

pub loop-hurt-preserved : goal.loop-hurt-preserved
loop-hurt-preserved c =
    taken_more (hurt_line c.args.net.now c.args.bank.0) [] c.loop-hurt.rows.items c.push_hurt.new.text.items c.args.hurts.now
    c.loop-hurt.hurt-index _ _ c.loop-hurt-test.true refl c.loop-hurt.invariant c.in_ok-push_hurt.ensures
