use Rattle.std.proofs.Common.{[], refl}
use Rattle.clear_report.specs.Savings.{saves_line}
use Rattle.raise_journal.proofs.Taken.{taken_more}
use Rattle.clear_report.proofs.savings.saves_rows.Goals as goal

pub loop-other-preserved : goal.loop-other-preserved
loop-other-preserved c =
    taken_more (λ b. saves_line c.args.net.now c.args.bank.0 b.0) [] c.loop-other.rows.items c.push_saved.new.text.items c.args.saves.now
    c.loop-other.other-index _ _ c.loop-other-test.true refl c.loop-other.invariant c.in_ok-push_saved.ensures
