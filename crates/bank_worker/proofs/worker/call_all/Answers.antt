use Rattle.std.specs.Prelude.{◌==◌}
use Rattle.std.proofs.Common.{get_or, arith}
use Rattle.bank_worker.specs.Called.{StayIn}
use Rattle.pay_words.specs.Views.{a_raise}
use Rattle.bank_worker.proofs.Calling.{called_more, now_in, stay_in}
use Rattle.bank_worker.proofs.worker.call_all.Goals as goal
use Rattle.bank_worker.proofs.worker.call_all.Goals.{then-debt-debts, else-debt-debts}

pub loop-raise-preserved : goal.loop-raise-preserved
loop-raise-preserved c =
    let noted = c.args.creditors.now in
    let rs = c.args.raises.now in
    let n = c.loop-raise.raise-index in
    let h = c.loop-raise.invariant in
    let creditor = get_or noted (get_or rs n (a_raise 0 0 0)).debt.0 0 in
    let more = called_more noted c.loop-raise.called c.if-debt-debts.called rs n (a_raise 0 0 0) (omega arith) h.creditors in
    elim c.if-debt-debts.branch [
      | then-debt-debts w ↦
          let stay : StayIn c.loop-raise.called c.if-debt-debts.called = rw w.called-is (stay_in c.loop-raise.called w.add.new.self (λ b. b == creditor) w.add.ensures) in
          record {
            kept = λ b old. stay b (h.kept b old);
            creditors = more stay (λ lt. rw w.called-is (now_in c.loop-raise.called w.add.new.self creditor w.add.ensures));
          }
      | else-debt-debts w ↦ record {
        kept = rw w.called-is h.kept;
        creditors = more (rw w.called-is (λ b old. old)) (λ lt. absurd (omega (arith, lt, w.if-debt-debts.false)));
      }
    ]
