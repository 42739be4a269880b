use Rattle.settle.specs.Between.{noted_in}
use Rattle.settle.proofs.Waiting.{added_at_end, one_more_waits}
use Rattle.settle.proofs.noting.note.Goals as goal

pub returns-in_ok-push-in-Beside-clause-noted : goal.returns-in_ok-push-in-Beside-clause-noted
returns-in_ok-push-in-Beside-clause-noted c =
    let journal = c.args.journal.now.raises in
    let waiting = c.args.waiting.now.items in
    let now = c.push.new.self.items in
    added_at_end (noted_in journal waiting) (noted_in journal now) c.args.made.raises c.args.from
    (one_more_waits journal waiting now c.args.made c.in_ok-push-in-Beside.ensures.items)
