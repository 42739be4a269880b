use Rattle.std.proofs.Common.{◌≡◌, ◌∙◌}
use Rattle.std.proofs.lemmas.Result.{IfOk-weaker}
use Rattle.clear_core.specs.History.{ordered}
use Rattle.settle.proofs.Waiting.{ordered_waiting}
use Rattle.settle.proofs.drives.left_in.Goals as goal

pub returns-clause-journal : goal.returns-clause-journal
returns-clause-journal c =
    let now = c.add_waiting.new.journal.raises in
    IfOk-weaker c.in_order.result (λ j. j.raises ≡ ordered now) _
    (λ j is. is ∙ ordered_waiting c.args.state.journal.raises now c.args.state.waiting.items c.in_ok-add_waiting.ensures.grown) c.in_order.ensures
