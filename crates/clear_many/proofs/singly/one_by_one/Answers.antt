-- The lines of all scenarios, and how often banks fall in all, are their sums.
use Rattle.clear_many.proofs.Counting.{sums_of_all}
use Rattle.clear_many.proofs.singly.one_by_one.Goals as goal

pub returns : goal.returns
returns g c =
    let made = c.in_ok-pieces.ensures in
    sums_of_all c.args.net.now c.args.scenarios.now _ made.as_many made.in_order made.at_desk.2
