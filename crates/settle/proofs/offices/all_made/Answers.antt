use Rattle.std.proofs.Common.{◌≡◌, ◌∷◌}
use Rattle.std.specs.Vec.Iter.{into_iter_items}
use Rattle.settle.proofs.OfficeLists.{gone_over}
use Rattle.settle.proofs.offices.all_made.Goals as goal

pub loop-one-preserved : goal.loop-one-preserved
loop-one-preserved c =
    let at = c.loop-one in
    let steps : into_iter_items at.one-iterator ≡ c.in-Some.one ∷ into_iter_items c.next.new.self = c.in-Some.ensures.steps.0 in
    gone_over at.offices.items c.push.new.self.items c.in_ok-office.office c.in-Some.one (into_iter_items c.next.new.self) c.args.made.items
    (rw (← steps) at.invariant) c.in_ok-office.was c.in_ok-push.ensures.items
