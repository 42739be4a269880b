use Rattle.std.proofs.Common.{◌-◌, ◌+◌, refl, sym, subst}
use Rattle.settle.specs.Offices.{AreOffices}
use Rattle.settle.proofs.OfficeLists.{office_more}
use Rattle.settle.proofs.offices.offices_of.Goals as goal

pub loop-made-preserved : goal.loop-made-preserved
loop-made-preserved c =
    let net = c.args.net.now in
    let w = c.args.workers in
    let n = c.loop-made.made in
    subst (AreOffices net w (n + 1)) (sym c.in_ok-push.ensures.items)
    (office_more net w n (w - 1 - n) c.loop-made.offices.items c.in_ok-of.field-0 c.loop-made.invariant refl (record { office = c.in_ok-of.ensures.office; worker = c.in_ok-of.ensures.worker }))
