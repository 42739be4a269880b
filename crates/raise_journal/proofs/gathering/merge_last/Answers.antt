use Rattle.std.proofs.Common.{◌+◌, ◌-◌, inl, inr, refl, arith, get_or, length}
use Rattle.raise_journal.proofs.Merged.{merging_first, merging_last, merging_new, merging_old, no_raise, placed_after, placed_first, placed_whole, stands_before, stands_behind}
use Rattle.raise_journal.proofs.gathering.merge_last.Goals as goal
use Rattle.raise_journal.proofs.gathering.merge_last.Goals.{then-left-eq0-via-then-left-eq0, then-left-eq0-via-else-left-eq0+then-kept-eq0, then-left-eq0-via-else-left-eq0+else-kept-eq0+then-not-stands_after, else-kept-gt0-via-then-kept-gt0+else-stands_after, else-kept-gt0-via-else-kept-gt0}

pub returns-then-left-eq0-clause-in_order : goal.returns-then-left-eq0-clause-in_order
returns-then-left-eq0-clause-in_order c =
    let all = c.args.all.now in
    let rs = c.args.raises.now in
    let kept = length all - length rs in
    placed_whole all rs kept refl c.requires (elim c.then-left-eq0.branch [
      | then-left-eq0-via-then-left-eq0 w ↦ inl (omega (arith, w.if-left-eq0.true))
      | then-left-eq0-via-else-left-eq0+then-kept-eq0 w ↦ inr (placed_first all kept _ (omega (arith, w.if-kept-eq0.true)))
      | then-left-eq0-via-else-left-eq0+else-kept-eq0+then-not-stands_after w ↦ inr (placed_after all kept _ (stands_before (get_or all (kept - 1) no_raise) (get_or rs 0 no_raise) _ w.stands_after.ensures w.if-not-stands_after.true))
    ])

pub loop-left-init : goal.loop-left-init
loop-left-init c = merging_first c.args.all.now c.args.raises.now c.requires

pub loop-left-preserved-then-stands_after : goal.loop-left-preserved-then-stands_after
loop-left-preserved-then-stands_after c =
    let l = c.loop-left in
    merging_old c.args.all.now l.all c.args.raises.now l.kept l.left (l.kept - 1) (l.left - 1) (l.kept + l.left - 1) l.invariant
    (omega (arith, c.if-kept-gt0.true)) (omega (arith, c.loop-left-test.true)) (omega (arith, c.if-kept-gt0.true))
    (stands_behind (get_or l.all (l.kept - 1) no_raise) (get_or c.args.raises.now (l.left - 1) no_raise) _ c.stands_after-then-kept-gt0.ensures c.if-stands_after.true)

pub loop-left-preserved : goal.loop-left-preserved
loop-left-preserved c =
    let l = c.loop-left in
    merging_new c.args.all.now l.all c.args.raises.now l.kept l.left (l.left - 1) (l.kept + l.left - 1) l.invariant
    (omega (arith, c.loop-left-test.true)) (omega (arith, c.loop-left-test.true))
    (elim c.else-kept-gt0.branch [
      | else-kept-gt0-via-then-kept-gt0+else-stands_after w ↦ placed_after l.all l.kept _ (stands_before (get_or l.all (l.kept - 1) no_raise) (get_or c.args.raises.now (l.left - 1) no_raise) _ w.stands_after-then-kept-gt0.ensures w.if-stands_after.false)
      | else-kept-gt0-via-else-kept-gt0 w ↦ placed_first l.all l.kept _ (omega (arith, w.if-kept-gt0.false))
    ])

pub returns-clause-moved : goal.returns-clause-moved
returns-clause-moved c =
    (merging_last c.args.all.now c.loop-left.all c.args.raises.now c.loop-left.kept c.loop-left.left c.loop-left.invariant (omega (arith, c.loop-left-test.false))).0

pub returns-clause-in_order : goal.returns-clause-in_order
returns-clause-in_order c =
    (merging_last c.args.all.now c.loop-left.all c.args.raises.now c.loop-left.kept c.loop-left.left c.loop-left.invariant (omega (arith, c.loop-left-test.false))).1
