use Rattle.std.proofs.Common.{◌≡◌, List, [], OnOk, length, ap, ◌∙◌, sym, subst, arith, eqb-true}
use Rattle.std.proofs.lemmas.List.{nil_from_length}
use Rattle.std.specs.Prelude.{vec_len}
use Rattle.clear_core.specs.History.{Kept}
use Rattle.raise_journal.specs.Gathered.{HasGrownBy, raises_of_all}
use Rattle.raise_journal.proofs.Merged.{grown_none}
use Rattle.settle.specs.Between.{opened_workers}
use Rattle.settle.proofs.Closed.{HaveWorked, back_from, may_close, round_closed}
use Rattle.settle.proofs.Handed.{length-opened_workers, opened_workers_ready}
use Rattle.settle.proofs.teams.round.Goals as goal
use Rattle.settle.proofs.teams.round.Given.{Over}
use Rattle.settle.proofs.teams.round.Goals.{In_ok-units, then-is_empty, else-is_empty}

pub work-made-requires-clause-some : goal.work-made-requires-clause-some
work-made-requires-clause-some g c κs within =
    let run = c.args.run.now in
    let w = run.engine.now.plan.workers in
    let size = ap length c.deref_mut.ensures.value ∙ ap length c.in_ok-workers.ensures.opened ∙ length-opened_workers w run.board.now.table c.args.master.now.shows w in
    (omega (arith, size, run.engine.now.limits.some_workers), omega (arith, size, run.engine.now.limits.few_workers))

pub work-made-requires-clause-ready : goal.work-made-requires-clause-ready
work-made-requires-clause-ready g c κs within = rw (c.deref_mut.ensures.value, c.in_ok-workers.ensures.opened)
    (let run = c.args.run.now in
    let w = run.engine.now.plan.workers in
    opened_workers_ready run.board.now run.net.now w c.args.master.now.shows w run.on_board.net_is c.requires.ready.between)

pub work_and_add-made-requires-clause-some : goal.work_and_add-made-requires-clause-some
work_and_add-made-requires-clause-some g c κs within =
    let run = c.args.run.now in
    let w = run.engine.now.plan.workers in
    ap length c.deref_mut-else-is_empty.ensures.value ∙ ap length c.in_ok-workers.ensures.opened ∙ length-opened_workers w run.board.now.table c.args.master.now.shows w

pub work_and_add-made-requires-clause-ready : goal.work_and_add-made-requires-clause-ready
work_and_add-made-requires-clause-ready g c κs within = rw (c.deref_mut-else-is_empty.ensures.value, c.in_ok-workers.ensures.opened)
    (let run = c.args.run.now in
    let w = run.engine.now.plan.workers in
    opened_workers_ready run.board.now run.net.now w c.args.master.now.shows w run.on_board.net_is c.requires.ready.between)

-- what the workers did, beside one another
worked : (g : Over) (c : In_ok-units g)
    → let run = c.args.run.now in
    let w = run.engine.now.plan.workers in
    HaveWorked run.engine.now.plan.sweeps c.in_ok-units.units (opened_workers w run.board.now.table c.args.master.now.shows w) c.if-is_empty.workers.items c.args.state.now c.if-is_empty.state
worked g c =
    let sweeps = c.args.run.now.engine.now.plan.sweeps in
    let units = c.in_ok-units.units in
    let v = c.in_ok-workers.workers in
    let now = c.if-is_empty.workers in
    let made = c.if-is_empty.made in
    let journal = c.args.state.now.journal.raises in
    elim c.if-is_empty.branch [
      | then-is_empty w ↦
          let empty : vec_len c.args.state.now.waiting ≡ 0 = eqb-true (vec_len c.args.state.now.waiting) 0 (sym w.if-is_empty.ensures) in
          let none = nil_from_length c.args.state.now.waiting.items (omega (arith, empty, c.args.state.now.waiting.ok)) in
          record {
            rounded = back_from sweeps units v now w.deref_mut.result.now _ w.work-made.new.workers made w.work-made.result c.in_ok-units.was w.made-is w.workers-is w.deref_mut.ensures.value
                c.in_ok-workers.ensures.opened w.work-made.ensures.rounded;
            grown = rw (w.state-is) (subst (λ (ks : List Kept). HasGrownBy journal journal (raises_of_all ks)) (sym none) (grown_none journal));
            none_waits = rw (w.state-is) none;
            offices = rw (w.state-is) c.in_ok-workers.ensures.offices;
          }
      | else-is_empty w ↦
          let does = subst (λ r. OnOk r (HasGrownBy journal w.work_and_add-made.new.journal.raises (raises_of_all c.args.state.now.waiting.items))) (sym w.made-is ∙ c.in_ok-units.was)
          w.work_and_add-made.ensures.grown in
          let none = subst (λ r. OnOk r (w.work_and_add-made.new.waiting.items ≡ [])) (sym w.made-is ∙ c.in_ok-units.was) w.work_and_add-made.ensures.none_waits in
          record {
            rounded = back_from sweeps units v now w.deref_mut-else-is_empty.result.now _ w.work_and_add-made.new.workers made w.work_and_add-made.result c.in_ok-units.was w.made-is w.workers-is
                w.deref_mut-else-is_empty.ensures.value c.in_ok-workers.ensures.opened w.work_and_add-made.ensures.rounded;
            grown = rw (w.state-is) does;
            none_waits = rw (w.state-is) none;
            offices = rw (w.state-is) c.in_ok-workers.ensures.offices;
          }
    ]

pub close_workers-requires : goal.close_workers-requires
close_workers-requires g c =
    let run = c.args.run.now in
    may_close run.engine.now.limits run.on_board c.requires.ready (worked g (goal.at.close_workers-requires g c).In_ok-units)
    c.open_workers.new.master c.open_workers.ensures.table c.in_ok-workers.ensures.rest

pub returns : goal.returns
returns g c =
    let run = c.args.run.now in
    let closed = c.in_ok-visits.ensures in
    let clock = c.clock.ensures in
    let table = c.close_workers.ensures.table ∙ c.open_workers.ensures.table in
    record {
      table = table;
      net = c.close_workers.ensures.net ∙ c.open_workers.ensures.net;
      round = round_closed run.engine.now.limits run.on_board c.requires.ready (worked g (goal.at.returns g c).In_ok-units)
          c.open_workers.new.master c.close_workers.new.master c.close_workers.new.state c.in_ok-visits.visits c.in_ok-workers.ensures.rest
          (table ∙ c.requires.ready.table_is) clock.over closed.back closed.visits closed.sum clock.paid_below_least clock.sights_below_least;
    }
