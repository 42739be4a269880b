use Rattle.std.proofs.Common.{length, ap, ◌∙◌}
use Rattle.std.specs.Vec.{with_items}
use Rattle.settle.specs.Between.{opened_workers}
use Rattle.settle.proofs.Closed.{HaveWorked, all_back, may_close, round_closed}
use Rattle.settle.proofs.Handed.{length-opened_workers, opened_workers_apart, opened_workers_called, opened_workers_ready}
use Rattle.settle.proofs.teams.round_in_turn.Goals as goal
use Rattle.settle.proofs.teams.round_in_turn.Given.{Over}
use Rattle.settle.proofs.teams.round_in_turn.Goals.{In_ok-units}

pub work_in_turn-requires-clause-some : goal.work_in_turn-requires-clause-some
work_in_turn-requires-clause-some g c =
    let run = c.args.run.now in
    let w = run.engine.now.plan.workers in
    ap length c.deref_mut.ensures.value ∙ ap length c.in_ok-workers.ensures.opened ∙ length-opened_workers w run.board.now.table c.args.master.now.shows w

pub work_in_turn-requires-clause-ready : goal.work_in_turn-requires-clause-ready
work_in_turn-requires-clause-ready g c = rw (c.deref_mut.ensures.value, c.in_ok-workers.ensures.opened)
    (let run = c.args.run.now in
    let w = run.engine.now.plan.workers in
    opened_workers_ready run.board.now run.net.now w c.args.master.now.shows w run.on_board.net_is c.requires.ready.between)

pub work_in_turn-requires-clause-called : goal.work_in_turn-requires-clause-called
work_in_turn-requires-clause-called g c = rw (c.deref_mut.ensures.value, c.in_ok-workers.ensures.opened)
    (opened_workers_called c.args.run.now.net.now c.args.run.now.engine.now.plan.workers c.args.run.now.board.now.table c.args.master.now.shows c.args.state.now.called c.requires.ready.between c.requires.called)

pub work_in_turn-requires-clause-apart : goal.work_in_turn-requires-clause-apart
work_in_turn-requires-clause-apart g c = rw (c.deref_mut.ensures.value, c.in_ok-workers.ensures.opened)
    (opened_workers_apart c.args.run.now.net.now c.args.run.now.engine.now.plan.workers c.args.run.now.board.now.table c.args.master.now.shows c.requires.ready.between)

-- what the workers did, one after another
worked : (g : Over) (c : In_ok-units g)
    → let run = c.args.run.now in
    let w = run.engine.now.plan.workers in
    HaveWorked run.engine.now.plan.sweeps c.in_ok-units.units (opened_workers w run.board.now.table c.args.master.now.shows w) (with_items c.in_ok-workers.workers c.work_in_turn.new.workers).items
    c.args.state.now c.work_in_turn.new.state
worked g c = record {
  rounded = all_back c.args.run.now.engine.now.plan.sweeps c.in_ok-units.units c.in_ok-workers.workers _ _ _ c.deref_mut.ensures.value c.in_ok-workers.ensures.opened c.in_ok-units.ensures.rounded;
  grown = c.in_ok-units.ensures.grown;
  none_waits = c.in_ok-units.ensures.none_waits;
  offices = ap (λ v. v.items) c.work_in_turn.ensures.offices ∙ c.in_ok-workers.ensures.offices;
}

pub close_workers-requires : goal.close_workers-requires
close_workers-requires g c =
    let run = c.args.run.now in
    may_close run.engine.now.limits run.on_board c.requires.ready (worked g (goal.at.close_workers-requires g c).In_ok-units)
    c.open_workers.new.master c.open_workers.ensures.table c.in_ok-workers.ensures.rest

pub returns : goal.returns
returns g c =
    let run = c.args.run.now in
    let closed = c.in_ok-visits.ensures in
    let clock = c.clock.ensures in
    let table = c.close_workers.ensures.table ∙ c.open_workers.ensures.table in
    record {
      table = table;
      net = c.close_workers.ensures.net ∙ c.open_workers.ensures.net;
      round = round_closed run.engine.now.limits run.on_board c.requires.ready (worked g (goal.at.returns g c).In_ok-units)
          c.open_workers.new.master c.close_workers.new.master c.close_workers.new.state c.in_ok-visits.visits c.in_ok-workers.ensures.rest
          (table ∙ c.requires.ready.table_is) clock.over closed.back closed.visits closed.sum clock.paid_below_least clock.sights_below_least;
    }
