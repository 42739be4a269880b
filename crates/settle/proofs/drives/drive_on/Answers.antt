use Rattle.std.proofs.Common.{refl, sym, ap, ◌∙◌, subst, arith}
use Rattle.pay_words.specs.declared.view.Shown.{Shown}
use Rattle.settle.specs.Offices.{AreAllOffices}
use Rattle.settle.proofs.Driving.{fewer_left, rounds_low, seats_low, visits_low}
use Rattle.settle.proofs.UnderWay.{way_begun, way_ended, way_more}
use Rattle.settle.proofs.drives.drive_on.Goals as goal

pub loop-state-init : goal.loop-state-init
loop-state-init g c =
    let run = c.args.run.now in
    let state = c.in_ok-state.ensures in
    record {
      table = refl;
      way = way_begun run.board.now run.net.now c.args.past.now run.engine.now.plan c.args.master.now c.in_ok-state.state c.args.offices.now.items
          c.banks.ensures.network c.requires.begin c.clock.ensures.paid_below_least state.journal state.none_waits
          (ap (λ v. v.items) (state.offices ∙ c.replace-held.ensures.value)) state.called;
    }

pub round-requires-clause-seats : goal.round-requires-clause-seats
round-requires-clause-seats g c κs within = seats_low c.loop-state.invariant.way.driven c.args.run.now.engine.now.limits.few_workers

pub overflow_add-rounds : goal.overflow_add-rounds
overflow_add-rounds g c = record { fits = omega (arith, rounds_low c.loop-state.invariant.way.driven) }

pub overflow_add-visits : goal.overflow_add-visits
overflow_add-visits g c = record {
  fits = omega (arith, visits_low c.loop-state.invariant.way.driven c.args.run.now.engine.now.limits.few_sweeps c.in_ok-units.ensures.round.round.visits_by_banks);
}

pub loop-state-smaller : goal.loop-state-smaller
loop-state-smaller g c = fewer_left c.in_ok-units.ensures.round.round c.if-units-eq0.false

pub loop-state-preserved : goal.loop-state-preserved
loop-state-preserved g c = record {
  table = c.in_ok-units.ensures.table ∙ c.loop-state.invariant.table;
  way = way_more c.loop-state.invariant.way c.in_ok-units.ensures.round c.if-units-eq0.false;
}

pub returns-clause-driven : goal.returns-clause-driven
returns-clause-driven g c =
    way_ended c.loop-state.invariant.way c.in_ok-units.ensures.round c.if-units-eq0.true (ap (λ (u : Shown). u.taken) c.requires.begin.opened)
    c.in_ok-journal.journal c.in_ok-journal.ensures.journal

pub returns-clause-offices : goal.returns-clause-offices
returns-clause-offices g c =
    let run = c.args.run.now in
    subst (AreAllOffices run.net.now run.engine.now.plan.workers) (sym (ap (λ v. v.items) c.left_in.ensures.offices)) c.in_ok-units.ensures.round.ready.offices
