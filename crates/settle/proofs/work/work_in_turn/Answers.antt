use Rattle.std.proofs.Common.{get_or, arith, refl, subst}
use Rattle.bank_worker.specs.Grows.{MakesRound}
use Rattle.bank_worker.specs.declared.visit.Visit.{Visit}
use Rattle.bank_worker.specs.declared.visit.Visit.TheVariants.{Raised}
use Rattle.settle.proofs.InTurn.{turn_more, turn_of, turn_ready}
use Rattle.settle.proofs.work.work_in_turn.Goals as goal
use Rattle.settle.proofs.work.work_in_turn.Given.{Over}
use Rattle.settle.proofs.work.work_in_turn.Goals.{In_ok-units}
use Rattle.std.proofs.lemmas.List.{length-take, take_all}

pub loop-worker-init : goal.loop-worker-init
loop-worker-init g c = record {
  as_many = refl;
  rounded = record { as_many = refl; each = λ i lt. absurd (omega (arith, lt)); rose = refl; few = omega arith };
  left = λ i le. refl;
  waiting = λ i le li. c.requires.called i li;
}

pub round_over-round-requires : goal.round_over-round-requires
round_over-round-requires g c =
    let l = c.loop-worker in
    let limits = c.args.run.now.engine.now.limits in
    let ready = turn_ready c.args.run.now.board.now c.args.run.now.engine.now.plan.sweeps l.units c.args.workers.now l.workers l.worker-index l.called c.worker-item.result
    c.loop-worker-test.true c.requires.ready l.invariant in
    record { ready = ready.0; sweeps = (limits.some_sweeps, limits.few_sweeps); called = ready.1 }

-- what the worker's round was, since there was memory
turned : (g : Over) (c : In_ok-units g) → MakesRound c.args.run.now.engine.now.plan.sweeps (Raised c.in_ok-units.field-0) (get_or c.loop-worker.workers c.loop-worker.worker-index c.worker-item.result) c.round_over-round.new.self
turned g c =
    subst (λ (v : Visit). MakesRound c.args.run.now.engine.now.plan.sweeps v (get_or c.loop-worker.workers c.loop-worker.worker-index c.worker-item.result) c.round_over-round.new.self) c.in_ok-units.ensures.raised
    c.round_over-round.ensures.round

pub overflow_add-units : goal.overflow_add-units
overflow_add-units g c =
    let limits = c.args.run.now.engine.now.limits in
    let l = c.loop-worker in
    record { fits = omega (arith, c.requires.some, limits.few_workers, l.invariant.rounded.few, length-take l.worker-index c.args.workers.now, (turned g (goal.at.overflow_add-units g c).In_ok-units).few) }

pub loop-worker-preserved : goal.loop-worker-preserved
loop-worker-preserved g c =
    let l = c.loop-worker in
    let n = l.worker-index in
    let w = c.worker-item.result in
    let lt = c.loop-worker-test.true in
    turn_more c.args.run.now.engine.now.plan.sweeps l.units c.in_ok-units.field-0 c.args.workers.now l.workers n l.called c.round_over-round.new.called (get_or l.workers n w) c.round_over-round.new.self lt c.requires.apart l.invariant
    (turn_of c.args.run.now.engine.now.plan.sweeps l.units c.args.workers.now l.workers n l.called w lt l.invariant)
    (turned g (goal.at.loop-worker-preserved g c).In_ok-units) c.round_over-round.ensures.keeps_others

pub returns-clause-rounded : goal.returns-clause-rounded
returns-clause-rounded g c =
    let ws = c.args.workers.now in
    let h = c.loop-worker.invariant in
    rw (take_all c.loop-worker.worker-index ws (omega arith), take_all c.loop-worker.worker-index c.loop-worker.workers (omega (arith, h.as_many))) at h.rounded
