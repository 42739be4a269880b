use Rattle.std.proofs.Common.{◌+◌, length, ap, arith}
use Rattle.bank_worker.proofs.Calling.{called_still, calls_none, calls_on}
use Rattle.bank_worker.proofs.Sweeping.{few_in_all, round_made, round_more, round_start, round_stopped}
use Rattle.bank_worker.proofs.worker.Worker.round_over.Goals as goal
use Rattle.bank_worker.specs.Called.{KeepsOthers, CallsOthers}
use Rattle.bank_worker.proofs.worker.Worker.round_over.Goals.{After-sweep}
use Rattle.bank_worker.proofs.worker.Worker.round_over.Given.{Over}

pub loop-init : goal.loop-init
loop-init g c = record {
  round = round_start c.args.self.now c.requires.ready.calm c.requires.ready.rest c.desks-desks.ensures.no_rings c.desks-desks.ensures.held;
  called = c.requires.called;
  keeps_others = λ b other is. is;
  rung = calls_none c.args.self.now c.args.called.now;
}

pub sweep-requires-clause-visits : goal.sweep-requires-clause-visits
sweep-requires-clause-visits g c =
    omega (arith, few_in_all c.loop.counter (length c.args.self.now.desks) (omega arith) (omega (arith, c.desks-desks.ensures.desks, c.desks-desks.ensures.in_limit)), c.loop.invariant.round.at_most)

pub sweep-requires-clause-called : goal.sweep-requires-clause-called
sweep-requires-clause-called g c =
    called_still c.loop.self.seat.shows c.loop.self.desks c.loop.called c.call_anew.new.called c.call_anew.ensures.kept c.loop.invariant.called

pub overflow_add-units : goal.overflow_add-units
overflow_add-units g c =
    record { fits = omega (arith, few_in_all c.loop.counter (length c.args.self.now.desks) (omega arith) (omega (arith, c.desks-desks.ensures.desks, c.desks-desks.ensures.in_limit)), c.loop.invariant.round.low, c.in-Raised.ensures.few, ap (λ ds. length ds) c.loop.invariant.round.gone.grows.same.desks) }

-- what is called after one sweep more
calls : (g : Over) (c : After-sweep g) → KeepsOthers c.args.self.now.seat.shows c.args.called.now c.sweep.new.called × CallsOthers c.args.self.now c.sweep.new.self c.sweep.new.called
calls g c =
    let h = c.loop.invariant in
    calls_on c.args.self.now c.loop.self c.sweep.new.self c.args.called.now c.loop.called c.call_anew.new.called c.sweep.new.called
    h.round.gone.grows.same.seat c.call_anew.ensures.kept (h.keeps_others, h.rung) (c.sweep.ensures.keeps_others, c.sweep.ensures.rung)

pub loop-preserved : goal.loop-preserved
loop-preserved g c =
    let e = c.in-Raised.ensures in
    let h = c.loop.invariant in
    let both = calls g (goal.at.loop-preserved g c).After-sweep in
    record {
      round = round_more c.args.self.now c.loop.self c.sweep.new.self c.loop.counter c.in-Raised.more c.loop.units e.round e.few h.round;
      called = λ k lk _. record { divides = e.round.raised.at_rest.divide k lk; seen = e.round.raised.at_rest.seen k lk };
      keeps_others = both.0;
      rung = both.1;
    }

pub returns-in-Mem : goal.returns-in-Mem
returns-in-Mem g c =
    let e = c.in-Mem.ensures in
    let h = c.loop.invariant in
    let both = calls g (goal.at.returns-in-Mem g c).After-sweep in
    record {
      round = round_stopped c.args.self.now c.loop.self c.sweep.new.self c.args.sweeps c.loop.counter c.loop.units (omega arith) h.round
          e.round;
      keeps_others = both.0;
      rung = both.1;
    }

pub returns-then-self-visits : goal.returns-then-self-visits
returns-then-self-visits g c =
    let e = c.in-Raised.ensures in
    let h = c.loop.invariant in
    let both = calls g (goal.at.returns-then-self-visits g c).After-sweep in
    record {
      round = round_made c.args.self.now c.sweep.new.self (c.loop.counter + 1) c.args.sweeps (c.loop.units + c.in-Raised.more) (omega arith) (omega arith) c.requires.sweeps.1
          (omega (arith, c.desks-desks.ensures.desks, c.desks-desks.ensures.in_limit))
          (round_more c.args.self.now c.loop.self c.sweep.new.self c.loop.counter c.in-Raised.more c.loop.units e.round e.few h.round);
      keeps_others = both.0;
      rung = both.1;
    }
