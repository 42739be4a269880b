use Rattle.std.proofs.Common.{◌≡◌, ℕ, ◌+◌, ◌<◌, ◌≤◌, All, ap, sym, subst, ◌∙◌, arith}
use Rattle.std.proofs.lemmas.List.Elements.{All-push}
use Rattle.std.proofs.lemmas.Result.{IfOk-weaker}
use Rattle.clr_net.specs.Net.{Net}
use Rattle.clear_core.specs.Clearing.{least}
use Rattle.clear_core.proofs.Least.{least_clears}
use Rattle.cascade.specs.Standings.{standings}
use Rattle.cascade.proofs.OtherCash.{sums_alike}
use Rattle.descent.specs.Cashes.{network_at, with_cashes}
use Rattle.descent.specs.Halves.{IsWideStepOf}
use Rattle.descent.specs.declared.share.Share.{Share}
use Rattle.descent.proofs.halves.Descent.standings_at.Goals as goal

-- a share of one network is that of the number which it has
only_one : (net laid : Net) (floor : ℕ → ℕ → ℕ → ℕ) (s : Share) (j : ℕ) → s.low ≤ j → j < s.high → s.high ≤ s.low + 1
    → laid ≡ with_cashes net (floor s.low s.high) → laid ≡ network_at net floor j
only_one net laid floor s j from to alone is =
    let low : s.low ≡ j = omega (arith, from, to, alone) in
    let high : s.high ≡ j + 1 = omega (arith, from, to, alone) in
    is ∙ (λ k. with_cashes net (floor (low k) (high k)))

pub defaults_by-requires-clause-clears : goal.defaults_by-requires-clause-clears
defaults_by-requires-clause-clears g c =
    let net = c.args.net.now in
    let step = c.loop-step.step in
    let at = c.loop-step.invariant in
    let floor = g.F.Floors.floors c.args.floors.now net in
    let alone : step.share.high ≤ step.share.low + 1 = omega (arith, at.low, at.high, c.loop-step-test.false) in
    rw (at.laid alone, at.step.paid)
    (least_clears (with_cashes net (floor step.share.low step.share.high)))

pub defaults_by-requires-clause-sums : goal.defaults_by-requires-clause-sums
defaults_by-requires-clause-sums g c =
    let all = c.loop-step.step.payments in
    sums_alike c.args.net.now c.loop-step.self.laid all.paid all.sums.items c.loop-step.invariant.descent.alike
    c.loop-step.invariant.step.sums

pub returns-clause-cleared : goal.returns-clause-cleared
returns-clause-cleared g c =
    let at = c.loop-step.invariant in
    let share = c.loop-step.step.share in
    let alone : share.high ≤ share.low + 1 = omega (arith, at.low, at.high, c.loop-step-test.false) in
    let floor = g.F.Floors.floors c.args.floors.now c.args.net.now in
    let laid = only_one c.args.net.now c.loop-step.self.laid floor share c.args.number at.low at.high alone (at.laid alone) in
    IfOk-weaker c.defaults_by.result _ (λ all. c.loop-step.self.laid ≡ network_at c.args.net.now floor c.args.number) (λ all e. laid)
    c.defaults_by.ensures

pub returns-clause-all : goal.returns-clause-all
returns-clause-all g c =
    let net = c.args.net.now in
    let j = c.args.number in
    let step = c.loop-step.step in
    let at = c.loop-step.invariant in
    let floor = g.F.Floors.floors c.args.floors.now net in
    let alone : step.share.high ≤ step.share.low + 1 = omega (arith, at.low, at.high, c.loop-step-test.false) in
    let laid = only_one net c.loop-step.self.laid floor step.share j at.low at.high alone (at.laid alone) in
    let paid : step.payments.paid ≡ least (network_at net floor j) =
    at.step.paid ∙ ap least (sym (at.laid alone) ∙ laid) in
    IfOk-weaker c.defaults_by.result _ _ (λ all e. e ∙ (λ k. standings (laid k) (paid k)))
    c.defaults_by.ensures

pub loop-step-preserved : goal.loop-step-preserved
loop-step-preserved g c =
    let net = c.args.net.now in
    let size = g.F.Floors.size c.args.floors.now net in
    let floor = g.F.Floors.floors c.args.floors.now net in
    let at = c.loop-step.invariant in
    let before = c.in_ok-next.ensures.descent in
    let part = c.in_ok-next.ensures.part in
    let wide : c.loop-step.step.share.low + 1 < c.loop-step.step.share.high = omega (arith, at.low, at.high, c.loop-step-test.true) in
    record {
      descent = record {
        alike = before.alike;
        steps = subst (All (IsWideStepOf net size floor)) (sym c.in_ok-push.ensures.items)
            (All-push (IsWideStepOf net size floor) c.gone_on.new.self.steps.items
            c.loop-step.step before.steps (at.step, wide));
        for_each_bank = before.for_each_bank;
        room = before.room;
      };
      step = c.in_ok-next.ensures.step;
      low = omega (arith, ap (λ (s : Share). s.low) part, c.half_with-half.ensures.low);
      high = omega (arith, ap (λ (s : Share). s.high) part, c.half_with-half.ensures.high);
      laid = λ alone. c.in_ok-next.ensures.laid ∙ ap (λ (s : Share). with_cashes net (floor s.low s.high)) (sym part);
    }
