use Rattle.std.proofs.Common.{◌∙◌, below_more, arith}
use Rattle.cascade.proofs.CashAt.{cash_is_set, cash_stays}
use Rattle.cascade.proofs.OtherCash.{alike_set, as_many_alike}
use Rattle.descent.proofs.Cashes.{is_with_cashes}
use Rattle.descent.proofs.laying.lay_in.Goals as goal

pub set_cash-requires-clause-bank : goal.set_cash-requires-clause-bank
set_cash-requires-clause-bank g c =
    omega (arith, as_many_alike c.args.net.now c.loop-number.laid c.loop-number.invariant.alike)

pub loop-number-preserved : goal.loop-number-preserved
loop-number-preserved g c =
    let net = c.args.net.now in
    let n = c.loop-number.number in
    let laid = c.loop-number.laid in
    let old = c.loop-number.invariant in
    let units = c.floor.result in
    record {
      alike = rw c.set_cash.ensures (alike_set net laid n units old.alike);
      done = rw c.set_cash.ensures (below_more _ n
          (λ i l. cash_stays laid n units i (λ e. omega arith) ∙ old.done i l)
          (cash_is_set laid n units (omega (arith, as_many_alike net laid old.alike))
          ∙ c.floor.ensures.floor));
    }

pub returns-clause-laid : goal.returns-clause-laid
returns-clause-laid g c =
    is_with_cashes c.args.net.now c.loop-number.laid
    (g.F.Floors.floors c.args.floors.now c.args.net.now c.args.share.low c.args.share.high)
    c.loop-number.invariant.alike
    (λ i l. c.loop-number.invariant.done i (omega arith))
