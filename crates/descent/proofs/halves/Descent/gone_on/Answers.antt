use Rattle.std.proofs.Common.{◌≡◌, length, ap, sym, ◌∙◌, subst, arith}
use Rattle.clr_net.specs.Net.{Net}
use Rattle.clear_core.specs.Buffers.{HasRoom}
use Rattle.clear_core.specs.Clearing.{least}
use Rattle.clear_core.proofs.WrittenRows.{written_back}
use Rattle.cascade.proofs.OtherCash.{as_many_alike, sums_alike, sums_back}
use Rattle.descent.specs.Cashes.{IsCashOf, with_cashes}
use Rattle.descent.proofs.Cashes.{alike_with_cashes}
use Rattle.descent.proofs.GoingOn.{same_in_part, swept_for_part}
use Rattle.descent.proofs.halves.Descent.gone_on.Goals as goal

pub mark_richer-requires-clause-before : goal.mark_richer-requires-clause-before
mark_richer-requires-clause-before g c =
    let net = c.args.net.now in
    let share = c.args.step.now.share in
    let cash = g.F.Floors.floors c.args.floors.now net share.low share.high in
    ap length c.as_slice.ensures.value ∙ (c.requires.step.cash c.requires.wide).for_each_bank
    ∙ as_many_alike net (with_cashes net cash) (alike_with_cashes net cash)
    ∙ sym (as_many_alike net c.lay_in.new.laid c.lay_in.ensures.alike)

pub least_again-requires-clause-swept : goal.least_again-requires-clause-swept
least_again-requires-clause-swept g c =
    let net = c.args.net.now in
    let step = c.args.step.now in
    let floor = g.F.Floors.floors c.args.floors.now net in
    let marks = c.mark_richer.new.marks in
    let back : c.as_mut_slice-2.result.now ≡ marks =
    c.as_mut_slice-2.ensures.value
    ∙ written_back c.args.self.now.marks.len c.mark_richer.new.marks _ (omega arith) in
    let paid : c.in_ok-payments.payments.paid ≡ least (with_cashes net (floor step.share.low step.share.high)) =
    c.in_ok-payments.ensures.paid ∙ c.requires.step.paid in
    rw (c.lay_in.ensures.laid, paid, back)
    (swept_for_part net floor c.requires.floors step.share.low step.share.high c.args.part.low c.args.part.high
    c.requires.part.low c.requires.part.some c.requires.part.high
    marks (omega (arith, c.requires.ready.descent.for_each_bank))
    (same_in_part net floor step.share.low step.share.high c.args.part.low c.args.part.high step.cash.items c.lay_in.new.laid
    marks c.lay_in.ensures.laid (c.requires.step.cash c.requires.wide) (rw c.as_slice.ensures.value at c.mark_richer.ensures)))

pub least_again-requires-clause-room : goal.least_again-requires-clause-room
least_again-requires-clause-room g c =
    subst (λ (m : Net). HasRoom m c.args.self.now.scratch) (sym c.lay_in.ensures.laid)
    c.requires.ready.descent.room

pub least_again-requires-clause-sums : goal.least_again-requires-clause-sums
least_again-requires-clause-sums g c =
    let all = c.args.step.now.payments in
    rw (c.in_ok-payments.ensures.paid, c.in_ok-payments.ensures.sums)
    (sums_alike c.args.net.now c.lay_in.new.laid all.paid all.sums.items c.lay_in.ensures.alike
    c.requires.step.sums)

pub returns-clause-step : goal.returns-clause-step
returns-clause-step g c =
    let all = c.least_again.new.payments in
    record {
      some = c.requires.part.some;
      share = omega (arith, c.requires.part.high, c.requires.step.share);
      paid = c.least_again.ensures.payments ∙ ap least c.lay_in.ensures.laid;
      sums = sums_back c.args.net.now c.lay_in.new.laid all.paid all.sums.items c.lay_in.ensures.alike
          c.least_again.ensures.sums;
      cash = λ wide. subst (λ (m : Net). IsCashOf m c.in_ok-cash_in.field-0.items) c.lay_in.ensures.laid (c.in_ok-cash_in.ensures wide);
    }

pub returns-clause-descent : goal.returns-clause-descent
returns-clause-descent g c =
    let d = c.requires.ready.descent in
    record {
      alike = c.lay_in.ensures.alike;
      steps = d.steps;
      for_each_bank =
          ap length (written_back c.args.self.now.marks.len c.least_again.new.marks _ (omega arith)) ∙ omega (arith, d.for_each_bank);
      room = subst (HasRoom c.args.net.now) (sym c.least_again.ensures.room) d.room;
    }
