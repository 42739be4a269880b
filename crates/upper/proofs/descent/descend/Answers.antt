use Rattle.std.proofs.Common.{length, get_or, refl, sym, ap, ◌∙◌, replicate, arith, eq-eqb}
use Rattle.std.proofs.lemmas.Bool.{true≢false, eqb-true}
use Rattle.upper.proofs.Descents.{down_in_limit, down_falls}
use Rattle.upper.proofs.Reached.{reached_first, reached_less, reached_more, reached_ends}
use Rattle.upper.proofs.descent.descend.Goals as goal

pub loop-round-init : goal.loop-round-init
loop-round-init g c = record {
  reached = reached_first c.args.net.now (g.S.Spending.spends c.args.spending.now c.args.net.now)
      c.pay_all.new.paid c.copy_from_slice.new.self
      c.args.room.now.last c.args.room.now.falls c.args.waves.now
      c.requires.network c.requires.never_falls c.pay_all.ensures c.copy_from_slice.ensures.after
      c.requires.last c.requires.falls c.requires.waves;
  room = refl;
}

pub mark_short-requires-clause-paid_in_limit : goal.mark_short-requires-clause-paid_in_limit
mark_short-requires-clause-paid_in_limit g c = down_in_limit c.loop-round.invariant.reached.down c.requires.network

pub pay_round-requires-clause-paid_in_limit : goal.pay_round-requires-clause-paid_in_limit
pay_round-requires-clause-paid_in_limit g c = down_in_limit c.loop-round.invariant.reached.down c.requires.network

pub take_over-requires-clause-lower : goal.take_over-requires-clause-lower
take_over-requires-clause-lower g c k = omega
    (arith, ap (λ xs. get_or xs k 0) c.pay_round.ensures.next, down_falls c.loop-round.invariant.reached.down k)

pub returns-then-is_empty-clause-paid : goal.returns-then-is_empty-clause-paid
returns-then-is_empty-clause-paid g c =
    (reached_ends c.loop-round.invariant.reached c.mark_short.ensures
    (c.take_over.ensures.paid ∙ c.pay_round.ensures.next) c.take_over.ensures.falls c.banks.ensures
    (eqb-true (length c.banks.result.now) 0 (sym c.is_empty.ensures ∙ c.if-is_empty.true))).0

pub returns-then-is_empty-clause-waves : goal.returns-then-is_empty-clause-waves
returns-then-is_empty-clause-waves g c =
    (reached_ends c.loop-round.invariant.reached c.mark_short.ensures
    (c.take_over.ensures.paid ∙ c.pay_round.ensures.next) c.take_over.ensures.falls c.banks.ensures
    (eqb-true (length c.banks.result.now) 0 (sym c.is_empty.ensures ∙ c.if-is_empty.true))).1

pub loop-round-smaller : goal.loop-round-smaller
loop-round-smaller g c =
    reached_less c.loop-round.invariant.reached c.mark_short.ensures
    (c.take_over.ensures.paid ∙ c.pay_round.ensures.next) c.take_over.ensures.falls c.banks.ensures
    (λ e. true≢false (sym (eq-eqb (length c.banks.result.now) 0 e) ∙ sym c.is_empty.ensures
    ∙ c.if-is_empty.false))

pub loop-round-preserved : goal.loop-round-preserved
loop-round-preserved g c =
    let more = reached_more c.loop-round.invariant.reached c.mark_short.ensures
    (c.take_over.ensures.paid ∙ c.pay_round.ensures.next) c.take_over.ensures.falls c.banks.ensures
    (λ e. true≢false (sym (eq-eqb (length c.banks.result.now) 0 e) ∙ sym c.is_empty.ensures
    ∙ c.if-is_empty.false)) c.pay_round.new.next c.clear.new.self (sym c.take_over.ensures.paid)
    (c.clear.ensures ∙ ap (λ f. replicate (length f) 0) c.swap.ensures.y_after) in
    record {
      reached = rw c.swap.ensures.x_after more;
      room = c.pay_round.ensures.room ∙ c.loop-round.invariant.room;
    }
