use Rattle.std.proofs.Common.{◌∙◌, ap, sym, subst, rules, arith}
use Rattle.atomic_table.specs.Table.{Me}
use Rattle.pay_words.specs.declared.view.View.{View}
use Rattle.pay_words.specs.Memory.{IsInMemory, seat_memory}
use Rattle.pay_words.specs.Ringing.{OwesRing, rung}
use Rattle.pay_words.specs.Views.{SeatView}
use Rattle.clr_net.specs.Net.{Net}
use Rattle.std.proofs.Common.{length}
use Rattle.pay_words.proofs.Rings.{bank_of_ring, rings}
use Rattle.pay_words.proofs.Seats.{bell_at, kept_rung, net_within}
use Rattle.pay_words.proofs.board.Board.ring.Goals as goal

pub store-requires : goal.store-requires
store-requires c =
    let laid = c.self.invariant.0 in
    let over = net_within _ _ _ _ c.seat.view_is c.self.view_is c.requires.seat.1 in
    let place = bell_at _ _ _ _ c.bell-bell.result c.args.bank.0 c.seat.view_is c.self.view_is c.requires.seat.1 c.bell-bell.ensures in
    let owes = subst (λ (s : SeatView). OwesRing s.shows c.args.bank.0) (sym c.seat.view_is) c.requires.owes in
    let bank = bank_of_ring c.seat.inside.seat.me.0.shown c.args.bank.0 c.seat.invariant.1.sound.network owes in (
      search rules,
      omega (arith, bank, place, laid.words_are, ap (λ (n : Net). length n.debts) over, ap (λ (n : Net). length n.banks) over),
      rings _ _ _ _ _ _ over place c.seat.invariant.1.live owes,
    )

pub invariant_of-seat : goal.invariant_of-seat
invariant_of-seat c =
    let told = c.store.ensures.2 c.args.bank.0
    (bell_at _ _ _ _ c.bell-bell.result _ c.seat.view_is c.self.view_is c.requires.seat.1 c.bell-bell.ensures) in (
      ap (λ (m : Me (Unit {0}) View). m.1) told ∙ c.seat.invariant.0,
      subst (λ (m : Me (Unit {0}) View). IsInMemory m.0 (seat_memory c.seat.inside.own c.seat.inside.lists.items c.seat.inside.debtors.items c.seat.inside.workers c.seat.inside.worker) c.seat.inside.clock c.seat.inside.seats) (sym told)
          (kept_rung _ _ _ _ c.args.bank.0 c.seat.invariant.1),
    )

pub returns-clause-rung : goal.returns-clause-rung
returns-clause-rung c =
    let told = c.store.ensures.2 c.args.bank.0
    (bell_at _ _ _ _ c.bell-bell.result _ c.seat.view_is c.self.view_is c.requires.seat.1 c.bell-bell.ensures) in
    ap (λ (m : Me (Unit {0}) View). m.0.shown) told ∙ ap (λ (s : SeatView). rung s.shows c.args.bank.0) c.seat.view_is
