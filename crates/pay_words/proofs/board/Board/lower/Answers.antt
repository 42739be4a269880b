use Rattle.std.proofs.Common.{◌≡◌, ◌∙◌, true, ap, sym, subst, rules, arith}
use Rattle.atomic_table.specs.Table.{Me}
use Rattle.pay_words.specs.declared.view.View.{View}
use Rattle.pay_words.specs.Steps.{TakeTells, after_take}
use Rattle.pay_words.specs.Memory.{IsInMemory, seat_memory}
use Rattle.pay_words.specs.Holding.{holds}
use Rattle.pay_words.specs.Views.{SeatView}
use Rattle.pay_words.proofs.Rings.{takes}
use Rattle.pay_words.proofs.Places.{held_in_range}
use Rattle.clr_net.specs.Net.{Net}
use Rattle.std.proofs.Common.{length}
use Rattle.pay_words.proofs.Seats.{bell_at, kept_take, net_within}
use Rattle.pay_words.proofs.board.Board.lower.Goals as goal

pub swap-requires : goal.swap-requires
swap-requires c =
    let laid = c.self.invariant.0 in
    let over = net_within _ _ _ _ c.seat.view_is c.self.view_is c.requires.seat.1 in
    let place = bell_at _ _ _ _ c.bell-bell.result c.args.bank.0 c.seat.view_is c.self.view_is c.requires.seat.1 c.bell-bell.ensures in
    let held = subst (λ (s : SeatView). holds s.shows c.args.bank.0 ≡ true) (sym c.seat.view_is) c.requires.held in
    let bank = held_in_range c.seat.inside.seat.me.0.shown c.args.bank.0 c.seat.invariant.1.sound.over held in (
      search rules,
      omega (arith, bank, place, laid.words_are, ap (λ (n : Net). length n.debts) over, ap (λ (n : Net). length n.banks) over),
      takes _ _ _ _ _ _ over place bank c.seat.invariant.1.live held,
    )

pub invariant_of-seat : goal.invariant_of-seat
invariant_of-seat c =
    let told = c.swap.ensures.2 c.args.bank.0
    (bell_at _ _ _ _ c.bell-bell.result _ c.seat.view_is c.self.view_is c.requires.seat.1 c.bell-bell.ensures) in (
      ap (λ (m : Me (Unit {0}) View). m.1) told.0 ∙ c.seat.invariant.0,
      subst (λ (m : Me (Unit {0}) View). IsInMemory m.0 (seat_memory c.seat.inside.own c.seat.inside.lists.items c.seat.inside.debtors.items c.seat.inside.workers c.seat.inside.worker) c.seat.inside.clock c.seat.inside.seats) (sym told.0)
          (kept_take _ _ _ _ c.args.bank.0 c.swap.result c.seat.invariant.1),
    )

pub returns-clause-taken : goal.returns-clause-taken
returns-clause-taken c =
    let told = c.swap.ensures.2 c.args.bank.0
    (bell_at _ _ _ _ c.bell-bell.result _ c.seat.view_is c.self.view_is c.requires.seat.1 c.bell-bell.ensures) in
    ap (λ (m : Me (Unit {0}) View). m.0.shown) told.0 ∙ ap (λ (s : SeatView). after_take s.shows c.args.bank.0 c.swap.result) c.seat.view_is

pub returns-clause-tells : goal.returns-clause-tells
returns-clause-tells c =
    let told = c.swap.ensures.2 c.args.bank.0
    (bell_at _ _ _ _ c.bell-bell.result _ c.seat.view_is c.self.view_is c.requires.seat.1 c.bell-bell.ensures) in
    subst (λ (s : SeatView). TakeTells s.shows c.args.bank.0 c.swap.result) c.seat.view_is told.1
