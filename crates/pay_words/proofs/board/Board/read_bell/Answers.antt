use Rattle.std.proofs.Common.{◌≡◌, true, sym, subst, rules, arith}
use Rattle.pay_words.specs.Steps.{TakeTells}
use Rattle.pay_words.specs.Holding.{holds}
use Rattle.pay_words.specs.Views.{SeatView}
use Rattle.pay_words.proofs.Rings.{glances}
use Rattle.pay_words.proofs.Places.{held_in_range}
use Rattle.clr_net.specs.Net.{Net}
use Rattle.std.proofs.Common.{length, ap}
use Rattle.pay_words.proofs.Seats.{bell_at, net_within}
use Rattle.pay_words.proofs.board.Board.read_bell.Goals as goal

pub load-requires : goal.load-requires
load-requires c =
    let laid = c.self.invariant.0 in
    let over = net_within _ _ _ _ c.seat.view_is c.self.view_is c.requires.seat.1 in
    let place = bell_at _ _ _ _ c.bell-bell.result c.args.bank.0 c.seat.view_is c.self.view_is c.requires.seat.1 c.bell-bell.ensures in
    let held = subst (λ (s : SeatView). holds s.shows c.args.bank.0 ≡ true) (sym c.seat.view_is) c.requires.held in
    let bank = held_in_range c.seat.inside.seat.me.0.shown c.args.bank.0 c.seat.invariant.1.sound.over held in (
      search rules,
      omega (arith, bank, place, laid.words_are, ap (λ (n : Net). length n.debts) over, ap (λ (n : Net). length n.banks) over),
      glances _ _ _ _ _ _ over place bank c.seat.invariant.1.live held,
    )

pub returns-clause-tells : goal.returns-clause-tells
returns-clause-tells c =
    let told = c.load.ensures.2.1 c.args.bank.0
    (bell_at _ _ _ _ c.bell-bell.result _ c.seat.view_is c.self.view_is c.requires.seat.1 c.bell-bell.ensures) in
    subst (λ (s : SeatView). TakeTells s.shows c.args.bank.0 c.load.result) c.seat.view_is told
