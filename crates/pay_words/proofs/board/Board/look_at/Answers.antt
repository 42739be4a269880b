use Rattle.std.proofs.Common.{◌≡◌, true, ◌<◌, ◌∙◌, length, ap, sym, subst, rules, arith}
use Rattle.clr_net.specs.Net.{Net, creditor_of}
use Rattle.atomic_table.specs.Table.{Me}
use Rattle.pay_words.specs.declared.view.View.{View}
use Rattle.pay_words.specs.Memory.{IsInMemory, seat_memory}
use Rattle.pay_words.specs.Holding.{holds}
use Rattle.pay_words.specs.Views.{BoardView, SeatView}
use Rattle.pay_words.proofs.Looks.{looks}
use Rattle.pay_words.proofs.Seats.{kept_look, net_within, position_at}
use Rattle.pay_words.proofs.SideBySide.{within}
use Rattle.pay_words.proofs.board.Board.look_at.Goals as goal
use Rattle.pay_words.proofs.board.Board.look_at.Goals.{Start}

pub overflow_add-position : goal.overflow_add-position
overflow_add-position c = record {
  fits = omega (
    arith,
    c.requires.position,
    within c.args.self.now.net c.args.debt.0 c.requires.debt,
    ap (λ (b : BoardView). length b.net.debts) c.self.view_is,
    c.self.invariant.0.network.debts_in_limit,
  );
}

pub load-word-requires : goal.load-word-requires
load-word-requires c =
    let over = net_within _ _ _ _ c.seat.view_is c.self.view_is c.requires.seat.1 in
    let at = position_at _ _ _ _ c.args.position c.args.debt.0 c.seat.view_is c.self.view_is c.requires.seat.1 c.requires.position in
    let may : (c.args.debt.0 < length c.args.seat.now.shows.net.debts)
    × (holds c.args.seat.now.shows (creditor_of c.args.seat.now.shows.net c.args.debt.0) ≡ true) =
    rw c.requires.seat.1 (c.requires.debt, c.requires.creditor) in
    let here = subst (λ (s : SeatView). (c.args.debt.0 < length s.shows.net.debts)
    × (holds s.shows (creditor_of s.shows.net c.args.debt.0) ≡ true)) (sym c.seat.view_is) may in (
      search rules,
      omega (arith, c.self.invariant.0.words_are, here.0, at, within c.seat.inside.seat.me.0.shown.net c.args.debt.0 here.0, ap (λ (n : Net). length n.debts) over),
      looks _ _ _ _ _ _ over (omega (arith, at)) c.seat.invariant.1.live here.0 here.1,
    )

pub invariant_of-seat : goal.invariant_of-seat
invariant_of-seat c =
    let at = position_at _ _ _ _ c.args.position c.args.debt.0 c.seat.view_is c.self.view_is c.requires.seat.1 c.requires.position in
    let known : c.args.debt.0 < length c.args.seat.now.shows.net.debts = rw c.requires.seat.1 c.requires.debt in
    let lt = subst (λ (s : SeatView). c.args.debt.0 < length s.shows.net.debts) (sym c.seat.view_is) known in
    let told = c.load-word.ensures.2 c.args.debt.0 lt (omega (arith, at)) in (
      ap (λ (m : Me (Unit {0}) View). m.1) told.0 ∙ c.seat.invariant.0,
      subst (λ (m : Me (Unit {0}) View). IsInMemory m.0 (seat_memory c.seat.inside.own c.seat.inside.lists.items c.seat.inside.debtors.items c.seat.inside.workers c.seat.inside.worker) c.max-seat-inside.result c.seat.inside.seats) (sym told.0)
          (kept_look _ _ _ _ c.seat.invariant.1 c.args.debt.0 _ _ (search rules) told.1.sound),
    )
