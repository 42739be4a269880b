use Rattle.std.proofs.Common.{◌≡◌, ◌+◌, ◌<◌, ◌≢◌, length, ap, sym, subst, ◌∙◌, arith, below_more, get_or-set_same, get_or-set_other}
use Rattle.std.specs.Slots.{slots_items}
use Rattle.pay_words.proofs.Views.{got}
use Rattle.pay_words.specs.Ends.{Ends}
use Rattle.pay_words.specs.Holding.{HoldsAll}
use Rattle.pay_words.specs.Views.{BoardView, SeatView}
use Rattle.pay_words.specs.Words.{unpaid, payment_of}
use Rattle.pay_words.proofs.Ends.{closes, copied}
use Rattle.pay_words.proofs.Seats.{net_within}
use Rattle.pay_words.proofs.SideBySide.{debt_listed, within}
use Rattle.pay_words.specs.Positions.{position_of}
use Rattle.std.specs.Prelude.{slice_index}
use Rattle.pay_words.proofs.board.Board.close.Goals as goal

pub of_debt-position-requires : goal.of_debt-position-requires
of_debt-position-requires c =
    (debt_listed _ _ _ c.loop-i.i (ap (λ (b : BoardView). b.net) c.self.view_is) c.self.invariant.2 (omega (arith, c.loop-i-test.true, c.requires.into))).0

pub overflow_add-position : goal.overflow_add-position
overflow_add-position c =
    let lt : c.loop-i.i < length c.args.self.net.debts = omega (arith, c.loop-i-test.true, c.requires.into) in
    record {
      fits = omega (
        arith,
        c.of_debt-position.ensures,
        (debt_listed _ _ _ c.loop-i.i (ap (λ (b : BoardView). b.net) c.self.view_is) c.self.invariant.2 lt).1,
        within c.args.self.net c.loop-i.i lt,
        ap (λ (b : BoardView). length b.net.debts) c.self.view_is,
        c.self.invariant.0.network.debts_in_limit,
      );
    }

pub word-word-requires : goal.word-word-requires
word-word-requires c =
    let lt : c.loop-i.i < length c.args.self.net.debts = omega (arith, c.loop-i-test.true, c.requires.into) in
    let low : c.of_debt-position.result + 1 < c.self.inside.table.shared.table_id.words = omega (
      arith,
      c.of_debt-position.ensures,
      (debt_listed _ _ _ c.loop-i.i (ap (λ (b : BoardView). b.net) c.self.view_is) c.self.invariant.2 lt).1,
      within c.args.self.net c.loop-i.i lt,
      ap (λ (b : BoardView). length b.net.debts) c.self.view_is,
      c.self.invariant.0.words_are,
    ) in
    search (arith, low)

pub loop-i-preserved : goal.loop-i-preserved
loop-i-preserved c =
    let lt : c.loop-i.i < length c.loop-i.into = omega (arith, c.loop-i-test.true, c.loop-i.auto.into) in
    let place : c.of_debt-position.result ≡ position_of c.args.self.net c.loop-i.i = c.of_debt-position.ensures
    ∙ (debt_listed _ _ _ c.loop-i.i (ap (λ (b : BoardView). b.net) c.self.view_is) c.self.invariant.2 (omega (arith, c.loop-i-test.true, c.requires.into))).1 in
    below_more _ _
    (λ k h. let ne : k ≢ c.loop-i.i = omega (arith, h) in get_or-set_other c.loop-i.into c.loop-i.i k c.of_word.result unpaid ne ∙ c.loop-i.invariant k h)
    (get_or-set_same c.loop-i.into c.loop-i.i c.of_word.result unpaid lt
    ∙ c.of_word.ensures
    ∙ ap payment_of (sym (got (slots_items c.close_with-closed.result.words) (c.of_debt-position.result + 1) c.word-word.result 0 c.word-word.ensures).1
    ∙ (λ i. slice_index (slots_items c.close_with-closed.result.words) (place i + 1))))

pub returns : goal.returns
returns c =
    let d = c.self.inside.table.shared.key.me.0 in
    let own = net_within _ _ _ _ c.master.view_is c.self.view_is c.requires.master.1 in
    let all = subst (λ (s : SeatView). HoldsAll s.shows) (sym c.master.view_is) c.requires.banks in
    let chief = ap (λ (s : SeatView). s.shows.master) c.master.view_is ∙ c.requires.is_the_master in
    let closed = closes d _ c.master.inside.seat.me.0 _ _ c.master.invariant.1.live chief all c.close_with-closed.ensures.values.2 in
    let size : length c.loop-i.into ≡ length d.net.debts = omega (arith, c.loop-i.auto.into, c.requires.into, ap (λ (p : BoardView). length p.net.debts) c.self.view_is) in
    let here = copied d _ _ c.loop-i.into own closed size (λ k lt. c.loop-i.invariant k (omega (arith, lt, c.loop-i-test.false, c.loop-i.auto.into))
    ∙ ap (λ (b : BoardView). payment_of (slice_index (slots_items c.close_with-closed.result.words) (position_of b.net k + 1))) (sym c.self.view_is)) in
    record { ends = subst (λ (y : BoardView × SeatView). Ends y.0.net y.0.past y.1.shows c.loop-i.into) (λ i. (c.self.view_is i, c.master.view_is i)) here }
