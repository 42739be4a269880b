use Rattle.std.proofs.Common.{◌≡◌, ℕ, ◌+◌, ◌*◌, ◌≤◌, ◌%◌, ◌∙◌, List, length, set, ap, sym, subst, rules, arith}
use Rattle.atomic_table.specs.Table.{Me}
use Rattle.clr_net.specs.Net.{Net}
use Rattle.clr_net.specs.declared.TheConstants.{MAX_CLAIM}
use Rattle.pay_words.specs.declared.payment.TheConstants.{STAMP}
use Rattle.pay_words.specs.declared.view.View.{View}
use Rattle.pay_words.specs.Steps.{showing}
use Rattle.pay_words.specs.Memory.{IsInMemory, seat_memory}
use Rattle.pay_words.specs.Paying.{MayRaise, raised}
use Rattle.pay_words.specs.Positions.{position_of}
use Rattle.pay_words.specs.Views.{BoardView, SeatView}
use Rattle.pay_words.proofs.Seats.{clock_in_limit, kept_raise, may_within, net_within, own_there, position_at}
use Rattle.pay_words.proofs.Raises.{raises}
use Rattle.pay_words.proofs.SideBySide.{debt_listed, within}
use Rattle.std.specs.Prelude.{slice_index}
use Rattle.pay_words.proofs.board.Board.raise.Goals as goal
use Rattle.pay_words.proofs.board.Board.raise.Goals.{After-word}

pub word-requires : goal.word-requires
word-requires c =
    let may = may_within _ _ _ _ _ c.seat.invariant.1.sound.network c.seat.view_is c.requires.seat.1 c.requires.may_raise in
    omega (arith, may.1, clock_in_limit _ _ _ _ c.seat.invariant.1)

-- what the seat may raise, seen from within
may_raise : (c : After-word) → MayRaise c.seat.inside.seat.me.0.shown.net c.seat.inside.seat.me.0.shown c.args.debt.0 c.args.to × (c.args.to ≤ MAX_CLAIM)
may_raise c = may_within _ _ _ _ _ c.seat.invariant.1.sound.network c.seat.view_is c.requires.seat.1 c.requires.may_raise

-- where the board has the word of its debt
at : (c : After-word) → slice_index c.self.inside.positions.of_debts c.args.debt.0 ≡ position_of c.seat.inside.seat.me.0.shown.net c.args.debt.0
at c = position_at _ _ _ _ _ c.args.debt.0 c.seat.view_is c.self.view_is c.requires.seat.1
    (debt_listed _ _ _ c.args.debt.0 (ap (λ (b : BoardView). b.net) c.self.view_is) c.self.invariant.2 c.requires.may_raise.debt).1

pub of_debt-requires : goal.of_debt-requires
of_debt-requires c =
    (debt_listed _ _ _ c.args.debt.0 (ap (λ (b : BoardView). b.net) c.self.view_is) c.self.invariant.2 c.requires.may_raise.debt).0

pub overflow_add-of_debt : goal.overflow_add-of_debt
overflow_add-of_debt c = record {
  fits = omega (
    arith,
    c.of_debt.ensures,
    (debt_listed _ _ _ c.args.debt.0 (ap (λ (b : BoardView). b.net) c.self.view_is) c.self.invariant.2 c.requires.may_raise.debt).1,
    within c.args.self.now.net c.args.debt.0 c.requires.may_raise.debt,
    ap (λ (b : BoardView). length b.net.debts) c.self.view_is,
    c.self.invariant.0.network.debts_in_limit,
  );
}

pub store-requires : goal.store-requires
store-requires c =
    let over = net_within _ _ _ _ c.seat.view_is c.self.view_is c.requires.seat.1 in
    let w = (goal.at.store-requires c).After-word in
    let may = may_raise w in
    let place = c.of_debt.ensures ∙ at w in (
      search rules,
      omega (arith, c.self.invariant.0.words_are, place, within c.seat.inside.seat.me.0.shown.net c.args.debt.0 may.0.debt, ap (λ (n : Net). length n.debts) over),
      raises _ _ _ _ _ _ _ _ over (omega (arith, place)) (c.word.ensures
          ∙ ap (λ (n : ℕ). (n + 1) * STAMP + c.args.to) c.seat.invariant.1.clock_is) c.seat.invariant.1.live
          (omega (arith, may.1)) may.0,
    )

pub set-requires-clause-debt : goal.set-requires-clause-debt
set-requires-clause-debt c =
    let may = may_raise (goal.at.set-requires-clause-debt c).After-word in
    (own_there _ _ _ _ c.seat.invariant.1 c.args.debt.0 c.args.to may.0).0

pub set-requires-clause-fits : goal.set-requires-clause-fits
set-requires-clause-fits c =
    let may = may_raise (goal.at.set-requires-clause-fits c).After-word in
    omega (arith, may.1)

pub invariant_of-seat : goal.invariant_of-seat
invariant_of-seat c =
    let may = may_raise (goal.at.invariant_of-seat c).After-word in
    let told = c.store.ensures.2 c.args.debt.0 may.0.debt (omega (arith, c.of_debt.ensures, at (goal.at.invariant_of-seat c).After-word)) in
    let value : c.word.result % STAMP ≡ c.args.to = omega (arith, may.1, c.word.ensures) in
    let kept = kept_raise _ _ _ _ c.seat.invariant.1 c.args.debt.0 c.args.to may.0.debt may.0.not_the_master (rw value at told.1) in
    let there = subst (λ (n : ℕ). IsInMemory (showing c.seat.inside.seat.me.0 (raised c.seat.inside.seat.me.0.shown c.args.debt.0 n)) (seat_memory (set c.seat.inside.own c.args.debt.0 c.args.to) c.seat.inside.lists.items c.seat.inside.debtors.items c.seat.inside.workers c.seat.inside.worker) (c.seat.inside.clock + 1) c.seat.inside.seats) (sym value) kept in (
      ap (λ (m : Me (Unit {0}) View). m.1) told.0 ∙ c.seat.invariant.0,
      subst (λ (y : Me (Unit {0}) View × List ℕ). IsInMemory y.0.0 (seat_memory y.1 c.seat.inside.lists.items c.seat.inside.debtors.items c.seat.inside.workers c.seat.inside.worker) (c.seat.inside.clock + 1) c.seat.inside.seats)
          (λ i. (sym told.0 i, sym c.set.ensures i)) there,
    )

pub returns-clause-raised : goal.returns-clause-raised
returns-clause-raised c =
    let may = may_raise (goal.at.returns-clause-raised c).After-word in
    let value : c.word.result % STAMP ≡ c.args.to = omega (arith, may.1, c.word.ensures) in
    ap (λ (m : Me (Unit {0}) View). m.0.shown) (c.store.ensures.2 c.args.debt.0 may.0.debt (omega (arith, c.of_debt.ensures, at (goal.at.returns-clause-raised c).After-word))).0
    ∙ ap (raised c.seat.inside.seat.me.0.shown c.args.debt.0) value
    ∙ ap (λ (s : SeatView). raised s.shows c.args.debt.0 c.args.to) c.seat.view_is
