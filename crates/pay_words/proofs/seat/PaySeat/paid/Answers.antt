use Rattle.std.proofs.Common.{◌∙◌, length, ap, sym, arith}
use Rattle.std.specs.Prelude.{slice_index}
use Rattle.clr_net.specs.Net.{debtor_of}
use Rattle.pay_words.specs.Views.{SeatView}
use Rattle.pay_words.proofs.SeatMemories.{list_found, list_tells}
use Rattle.pay_words.proofs.Seats.{debt_within}
use Rattle.pay_words.proofs.Tables.{length-tabled}
use Rattle.pay_words.proofs.seat.PaySeat.paid.Goals as goal

pub index-requires : goal.index-requires
index-requires c =
    let all = c.self.invariant.1.at_master (ap (λ (s : SeatView). s.shows.master) c.self.view_is ∙ sym c.is_the_master.ensures ∙ c.if-is_the_master.true) in
    omega (arith, c.requires.debt, ap (λ (s : SeatView). length s.shows.net.debts) c.self.view_is, ap length all.debtors, length-tabled (length c.self.inside.seat.me.0.shown.net.debts) (debtor_of c.self.inside.seat.me.0.shown.net), c.self.inside.debtors.ok.0)

pub index-requires-then-is_the_master : goal.index-requires-then-is_the_master
index-requires-then-is_the_master c =
    let here = debt_within _ _ c.args.debt.0 c.self.view_is c.requires.debt c.requires.debtor in
    let all = c.self.invariant.1.at_master (ap (λ (s : SeatView). s.shows.master) c.self.view_is ∙ sym c.is_the_master.ensures ∙ c.if-is_the_master.true) in
    omega (arith, list_found _ _ _ _ all c.self.invariant.1.some_workers c.args.debt.0 _ here.0 c.index.ensures, c.self.inside.lists.ok.0)

pub at-requires : goal.at-requires
at-requires c =
    let here = debt_within _ _ c.args.debt.0 c.self.view_is c.requires.debt c.requires.debtor in
    let all = c.self.invariant.1.at_master (ap (λ (s : SeatView). s.shows.master) c.self.view_is ∙ sym c.is_the_master.ensures ∙ c.if-is_the_master.true) in
    (list_tells _ _ _ _ all c.self.invariant.1.some_workers c.args.debt.0 _ here.0 c.index.ensures here.1 _ c.index-then-is_the_master.ensures).0

pub returns-then-is_the_master : goal.returns-then-is_the_master
returns-then-is_the_master c =
    let here = debt_within _ _ c.args.debt.0 c.self.view_is c.requires.debt c.requires.debtor in
    let all = c.self.invariant.1.at_master (ap (λ (s : SeatView). s.shows.master) c.self.view_is ∙ sym c.is_the_master.ensures ∙ c.if-is_the_master.true) in
    c.at.ensures ∙ (list_tells _ _ _ _ all c.self.invariant.1.some_workers c.args.debt.0 _ here.0 c.index.ensures
    here.1 _ c.index-then-is_the_master.ensures).1
    ∙ ap (λ (s : SeatView). slice_index s.shows.paid c.args.debt.0) c.self.view_is
