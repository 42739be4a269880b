use Rattle.std.proofs.Common.{ℕ, ◌<◌, ◌-◌, List, get_or, length, ap, sym, subst, ◌∙◌, arith}
use Rattle.bank_worker.specs.BankSets.{AreInPlace}
use Rattle.bank_worker.proofs.Calling.{next_place}
use Rattle.bank_worker.proofs.Manned.{bank_at, length_banks}
use Rattle.bank_worker.proofs.PlacesOfBanks.{not_after}
use Rattle.bank_worker.proofs.desks.Desks.next_called.Goals as goal

pub returns-in-Some : goal.returns-in-Some
returns-in-Some c =
    let desks = c.self.inside.desks.items in
    let banks = c.as_slice-banks.result.now in
    let value = c.as_slice-banks.ensures.value in
    let here = value ∙ c.self.invariant.0 in
    let set = c.deref.result.now in
    let h = subst (λ (y : List ℕ × List ℕ). AreInPlace y.0 y.1 c.self.inside.workers) (λ i. (sym value i, sym c.deref.ensures i)) c.self.invariant.1 in
    let lt : c.args.from < length banks = omega (arith, c.requires, length_banks desks banks here, ap length c.self.view_is, c.if-from-banks.false) in
    let f = c.in-Some.ensures.first in
    let next = next_place banks set c.args.called.now c.self.inside.workers c.args.from c.in-Some.bank.0 h lt f.0 f.1 f.2 c.in-Some.ensures.none_before in
    rw (← c.self.view_is) (record {
      ahead = next.0;
      none_before = λ k ge less l. rw (← bank_at desks banks k here l) (next.1 k ge less);
      called_there = λ l. rw (← bank_at desks banks _ here l) next.2;
    })

pub returns-in-None-clause-none_before : goal.returns-in-None-clause-none_before
returns-in-None-clause-none_before c =
    let desks = c.self.inside.desks.items in
    let banks = c.as_slice-banks.result.now in
    let value = c.as_slice-banks.ensures.value in
    let here = value ∙ c.self.invariant.0 in
    let set = c.deref.result.now in
    let h = subst (λ (y : List ℕ × List ℕ). AreInPlace y.0 y.1 c.self.inside.workers) (λ i. (sym value i, sym c.deref.ensures i)) c.self.invariant.1 in
    rw (← c.self.view_is) (λ k ge less l.
    let in_list : k < length banks = omega (arith, l, length_banks desks banks here) in
    rw (← bank_at desks banks k here l)
    (c.in-None.ensures.none (get_or banks k 0) (not_after banks c.args.from k h.rise ge in_list)
    (omega (arith, not_after banks k (length banks - 1) h.rise (omega (arith, in_list)) (omega (arith, in_list)))) (h.out.placed k in_list).0))
