use Rattle.std.proofs.Common.{◌≡◌, length, drop, min, sum, sym, ap, ◌∙◌, subst, arith}
use Rattle.clear_core.specs.Buffers.{AreInLimit}
use Rattle.clear_core.specs.Clearing.{division_of, paid_by}
use Rattle.clear_core.specs.Raised.{IsRaised}
use Rattle.clear_core.specs.declared.payments.Sums.{Sums}
use Rattle.clear_core.proofs.BankPays.{division_in_limit, length-division_of, sum-division_of}
use Rattle.clear_core.proofs.Raising.{paid_in_all, raised_already, rises_in_all}
use Rattle.clear_core.proofs.Summing.{sums_told}
use Rattle.clear_core.proofs.WrittenRows.{written_back}
use Rattle.clear_core.proofs.scratch.Scratch.raise_row.Goals as goal

pub returns-then-index-in_all-clause-raised : goal.returns-then-index-in_all-clause-raised
returns-then-index-in_all-clause-raised c =
    let net = c.args.net.now in
    let i = c.args.bank.0 in
    raised_already net i (division_of net i c.args.units) c.args.payments.now.paid
    (length-division_of net i c.args.units) c.requires.rises c.args.marks.now
    (sym (c.requires.sums.paid i _ c.requires.bank) ∙ ap (λ (s : Sums). s.paid) (sym c.index.ensures)
    ∙ c.if-index-in_all.true ∙ c.min-in_all.ensures ∙ ap (min c.args.units) c.owed_by.ensures
    ∙ sym (sum-division_of net i c.args.units c.requires.network))

pub raise-requires-clause-awards_in_limit : goal.raise-requires-clause-awards_in_limit
raise-requires-clause-awards_in_limit c =
    let net = c.args.net.now in
    subst AreInLimit (sym (c.awards.ensures ∙ c.divide.ensures.awards))
    (division_in_limit net c.args.bank.0 c.args.units c.requires.network)

pub returns-clause-sums : goal.returns-clause-sums
returns-clause-sums c =
    let net = c.args.net.now in
    let i = c.args.bank.0 in
    let before = c.args.payments.now in
    let after = c.raise.new in
    let awards = c.awards.result.now in
    let given : awards ≡ division_of net i c.args.units = c.awards.ensures ∙ c.divide.ensures.awards in
    let paid = written_back (length before.paid) after.paid (drop (length after.paid) before.paid)
    (c.raise.ensures.raised.as_many ∙ ap length c.as_mut_slice.ensures.now) in
    let sums = written_back before.sums.len after.sums (drop (length after.sums) before.sums.items)
    (omega (arith, c.raise.ensures.sums.for_each_bank, c.requires.sums.for_each_bank)) in
    let in_all : c.min-in_all.result ≡ paid_by net after.paid i =
    c.min-in_all.ensures ∙ ap (min c.args.units) c.owed_by.ensures
    ∙ sym (sum-division_of net i c.args.units c.requires.network) ∙ ap sum (sym given)
    ∙ sym (paid_in_all net i awards _ after.paid _ _ (ap length given ∙ length-division_of net i c.args.units) c.raise.ensures.raised) in
    rw (paid, sums) (sums_told net i after.paid after.sums c.index_mut.result.now c.min-in_all.result c.raise.ensures.sums
    c.requires.bank (rw sums at c.index_mut.ensures.value) in_all)

pub returns-clause-rises_if_true : goal.returns-clause-rises_if_true
returns-clause-rises_if_true c =
    let net = c.args.net.now in
    let i = c.args.bank.0 in
    let before = c.args.payments.now in
    let after = c.raise.new in
    let awards = c.awards.result.now in
    let given : awards ≡ division_of net i c.args.units = c.awards.ensures ∙ c.divide.ensures.awards in
    let paid = written_back (length before.paid) after.paid (drop (length after.paid) before.paid)
    (c.raise.ensures.raised.as_many ∙ ap length c.as_mut_slice.ensures.now) in
    let raised : IsRaised net i (division_of net i c.args.units) before.paid after.paid c.args.marks.now after.marks =
    rw (c.as_mut_slice.ensures.now, given) at c.raise.ensures.raised in
    rw paid (rises_in_all net i (division_of net i c.args.units) before.paid after.paid c.args.marks.now after.marks
    (length-division_of net i c.args.units) c.requires.rises c.requires.paid raised
    (λ e. c.if-index-in_all.false (ap (λ (s : Sums). s.paid) c.index.ensures ∙ c.requires.sums.paid i _ c.requires.bank
    ∙ e ∙ sum-division_of net i c.args.units c.requires.network
    ∙ ap (min c.args.units) (sym c.owed_by.ensures) ∙ sym c.min-in_all.ensures)))
