use Rattle.std.proofs.Common.{◌≡◌, ℕ, ◌+◌, ◌<◌, ◌∙◌, List, take, [], ◌∷◌, ◌++◌, length, map, get_or, ap, sym, arith}
use Rattle.std.proofs.lemmas.List.{take_all, map_more}
use Rattle.std.proofs.lemmas.List.FromFn.{length-range_with_len, get_or-range_with_len}
use Rattle.std.specs.Option.{option_map_or}
use Rattle.std.specs.Prelude.{Option}
use Rattle.clr_net.specs.declared.debt.Debt.{Debt}
use Rattle.clr_net.specs.Net.{Net, debtor_of, debt_numbers}
use Rattle.pay_words.proofs.opening.debtors_of.Goals as goal

-- one more debtor
one_more : (net : Net) (done next : List ℕ) (k d : ℕ) → next ≡ done ++ d ∷ [] → done ≡ map (debtor_of net) (take k (debt_numbers net)) → d ≡ debtor_of net (get_or (debt_numbers net) k 0) → k < length (debt_numbers net)
    → next ≡ map (debtor_of net) (take (k + 1) (debt_numbers net))
one_more net done next k d e f g lt = e ∙ (λ i. f i ++ g i ∷ []) ∙ sym (map_more (debtor_of net) (debt_numbers net) k 0 lt)

pub push_reserved-requires : goal.push_reserved-requires
push_reserved-requires c = omega (arith, c.loop-number.invariant.len, c.loop-number.invariant.room, c.loop-number-test.true, c.debts-number-end.ensures.debts)

pub loop-number-preserved : goal.loop-number-preserved
loop-number-preserved c =
    let net = c.args.net.now in
    let k = c.loop-number.number in
    let lt : k < length (debt_numbers net) = omega (arith, c.loop-number-test.true, c.debts-number-end.ensures.debts, length-range_with_len 0 (length net.debts)) in
    let at : get_or (debt_numbers net) k 0 ≡ k = omega (arith, get_or-range_with_len 0 (length net.debts) k 0 (omega (arith, lt, length-range_with_len 0 (length net.debts)))) in
    let read : c.debt.result.debtor.0 ≡ debtor_of net k = sym (ap (λ (o : Option Debt). option_map_or (λ (d : Debt). d.debtor.0) o 0) c.debt.ensures) in record {
      items = one_more net _ _ k _ c.push_reserved.ensures.items c.loop-number.invariant.items (read ∙ ap (debtor_of net) (sym at)) lt;
      len = omega (arith, c.push_reserved.ensures.len, c.loop-number.invariant.len);
      room = omega (arith, c.push_reserved.ensures.capacity, c.loop-number.invariant.room);
    }

pub returns : goal.returns
returns c =
    let net = c.args.net.now in
    c.loop-number.invariant.items ∙ ap (map (debtor_of net)) (take_all c.loop-number.number (debt_numbers net) (omega (arith, c.loop-number-test.false, c.debts-number-end.ensures.debts, length-range_with_len 0 (length net.debts))))
