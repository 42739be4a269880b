use Rattle.std.proofs.Common.{◌≡◌, ◌+◌, ◌*◌, false, Result, Ok, Err, OnOk, is_err, [], ◌∷◌, ◌++◌, length, ◌%◌, ap, ◌∙◌, sym, arith}
use Rattle.std.proofs.lemmas.Bool.{true≢false}
use Rattle.std.proofs.lemmas.List.FromFn.{length-map-range_with_len, map-range_with_len_more}
use Rattle.clr_net.specs.Net.{with_bank}
use Rattle.clr_net.specs.declared.bank.Bank.{Bank}
use Rattle.net_gen.specs.Generated.{after_words, bank_at, banks_made, rule_numbered}
use Rattle.net_gen.proofs.Names.{bank_made, new_name_at}
use Rattle.net_gen.proofs.Tries.{at_start}
use Rattle.net_gen.proofs.Words.{step_words}
use Rattle.net_gen.proofs.making.make_banks.Goals as goal

-- what is said of a good answer holds where there is no error
ok_holds : {A E : Type 0} (r : Result A E) (P : Type 0) → is_err r ≡ false → OnOk r P → P
ok_holds (Ok x) P good h = h
ok_holds (Err e) P good h = absurd (true≢false good)

pub add_bank-requires-clause-room : goal.add_bank-requires-clause-room
add_bank-requires-clause-room c =
    let e : length c.loop-number.net.banks ≡ c.loop-number.number =
    ap (λ m. length m.banks) c.loop-number.invariant.net
    ∙ length-map-range_with_len (bank_at c.args.seed) 0 c.loop-number.number in
    omega (arith, e, c.loop-number-test.true, c.requires.few_banks)

pub add_bank-requires-clause-new_name : goal.add_bank-requires-clause-new_name
add_bank-requires-clause-new_name c = λ j l same.
    let e : length c.loop-number.net.banks ≡ c.loop-number.number =
    ap (λ m. length m.banks) c.loop-number.invariant.net
    ∙ length-map-range_with_len (bank_at c.args.seed) 0 c.loop-number.number in
    new_name_at c.args.seed c.loop-number.number j c.loop-number.net
    (ap (λ m. m.banks) c.loop-number.invariant.net)
    (omega (arith, c.loop-number-test.true, c.requires.few_banks)) (omega (arith, e, l))
    (same ∙ c.in_ok-name_of.ensures)

pub loop-number-preserved : goal.loop-number-preserved
loop-number-preserved c =
    let k = c.loop-number.number in
    let words = c.loop-number.invariant.words in
    let cash = step_words c.args.seed (2 * k) _ _ _ words c.next_word.ensures in
    let rule = step_words c.args.seed (2 * k + 1) _ _ _ cash.1 c.next_word-in-loop-number.ensures in
    let two : 2 * k + 1 + 1 ≡ 2 * (k + 1) = omega arith in
    let made = bank_made c.args.seed k _ _ _ c.in_ok-name_of.ensures
    (c.from-cash.ensures ∙ ap (λ w. w % 2000) cash.0)
    (c.rule_of-rule.ensures ∙ ap (λ w. rule_numbered (w % 6)) rule.0) in
    let bank : Bank = record {
      name = c.in_ok-name_of.field-0;
      cash = c.from-cash.result;
      rule = c.rule_of-rule.result;
      outside = 0;
    } in
    record {
      words = rule.1 ∙ ap (after_words c.args.seed) two;
      net =
          ok_holds c.add_bank.result _ (sym c.is_err.ensures.value ∙ c.if-is_err.false)
          c.add_bank.ensures.ok
          ∙ ap (λ m. with_bank m bank) c.loop-number.invariant.net
          ∙ ap (λ b. record { banks = banks_made c.args.seed k ++ b ∷ []; debts = [] }) made
          ∙ ap (λ bs. record { banks = bs; debts = [] })
          (sym (map-range_with_len_more (bank_at c.args.seed) 0 k k (omega arith)));
    }

pub returns-clause-net : goal.returns-clause-net
returns-clause-net c =
    let all : c.loop-number.number ≡ c.args.size =
    omega (arith, c.loop-number-test.false, c.loop-number.auto.number-end) in
    c.loop-number.invariant.net
    ∙ ap (λ n. record { banks = banks_made c.args.seed n; debts = [] }) all
    ∙ sym (at_start c.args.seed c.args.size)
