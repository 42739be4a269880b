use Rattle.std.proofs.Common.{◌≡◌, ◌+◌, ◌*◌, length, ap, ◌∙◌, sym, arith}
use Rattle.std.proofs.lemmas.Nat.{mod_below}
use Rattle.clr_net.specs.Net.{units_owed}
use Rattle.net_gen.specs.Generated.{after_tries, after_words, tried, word}
use Rattle.net_gen.proofs.Tries.{claim_small, after_one_try_more, small_after}
use Rattle.net_gen.proofs.making.make_debts.Goals as goal

pub try_debt-requires-clause-debtor : goal.try_debt-requires-clause-debtor
try_debt-requires-clause-debtor c =
    let n = 2 * c.args.size + 4 * c.loop.counter in
    let drawn = c.draw_debt-debt.ensures c.args.seed n c.loop.invariant.words in
    let small = small_after c.args.seed c.args.size c.loop.counter in
    let banks = ap (λ net. length net.banks) c.loop.invariant.net ∙ small.banks in
    omega (
      arith,
      ap (λ d. d.debtor.0) drawn.0,
      banks,
      mod_below (word c.args.seed n) c.args.size c.requires.some_banks,
    )

pub try_debt-requires-clause-creditor : goal.try_debt-requires-clause-creditor
try_debt-requires-clause-creditor c =
    let n = 2 * c.args.size + 4 * c.loop.counter in
    let drawn = c.draw_debt-debt.ensures c.args.seed n c.loop.invariant.words in
    let small = small_after c.args.seed c.args.size c.loop.counter in
    let banks = ap (λ net. length net.banks) c.loop.invariant.net ∙ small.banks in
    omega (
      arith,
      ap (λ d. d.creditor.0) drawn.0,
      banks,
      mod_below (word c.args.seed (n + 1)) c.args.size c.requires.some_banks,
    )

pub try_debt-requires-clause-few_debts : goal.try_debt-requires-clause-few_debts
try_debt-requires-clause-few_debts c =
    let small = small_after c.args.seed c.args.size c.loop.counter in
    let debts = ap (λ net. length net.debts) c.loop.invariant.net in
    omega (arith, debts, small.debts, c.loop-test.true, c.requires.few_tries)

pub try_debt-requires-clause-few_units : goal.try_debt-requires-clause-few_units
try_debt-requires-clause-few_units c =
    let n = 2 * c.args.size + 4 * c.loop.counter in
    let drawn = c.draw_debt-debt.ensures c.args.seed n c.loop.invariant.words in
    let small = small_after c.args.seed c.args.size c.loop.counter in
    let owed = ap units_owed c.loop.invariant.net in
    let claim = ap (λ d. d.claim) drawn.0 in
    omega (
      arith,
      owed,
      small.owed,
      claim,
      claim_small (word c.args.seed (n + 3)),
      c.loop-test.true,
      c.requires.few_tries,
    )

pub loop-preserved : goal.loop-preserved
loop-preserved c =
    let n = 2 * c.args.size + 4 * c.loop.counter in
    let drawn = c.draw_debt-debt.ensures c.args.seed n c.loop.invariant.words in
    let four : n + 4 ≡ 2 * c.args.size + 4 * (c.loop.counter + 1) = omega arith in
    record {
      words = drawn.1 ∙ ap (after_words c.args.seed) four;
      net =
          c.in_ok-try_debt.ensures
          ∙ ap (λ net. tried net c.draw_debt-debt.result) c.loop.invariant.net
          ∙ ap (tried (after_tries c.args.seed c.args.size c.loop.counter)) drawn.0
          ∙ sym (after_one_try_more c.args.seed c.args.size c.loop.counter);
    }
