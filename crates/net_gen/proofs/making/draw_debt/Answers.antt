use Rattle.std.proofs.Common.{◌≡◌, ◌+◌, ap, ◌∙◌, arith}
use Rattle.net_gen.specs.Generated.{after_words, word}
use Rattle.net_gen.proofs.Words.{debt_drawn, step_words}
use Rattle.net_gen.proofs.making.draw_debt.Goals as goal

pub returns : goal.returns
returns c = λ seed n e.
    let first = step_words seed n _ _ _ e c.next_word.ensures in
    let second = step_words seed (n + 1) _ _ _ first.1 c.next_word-2.ensures in
    let third = step_words seed (n + 1 + 1) _ _ _ second.1 c.next_word-3.ensures in
    let fourth = step_words seed (n + 1 + 1 + 1) _ _ _ third.1 c.next_word-4.ensures in
    let two : n + 1 + 1 ≡ n + 2 = omega arith in
    let three : n + 1 + 1 + 1 ≡ n + 3 = omega arith in
    let four : n + 1 + 1 + 1 + 1 ≡ n + 4 = omega arith in (
      debt_drawn seed c.args.size n _ _ _ _ _ first.0 second.0 (third.0 ∙ ap (word seed) two)
          (fourth.0 ∙ ap (word seed) three) c.from-claim.ensures,
      fourth.1 ∙ ap (after_words seed) four,
    )
