use Rattle.std.proofs.Common.{◌*◌, ◌+◌, ◌/◌, ◌^◌, sym, ◌∙◌, arith, refl}
use Rattle.std.proofs.lemmas.Nat.{mod_below}
use Rattle.bank_worker.proofs.SetWords.{common_of, first_mask, found_in_word, found_later, none_in_word}
use Rattle.bank_worker.proofs.bank_set.BankSet.first_in_both.Goals as goal

pub returns-then-word-ne0-clause-first : goal.returns-then-word-ne0-clause-first
returns-then-word-ne0-clause-first c =
    let k = c.args.from / 64 in
    let is = common_of c.self.inside.words c.other.inside.words c.args.self.now c.args.other.now k _ c.self.view_is c.other.view_is in
    let f = found_in_word c.args.self.now c.args.other.now c.args.from k _ _ (first_mask c.args.from _ refl) (λ b ge lt e. absurd (omega arith)) is (mod_below _ (2 ^ 64) (omega arith)) c.if-word-ne0.true in
    rw c.lowest.ensures f.0

pub returns-then-word-ne0-clause-none_before : goal.returns-then-word-ne0-clause-none_before
returns-then-word-ne0-clause-none_before c =
    let k = c.args.from / 64 in
    let is = common_of c.self.inside.words c.other.inside.words c.args.self.now c.args.other.now k _ c.self.view_is c.other.view_is in
    let f = found_in_word c.args.self.now c.args.other.now c.args.from k _ _ (first_mask c.args.from _ refl) (λ b ge lt e. absurd (omega arith)) is (mod_below _ (2 ^ 64) (omega arith)) c.if-word-ne0.true in
    rw c.lowest.ensures f.1

pub returns-clause-none_before : goal.returns-clause-none_before
returns-clause-none_before c =
    let xs = c.args.self.now in
    let ys = c.args.other.now in
    let from = c.args.from in
    let k = from / 64 in
    let to = c.args.last / 64 + 1 in
    let is = common_of c.self.inside.words c.other.inside.words xs ys k _ c.self.view_is c.other.view_is in
    let before = none_in_word xs ys from k _ (first_mask from _ refl) (λ b ge lt e. absurd (omega arith)) (sym is ∙ c.if-word-ne0.false) in
    (found_later xs ys from ((k + 1) * 64) (to * 64) (c.args.last + 1) c.first_of_words.result before
    (rw (sym c.self.view_is, sym c.other.view_is) c.first_of_words.ensures.none_before)
    (rw (sym c.self.view_is, sym c.other.view_is) c.first_of_words.ensures.none) (omega arith)).0

pub returns-clause-none : goal.returns-clause-none
returns-clause-none c =
    let xs = c.args.self.now in
    let ys = c.args.other.now in
    let from = c.args.from in
    let k = from / 64 in
    let to = c.args.last / 64 + 1 in
    let is = common_of c.self.inside.words c.other.inside.words xs ys k _ c.self.view_is c.other.view_is in
    let before = none_in_word xs ys from k _ (first_mask from _ refl) (λ b ge lt e. absurd (omega arith)) (sym is ∙ c.if-word-ne0.false) in
    (found_later xs ys from ((k + 1) * 64) (to * 64) (c.args.last + 1) c.first_of_words.result before
    (rw (sym c.self.view_is, sym c.other.view_is) c.first_of_words.ensures.none_before)
    (rw (sym c.self.view_is, sym c.other.view_is) c.first_of_words.ensures.none) (omega arith)).1
