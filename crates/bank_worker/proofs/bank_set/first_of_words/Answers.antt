use Rattle.std.proofs.Common.{◌*◌, ◌-◌, ◌^◌, get_or, sym, ◌∙◌, arith}
use Rattle.std.proofs.lemmas.Nat.{and_le_l}
use Rattle.bank_worker.proofs.SetWords.{common_all, found_in_word, none_in_word, whole_mask}
use Rattle.bank_worker.proofs.bank_set.first_of_words.Goals as goal

pub returns-then-word-ne0-clause-first : goal.returns-then-word-ne0-clause-first
returns-then-word-ne0-clause-first c =
    let k = c.loop-index.index in
    let xs = c.args.words.now in
    let ys = c.args.others.now in
    let from = c.args.from * 64 in
    let f = found_in_word xs ys from k (2 ^ 64 - 1) _ (whole_mask from k (omega arith)) c.loop-index.invariant (common_all xs ys k (omega (arith, c.fits-words k, and_le_l (get_or xs k 0) (get_or ys k 0)))) (omega arith) c.if-word-ne0.true in
    rw c.lowest.ensures f.0

pub returns-then-word-ne0-clause-none_before : goal.returns-then-word-ne0-clause-none_before
returns-then-word-ne0-clause-none_before c =
    let k = c.loop-index.index in
    let xs = c.args.words.now in
    let ys = c.args.others.now in
    let from = c.args.from * 64 in
    let f = found_in_word xs ys from k (2 ^ 64 - 1) _ (whole_mask from k (omega arith)) c.loop-index.invariant (common_all xs ys k (omega (arith, c.fits-words k, and_le_l (get_or xs k 0) (get_or ys k 0)))) (omega arith) c.if-word-ne0.true in
    rw c.lowest.ensures f.1

pub loop-index-preserved : goal.loop-index-preserved
loop-index-preserved c =
    let k = c.loop-index.index in
    let xs = c.args.words.now in
    let ys = c.args.others.now in
    let from = c.args.from * 64 in
    none_in_word xs ys from k (2 ^ 64 - 1) (whole_mask from k (omega arith)) c.loop-index.invariant (sym (common_all xs ys k (omega (arith, c.fits-words k, and_le_l (get_or xs k 0) (get_or ys k 0)))) ∙ c.if-word-ne0.false)
