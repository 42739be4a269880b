use Rattle.std.proofs.Common.{◌∙◌, sym, ap, get_or}
use Rattle.std.specs.Prelude.{◌==◌, ◌||◌}
use Rattle.std.proofs.lemmas.List.Folds.{list_any_more}
use Rattle.bank_worker.proofs.desks.set_of.Goals as goal

pub loop-bank-preserved : goal.loop-bank-preserved
loop-bank-preserved c b =
    let x = get_or c.args.banks.now c.loop-bank.bank-index 0 in
    c.add.ensures b
    ∙ ap (λ t. t || (b == x)) (c.loop-bank.invariant b)
    ∙ sym (list_any_more (λ y. b == y) c.args.banks.now c.loop-bank.bank-index 0 c.loop-bank-test.true)
