use Rattle.std.proofs.Common.{◌∙◌, ◌==◌, ◌||◌, Bool, sym, ap, ap₂, eq-eqb}
use Rattle.std.proofs.lemmas.Bool.{ne_eqb}
use Rattle.std.proofs.lemmas.List.Folds.{list_any_at, list_any_more}
use Rattle.std.proofs.lemmas.Option.{get_or_from_slice_get, slice_get_within}
use Rattle.clr_net.specs.declared.debt.Debt.{Debt}
use Rattle.clear_report.proofs.compression.has_debt.Goals as goal

pub returns-then-debt-class : goal.returns-then-debt-class
returns-then-debt-class c =
    let debts = c.args.net.now.debts in
    let is = λ (d : Debt). d.class == c.args.class in
    let at = get_or_from_slice_get debts c.loop-x.x c.debt.result c.debt.result c.debt.ensures in
    sym (list_any_at is debts c.loop-x.x c.debt.result
    (slice_get_within debts c.loop-x.x c.debt.result c.debt.ensures)
    (ap is at ∙ eq-eqb c.debt.result.class c.args.class c.if-debt-class.true))

pub loop-x-preserved : goal.loop-x-preserved
loop-x-preserved c =
    let debts = c.args.net.now.debts in
    let is = λ (d : Debt). d.class == c.args.class in
    let at = get_or_from_slice_get debts c.loop-x.x c.debt.result c.debt.result c.debt.ensures in
    list_any_more is debts c.loop-x.x c.debt.result
    (slice_get_within debts c.loop-x.x c.debt.result c.debt.ensures)
    ∙ ap₂ (λ (a b : Bool). a || b) c.loop-x.invariant
    (ap is at ∙ ne_eqb c.debt.result.class c.args.class c.if-debt-class.false)
