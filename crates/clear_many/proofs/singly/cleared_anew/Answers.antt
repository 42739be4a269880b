use Rattle.std.proofs.Common.{sym, subst, ap, ◌∙◌}
use Rattle.std.proofs.lemmas.Result.{IfOk-weaker}
use Rattle.clear_core.specs.Clearing.{Clears}
use Rattle.clear_core.proofs.Least.{least_clears}
use Rattle.cascade.specs.Standings.{standings}
use Rattle.clear_many.proofs.singly.cleared_anew.Goals as goal

pub defaults_by-requires-clause-clears : goal.defaults_by-requires-clause-clears
defaults_by-requires-clause-clears c =
    subst (Clears c.args.left.now) (sym c.in_ok-payments.ensures.payments) (least_clears c.args.left.now)

pub returns : goal.returns
returns c =
    IfOk-weaker c.defaults_by.result _ _
    (λ all e. e ∙ ap (standings c.args.left.now) c.in_ok-payments.ensures.payments)
    c.defaults_by.ensures
