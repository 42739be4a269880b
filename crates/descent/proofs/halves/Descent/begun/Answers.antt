use Rattle.std.proofs.Common.{ap, subst, ◌∙◌}
use Rattle.clr_net.specs.Net.{Net}
use Rattle.clear_core.specs.Clearing.{least}
use Rattle.cascade.proofs.OtherCash.{sums_back}
use Rattle.descent.specs.Cashes.{IsCashOf}
use Rattle.descent.proofs.halves.Descent.begun.Goals as goal

pub returns-clause-step : goal.returns-clause-step
returns-clause-step g c =
    let all = c.in_ok-payments.payments in
    record {
      some = c.widest-high.ensures.some;
      share = c.widest-high.ensures.share;
      paid = c.in_ok-payments.ensures.payments ∙ ap least c.lay_in.ensures.laid;
      sums = sums_back c.args.net.now c.lay_in.new.laid all.paid all.sums.items c.lay_in.ensures.alike
          c.in_ok-payments.ensures.sums;
      cash = λ wide. subst (λ (m : Net). IsCashOf m c.in_ok-cash_in.field-0.items) c.lay_in.ensures.laid (c.in_ok-cash_in.ensures wide);
    }
