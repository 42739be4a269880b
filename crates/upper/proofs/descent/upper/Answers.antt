use Rattle.std.proofs.Common.{◌≡◌, Result, Ok, Err, OnOk, IfOk}
use Rattle.std.proofs.lemmas.Result.{IfOk-weaker, on_ok_weaker}
use Rattle.clr_net.specs.Limits.{IsNetwork}
use Rattle.clr_net.specs.Net.{Net}
use Rattle.clear_core.specs.Clearing.{least, pay}
use Rattle.clear_core.proofs.Pay.{spend_mono}
use Rattle.upper.specs.Bounds.{waves, WavesTellHealth}
use Rattle.upper.specs.declared.bounds.Upper.{Upper}
use Rattle.upper.proofs.Descents.{waves_tell}
use Rattle.upper.proofs.Tops.{greatest_rounds}
use Rattle.cascade.proofs.Equities.{equities_are_one}
use Rattle.clear_core.proofs.Least.{least_clears}
use Rattle.upper.proofs.descent.upper.Goals as goal

pub descend_by-requires : goal.descend_by-requires
descend_by-requires c = record { never_falls = spend_mono c.args.net.now }

pub returns-clause-greatest : goal.returns-clause-greatest
unfolding pay
returns-clause-greatest c = c.descend_by.ensures.greatest

pub returns-clause-is_greatest : goal.returns-clause-is_greatest
returns-clause-is_greatest c =
    IfOk-weaker c.descend_by.result _ _ (λ found e. rw e (greatest_rounds c.args.net.now))
    (returns-clause-greatest c)

pub returns-clause-waves : goal.returns-clause-waves
unfolding pay
returns-clause-waves c = c.descend_by.ensures.waves

-- what waves tell is told of a network
told : {E : Type 0} (net : Net) (r : Result Upper E) → OnOk r (IsNetwork net)
    → IfOk r (λ found. found.waves ≡ waves net)
    → IfOk r (λ found. WavesTellHealth net found.waves)
told net (Ok found) network are = waves_tell net found.waves network are
told net (Err mem) network are = are

pub returns-clause-healths : goal.returns-clause-healths
returns-clause-healths c =
    told c.args.net.now c.descend_by.result c.descend_by.ensures.network (returns-clause-waves c)

pub returns-clause-equities : goal.returns-clause-equities
returns-clause-equities c =
    let net = c.args.net.now in
    on_ok_weaker c.descend_by.result
    (λ network Q clears. equities_are_one net Q (least net) network clears (least_clears net))
    c.descend_by.ensures.network
