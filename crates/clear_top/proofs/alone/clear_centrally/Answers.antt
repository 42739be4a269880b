use Rattle.std.proofs.Common.{length, ◌∙◌, ap}
use Rattle.clear_stress.proofs.Places.{least_places}
use Rattle.clear_top.proofs.alone.clear_centrally.Goals as goal

pub pay_text-requires : goal.pay_text-requires
pay_text-requires c =
    ap length (c.as_slice.ensures ∙ c.in_ok-paid.ensures.payments) ∙ least_places c.args.net.now
