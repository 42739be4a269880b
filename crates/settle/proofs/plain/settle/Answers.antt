use Rattle.std.proofs.Common.{refl}
use Rattle.pay_words.proofs.Pasts.{belongs_at_first}
use Rattle.settle.proofs.plain.settle.Goals as goal

pub settle_from-requires-clause-past : goal.settle_from-requires-clause-past
settle_from-requires-clause-past g c κs within = belongs_at_first c.args.net.now _ refl
