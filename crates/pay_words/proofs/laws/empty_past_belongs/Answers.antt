use Rattle.std.proofs.Common.{refl}
use Rattle.pay_words.proofs.Pasts.{belongs_at_first}
use Rattle.pay_words.proofs.laws.empty_past_belongs.Goals as goal

pub returns : goal.returns
returns c = λ net. belongs_at_first net _ refl
