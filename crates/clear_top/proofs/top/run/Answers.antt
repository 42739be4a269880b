-- Each goal that an edit breaks has an answer of its own, since what would answer it is not looked for where one stands here.
use Rattle.std.proofs.Common.{refl, rules}
use Rattle.clear_top.proofs.top.run.Goals as goal

pub returns-in-Ok-clause-ends : goal.returns-in-Ok-clause-ends
returns-in-Ok-clause-ends g c = search rules

pub returns-in-Ok-clause-told : goal.returns-in-Ok-clause-told
returns-in-Ok-clause-told g c = search rules

-- where the words ask for no job, the shelf is as it was
pub returns-in-Err-Usage-clause-unasked : goal.returns-in-Err-Usage-clause-unasked
returns-in-Err-Usage-clause-unasked g c = λ _. refl
