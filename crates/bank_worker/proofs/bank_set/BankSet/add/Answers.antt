use Rattle.std.proofs.Common.{◌∙◌, ap, arith}
use Rattle.std.specs.Prelude.{◌==◌, ◌||◌}
use Rattle.bank_worker.specs.BankSets.{is_in}
use Rattle.bank_worker.proofs.SetWords.{added}
use Rattle.bank_worker.proofs.bank_set.BankSet.add.Goals as goal

pub returns : goal.returns
returns c b =
    added c.self.inside.words c.args.bank.0 b (omega arith)
    ∙ ap (λ xs. is_in xs b || (b == c.args.bank.0)) c.self.view_is
