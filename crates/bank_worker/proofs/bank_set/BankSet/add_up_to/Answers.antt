use Rattle.std.proofs.Common.{get_or, ap, ◌∙◌, arith}
use Rattle.std.specs.Prelude.{◌/◌, ◌%◌, ◌==◌, ◌||◌}
use Rattle.std.specs.Int.{bit_at}
use Rattle.bank_worker.specs.BankSets.{is_in}
use Rattle.bank_worker.proofs.SetWords.{bit_of_either}
use Rattle.bank_worker.proofs.bank_set.BankSet.add_up_to.Goals as goal

pub returns-clause-added : goal.returns-clause-added
returns-clause-added c b le =
    ap (λ w. bit_at w (b % 64) == 1) (c.add_words.ensures.added (b / 64) (omega (arith, le)))
    ∙ bit_of_either (get_or c.self.inside.words (b / 64) 0) (get_or c.other.inside.words (b / 64) 0) (b % 64)
    ∙ ap (λ ws. is_in ws b || is_in c.other.inside.words b) c.self.view_is
    ∙ ap (λ ws. is_in c.args.self.now b || is_in ws b) c.other.view_is

pub returns-clause-others : goal.returns-clause-others
returns-clause-others c b less =
    ap (λ w. bit_at w (b % 64) == 1) (c.add_words.ensures.others (b / 64) (omega (arith, less))) ∙ ap (λ ws. is_in ws b) c.self.view_is
