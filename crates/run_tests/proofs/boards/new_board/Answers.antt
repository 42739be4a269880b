use Rattle.std.proofs.Common.{◌≡◌, ap, sym, subst, ◌∙◌}
use Rattle.std.specs.Prelude.{IfOk, replicate}
use Rattle.pay_words.specs.Views.{opening}
use Rattle.pay_words.specs.Words.{unpaid}
use Rattle.pay_words.proofs.Pasts.{belongs_at_first}
use Rattle.pay_words.proofs.Starts.{start_none}
use Rattle.run_tests.proofs.boards.new_board.Goals as goal

-- nothing is paid where nothing was raised
pub make-requires-clause-belongs : goal.make-requires-clause-belongs
make-requires-clause-belongs c =
    belongs_at_first _ _ (c.as_slice.ensures.value ∙ c.in_ok-start.ensures ∙ ap (λ n. replicate n unpaid) c.debts.ensures.debts ∙ sym (start_none c.args.net.now))

pub returns-clause-master : goal.returns-clause-master
returns-clause-master c =
    subst (λ ps. IfOk c.make.result (λ r. (r.1.table ≡ r.0.table) × (r.1.shows ≡ opening c.args.net.now ps)))
    (c.as_slice.ensures.value ∙ c.in_ok-start.ensures ∙ ap (λ n. replicate n unpaid) c.debts.ensures.debts ∙ sym (start_none c.args.net.now))
    c.make.ensures.master
