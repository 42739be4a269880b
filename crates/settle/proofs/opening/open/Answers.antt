use Rattle.std.proofs.Common.{sym, ◌∙◌, subst}
use Rattle.clear_core.proofs.Lawful.{stands_in_range}
use Rattle.pay_words.specs.Belongs.{Belongs}
use Rattle.settle.proofs.opening.open.Goals as goal

pub payments_after-requires : goal.payments_after-requires
payments_after-requires c = stands_in_range c.args.net.now c.args.past.now c.requires.past.stands

pub make-requires-clause-belongs : goal.make-requires-clause-belongs
make-requires-clause-belongs c =
    subst (λ ps. Belongs c.args.net.now ps c.args.past.now) (sym (c.as_slice.ensures.value ∙ c.in_ok-payments.ensures)) c.requires.past
