use Rattle.std.proofs.Common.{◌∙◌, ap}
use Rattle.pay_words.specs.Views.{BoardView}
use Rattle.pay_words.proofs.SideBySide.{debt_listed}
use Rattle.pay_words.proofs.board.Board.look.Goals as goal

pub of_debt-requires : goal.of_debt-requires
of_debt-requires c =
    (debt_listed _ _ _ c.args.debt.0 (ap (λ (b : BoardView). b.net) c.self.view_is) c.self.invariant.2 c.requires.debt).0

pub look_at-requires-clause-position : goal.look_at-requires-clause-position
look_at-requires-clause-position c =
    c.of_debt.ensures ∙ (debt_listed _ _ _ c.args.debt.0 (ap (λ (b : BoardView). b.net) c.self.view_is) c.self.invariant.2 c.requires.debt).1
