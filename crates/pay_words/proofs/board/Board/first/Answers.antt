use Rattle.std.proofs.Common.{◌∙◌, ap}
use Rattle.pay_words.specs.Views.{BoardView}
use Rattle.pay_words.proofs.SideBySide.{first_listed}
use Rattle.pay_words.proofs.board.Board.first.Goals as goal

pub first-requires : goal.first-requires
first-requires c =
    (first_listed _ _ _ c.args.bank.0 (ap (λ (b : BoardView). b.net) c.self.view_is) c.self.invariant.2 c.requires).0

pub returns : goal.returns
returns c =
    c.first.ensures ∙ (first_listed _ _ _ c.args.bank.0 (ap (λ (b : BoardView). b.net) c.self.view_is) c.self.invariant.2 c.requires).1
