use Rattle.std.proofs.Common.{ap, ◌∙◌}
use Rattle.clear_report.specs.Savings.{saves_lines, saving_line}
use Rattle.rescue.specs.Saved.{banks_in_default}
use Rattle.clear_many.proofs.Tabled.{number_in_place}
use Rattle.clear_many.proofs.savings.SavingsPieceworkPieceSearch.piece.Goals as goal

pub returns-clause-piece : goal.returns-clause-piece
returns-clause-piece c =
    let net = c.args.self.now.net.now in
    let at = number_in_place c.args.self.now.banks.now (banks_in_default net) c.args.place _ c.requires.can.2 c.requires.place in
    (c.in_ok-piece.ensures.upper ∙ ap (saving_line net) at, c.in_ok-piece.ensures.lower ∙ ap (saves_lines net) at)
