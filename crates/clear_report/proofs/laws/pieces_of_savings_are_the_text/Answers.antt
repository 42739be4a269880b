use Rattle.rescue.specs.Saved.{banks_in_default}
use Rattle.clear_report.specs.Savings.{saves_header, saves_lines, saving_line, savings_header}
use Rattle.clear_report.proofs.Pieces.{stacked_is}
use Rattle.clear_report.proofs.laws.pieces_of_savings_are_the_text.Goals as goal

pub returns : goal.returns
returns c = λ net pieces are.
    stacked_is savings_header saves_header (saving_line net) (saves_lines net) (banks_in_default net)
    pieces are
