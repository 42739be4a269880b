use Rattle.cascade.specs.Standings.{bank_numbers}
use Rattle.clear_report.specs.Impact.{hurt_lines, hurts_header, impact_header, impact_line}
use Rattle.clear_report.proofs.Pieces.{stacked_is}
use Rattle.clear_report.proofs.laws.pieces_of_ruins_are_the_text.Goals as goal

pub returns : goal.returns
returns c = λ net pieces are.
    stacked_is impact_header hurts_header (impact_line net) (hurt_lines net) (bank_numbers net) pieces
    are
