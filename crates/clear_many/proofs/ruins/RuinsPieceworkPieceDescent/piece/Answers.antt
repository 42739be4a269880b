use Rattle.std.proofs.Common.{rules}
use Rattle.clear_many.proofs.ruins.RuinsPieceworkPieceDescent.piece.Goals as goal

pub impact_piece-requires-clause-impact : goal.impact_piece-requires-clause-impact
impact_piece-requires-clause-impact c = search rules
