use Rattle.std.proofs.Common.{length, sym, ap, ◌∙◌}
use Rattle.std.proofs.lemmas.List.FromFn.{length-map-range_with_len}
use Rattle.cascade.specs.Standings.{standing}
use Rattle.clear_core.specs.Clearing.{least}
use Rattle.clear_many.proofs.outcomes.counted.Goals as goal

pub note-requires-clause-over : goal.note-requires-clause-over
note-requires-clause-over c =
    let left = c.args.left.now in
    ap length c.requires.standings
    ∙ length-map-range_with_len (standing left (least left)) 0 (length left.banks) ∙ sym c.requires.over
