use Rattle.std.proofs.Common.{◌∙◌}
use Rattle.compress.proofs.compression.compress_into.Goals as goal

pub compress_by-requires-clause-sizes : goal.compress_by-requires-clause-sizes
compress_by-requires-clause-sizes c =
    let made = c.in_ok-walk.ensures in
    let banks = c.banks.ensures.banks in
    record {
      marks = made.marks ∙ banks;
      cursors = made.cursors ∙ banks;
      heads = made.heads ∙ banks;
      ranks = made.ranks ∙ banks;
    }
