use Rattle.std.proofs.Common.{List, Vec, Global, ℕ, map, ◌∙◌}
use Rattle.std.proofs.lemmas.List.Concat.{concat_is}
use Rattle.std.proofs.lemmas.List.Folds.{flat_map-map}
use Rattle.clr_edge.proofs.texts.Text.of_pieces.Goals as goal

pub returns : goal.returns
returns c =
    concat_is (map (λ piece. piece.items) c.args.pieces.items)
    ∙ flat_map-map (λ (x : List ℕ). x) (λ (piece : Vec ℕ Global). piece.items) c.args.pieces.items
