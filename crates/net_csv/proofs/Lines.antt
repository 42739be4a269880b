-- A text that grows line by line.
use Rattle.std.proofs.Common.{◌≡◌, ◌∙◌, ◌<◌, ◌+◌, ℕ, List, [], ◌∷◌, ◌++◌, length, take, Some, sym, ap}
use Rattle.std.specs.Prelude.{slice_get}
use Rattle.std.specs.List.{flat_map}
use Rattle.std.proofs.lemmas.List.{take_more, flat_map_more}
use Rattle.std.proofs.lemmas.Option.{get_or_from_slice_get}

-- one line more
pub line_more : {X : Type 0} (line_of : X → List ℕ) (head text text' : List ℕ) (xs : List X) (i : ℕ) (x : X)
    → i < length xs → slice_get xs i ≡ Some x → text ≡ head ++ flat_map line_of (take i xs) → text' ≡ text ++ line_of x
    → text' ≡ head ++ flat_map line_of (take (i + 1) xs)
line_more line_of head text text' xs i x below at so_far line =
    let last : take (i + 1) xs ≡ take i xs ++ x ∷ [] =
    take_more xs i x below ∙ ap (λ y. take i xs ++ y ∷ []) (get_or_from_slice_get xs i x x at) in
    line ∙ ap (λ (t : List ℕ). t ++ line_of x) so_far ∙ flat_map_more line_of head (take i xs) x
    ∙ ap (λ ys. head ++ flat_map line_of ys) (sym last)
