-- A list that is made place by place.
use Rattle.std.proofs.Common.{◌≡◌, ℕ, ◌+◌, ◌<◌, List, [], ◌∷◌, ◌++◌, get_or, length, take, sym, ap, ◌∙◌}
use Rattle.std.specs.List.{flat_map}
use Rattle.std.proofs.lemmas.List.{flat_map_more, take_more}

-- what comes of the places up to the next one
pub taken_more : {A B : Type 0} (f : A → List B) (front done more : List B) (xs : List A) (i : ℕ) (d x : A) → i < length xs → x ≡ get_or xs i d
    → done ≡ front ++ flat_map f (take i xs) → more ≡ done ++ f x → more ≡ front ++ flat_map f (take (i + 1) xs)
taken_more f front done more xs i d x within at e m =
    m ∙ ap (λ l. l ++ f x) e ∙ flat_map_more f front (take i xs) x
    ∙ ap (λ l. front ++ flat_map f l) (ap (λ y. take i xs ++ y ∷ []) at ∙ sym (take_more xs i d within))
