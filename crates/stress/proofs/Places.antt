-- Lists that are changed place by place.
use Rattle.std.proofs.Common.{◌≡◌, ℕ, suc, ◌<◌, List, [], ◌∷◌, length, get_or, sym, ◌∙◌, arith}
use Rattle.stress.specs.declared.tally.Falls.{Falls}

-- what stands past the ends
abbrev pub never : Falls
never = record { defaults = 0; fundamental = 0 }

-- a list whose items are h of those of two lists is what z makes of them, where z pairs them by h
pub paired : {X : Type 0} (h : X → X → X) (z : List X → List X → List X) → z [] [] ≡ []
    → ((x y : X) (xs ys : List X) → z (x ∷ xs) (y ∷ ys) ≡ h x y ∷ z xs ys)
    → (now xs ys : List X) → length now ≡ length xs → length ys ≡ length xs
    → ((k : ℕ) (d : X) → k < length xs → get_or now k d ≡ h (get_or xs k d) (get_or ys k d))
    → now ≡ z xs ys
paired h z nil cons [] [] [] a b each = sym nil
paired h z nil cons [] [] (y ∷ ys) a b each = absurd (omega arith)
paired h z nil cons now [] ys a b each = absurd (omega arith)
paired h z nil cons [] (x ∷ xs) ys a b each = absurd (omega arith)
paired h z nil cons (v ∷ now) (x ∷ xs) [] a b each = absurd (omega arith)
paired h z nil cons (v ∷ now) (x ∷ xs) (y ∷ ys) a b each =
    let rest : now ≡ z xs ys = paired h z nil cons now xs ys (omega arith) (omega arith)
    (λ k d l. each (suc k) d (omega arith)) in
    (λ at. each 0 x (omega arith) at ∷ rest at) ∙ sym (cons x y xs ys)
