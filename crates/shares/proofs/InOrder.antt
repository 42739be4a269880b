-- Pieces of places, one after another.
use Rattle.std.proofs.Common.{◌≡◌, ℕ, get_or, suc, ◌+◌, List, [], ◌∷◌, ◌++◌, length, length-append, map, refl, sym, ap, ◌∙◌, arith, subst}
use Rattle.std.specs.List.{range_with_len}
use Rattle.shares.specs.Made.{AreInOrder}

-- those of some places, and of the places after them
pub order_joined : {P : Type 0} (is_piece : ℕ → P → Type 0) (low middle : ℕ) (front back : List P)
    → middle ≡ low + length front → AreInOrder is_piece low front → AreInOrder is_piece middle back
    → AreInOrder is_piece low (front ++ back)
order_joined is_piece low middle [] back at f b =
    let same : middle ≡ low = omega (arith, at) in subst (λ m. AreInOrder is_piece m back) same b
order_joined is_piece low middle (p ∷ front) back at f b =
    let next : middle ≡ (low + 1) + length front = omega (arith, at) in
    (f.0, order_joined is_piece (low + 1) middle front back next f.1 b)

-- one more
pub order_pushed : {P : Type 0} (is_piece : ℕ → P → Type 0) (low place : ℕ) (pieces all : List P) (p : P)
    → place ≡ low + length pieces → AreInOrder is_piece low pieces → is_piece place p → all ≡ pieces ++ p ∷ []
    → AreInOrder is_piece low all
order_pushed is_piece low place pieces all p at so_far is grown =
    subst (AreInOrder is_piece low) (sym grown) (order_joined is_piece low place pieces (p ∷ []) at so_far (is, tt))

-- with one piece at the end there is one more
pub length_pushed : {P : Type 0} (pieces all : List P) (p : P) → all ≡ pieces ++ p ∷ [] → length all ≡ length pieces + 1
length_pushed pieces all p grown = ap length grown ∙ length-append pieces (p ∷ [])

-- what is read off each piece, where the place tells it
pub read_off : {P X : Type 0} (is_piece : ℕ → P → Type 0) (of_piece : P → X) (of_place : ℕ → X) (low n : ℕ) (pieces : List P)
    → ((k : ℕ) (p : P) → is_piece k p → of_piece p ≡ of_place k) → length pieces ≡ n → AreInOrder is_piece low pieces
    → map of_piece pieces ≡ map of_place (range_with_len low n)
read_off is_piece of_piece of_place low n [] tells as_many are =
    ap (λ m. map of_place (range_with_len low m)) as_many
read_off is_piece of_piece of_place low n (p ∷ pieces) tells as_many are =
    ap (λ x. x ∷ map of_piece pieces) (tells low p are.0)
    ∙ ap (λ xs. of_place low ∷ xs) (read_off is_piece of_piece of_place (low + 1) (length pieces) pieces tells refl are.1)
    ∙ ap (λ m. map of_place (range_with_len low m)) as_many

-- the same, where the places are those of a list
pub read_list : {P X A : Type 0} (is_piece : ℕ → P → Type 0) (of_piece : P → X) (of_element : A → X) (low : ℕ) (xs : List A) (d : A)
    (pieces : List P) → ((k : ℕ) (p : P) → is_piece (low + k) p → of_piece p ≡ of_element (get_or xs k d))
    → length pieces ≡ length xs → AreInOrder is_piece low pieces → map of_piece pieces ≡ map of_element xs
read_list is_piece of_piece of_element low [] d [] tells as_many are = refl
read_list is_piece of_piece of_element low (x ∷ xs) d [] tells as_many are = absurd (omega arith)
read_list is_piece of_piece of_element low [] d (p ∷ pieces) tells as_many are = absurd (omega arith)
read_list {P = P} is_piece of_piece of_element low (x ∷ xs) d (p ∷ pieces) tells as_many are =
    let here : low + 0 ≡ low = omega arith in
    let rest : (k : ℕ) (q : P) → is_piece ((low + 1) + k) q → of_piece q ≡ of_element (get_or xs k d) =
    λ k q is. (let there : (low + 1) + k ≡ low + suc k = omega arith in tells (suc k) q (subst (λ i. is_piece i q) there is)) in
    ap (λ y. y ∷ map of_piece pieces) (tells 0 p (subst (λ i. is_piece i p) (sym here) are.0))
    ∙ ap (λ ys. of_element x ∷ ys) (read_list is_piece of_piece of_element (low + 1) xs d pieces rest (omega arith) are.1)
