-- The beginnings of lines, one for each number.
use Rattle.std.proofs.Common.{◌≡◌, ℕ, ◌<◌, List, [], Vec, Global, length, map, get_or, sym, ap, ◌∙◌, arith}
use Rattle.std.specs.List.{range_with_len}
use Rattle.std.proofs.lemmas.List.{get_or-map, length-map}
use Rattle.std.proofs.lemmas.List.FromFn.{get_or-map-range_with_len, length-map-range_with_len}

module _ {A : Type 0} (f : ℕ → List A) (heads : List (Vec A Global)) (n : ℕ)
    (are : map (λ h. h.items) heads ≡ map f (range_with_len 0 n)) where
  -- there are as many as numbers
  pub as_many_heads : length heads ≡ n
  as_many_heads =
      sym (length-map heads (λ (h : Vec A Global). h.items)) ∙ ap length are ∙ length-map-range_with_len f 0 n

  -- the beginning of the line x
  pub head_at : (x : ℕ) (h : Vec A Global) → x < n → h ≡ get_or heads x h → h.items ≡ f x
  head_at x h lx at =
      ap (λ (v : Vec A Global). v.items) at
      ∙ sym (get_or-map (λ (v : Vec A Global). v.items) heads x h [] (omega (arith, lx, as_many_heads)))
      ∙ ap (λ l. get_or l x []) are
      ∙ get_or-map-range_with_len f 0 n x x [] lx (omega arith)
