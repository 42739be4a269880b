-- Words for the proofs that each step keeps the rule of the bells.
use Rattle.std.proofs.lemmas.Bool.Decides.{nat_tests}
use Rattle.std.proofs.lemmas.Grind.{get_or-set_at}
use Rattle.pay_words.proofs.Views.{got}
use Rattle.std.proofs.lemmas.Bool.{cond-true}
use Rattle.pay_words.specs.Bells.{taken_of, made_of}
use Rattle.std.proofs.Common.{length}
use Rattle.std.proofs.Common.{◌≡◌, ◌≢◌, ℕ, zero, suc, ◌+◌, ◌*◌, ◌<◌, ◌≤◌, List, [], ◌∷◌, set, get_or, sum, sum_by, Bool, true, false, refl, sym, ap, ◌∙◌, subst, arith, length-set, get_or-set_other}
use Rattle.std.specs.Prelude.{if◌then◌else◌}
use Rattle.std.specs.List.{range_with_len}
use Rattle.std.proofs.lemmas.List.{ext_get_or}
use Rattle.std.proofs.lemmas.List.FromFn.{length-range_with_len, get_or-range_with_len}
use Rattle.std.proofs.lemmas.List.Sums.{sum_by-cons, sum_by-set, get_or-le-sum_by, sum_by-le, sum-map}
use mathlib.Core.Option.{some, some-ne-none, some-injective}
use lib.ListN.{get_elem?}
use Rattle.pay_words.specs.declared.view.View.{View}
use Rattle.pay_words.specs.Tables.{tabled}
use Rattle.pay_words.specs.Bells.{how_many}
use Rattle.pay_words.proofs.Tables.{tabled_at, length-tabled, sum_less, tabled_most, changed}

-- what a live seat took, and how many raises it made
pub live_of : (v : View) → v.live ≡ true → (taken_of v ≡ v.shown.taken) × (made_of v ≡ length v.shown.raises)
live_of v on = (cond-true v.live v.shown.taken 0 on, cond-true v.live (length v.shown.raises) 0 on)

-- a sum over all views when one changes
pub sum_views : (f : View → ℕ) (views : List View) (id : ℕ) (v w : View) → get_elem? views id ≡ some v → sum_by f (set views id w) + f v ≡ sum_by f views + f w
sum_views f views id v w at = subst (λ (u : View). sum_by f (set views id w) + f u ≡ sum_by f views + f w)
    (got views id v v at).1 (sum_by-set f views id w v (got views id v v at).0)

-- a sum over all views is at least what one has, and it is that where the others have nothing
pub sum_least : (f : View → ℕ) (views : List View) (id : ℕ) (v : View) → get_elem? views id ≡ some v → f v ≤ sum_by f views
sum_least f views id v at = subst (λ (u : View). f u ≤ sum_by f views) (got views id v v at).1
    (get_or-le-sum_by f views id v (got views id v v at).0)

-- where f gives 0 for each of the views, so is its sum over them
sum_none : (f : View → ℕ) (views : List View) → ((j : ℕ) (u : View) → get_elem? views j ≡ some u → f u ≡ 0) → sum_by f views ≡ 0
sum_none f [] h = refl
sum_none f (x ∷ xs) h = omega (arith, sum_by-cons f x xs, h 0 x refl, sum_none f xs (λ j. h (suc j)))

-- where f gives 0 for all other views, its sum over the views is what it gives for this one
pub sum_alone : (f : View → ℕ) (views : List View) (id : ℕ) (v : View) → get_elem? views id ≡ some v → ((j : ℕ) (u : View) → j ≢ id → get_elem? views j ≡ some u → f u ≡ 0) → sum_by f views ≡ f v
sum_alone f [] id v at h = absurd (some-ne-none v (sym at))
sum_alone f (x ∷ xs) zero v at h = omega (arith, sum_by-cons f x xs, ap f (some-injective x v at), sum_none f xs (λ j u e. h (suc j) u (λ i. absurd (omega (arith, i))) e))
sum_alone f (x ∷ xs) (suc id) v at h = omega (arith, sum_by-cons f x xs, h 0 x (λ i. absurd (omega (arith, i))) refl, sum_alone f xs id v at (λ j u ne e. h (suc j) u (λ i. ne (omega (arith, i))) e))

-- a sum over a table when one number changes
pub sum_changed : (n : ℕ) (f g : ℕ → ℕ) (c : ℕ) → c < n → ((y : ℕ) → y ≢ c → g y ≡ f y) → sum (tabled n g) + f c ≡ sum (tabled n f) + g c
sum_changed n f g c lt same =
    let is : tabled n g ≡ set (tabled n f) c (g c) =
    ext_get_or 0 (tabled n g) (set (tabled n f) c (g c)) (length-tabled n g ∙ sym (length-set (tabled n f) c (g c) ∙ length-tabled n f))
    (λ k l.
    let low : k < n = omega (arith, l, length-tabled n g) in
    grind (arith, get_or-set_at, get_or-set_other {A = ℕ}, tabled_at n g k 0 low, tabled_at n f k 0 low, same k, length-tabled n f)) in
    let at : get_or (tabled n f) c 0 ≡ f c = tabled_at n f c 0 lt in
    omega (arith, ap sum is, sum_by-set (λ (m : ℕ). m) (tabled n f) c (g c) 0 (omega (arith, lt, length-tabled n f)), at)

-- a sum over a table of numbers that are low
pub sum_low : (n m : ℕ) (f : ℕ → ℕ) → ((x : ℕ) → x < n → f x ≤ m) → sum (tabled n f) ≤ n * m
sum_low n m f h = omega (
  arith,
  sum-map f (range_with_len 0 n),
  sum_by-le f m (range_with_len 0 n) (λ k d l.
      let low : k < n = omega (arith, length-range_with_len 0 n) in
      let at : get_or (range_with_len 0 n) k d ≡ k = omega (arith, get_or-range_with_len 0 n k d low) in
      subst (λ x. f x ≤ m) (sym at) (h k low)),
  ap (λ l. l * m) (length-range_with_len 0 n),
)

-- one mark more makes the marked numbers at most one more
pub marks_grow_by_one : (n : ℕ) (marks : ℕ → Bool) (x : ℕ) → x < n → how_many n (changed x true marks) ≤ how_many n marks + 1
marks_grow_by_one n marks x lt =
    let f : ℕ → ℕ = λ y. if marks y then 1 else 0 in
    let g : ℕ → ℕ = λ y. if changed x true marks y then 1 else 0 in
    let here : g x ≡ 1 = grind (arith, nat_tests) in
    omega (arith, sum_changed n f g x lt (λ y ne. grind (arith, nat_tests)), here)

-- fewer are marked where one mark less is set, and none more
pub one_less : (n : ℕ) (marks less : ℕ → Bool) (x : ℕ) → x < n → marks x ≡ true → less x ≡ false → ((y : ℕ) → less y ≡ true → marks y ≡ true) → how_many n less + 1 ≤ how_many n marks
one_less n marks less x lt was now h =
    let f : ℕ → ℕ = λ y. if less y then 1 else 0 in
    let g : ℕ → ℕ = λ y. if marks y then 1 else 0 in
    omega (
      arith,
      sum_less (tabled n f) (tabled n g) x (omega (arith, lt, length-tabled n f))
          (tabled_most n f g (λ y _. grind (arith, h y)))
          (grind (arith, now, was, tabled_at n f x 0 lt, tabled_at n g x 0 lt)),
    )
