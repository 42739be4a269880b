-- There is only one order of raises.
use Rattle.std.proofs.Common.{◌≡◌, ℕ, suc, ◌+◌, ◌<◌, ◌&&◌, Bool, true, false, cond, List, [], ◌∷◌, length, get_or, sym, refl, ap, ◌∙◌, subst, arith, add-one}
use Rattle.std.specs.List.{sum_by}
use Rattle.std.specs.List.Sorted.{IsPermutation}
use Rattle.std.proofs.lemmas.Grind.{common_steps}
use Rattle.std.proofs.lemmas.Bool.{and_parts, and_from}
use Rattle.std.proofs.lemmas.List.Sorted.{sum_by-IsPermutation}
use Rattle.std.proofs.lemmas.List.Sums.{sum_by-cons}
use Rattle.clear_core.specs.declared.event.Raise.{Raise}
use Rattle.clear_core.specs.History.{may_precede, ordered}
use Rattle.clear_core.proofs.Ordered.{InTurn, in_turn, ordered_moves, precedes_trans}

-- two raises are the same where each may stand before the other
same : Raise → Raise → Bool
same a b = may_precede a b && may_precede b a

-- each raise is the same as itself
same-refl : (a : Raise) → same a a ≡ true
unfolding same
same-refl a = let one : may_precede a a ≡ true = grind (arith, common_steps) in and_from (may_precede a a) (may_precede a a) one one

-- raises of one stamp, debt and amount are the same
alike : (s t x y v w : ℕ) → s ≡ t → x ≡ y → v ≡ w
    → (let r : Raise = record { stamp = s; debt = record { 0 = x }; to = v } in r) ≡ record { stamp = t; debt = record { 0 = y }; to = w }
alike s t x y v w e f g = cc

-- raises that may each stand before the other are equal
same-is : (a b : Raise) → may_precede a b ≡ true → may_precede b a ≡ true → a ≡ b
same-is a b h g =
    let stamps : a.stamp ≡ b.stamp = grind (arith, common_steps, h, g) in
    let debts : a.debt.0 ≡ b.debt.0 = grind (arith, common_steps, h, g) in
    let amounts : a.to ≡ b.to = grind (arith, common_steps, h, g) in
    alike a.stamp b.stamp a.debt.0 b.debt.0 a.to b.to stamps debts amounts

-- how often a raise stands in a list
once : Raise → Raise → ℕ
once a r = cond (same a r) 1 0

-- how many of them are the same as this one
times : Raise → List Raise → ℕ
times a rs = sum_by (once a) rs

-- one in front counts if it is the same
times-cons : (a r : Raise) (rs : List Raise) → times a (r ∷ rs) ≡ once a r + times a rs
unfolding times
times-cons a r rs = sum_by-cons (once a) r rs

-- in an empty list there is none
times-none : (a : Raise) → times a [] ≡ 0
unfolding times
times-none a = refl

-- a raise counts for itself
once-self : (a : Raise) → once a a ≡ 1
unfolding once
once-self a = rw (same-refl a) refl

-- the first of raises in turn may stand before each of them
head_before : (y x : Raise) (rs : List Raise) → InTurn (y ∷ rs) → 0 < times x (y ∷ rs) → may_precede y x ≡ true
unfolding InTurn once same
head_before y x [] h l = by (same x y) refl (omega (arith, times-cons x y [], times-none x))
  where
    by : (b : Bool) → same x y ≡ b → 0 < cond b 1 0 → may_precede y x ≡ true
    by true e m = (and_parts (may_precede x y) (may_precede y x) e).1
    by false e m = absurd (omega arith)
head_before y x (z ∷ zs) h l = by (same x y) refl (omega (arith, times-cons x y (z ∷ zs))) (head_before z x zs h.1)
  where
    by : (b : Bool) → same x y ≡ b → 0 < cond b 1 0 + times x (z ∷ zs) → (0 < times x (z ∷ zs) → may_precede z x ≡ true) → may_precede y x ≡ true
    by true e m later = (and_parts (may_precede x y) (may_precede y x) e).1
    by false e m later = precedes_trans y z x h.0 (later (omega arith))

-- raises in turn are known by how often each stands there
one_order : (xs ys : List Raise) → InTurn xs → InTurn ys → ((a : Raise) → times a xs ≡ times a ys) → xs ≡ ys
unfolding InTurn
one_order [] [] h g e = refl
one_order [] (y ∷ ys) h g e = absurd (omega (arith, e y, times-none y, times-cons y y ys, once-self y))
one_order (x ∷ xs) [] h g e = absurd (omega (arith, e x, times-none x, times-cons x x xs, once-self x))
one_order (x ∷ xs) (y ∷ ys) h g e =
    let there : 0 < times y (x ∷ xs) = omega (arith, e y, times-cons y y ys, once-self y) in
    let here : 0 < times x (y ∷ ys) = omega (arith, e x, times-cons x x xs, once-self x) in
    let first : x ≡ y = same-is x y (head_before x y xs h there) (head_before y x ys g here) in
    let rest : xs ≡ ys = one_order xs ys h.1 g.1 (λ a.
    omega (arith, e a, times-cons a x xs, times-cons a y ys, ap (once a) first)) in
    cc

-- each that may precede the next one makes a list in turn
in_turn_from : (rs : List Raise) → ((k : ℕ) (d : Raise) → suc k < length rs → may_precede (get_or rs k d) (get_or rs (suc k) d) ≡ true) → InTurn rs
unfolding InTurn
in_turn_from [] h = tt
in_turn_from (r ∷ []) h = (tt, tt)
in_turn_from (r ∷ q ∷ rs) h = (h 0 r (omega arith), in_turn_from (q ∷ rs) (λ k d l. h (suc k) d (omega arith)))

-- a list of the same raises in which each may precede the next is the ordered one
pub only_order : (rs qs : List Raise) → IsPermutation rs qs
    → ((k : ℕ) (d : Raise) → k + 1 < length qs → may_precede (get_or qs k d) (get_or qs (k + 1) d) ≡ true) → qs ≡ ordered rs
unfolding times
only_order rs qs moved h =
    one_order qs (ordered rs)
    (in_turn_from qs (λ k d l. subst (λ n. may_precede (get_or qs k d) (get_or qs n d) ≡ true) (add-one k) (h k d (omega arith))))
    (in_turn rs) (λ a. sum_by-IsPermutation (once a) rs qs moved ∙ sym (sum_by-IsPermutation (once a) rs (ordered rs) (ordered_moves rs)))
