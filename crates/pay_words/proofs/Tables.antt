-- Lists over banks and debts: one that a function gives, and one of whose places changes.
use Rattle.std.proofs.lemmas.Bool.{cond_both, eqb-true, eqb-false}
use Rattle.std.proofs.Common.{◌≡◌, ℕ, ◌+◌, ◌<◌, ◌≤◌, List, length, set, get_or, sum, sym, ◌∙◌, subst, le_refl, arith, get_or-set_same, get_or-set_other, ◌≢◌, ◌==◌, eq-eqb}
use Rattle.std.specs.Prelude.{slice_index, if◌then◌else◌}
use Rattle.std.proofs.lemmas.List.{ext_get_or, set_past, get_or_past}
use Rattle.std.proofs.lemmas.List.FromFn.{get_or-map-range_with_len, length-map-range_with_len}
use native.Mathlib.Decide.{ℕ_discrete, dec_lt}
use mathlib.Core.Logic.{dite}
use Rattle.clr_net.specs.Amounts.{IsAtMost}
use Rattle.clr_net.proofs.Lists.{sum-le, sum_raised}
use Rattle.pay_words.specs.Tables.{tabled}
use Rattle.std.proofs.lemmas.Bool.{cond-true, cond-false, ne_eqb}

-- a table of f has what f gives in each place
pub tabled_at : {A : Type 0} (n : ℕ) (f : ℕ → A) (x : ℕ) (d : A) → x < n → get_or (tabled n f) x d ≡ f x
tabled_at n f x d lt = get_or-map-range_with_len f 0 n x x d lt (omega arith)

-- and n places
pub length-tabled : {A : Type 0} (n : ℕ) (f : ℕ → A) → length (tabled n f) ≡ n
length-tabled n f = length-map-range_with_len f 0 n

-- functions that agree below n have the same table
pub tabled_agree : {A : Type 0} (d : A) (n : ℕ) (f g : ℕ → A) → ((x : ℕ) → x < n → f x ≡ g x) → tabled n f ≡ tabled n g
tabled_agree d n f g h = ext_get_or d (tabled n f) (tabled n g) (length-tabled n f ∙ sym (length-tabled n g))
    (λ x lt. let l : x < n = omega (arith, lt, length-tabled n f) in tabled_at n f x d l ∙ h x l ∙ sym (tabled_at n g x d l))

-- a table of numbers that are nowhere greater
pub tabled_most : (n : ℕ) (f g : ℕ → ℕ) → ((x : ℕ) → x < n → f x ≤ g x) → IsAtMost (tabled n f) (tabled n g)
tabled_most n f g h x = grind (arith, tabled_at n f x 0, tabled_at n g x 0, h x, get_or_past (tabled n f) x 0, length-tabled n f)

-- what holds of what is new in a place of a list, and of each other, holds of each
pub set_each : {A : Type 0} (F : ℕ → A → Type 0) (xs : List A) (x : ℕ) (a d : A) → x < length xs → F x a
    → ((y : ℕ) → y ≢ x → F y (get_or xs y d)) → (y : ℕ) → F y (get_or (set xs x a) y d)
set_each F xs x a d lt here other y = dite (ℕ_discrete y x)
    (λ e. subst (λ z. F z (get_or (set xs x a) z d)) (sym e) (subst (F x) (sym (get_or-set_same xs x a d lt)) here))
    (λ ne. subst (F y) (sym (get_or-set_other xs x y a d ne)) (other y ne))

-- the same of two lists that change in one place
pub set_both : (F : ℕ → ℕ → ℕ → Type 0) (xs ys : List ℕ) (x a b : ℕ) → x < length xs → x < length ys → F x a b
    → ((y : ℕ) → y ≢ x → F y (get_or xs y 0) (get_or ys y 0))
    → (y : ℕ) → F y (get_or (set xs x a) y 0) (get_or (set ys x b) y 0)
set_both F xs ys x a b l m here other = set_each (λ y c. F y c (get_or (set ys x b) y 0)) xs x a 0 l (rw (get_or-set_same ys x b 0 m) here)
    (λ y ne. rw (get_or-set_other ys x y b 0 ne) (other y ne))

-- the same of numbers, also where the list is too short
pub after_set : (F : ℕ → ℕ → Type 0) (P : List ℕ) (x n : ℕ) → F x n → ((y : ℕ) → F y (get_or P y 0))
    → (y : ℕ) → F y (get_or (set P x n) y 0)
after_set F P x n here other y = dite (dec_lt x (length P))
    (λ lt. set_each F P x n 0 lt here (λ z _. other z) y)
    (λ ge. subst (λ Q. F y (get_or Q y 0)) (sym (set_past P x n (omega arith))) (other y))

-- a function that is changed at one number
abbrev pub changed : {A : Type 0} → ℕ → A → (ℕ → A) → ℕ → A
changed x a f y = if y == x then a else f y

-- a changed function gives the new value at its place
pub changed_here : {A : Type 0} (x : ℕ) (a : A) (f : ℕ → A) (y : ℕ) → y ≡ x → changed x a f y ≡ a
changed_here x a f y e = cond-true (y == x) a (f y) (eq-eqb y x e)

-- and at any other what it gave
pub changed_else : {A : Type 0} (x : ℕ) (a : A) (f : ℕ → A) (y : ℕ) → y ≢ x → changed x a f y ≡ f y
changed_else x a f y ne = cond-false (y == x) a (f y) (ne_eqb y x ne)

-- what holds of the new value, and of each other, holds of each
pub changed_each : {A : Type 0} (F : ℕ → A → Type 0) (x : ℕ) (a : A) (f : ℕ → A) → F x a → ((y : ℕ) → y ≢ x → F y (f y))
    → (y : ℕ) → F y (changed x a f y)
changed_each F x a f here other y = cond_both (y == x) a (f y) (F y) (λ e. rw (eqb-true y x e) here) (λ e. other y (eqb-false y x e))

-- a list with a place raised is no less than the list
pub set_above : (P : List ℕ) (x n : ℕ) → slice_index P x ≤ n → IsAtMost P (set P x n)
set_above P x n h = after_set (λ y m. slice_index P y ≤ m) P x n h (λ y. le_refl _)

-- a list with a place set within a bound stays within it
pub set_below : (P Q : List ℕ) (x n : ℕ) → IsAtMost P Q → n ≤ slice_index Q x → IsAtMost (set P x n) Q
set_below P Q x n h le = after_set (λ y m. m ≤ slice_index Q y) P x n le h

-- a sum is above another where one number is, and none is below
pub sum_less : (P Q : List ℕ) (x : ℕ) → x < length P → IsAtMost P Q → slice_index P x < slice_index Q x → sum P < sum Q
sum_less P Q x lt h up =
    omega (arith, sum-le (set P x (slice_index P x + 1)) Q (set_below P Q x (slice_index P x + 1) h (omega arith)), sum_raised P x lt)
