-- Raises in order of their stamps keep those of each debt as they are.
use Rattle.clear_core.proofs.Ordered.{ordered_moves}
use Rattle.std.proofs.lemmas.List.Sorted.{All-permutation}
use Rattle.std.proofs.Common.{◌≡◌, ◌<◌, ◌≤◌, ℕ, ◌==◌, List, [], ◌∷◌, refl, ap, ◌∙◌, ⊎_elim, arith, true, false, All, suc}
use Rattle.std.proofs.lemmas.Grind.{common_steps}
use Rattle.clear_core.specs.History.{may_precede, with_raise, ordered}
use Rattle.clear_core.specs.declared.event.Raise.{Raise}
use Rattle.pay_words.specs.Traces.{Rise, raises_of}
use Rattle.std.proofs.lemmas.Bool.{cond_both, cases_Bool}
use Rattle.pay_words.proofs.Traces.{rise_rest}

-- a raise that may not stand before another has no smaller stamp
follows : (a b : Raise) → may_precede a b ≡ false → b.stamp ≤ a.stamp
follows a b h = grind (arith, common_steps, h)

-- a raise of another debt, put in its place, leaves those of a debt as they are
put_else : (x : ℕ) (r : Raise) (rs : List Raise) → (r.debt.0 == x) ≡ false → raises_of x (with_raise r rs) ≡ raises_of x rs
put_else x r [] out = rw out refl
put_else x r (q ∷ rs) out = grind (arith, put_else x r rs out)

-- a raise of the debt with a smaller stamp than all of them comes first among them
put_first : (x : ℕ) (r : Raise) (rs : List Raise) → (r.debt.0 == x) ≡ true → All (λ s. r.stamp < s.stamp) (raises_of x rs)
    → raises_of x (with_raise r rs) ≡ r ∷ raises_of x rs
put_first x r [] its low = rw its refl
put_first x r (q ∷ rs) its low = cond_both (may_precede r q) (r ∷ q ∷ rs) (q ∷ with_raise r rs)
    (λ l. raises_of x l ≡ r ∷ raises_of x (q ∷ rs))
    (λ _. rw its refl)
    (λ after. ⊎_elim
    (λ (e : (q.debt.0 == x) ≡ true). let least : All (λ s. r.stamp < s.stamp)
    (q ∷ raises_of x rs) = rw e at low in absurd (omega (arith, least 0 q (omega arith), follows r q after)))
    (λ (e : (q.debt.0 == x) ≡ false). rw e (put_first x r rs its (rw e at low)))
    (cases_Bool (q.debt.0 == x)))

-- raises of a debt that rise stay as they are when all are put in order
pub same_of : (x : ℕ) (rs : List Raise) → Rise (raises_of x rs) → raises_of x (ordered rs) ≡ raises_of x rs
same_of x [] rise = refl
same_of x (r ∷ rs) rise = ⊎_elim
    (λ (e : (r.debt.0 == x) ≡ true).
    let h : Rise (r ∷ raises_of x rs) = rw e at rise in
    let rest = same_of x rs (rise_rest r (raises_of x rs) h) in
    let low : All (λ s. r.stamp < s.stamp) (raises_of x (ordered rs)) =
    rw rest (λ k d l. (h 0 (suc k) d (omega arith) (omega (arith, l))).0) in
    rw e (put_first x r (ordered rs) e low ∙ ap (λ (l : List Raise). r ∷ l) rest))
    (λ (e : (r.debt.0 == x) ≡ false). rw e (put_else x r (ordered rs) e ∙ same_of x rs (rw e at rise)))
    (cases_Bool (r.debt.0 == x))

-- what holds of all raises holds of them in order
pub all_ordered : (P : Raise → Type 0) (rs : List Raise) → All P rs → All P (ordered rs)
all_ordered P rs h = All-permutation P rs (ordered rs) (ordered_moves rs) h
