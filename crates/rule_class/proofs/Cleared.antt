-- The places of a class set to 0, one after the other.
use Rattle.std.proofs.Common.{◌≡◌, ℕ, zero, suc, ◌+◌, ◌<◌, ◌≤◌, ◌==◌, cond, List, [], ◌∷◌, length, get_or, set, refl, sym, ap, ◌∙◌, subst, ⊎_elim, arith, eq-eqb, ne_eqb}
use Rattle.std.proofs.lemmas.Grind.{common_steps}
use Rattle.std.proofs.lemmas.Bool.{cases_eq}
use Rattle.rule_class.specs.Sharing.{cleared_class}

-- in each place stands 0 if it is of the class, and else what stood there
cleared_at : (c : ℕ) (had classes : List ℕ) (k : ℕ) → length had ≡ length classes → k < length classes
    → get_or (cleared_class c had classes) k 0 ≡ cond (get_or classes k 0 == c) 0 (get_or had k 0)
cleared_at c [] classes k e l = absurd (omega arith)
cleared_at c (x ∷ had) [] k e l = absurd (omega arith)
cleared_at c (x ∷ had) (m ∷ classes) zero e l = refl
cleared_at c (x ∷ had) (m ∷ classes) (suc k) e l = cleared_at c had classes k (omega arith) (omega arith)

-- the places below i are done
pub record IsClearedTo (c : ℕ) (had classes : List ℕ) (i : ℕ) (now : List ℕ) : Type 0 where
  pub as_many : length now ≡ length had
  pub done : (k : ℕ) → k < i → get_or now k 0 ≡ get_or (cleared_class c had classes) k 0
  pub to_do : (k : ℕ) → i ≤ k → get_or now k 0 ≡ get_or had k 0

module _ (c : ℕ) (had classes : List ℕ) (i : ℕ) (now : List ℕ) (e : length had ≡ length classes) (l : i < length classes)
    (h : IsClearedTo c had classes i now) where
  -- a place of the class is set to 0
  pub cleared_here : get_or classes i 0 ≡ c → IsClearedTo c had classes (i + 1) (set now i 0)
  cleared_here same = record {
    as_many = grind (arith, common_steps, h.as_many);
    done = λ k m. ⊎_elim
        (λ (s : k ≡ i). subst (λ j. get_or (set now i 0) j 0 ≡ get_or (cleared_class c had classes) j 0) (sym s)
        (grind (arith, common_steps, zero_here, e, l, h.as_many)))
        (λ (ne : k ≡ i → ⊥). grind (arith, common_steps, h.done k (omega arith)))
        (cases_eq k i);
    to_do = λ k m. grind (arith, common_steps, h.to_do k (omega arith));
  }
    where
      zero_here : get_or (cleared_class c had classes) i 0 ≡ 0
      zero_here = cleared_at c had classes i e l ∙ ap (λ b. cond b 0 (get_or had i 0)) (eq-eqb (get_or classes i 0) c same)

  -- a place of another class stays
  pub cleared_not_here : (get_or classes i 0 ≡ c → ⊥) → IsClearedTo c had classes (i + 1) now
  cleared_not_here other = record {
    as_many = h.as_many;
    done = λ k m. ⊎_elim
        (λ (s : k ≡ i). subst (λ j. get_or now j 0 ≡ get_or (cleared_class c had classes) j 0) (sym s)
        (h.to_do i (omega arith) ∙ sym kept_here))
        (λ (ne : k ≡ i → ⊥). h.done k (omega arith))
        (cases_eq k i);
    to_do = λ k m. h.to_do k (omega arith);
  }
    where
      kept_here : get_or (cleared_class c had classes) i 0 ≡ get_or had i 0
      kept_here = cleared_at c had classes i e l ∙ ap (λ b. cond b 0 (get_or had i 0)) (ne_eqb (get_or classes i 0) c other)
