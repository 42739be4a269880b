-- Counts of faults that rise.
use Rattle.std.proofs.Common.{◌≡◌, ◌≢◌, ◌<◌, ◌≤◌, ⊎_elim, inl, inr, ℕ, ◌+◌, cond, List, [], ◌∷◌, ◌++◌, bytes_eq, refl, sym, ◌∙◌, ap, arith}
use Rattle.std.specs.List.{count_by}
use Rattle.std.proofs.lemmas.Bool.{cond-true, cond-false, false_from_ne_true}
use Rattle.std.proofs.lemmas.List.Sums.{sum_by-append}
use Rattle.std.proofs.lemmas.Slice.Eq.{bytes_eq-Decides}
use Rattle.clr_edge.specs.Faults.{HasRisen}

-- how often a name is noted
abbrev pub count_of : List (List ℕ) → List ℕ → ℕ
count_of noted name = count_by (λ other. bytes_eq other name) noted

-- one more note counts for its name
pub count_of-push : (noted : List (List ℕ)) (name other : List ℕ) → count_of (noted ++ name ∷ []) other ≡ count_of noted other + cond (bytes_eq name other) 1 0
count_of-push noted name other =
    let split = sum_by-append (λ (m : List ℕ). cond (bytes_eq m other) 1 0) noted (name ∷ []) in
    omega (arith, split)

module _ (before after : List (List ℕ)) (name : List ℕ) (is : after ≡ before ++ name ∷ []) where
  -- it has risen at the name
  pub risen_at_name : HasRisen (count_of before name) (count_of after name)
  risen_at_name =
      let one : cond {A = ℕ} (bytes_eq name name) 1 0 ≡ 1 = cond-true _ _ _ ((bytes_eq-Decides name name).1 refl) in
      let more : count_of after name ≡ count_of before name + 1 =
      ap (λ (noted : List (List ℕ)). count_of noted name) is ∙ count_of-push before name name ∙ ap (λ (n : ℕ). count_of before name + n) one in
      inl (omega (arith, more))

  -- and at no other
  pub same_elsewhere : (other : List ℕ) → other ≢ name → count_of after other ≡ count_of before other
  same_elsewhere other differs =
      let none : cond {A = ℕ} (bytes_eq name other) 1 0 ≡ 0 =
      cond-false _ _ _ (false_from_ne_true _ (λ same. differs (sym ((bytes_eq-Decides name other).0 same)))) in
      let more : count_of after other ≡ count_of before other + 0 =
      ap (λ (noted : List (List ℕ)). count_of noted other) is ∙ count_of-push before name other ∙ ap (λ (n : ℕ). count_of before other + n) none in
      omega (arith, more)

-- a rise since a later moment is one since an earlier
pub risen_since : (a b c : ℕ) → a ≤ b → HasRisen b c → HasRisen a c
risen_since a b c l h = ⊎_elim (λ (r : b < c). inl (omega arith)) (λ r. inr r) h
