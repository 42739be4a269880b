-- A choice sees the debts that are not paid in full alone: where two pairs of lists agree on those, it is the same.
use Rattle.std.proofs.Common.{◌≡◌, ◌⊎◌, ℕ, zero, suc, ◌+◌, ◌<◌, ◌≤◌, cond, List, length, get_or, Option, refl, sym, ap, ◌∙◌, subst, inl, inr, ⊎_elim, arith, le-ltb, lt-ltb}
use Rattle.std.specs.List.{remove}
use Rattle.std.specs.Option.{option_map}
use Rattle.std.proofs.lemmas.Bool.{cases_eq, cases_lt}
use Rattle.std.proofs.lemmas.Grind.{same_number_lists}
use Rattle.std.proofs.lemmas.List.Edits.{get_or-remove_below, get_or-remove_above, length-remove}
use Rattle.rule_unit.specs.Awards.{IsWithin}
use Rattle.rule_unit.specs.Choice.{place_without, IsUnitChoice, AgreeWhereUnmet}

-- without the place i a list reads as before, one further from i on
at_removed : (xs : List ℕ) (i k : ℕ) → i < length xs → get_or (remove xs i) k 0 ≡ get_or xs (place_without i k) 0
at_removed xs i k l = ⊎_elim
    (λ (h : k < i). get_or-remove_below xs i 0 k h l ∙ sym (ap (λ b. get_or xs (cond b k (k + 1)) 0) (lt-ltb k i h)))
    (λ (h : i ≤ k). get_or-remove_above xs i 0 k h l ∙ sym (ap (λ b. get_or xs (cond b k (k + 1)) 0) (le-ltb k i h)))
    (cases_lt k i)

-- one of the first n places is paid in full, or none is
some_met : (claims awards : List ℕ) (n : ℕ) → ((i : ℕ) × (i < n) × (get_or claims i 0 ≤ get_or awards i 0))
    ⊎ ((k : ℕ) → k < n → get_or awards k 0 < get_or claims k 0)
some_met claims awards zero = inr (λ k l. absurd (omega arith))
some_met claims awards (suc n) = ⊎_elim
    (λ (met : (i : ℕ) × (i < n) × (get_or claims i 0 ≤ get_or awards i 0)). inl (met.0, omega (arith, met.1), met.2))
    (λ (unmet : (k : ℕ) → k < n → get_or awards k 0 < get_or claims k 0). ⊎_elim
    (λ (here : get_or awards n 0 < get_or claims n 0). inr (λ k l. ⊎_elim
    (λ (e : k ≡ n). subst (λ i. get_or awards i 0 < get_or claims i 0) (sym e) here)
    (λ (ne : k ≡ n → ⊥). unmet k (omega arith)) (cases_eq k n)))
    (λ (met : get_or claims n 0 ≤ get_or awards n 0). inl (n, omega arith, met))
    (cases_lt (get_or awards n 0) (get_or claims n 0)))
    (some_met claims awards n)

-- awards within the claims are so without one place of both
within_removed : (claims awards : List ℕ) (i : ℕ) → i < length claims → IsWithin claims awards
    → IsWithin (remove claims i) (remove awards i)
within_removed claims awards i l w = record {
  as_many = omega (arith, length-remove claims i l, length-remove awards i (omega (arith, w.as_many)), w.as_many);
  within = λ k. rw (at_removed awards i k (omega (arith, w.as_many)), at_removed claims i k l) (w.within (place_without i k));
}

module _ (claims awards other_claims other_awards : List ℕ) (i : ℕ) (l : i < length claims) (w : IsWithin claims awards)
    (v : IsWithin other_claims other_awards) (agree : AgreeWhereUnmet claims awards other_claims other_awards) where
  -- pairs that agree where unmet do so without one place of each
  agree_removed : AgreeWhereUnmet (remove claims i) (remove awards i) (remove other_claims i) (remove other_awards i)
  agree_removed = record {
    as_many = omega (arith, length-remove claims i l, length-remove other_claims i (omega (arith, agree.as_many)), agree.as_many);
    where_unmet = λ k u. moved k (agree.where_unmet (place_without i k) (rw (at_awards k, at_claims k) at u));
    where_other_unmet = λ k u. moved k (agree.where_other_unmet (place_without i k) (rw (at_other_awards k, at_other_claims k) at u));
  }
    where
      at_claims : (k : ℕ) → get_or (remove claims i) k 0 ≡ get_or claims (place_without i k) 0
      at_claims k = at_removed claims i k l

      at_awards : (k : ℕ) → get_or (remove awards i) k 0 ≡ get_or awards (place_without i k) 0
      at_awards k = at_removed awards i k (omega (arith, w.as_many))

      at_other_claims : (k : ℕ) → get_or (remove other_claims i) k 0 ≡ get_or other_claims (place_without i k) 0
      at_other_claims k = at_removed other_claims i k (omega (arith, agree.as_many))

      at_other_awards : (k : ℕ) → get_or (remove other_awards i) k 0 ≡ get_or other_awards (place_without i k) 0
      at_other_awards k = at_removed other_awards i k (omega (arith, agree.as_many, v.as_many))

      moved : (k : ℕ) → (get_or claims (place_without i k) 0 ≡ get_or other_claims (place_without i k) 0)
          × (get_or awards (place_without i k) 0 ≡ get_or other_awards (place_without i k) 0)
          → (get_or (remove claims i) k 0 ≡ get_or (remove other_claims i) k 0)
          × (get_or (remove awards i) k 0 ≡ get_or (remove other_awards i) k 0)
      moved k same = (at_claims k ∙ same.0 ∙ sym (at_other_claims k), at_awards k ∙ same.1 ∙ sym (at_other_awards k))

  -- a place that is met in one pair is met in the other
  other_met : get_or awards i 0 ≡ get_or claims i 0 → get_or other_awards i 0 ≡ get_or other_claims i 0
  other_met met = ⊎_elim
      (λ (u : get_or other_awards i 0 < get_or other_claims i 0).
      absurd (omega (arith, (agree.where_other_unmet i u).0, (agree.where_other_unmet i u).1)))
      (λ (m : get_or other_claims i 0 ≤ get_or other_awards i 0). omega (arith, v.within i))
      (cases_lt (get_or other_awards i 0) (get_or other_claims i 0))

module _ (choice : List ℕ → List ℕ → Option ℕ) (laws : IsUnitChoice choice) where
  -- where each place is unmet the pairs are the same, and so is the choice
  all_unmet : (claims awards other_claims other_awards : List ℕ) → ((k : ℕ) → k < length claims → get_or awards k 0 < get_or claims k 0)
      → IsWithin claims awards → IsWithin other_claims other_awards
      → AgreeWhereUnmet claims awards other_claims other_awards → choice claims awards ≡ choice other_claims other_awards
  all_unmet claims awards other_claims other_awards unmet w v agree =
      let same_claims = same_number_lists claims other_claims agree.as_many (λ k l. (agree.where_unmet k (unmet k l)).0) in
      let same_awards = same_number_lists awards other_awards (omega (arith, agree.as_many, w.as_many, v.as_many))
      (λ k l. (agree.where_unmet k (unmet k (omega (arith, w.as_many)))).1) in
      cc

  -- by how many places there are: met ones are left out one by one
  choice_agree_by : (n : ℕ) (claims awards other_claims other_awards : List ℕ) → length claims ≡ n
      → IsWithin claims awards → IsWithin other_claims other_awards
      → AgreeWhereUnmet claims awards other_claims other_awards → choice claims awards ≡ choice other_claims other_awards
  choice_agree_by zero claims awards other_claims other_awards e w v agree =
      all_unmet claims awards other_claims other_awards (λ k l. absurd (omega arith)) w v agree
  choice_agree_by (suc n) claims awards other_claims other_awards e w v agree = ⊎_elim
      (λ (met : (i : ℕ) × (i < length claims) × (get_or claims i 0 ≤ get_or awards i 0)).
      let i = met.0 in
      let here : get_or awards i 0 ≡ get_or claims i 0 = omega (arith, met.2, w.within i) in
      laws.leaves_out_met claims awards i w met.1 here
      ∙ ap (option_map (place_without i)) (choice_agree_by n (remove claims i) (remove awards i) (remove other_claims i)
      (remove other_awards i) (omega (arith, length-remove claims i met.1)) (within_removed claims awards i met.1 w)
      (within_removed other_claims other_awards i (omega (arith, met.1, agree.as_many)) v)
      (agree_removed claims awards other_claims other_awards i met.1 w v agree))
      ∙ sym (laws.leaves_out_met other_claims other_awards i v (omega (arith, met.1, agree.as_many))
      (other_met claims awards other_claims other_awards i met.1 w v agree here)))
      (λ (unmet : (k : ℕ) → k < length claims → get_or awards k 0 < get_or claims k 0).
      all_unmet claims awards other_claims other_awards unmet w v agree)
      (some_met claims awards (length claims))

  -- pairs that agree where unmet have the same choice
  pub choice_agree : (claims awards other_claims other_awards : List ℕ) → IsWithin claims awards → IsWithin other_claims other_awards
      → AgreeWhereUnmet claims awards other_claims other_awards → choice claims awards ≡ choice other_claims other_awards
  choice_agree claims awards other_claims other_awards w v agree =
      choice_agree_by (length claims) claims awards other_claims other_awards refl w v agree
