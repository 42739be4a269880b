-- Units given out one by one by any choice that meets what every rule's choice meets:
-- the awards stay within the claims, all units are given out up to all that is claimed, and no award falls.
use Rattle.std.proofs.Common.{◌≡◌, ℕ, zero, suc, ◌+◌, ◌-◌, ◌<◌, ◌≤◌, min, List, length, get_or, set, replicate, sum, Option, Some, None, refl, ap, ◌∙◌, sym, subst, arith, add-one, add-zero, add-suc}
use Rattle.std.proofs.lemmas.Grind.{common_steps}
use Rattle.std.proofs.lemmas.List.{length-replicate}
use Rattle.std.proofs.lemmas.List.Folds.{sum_by-replicate}
use Rattle.rule_unit.specs.Awards.{IsAtMost, IsWithin}
use Rattle.rule_unit.specs.Choice.{IsUnitChoice}
use Rattle.rule_unit.specs.Units.{one_more, awards_after, award}
use Rattle.rule_unit.proofs.Lists.{sum-le, sum_raised, zeros_at}

-- one unit to a debt that is not paid in full
pub raised_within : (claims awards : List ℕ) (j : ℕ) → get_or awards j 0 < get_or claims j 0
    → IsWithin claims awards → IsWithin claims (set awards j (get_or awards j 0 + 1))
raised_within claims awards j m w =
    record { as_many = grind (arith, common_steps, w.as_many); within = λ k. grind (arith, common_steps, w.within k) }

-- no award falls by it
one_more_rises : (awards : List ℕ) (r : Option ℕ) → IsAtMost awards (one_more r awards)
one_more_rises awards None k = omega arith
one_more_rises awards (Some j) k = grind (arith, common_steps)

-- nothing is given out yet
pub zeros_within : (claims : List ℕ) → IsWithin claims (replicate (length claims) 0)
zeros_within claims = record { as_many = length-replicate (length claims) 0; within = λ k. omega (arith, zeros_at (length claims) k) }

-- so the awards come to 0
pub sum_zeros : (claims : List ℕ) → sum (replicate (length claims) 0) ≡ 0
sum_zeros claims = omega (arith, sum_by-replicate (λ n. n) (length claims) 0)

module _ (choice : List ℕ → List ℕ → Option ℕ) where
  -- one unit more, as code counts
  pub awards_after_one_more : (claims awards : List ℕ) (d : ℕ) → awards_after choice claims awards (d + 1)
      ≡ one_more (choice claims (awards_after choice claims awards d)) (awards_after choice claims awards d)
  unfolding awards_after
  awards_after_one_more claims awards d = ap (awards_after choice claims awards) (add-one d)

  -- e units after d units are d + e units
  pub awards_after_again : (claims awards : List ℕ) (d e : ℕ)
      → awards_after choice claims awards (d + e) ≡ awards_after choice claims (awards_after choice claims awards d) e
  unfolding awards_after
  awards_after_again claims awards d zero = ap (awards_after choice claims awards) (add-zero d)
  awards_after_again claims awards d (suc e) =
      ap (awards_after choice claims awards) (add-suc d e)
      ∙ ap (λ xs. one_more (choice claims xs) xs) (awards_after_again claims awards d e)

  -- the first of the units, for a loop that counts down
  pub awards_after_first : (claims awards : List ℕ) (d : ℕ)
      → awards_after choice claims awards (suc d) ≡ awards_after choice claims (one_more (choice claims awards) awards) d
  unfolding awards_after
  awards_after_first claims awards zero = refl
  awards_after_first claims awards (suc d) = ap (λ xs. one_more (choice claims xs) xs) (awards_after_first claims awards d)

  -- where none is chosen, further units change nothing
  pub awards_after_none : (claims awards : List ℕ) (d : ℕ) → choice claims awards ≡ None
      → awards_after choice claims awards d ≡ awards
  unfolding awards_after
  awards_after_none claims awards zero e = refl
  awards_after_none claims awards (suc d) e =
      ap (λ xs. one_more (choice claims xs) xs) (awards_after_none claims awards d e) ∙ ap (λ r. one_more r awards) e

  -- the step of a loop that gives out units: one is given out, or none is chosen any more
  pub awards_after_chosen : (claims start awards : List ℕ) (d debt : ℕ) → awards ≡ awards_after choice claims start d
      → choice claims awards ≡ Some debt → set awards debt (get_or awards debt 0 + 1) ≡ awards_after choice claims start (d + 1)
  awards_after_chosen claims start awards d debt e s =
      ap (λ r. one_more r awards) (sym s) ∙ ap (λ xs. one_more (choice claims xs) xs) e ∙ sym (awards_after_one_more claims start d)

  -- where none is chosen further units change nothing
  pub awards_after_stopped : (claims start awards : List ℕ) (d n : ℕ) → awards ≡ awards_after choice claims start d
      → choice claims awards ≡ None → d ≤ n → awards ≡ awards_after choice claims start n
  awards_after_stopped claims start awards d n e s l =
      sym (awards_after_none claims awards (n - d) s) ∙ ap (λ xs. awards_after choice claims xs (n - d)) e
      ∙ sym (awards_after_again claims start d (n - d)) ∙ ap (awards_after choice claims start) (omega arith)

  -- no award falls as more units follow
  awards_rise_by : (claims awards : List ℕ) (d e : ℕ)
      → IsAtMost (awards_after choice claims awards d) (awards_after choice claims awards (d + e))
  unfolding awards_after
  awards_rise_by claims awards d zero = λ k. rw add-zero (omega arith)
  awards_rise_by claims awards d (suc e) =
      let last = one_more_rises (awards_after choice claims awards (d + e)) (choice claims (awards_after choice claims awards (d + e))) in
      λ k. rw add-suc (omega (arith, last k, awards_rise_by claims awards d e k))

  -- no award falls as more units are given out
  pub awards_mono : (claims awards : List ℕ) (d e : ℕ) → d ≤ e
      → IsAtMost (awards_after choice claims awards d) (awards_after choice claims awards e)
  awards_mono claims awards d e l =
      subst (λ n. IsAtMost (awards_after choice claims awards d) (awards_after choice claims awards n)) (omega arith)
      (awards_rise_by claims awards d (e - d))

module _ (choice : List ℕ → List ℕ → Option ℕ) (lawful : IsUnitChoice choice) where
  -- each is still within its claim
  one_more_within : (claims awards : List ℕ) (r : Option ℕ) → choice claims awards ≡ r → IsWithin claims awards
      → IsWithin claims (one_more r awards)
  one_more_within claims awards None e w = w
  one_more_within claims awards (Some j) e w = raised_within claims awards j (lawful.unmet claims awards j w e).1 w

  -- and they come to one unit more, up to all that is claimed
  one_more_sum : (claims awards : List ℕ) (n : ℕ) (r : Option ℕ) → choice claims awards ≡ r → IsWithin claims awards
      → sum awards ≡ min n (sum claims) → sum (one_more r awards) ≡ min (suc n) (sum claims)
  one_more_sum claims awards n None e w s =
      let met = ap sum ((lawful.none_where_met claims awards w).0 e) in
      omega arith
  one_more_sum claims awards n (Some j) e w s =
      let unmet = lawful.unmet claims awards j w e in
      let raised = sum_raised awards j (omega (arith, unmet.0, w.as_many)) in
      let bounded = sum-le (set awards j (get_or awards j 0 + 1)) claims (raised_within claims awards j unmet.1 w).within in
      omega arith

  -- the awards stay within the claims
  pub awards_within : (claims awards : List ℕ) (d : ℕ) → IsWithin claims awards
      → IsWithin claims (awards_after choice claims awards d)
  unfolding awards_after
  awards_within claims awards zero w = w
  awards_within claims awards (suc d) w =
      let before = awards_after choice claims awards d in
      one_more_within claims before (choice claims before) refl (awards_within claims awards d w)

  -- all units are given out, up to all that is claimed
  pub sum_awards : (claims awards : List ℕ) (d : ℕ) → IsWithin claims awards
      → sum (awards_after choice claims awards d) ≡ min (sum awards + d) (sum claims)
  unfolding awards_after
  sum_awards claims awards zero w = omega (arith, sum-le awards claims w.within)
  sum_awards claims awards (suc d) w =
      let before = awards_after choice claims awards d in
      rw add-suc
      (one_more_sum claims before (sum awards + d) (choice claims before) refl (awards_within claims awards d w)
      (sum_awards claims awards d w))

  -- an estate is given out whole, up to all that is claimed
  pub sum_award : (claims : List ℕ) (e : ℕ) → sum (award choice claims e) ≡ min e (sum claims)
  sum_award claims e = omega (arith, sum_zeros claims, sum_awards claims (replicate (length claims) 0) e (zeros_within claims))

  -- each award is within its claim
  pub award_within : (claims : List ℕ) (e : ℕ) → IsWithin claims (award choice claims e)
  award_within claims e = awards_within claims (replicate (length claims) 0) e (zeros_within claims)
