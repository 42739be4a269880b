-- The turn of one class: its debts set to awards of their own is what as many units, given out one by one, leave.
use Rattle.std.proofs.Common.{◌≡◌, ℕ, zero, suc, ◌+◌, ◌-◌, ◌<◌, ◌≤◌, List, [], ◌∷◌, get_or, sum, refl, sym, ap, ◌∙◌, ⊎_elim, arith, zero-le}
use Rattle.std.proofs.lemmas.Bool.{cases_eq, cases_lt}
use Rattle.std.proofs.lemmas.List.{ext_get_or}
use Rattle.clr_net.specs.declared.rule.RuleKind.{RuleKind}
use Rattle.clr_net.specs.Division.{next_of, class_claims}
use Rattle.rule_class.specs.Sharing.{cleared_class}
use Rattle.clr_net.proofs.Lists.{sum-cons}
use Rattle.clr_net.proofs.Award.{award_full, kind_is_unit_choice}
use Rattle.clr_net.proofs.Classes.{class_claims_here}
use Rattle.rule_unit.specs.Awards.{IsWithin}
use Rattle.rule_unit.specs.Units.{awards_after, award}
use Rattle.rule_class.proofs.Turn.{turn_after}
use Rattle.rule_class.specs.ClassSet.{IsClassSet}
use Rattle.rule_level.specs.Levels.{level_awards, awards_above}
use Rattle.rule_level.proofs.Above.{award_by_level}
use Rattle.rule_unit.specs.declared.TheConstants.{MAX_CLAIM}

-- no amount is above the sum of all
at_most_sum : (xs : List ℕ) (k : ℕ) → get_or xs k 0 ≤ sum xs
at_most_sum [] k = zero-le
at_most_sum (x ∷ xs) zero = omega (arith, sum-cons x xs)
at_most_sum (x ∷ xs) (suc k) = omega (arith, sum-cons x xs, at_most_sum xs k)

module _ (kind : RuleKind) (claims classes : List ℕ) (c : ℕ) (positive : 0 < c) (had : List ℕ) (w : IsWithin claims had)
    (left : ℕ) (met : 0 < left → had ≡ claims) where
  -- the claims of the class
  abbrev mine : List ℕ
  mine = class_claims c claims classes

  -- what had is with d units given out in the class
  abbrev turned : ℕ → List ℕ
  turned d = awards_after (next_of kind) claims (cleared_class c had classes) d

  -- debts set to the award of d units are those after d turns
  set_is_turned : (own now : List ℕ) (d : ℕ) → d ≤ left → own ≡ award (next_of kind) mine d → IsClassSet c classes own had now
      → now ≡ turned d
  set_is_turned own now d l e s =
      let t : IsClassSet c classes (award (next_of kind) mine d) had (turned d) =
      turn_after (next_of kind) (kind_is_unit_choice kind) claims classes c positive had left d w
      (λ p k. ap (λ xs. get_or xs k 0) (met p)) l in
      ext_get_or 0 now (turned d) (s.as_many ∙ sym t.as_many) (λ k m. ⊎_elim
      (λ (i : get_or classes k 0 ≡ c). s.here k i ∙ ap (λ xs. get_or xs k 0) e ∙ sym (t.here k i))
      (λ (ne : get_or classes k 0 ≡ c → ⊥). s.others k ne ∙ sym (t.others k ne))
      (cases_eq (get_or classes k 0) c))

  -- where there is enough for the class, its debts keep their claims
  pub full_turn : sum mine ≤ left → had ≡ turned (sum mine)
  full_turn l =
      set_is_turned mine had (sum mine) l
      (sym (award_full kind mine (sum mine) (omega arith)))
      (record { as_many = refl; here = here; others = λ k ne. refl })
    where
      here : (k : ℕ) → get_or classes k 0 ≡ c → get_or had k 0 ≡ get_or mine k 0
      here k s = ⊎_elim
          (λ (p : 0 < left). ap (λ xs. get_or xs k 0) (met p) ∙ sym (class_claims_here c claims classes k positive s))
          (λ (z : left ≤ 0). omega (arith, at_most_sum mine k, w.within k, class_claims_here c claims classes k positive s))
          (cases_lt 0 left)

  -- set to awards at a level and above it, that come to all there is
  pub level_turn : (t : ℕ) (now : List ℕ) → ((k : ℕ) → get_or mine k 0 ≤ MAX_CLAIM)
      → sum (level_awards kind t mine) ≤ left → left ≤ sum (level_awards kind (t + 1) mine)
      → IsClassSet c classes (awards_above kind t (left - sum (level_awards kind t mine)) mine) had now
      → now ≡ turned left
  level_turn t now limit low high s =
      set_is_turned (awards_above kind t (left - sum (level_awards kind t mine)) mine) now left (omega arith)
      (award_by_level kind t left mine limit low high) s
