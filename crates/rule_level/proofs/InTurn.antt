-- Awards that are given in turn are the award of their sum.
use Rattle.std.proofs.Common.{◌≡◌, ℕ, zero, suc, ◌+◌, ◌-◌, ◌*◌, ◌<◌, ◌≤◌, true, List, [], ◌∷◌, length, get_or, sum, Option, Some, None, sym, ap, ◌⊎◌, ◌∙◌, ⊎_elim, arith, mul-le-mul_left}
use Rattle.std.proofs.lemmas.Grind.{common_steps}
use Rattle.std.proofs.lemmas.Bool.{cases_lt, cases_order, ltb-true, lt-ltb, true≢false}
use Rattle.clr_net.specs.declared.rule.RuleKind.{RuleKind}
use Rattle.clr_net.specs.declared.rule.RuleKind.TheVariants as kind
use Rattle.clr_net.specs.Amounts.{IsAtMost}
use Rattle.clr_net.specs.Division.{goes_before, is_unmet, precedes, next_of, award}
use Rattle.rule_unit.specs.Awards.{IsWithin}
use Rattle.rule_unit.specs.Units.{one_more, awards_after}
use Rattle.clr_net.proofs.Lists.{sum-cons, sum-le, same_from_sum, zeros_at}
use Rattle.clr_net.proofs.Best.{IsBest}
use Rattle.clr_net.proofs.Next.{IsNextSoFar, next_of_best}
use Rattle.clr_net.proofs.LeftOut.{unmet_in_range}
use Rattle.clr_net.proofs.Award.{award_within, sum_award}
use Rattle.rule_level.specs.InTurn.{IsInTurn}

-- what goes before a unit of a debt goes before each later unit of it
pub goes_before_later : (rule : RuleKind) (c k d m n : ℕ) → m ≤ n → goes_before rule c k d m ≡ true → goes_before rule c k d n ≡ true
goes_before_later kind.Order c k d m n l h = h
goes_before_later kind.Equal c k d m n l h = lt-ltb k n (omega (arith, ltb-true k m h))
goes_before_later kind.Losses c k d m n l h = lt-ltb (d - n) (c - k) (omega (arith, ltb-true (d - m) (c - k) h))
goes_before_later kind.Jefferson c k d m n l h =
    lt-ltb (d * (k + 1)) (c * (n + 1)) (omega (arith, ltb-true (d * (k + 1)) (c * (m + 1)) h, mul-le-mul_left c l))
goes_before_later kind.Webster c k d m n l h =
    lt-ltb (d * (2 * k + 1)) (c * (2 * n + 1)) (omega (arith, ltb-true (d * (2 * k + 1)) (c * (2 * m + 1)) h, mul-le-mul_left c l))
goes_before_later kind.Adams c k d m n l h = lt-ltb (d * k) (c * n) (omega (arith, ltb-true (d * k) (c * m) h, mul-le-mul_left c l))

-- where a unit of a debt goes before another debt's, so does each earlier unit of it
goes_before_sooner : (rule : RuleKind) (c k l d m : ℕ) → k ≤ l → goes_before rule c l d m ≡ true → goes_before rule c k d m ≡ true
goes_before_sooner kind.Order c k l d m e h = h
goes_before_sooner kind.Equal c k l d m e h = lt-ltb k m (omega (arith, ltb-true l m h))
goes_before_sooner kind.Losses c k l d m e h = lt-ltb (d - m) (c - k) (omega (arith, ltb-true (d - m) (c - l) h))
goes_before_sooner kind.Jefferson c k l d m e h =
    lt-ltb (d * (k + 1)) (c * (m + 1)) (omega (arith, ltb-true (d * (l + 1)) (c * (m + 1)) h, mul-le-mul_left d e))
goes_before_sooner kind.Webster c k l d m e h =
    lt-ltb (d * (2 * k + 1)) (c * (2 * m + 1)) (omega (arith, ltb-true (d * (2 * l + 1)) (c * (2 * m + 1)) h, mul-le-mul_left d e))
goes_before_sooner kind.Adams c k l d m e h = lt-ltb (d * k) (c * m) (omega (arith, ltb-true (d * l) (c * m) h, mul-le-mul_left d e))

-- of two lists with different sums, the one is below the other in some place
some_below : (xs ys : List ℕ) → sum xs < sum ys → (i : ℕ) × (get_or xs i 0 < get_or ys i 0)
some_below xs [] l = absurd (omega arith)
some_below [] (y ∷ ys) l = ⊎_elim
    (λ (h : 0 < y). (0, h))
    (λ (h : y ≤ 0). let rest = some_below [] ys (omega (arith, sum-cons y ys)) in (suc rest.0, rest.1))
    (cases_lt 0 y)
some_below (x ∷ xs) (y ∷ ys) l = ⊎_elim
    (λ (h : x < y). (0, h))
    (λ (h : y ≤ x). let rest = some_below xs ys (omega (arith, sum-cons x xs, sum-cons y ys)) in (suc rest.0, rest.1))
    (cases_lt x y)

module _ (rule : RuleKind) (claims awards : List ℕ) (w : IsWithin claims awards) (t : IsInTurn rule claims awards) where
  -- awards that are at most these, with fewer units in all: the debt that is next has got fewer units than these give it
  next_is_given : (now : List ℕ) (j : ℕ) → IsAtMost now awards → sum now < sum awards
      → IsBest (is_unmet claims now) (precedes rule claims now) (length claims) j → get_or now j 0 < get_or awards j 0
  next_is_given now j h s f = ⊎_elim
      (λ (l : get_or now j 0 < get_or awards j 0). l)
      (λ (g : get_or awards j 0 ≤ get_or now j 0). absurd (given (omega (arith, h j))))
      (cases_lt (get_or now j 0) (get_or awards j 0))
    where
      below : (i : ℕ) × (get_or now i 0 < get_or awards i 0)
      below = some_below now awards s

      given : get_or now j 0 ≡ get_or awards j 0 → ⊥
      given e =
          let i = below.0 in
          let ci = get_or claims i 0 in
          let cj = get_or claims j 0 in
          let last : get_or now i 0 ≤ get_or awards i 0 - 1 = omega (arith, below.1) in
          let some : 0 < get_or awards i 0 = omega (arith, below.1) in
          let unmet : is_unmet claims now i ≡ true = lt-ltb (get_or now i 0) ci (omega (arith, below.1, w.within i)) in
          let j_unmet : get_or awards j 0 < cj = omega (arith, e, ltb-true (get_or now j 0) cj f.counts_itself) in
          ⊎_elim
          (λ (s : i ≡ j). omega (arith, below.1, e, ap (λ k. get_or now k 0) s, ap (λ k. get_or awards k 0) s))
          (λ (o : (i < j) ⊎ (j < i)). ⊎_elim
          (λ (l : i < j).
          let first : goes_before rule cj (get_or now j 0) ci (get_or now i 0) ≡ true = f.before_earlier i l unmet in
          let later : goes_before rule cj (get_or now j 0) ci (get_or awards i 0 - 1) ≡ true =
          goes_before_later rule cj (get_or now j 0) ci (get_or now i 0) (get_or awards i 0 - 1) last first in
          true≢false (sym later ∙ ap (λ m. goes_before rule cj m ci (get_or awards i 0 - 1)) e ∙ t.none_before i j some j_unmet))
          (λ (l : j < i).
          let given_first : goes_before rule ci (get_or awards i 0 - 1) cj (get_or awards j 0) ≡ true = t.earlier_at_tie i j l some j_unmet in
          let sooner : goes_before rule ci (get_or now i 0) cj (get_or awards j 0) ≡ true =
          goes_before_sooner rule ci (get_or now i 0) (get_or awards i 0 - 1) cj (get_or awards j 0) last given_first in
          true≢false (sym sooner ∙ sym (ap (λ m. goes_before rule ci (get_or now i 0) cj m) e)
          ∙ f.none_before i (unmet_in_range claims now i unmet) unmet))
          o)
          (cases_order i j)

  -- the next unit stays at or below awards that are given in turn
  one_more_at_most : (now : List ℕ) (r : Option ℕ) → IsAtMost now awards → sum now < sum awards
      → IsNextSoFar rule claims now (length claims) r → IsAtMost (one_more r now) awards
  one_more_at_most now None h s f = h
  one_more_at_most now (Some j) h s f =
      let given = next_is_given now j h s f in
      λ k. grind (arith, common_steps, h k, given)

  -- so does the award of at most their sum
  award_at_most : (e : ℕ) → e ≤ sum awards → IsAtMost (award rule claims e) awards
  unfolding awards_after
  award_at_most zero l = λ k. omega (arith, zeros_at (length claims) k)
  award_at_most (suc e) l =
      let now = award rule claims e in
      one_more_at_most now (next_of rule claims now) (award_at_most e (omega arith))
      (omega (arith, sum_award rule claims e, sum-le awards claims w.within)) (next_of_best rule claims now)

  -- and the award of their sum is they themselves
  pub award_in_turn : awards ≡ award rule claims (sum awards)
  award_in_turn =
      let all = award rule claims (sum awards) in
      sym (same_from_sum all awards ((award_within rule claims (sum awards)).as_many ∙ sym w.as_many) (award_at_most (sum awards) (omega arith))
      (omega (arith, sum_award rule claims (sum awards), sum-le awards claims w.within)))
