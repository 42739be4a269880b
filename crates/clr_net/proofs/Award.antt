-- The next debt of each kind meets the laws of every unit rule, so awards do too.
use Rattle.std.proofs.Common.{◌≡◌, ◌↔◌, ℕ, ◌≤◌, List, length, get_or, replicate, sum, min, Option, Some, None, refl, ap, sym, subst, arith}
use Rattle.std.proofs.Math.Nat.{le_of_eq}
use Rattle.clr_net.specs.declared.rule.RuleKind.{RuleKind}
use Rattle.clr_net.specs.Amounts.{IsAtMost}
use Rattle.clr_net.specs.Division.{next_of, award}
use Rattle.clr_net.proofs.Lists.{IsAtMost_antisym, same_from_sum}
use Rattle.clr_net.proofs.Next.{IsNext, next_of_is, next_of-some}
use Rattle.clr_net.proofs.LeftOut.{next_of-remove}
use Rattle.rule_unit.specs.Awards.{IsWithin}
use Rattle.rule_unit.specs.Choice.{IsUnitChoice}
use Rattle.rule_unit.proofs.UnitByUnit as unit

-- `next_of` gives none exactly where each claim is met
pub next_of-none : (rule : RuleKind) (claims awards : List ℕ) → IsWithin claims awards
    → (next_of rule claims awards ≡ None) ↔ (awards ≡ claims)
next_of-none rule claims awards w = (
  λ e. IsAtMost_antisym awards claims w.as_many w.within (subst (λ r. IsNext claims awards r) e (next_of_is rule claims awards)),
  λ e. none_when_met claims awards (next_of rule claims awards) e (next_of_is rule claims awards),
)
  where
    none_when_met : (claims awards : List ℕ) (r : Option ℕ) → awards ≡ claims → IsNext claims awards r → r ≡ None
    none_when_met claims awards None e n = refl
    none_when_met claims awards (Some j) e n = absurd (omega (arith, n.1, ap (λ xs. get_or xs j 0) e))

-- the next debt of each kind is a choice that unit rules may make
pub kind_is_unit_choice : (kind : RuleKind) → IsUnitChoice (next_of kind)
kind_is_unit_choice kind = record {
  none_where_met = next_of-none kind;
  unmet = λ claims awards debt w e. next_of-some kind claims awards debt e;
  leaves_out_met = λ claims awards i w l e. next_of-remove kind claims awards i l w.as_many (le_of_eq (sym e));
}

-- each debt gets at most its claim
pub award_within : (rule : RuleKind) (claims : List ℕ) (e : ℕ) → IsWithin claims (award rule claims e)
award_within rule claims e = unit.award_within (next_of rule) (kind_is_unit_choice rule) claims e

-- an estate is given out whole, up to all that is claimed
pub sum_award : (rule : RuleKind) (claims : List ℕ) (e : ℕ) → sum (award rule claims e) ≡ min e (sum claims)
sum_award rule claims e = unit.sum_award (next_of rule) (kind_is_unit_choice rule) claims e

-- no award falls as the estate grows
pub award_mono : (rule : RuleKind) (claims : List ℕ) (d e : ℕ) → d ≤ e → IsAtMost (award rule claims d) (award rule claims e)
award_mono rule claims d e l = unit.awards_mono (next_of rule) claims (replicate (length claims) 0) d e l

-- where there is enough, each claim is met
pub award_full : (rule : RuleKind) (claims : List ℕ) (e : ℕ) → sum claims ≤ e → award rule claims e ≡ claims
award_full rule claims e l = same_from_sum (award rule claims e) claims (award_within rule claims e).as_many
    (award_within rule claims e).within (omega (arith, sum_award rule claims e))
