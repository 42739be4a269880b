-- What laws on cycles, files, journals and awards ask for, met at concrete networks.
use Rattle.std.proofs.Common.{◌≡◌, ℕ, zero, suc, ◌<◌, true, false, [], ◌∷◌, get_or, refl}
use Rattle.std.proofs.Common.{arith, lit<, lit≤, rules}
use Rattle.std.specs.Prelude.{slice_index}
use Rattle.clr_net.specs.Amounts.{IsAtMost}
use Rattle.clr_net.specs.Net.{class_of}
use Rattle.clr_net.specs.Samples.{chain}
use Rattle.clr_net.specs.declared.rule.RuleKind.TheVariants as kind
use Rattle.rule_unit.specs.Awards.{IsWithin}
use Rattle.rule_level.specs.InTurn.{IsInTurn, next_before_last, last_before_next}
use Rattle.compress.specs.Compression.{HasNoCycle}
use Rattle.compress.specs.Lowering.{CanLower}
use Rattle.net_csv.specs.Printing.{KeepsNames}
use Rattle.net_check.specs.Field.{trimmed_start}
use Rattle.net_check.specs.Within.{IsWithin as IsWithinLimits}
use Rattle.net_check.specs.declared.limits.Limits.TheVariants as limits
use Rattle.raise_journal.specs.Cases.{verdict_on_literals}
use Rattle.raise_journal.specs.ReadBack.{IsInLimits}
use Rattle.raise_journal.specs.Verdicts.{judged}
use Rattle.raise_journal.specs.declared.verdict.Verdict.TheVariants as verdict
use Rattle.law_tests.specs.Nets.{two_ordered, cycle, left}
use Rattle.law_tests.proofs.AtMost.{at_most}

-- each of the claims 5, 3 and 4 can be lowered by 3
pub can_lower : CanLower (5 ∷ 3 ∷ 4 ∷ []) 3 (0 ∷ 1 ∷ 2 ∷ [])
can_lower = (lit< tt, lit≤ tt, (lit< tt, lit≤ tt, (lit< tt, lit≤ tt, tt)))

-- the three debts are of class 1
pub of_class_1 : (k : ℕ) → k < 3 → class_of cycle (slice_index (0 ∷ 1 ∷ 2 ∷ []) k) ≡ 1
of_class_1 zero l = refl
of_class_1 (suc zero) l = refl
of_class_1 (suc (suc zero)) l = refl
of_class_1 (suc (suc (suc k))) l = absurd (omega arith)

-- with claims of 5, 3 and 4 there is a cycle in class 1
pub runs_round : HasNoCycle cycle (5 ∷ 3 ∷ 4 ∷ []) 1 → ⊥
runs_round none = (none 0 0 (1 ∷ 2 ∷ [])
    (search (rules, lit<)) (refl, (refl, (refl, refl))))

-- what is left of the claims is at most the claims
pub left_below : IsAtMost left (5 ∷ 3 ∷ 4 ∷ [])
left_below = at_most left (5 ∷ 3 ∷ 4 ∷ []) refl

-- nothing is to be trimmed of the chain's names
pub keeps : KeepsNames chain
unfolding trimmed_start
keeps zero l = refl
keeps (suc zero) l = refl
keeps (suc (suc zero)) l = refl
keeps (suc (suc (suc i))) l = absurd (omega arith)

-- the chain is within the standard limits
pub chain_is_small : IsWithinLimits limits.Standard chain
chain_is_small = record { banks = lit≤ tt; debts = lit≤ tt; owed = lit≤ tt }

-- the two raises are within the limits of a journal
pub in_limits : IsInLimits limits.Standard chain two_ordered
in_limits = record {
  few = lit≤ tt;
  debts = search rules;
  stamps = search rules;
  amounts = search rules;
}

-- the two raises in order are judged lawful
pub is_lawful : (judged chain two_ordered).verdict ≡ verdict.Lawful
unfolding verdict_on_literals
is_lawful = refl

-- awards of 3, 2 and 0 are within claims of 6, 3 and 1
pub within : IsWithin (6 ∷ 3 ∷ 1 ∷ []) (3 ∷ 2 ∷ 0 ∷ [])
within = record { as_many = refl; within = at_most (3 ∷ 2 ∷ 0 ∷ []) (6 ∷ 3 ∷ 1 ∷ []) refl }

-- by webster no unit that is lacking goes before one that was given
none_before : (i j : ℕ) → 0 < get_or (3 ∷ 2 ∷ 0 ∷ []) i 0
    → get_or (3 ∷ 2 ∷ 0 ∷ []) j 0 < get_or (6 ∷ 3 ∷ 1 ∷ []) j 0
    → next_before_last kind.Webster (6 ∷ 3 ∷ 1 ∷ []) (3 ∷ 2 ∷ 0 ∷ []) j i ≡ false
none_before zero zero l m = refl
none_before zero (suc zero) l m = refl
none_before zero (suc (suc zero)) l m = refl
none_before zero (suc (suc (suc j))) l m = absurd (omega arith)
none_before (suc zero) zero l m = refl
none_before (suc zero) (suc zero) l m = refl
none_before (suc zero) (suc (suc zero)) l m = refl
none_before (suc zero) (suc (suc (suc j))) l m = absurd (omega arith)
none_before (suc (suc zero)) j l m = absurd (omega arith)
none_before (suc (suc (suc i))) j l m = absurd (omega arith)

-- and at a tie none that is lacking is of an earlier claim
at_tie : (i j : ℕ) → j < i → 0 < get_or (3 ∷ 2 ∷ 0 ∷ []) i 0
    → get_or (3 ∷ 2 ∷ 0 ∷ []) j 0 < get_or (6 ∷ 3 ∷ 1 ∷ []) j 0
    → last_before_next kind.Webster (6 ∷ 3 ∷ 1 ∷ []) (3 ∷ 2 ∷ 0 ∷ []) i j ≡ true
at_tie zero j o l m = absurd (omega arith)
at_tie (suc zero) zero o l m = refl
at_tie (suc zero) (suc j) o l m = absurd (omega arith)
at_tie (suc (suc zero)) j o l m = absurd (omega arith)
at_tie (suc (suc (suc i))) j o l m = absurd (omega arith)

-- so the awards of 3, 2 and 0 were given in turn
pub in_turn : IsInTurn kind.Webster (6 ∷ 3 ∷ 1 ∷ []) (3 ∷ 2 ∷ 0 ∷ [])
in_turn = record { none_before = none_before; earlier_at_tie = at_tie }
