-- Division by order: the debts of one class are filled up one after another, in file order.
use Rattle.std.proofs.Common.{◌≡◌, ℕ, zero, suc, ◌-◌, ◌<◌, ◌≤◌, true, min, List, [], ◌∷◌, length, get_or, take, sum, replicate, Option, Some, None, sym, refl, ap, ◌∙◌, ⊎_elim, arith, add-one, lt-ltb, le-ltb}
use Rattle.std.specs.Option.{option_map}
use Rattle.std.proofs.lemmas.Bool.{cases_lt, true≢false}
use Rattle.clr_net.specs.declared.rule.RuleKind.TheVariants as kind
use Rattle.clr_net.specs.Division.{is_unmet, next_of, award}
use Rattle.clr_net.proofs.Lists.{sum-cons}
use Rattle.clr_net.proofs.Next.{next_of_is_best}
use Rattle.clr_net.proofs.LeftOut.{next_of_part}
use Rattle.rule_unit.specs.Units.{one_more, awards_after}
use Rattle.rule_class.specs.ByOrder.{fill}

-- nothing fills up no debt
fill_nothing : (claims : List ℕ) → fill claims 0 ≡ replicate (length claims) 0
fill_nothing [] = refl
fill_nothing (c ∷ claims) =
    let none : min c 0 ≡ 0 = omega arith in
    let left : 0 - c ≡ 0 = omega arith in
    let rest = fill_nothing claims in
    rw (none, left, rest) refl

-- the next unit goes to the first debt that is not paid in full
next_first : (claims awards : List ℕ) (c a : ℕ) → a < c → next_of kind.Order (c ∷ claims) (a ∷ awards) ≡ Some 0
next_first claims awards c a l = next_of_is_best kind.Order (c ∷ claims) (a ∷ awards) (Some 0) record {
  in_range = omega arith;
  counts_itself = lt-ltb a c l;
  none_before = λ k m u. refl;
  before_earlier = λ k m u. absurd (omega arith);
}

-- past a debt that is paid in full, it goes to the rest
next_after : (claims awards : List ℕ) (c : ℕ)
    → next_of kind.Order (c ∷ claims) (c ∷ awards) ≡ option_map (λ j. suc j) (next_of kind.Order claims awards)
next_after claims awards c = next_of_part kind.Order (λ j. suc j) (c ∷ claims) (c ∷ awards) claims awards record {
  in_range = λ j l. omega arith;
  in_order = λ i j l m. omega arith;
  same_claim = λ j u. refl;
  same_award = λ j u. refl;
  no_other = other;
}
  where
    other : (k : ℕ) → k < length (c ∷ claims) → is_unmet (c ∷ claims) (c ∷ awards) k ≡ true
        → (j : ℕ) × (j < length claims) × (is_unmet claims awards j ≡ true) × (suc j ≡ k)
    other zero l u = absurd (true≢false (sym u ∙ le-ltb c c (omega arith)))
    other (suc j) l u = (j, omega arith, u, refl)

-- a unit to a later debt leaves the first
more_after : (r : Option ℕ) (c : ℕ) (awards : List ℕ) → one_more (option_map (λ j. suc j) r) (c ∷ awards) ≡ c ∷ one_more r awards
more_after None c awards = refl
more_after (Some j) c awards = refl

-- what the first debt gets, and what is left for the rest
fill_head : (c : ℕ) (claims : List ℕ) (e got left : ℕ) → min c e ≡ got → e - c ≡ left → fill (c ∷ claims) e ≡ got ∷ fill claims left
fill_head c claims e got left g l = ap (λ x. x ∷ fill claims (e - c)) g ∙ ap (λ n. got ∷ fill claims n) l

-- one unit more
fill_more : (claims : List ℕ) (e : ℕ) → one_more (next_of kind.Order claims (fill claims e)) (fill claims e) ≡ fill claims (suc e)
fill_more [] e = refl
fill_more (c ∷ claims) e = ⊎_elim
    (λ (l : e < c).
    ap (λ awards. one_more (next_of kind.Order (c ∷ claims) awards) awards) (fill_head c claims e e 0 (omega arith) (omega arith))
    ∙ ap (λ r. one_more r (e ∷ fill claims 0)) (next_first claims (fill claims 0) c e l)
    ∙ ap (λ x. x ∷ fill claims 0) (add-one e)
    ∙ sym (fill_head c claims (suc e) (suc e) 0 (omega arith) (omega arith)))
    (λ (g : c ≤ e).
    let rest = fill claims (e - c) in
    ap (λ awards. one_more (next_of kind.Order (c ∷ claims) awards) awards) (fill_head c claims e c (e - c) (omega arith) refl)
    ∙ ap (λ r. one_more r (c ∷ rest)) (next_after claims rest c)
    ∙ more_after (next_of kind.Order claims rest) c rest
    ∙ ap (λ awards. c ∷ awards) (fill_more claims (e - c))
    ∙ sym (fill_head c claims (suc e) c (suc (e - c)) (omega arith) (omega arith)))
    (cases_lt e c)

-- units given out by order, one by one, fill up the debts
pub award_fills : (claims : List ℕ) (e : ℕ) → award kind.Order claims e ≡ fill claims e
unfolding awards_after
award_fills claims zero = sym (fill_nothing claims)
award_fills claims (suc e) =
    ap (λ awards. one_more (next_of kind.Order claims awards) awards) (award_fills claims e) ∙ fill_more claims e

-- there is an amount for each claim
pub length-fill : (claims : List ℕ) (e : ℕ) → length (fill claims e) ≡ length claims
length-fill [] e = refl
length-fill (c ∷ claims) e = ap suc (length-fill claims (e - c))

-- what the debt in the place k gets: its claim, or what the debts before it leave
pub get_or-fill : (claims : List ℕ) (e k : ℕ) → get_or (fill claims e) k 0 ≡ min (get_or claims k 0) (e - sum (take k claims))
get_or-fill [] e k = omega arith
get_or-fill (c ∷ claims) e zero = omega (arith)
get_or-fill (c ∷ claims) e (suc k) = omega (arith, get_or-fill claims (e - c) k, sum-cons c (take k claims))
