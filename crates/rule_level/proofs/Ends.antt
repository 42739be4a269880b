-- The class at which an estate ends gets what is left, and the classes above it nothing.
use Rattle.std.proofs.Common.{◌≡◌, ℕ, zero, suc, ◌+◌, ◌-◌, ◌<◌, ◌≤◌, min, List, length, get_or, sum, Option, refl, sym, ap, ◌∙◌, subst, ⊎_elim, arith}
use Rattle.std.proofs.lemmas.Bool.{cases_eq, cases_lt}
use Rattle.std.proofs.lemmas.List.{ext_get_or}
use Rattle.clr_net.specs.Division.{class_claims, next_of}
use Rattle.clr_net.specs.declared.rule.RuleKind.{RuleKind}
use Rattle.rule_class.specs.Sharing.{cleared_class}
use Rattle.rule_class.proofs.ClearedClass.{cleared_class_here, cleared_class_other, length-cleared_class}
use Rattle.rule_class.proofs.InPlace.{in_place_from, in_place_turn}
use Rattle.rule_level.specs.Gathered.{IsClearedAbove}
use Rattle.rule_unit.specs.Units.{awards_after}

-- where nothing is left, the turns of the classes above one leave nothing there
nothing_left : (choice : List ℕ → List ℕ → Option ℕ) (claims classes : List ℕ) (n c : ℕ) (had : List ℕ)
    → ((k : ℕ) → get_or classes k 0 < c + 1 + n)
    → IsClearedAbove c classes had (in_place_from choice claims classes (c + 1) n 0 had)
unfolding in_place_from awards_after
nothing_left choice claims classes zero c had below =
    record { as_many = refl; above = λ k l. absurd (omega (arith, below k)); others = λ k l. refl }
nothing_left choice claims classes (suc n) c had below =
    let cleared = cleared_class (c + 1) had classes in
    let given = min (sum (class_claims (c + 1) claims classes)) 0 in
    let none : 0 ≡ given = omega arith in
    let rest = subst
    (λ d. IsClearedAbove (c + 1) classes cleared
    (in_place_from choice claims classes (c + 1 + 1) n (0 - d) (awards_after choice claims cleared d))) none
    (nothing_left choice claims classes n (c + 1) cleared (λ k. omega (arith, below k))) in
    record {
      as_many = rest.as_many ∙ length-cleared_class (c + 1) had classes;
      above = λ k l. ⊎_elim
          (λ (e : get_or classes k 0 ≡ c + 1).
          rest.others k (omega arith) ∙ cleared_class_here (c + 1) had classes k (omega arith) e)
          (λ (ne : get_or classes k 0 ≡ c + 1 → ⊥). rest.above k (omega arith))
          (cases_eq (get_or classes k 0) (c + 1));
      others = λ k l. rest.others k (omega arith)
          ∙ cleared_class_other (c + 1) had classes k (λ e. absurd (omega arith));
    }

-- there is only one list that has nothing above a class
cleared_above_only : (c : ℕ) (classes had now other : List ℕ) → IsClearedAbove c classes had now
    → IsClearedAbove c classes had other → now ≡ other
cleared_above_only c classes had now other h g =
    ext_get_or 0 now other (h.as_many ∙ sym g.as_many) (λ k l. ⊎_elim
    (λ (a : c < get_or classes k 0). h.above k a ∙ sym (g.above k a))
    (λ (b : get_or classes k 0 ≤ c). h.others k b ∙ sym (g.others k b))
    (cases_lt c (get_or classes k 0)))

-- so the division ends there
pub ends_in_class : (kind : RuleKind) (claims classes : List ℕ) (c left : ℕ) (now last : List ℕ) → c ≤ 9
    → ((k : ℕ) → get_or classes k 0 < 10) → left ≤ sum (class_claims c claims classes)
    → now ≡ awards_after (next_of kind) claims (cleared_class c claims classes) left
    → IsClearedAbove c classes now last
    → last ≡ in_place_from (next_of kind) claims classes c (10 - c) left claims
ends_in_class kind claims classes c left now last l below short turned cleared =
    let choice = next_of kind in
    let none : 0 ≡ left - left = omega arith in
    let rest : 10 - (c + 1) ≡ 9 - c = omega arith in
    cleared_above_only c classes now last (in_place_from choice claims classes (c + 1) (9 - c) 0 now) cleared
    (nothing_left choice claims classes (9 - c) c now (λ k. omega (arith, below k)))
    ∙ ap (λ e. in_place_from choice claims classes (c + 1) (9 - c) e now) none
    ∙ ap (λ n. in_place_from choice claims classes (c + 1) n (left - left) now) (sym rest)
    ∙ in_place_turn choice claims classes c (9 - c) left left claims now (omega arith) (omega arith) turned

-- the debts before the place i have nothing where they are of classes above c
pub record IsClearedUpTo (c : ℕ) (classes had : List ℕ) (i : ℕ) (now : List ℕ) : Type 0 where
  pub as_many : length now ≡ length had
  pub above : (k : ℕ) → k < i → c < get_or classes k 0 → get_or now k 0 ≡ 0
  pub others : (k : ℕ) → get_or classes k 0 ≤ c → get_or now k 0 ≡ get_or had k 0
