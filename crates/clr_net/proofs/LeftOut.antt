-- Places that are met may be left out, or filled with anything that is met: the next place stays the same.
use Rattle.std.proofs.Common.{◌≡◌, ◌≢◌, ℕ, ◌-◌, ◌<◌, ◌≤◌, true, List, length, get_or, Option, Some, None, sym, refl, ap, ◌∙◌, ⊎_elim, arith, le-ltb}
use Rattle.std.specs.List.{remove}
use Rattle.std.specs.Option.{option_map}
use Rattle.std.proofs.lemmas.Bool.Decides.{nat_tests}
use Rattle.std.proofs.lemmas.Bool.{false_from_ne_true, cases_lt, cases_order, true≢false}
use Rattle.std.proofs.lemmas.List.{get_or_past}
use Rattle.std.proofs.lemmas.List.Edits.{get_or-remove_below, get_or-remove_above, length-remove}
use Rattle.clr_net.specs.declared.rule.RuleKind.{RuleKind}
use Rattle.clr_net.specs.Division.{is_unmet, precedes, next_of}
use Rattle.rule_unit.specs.Choice.{place_without}
use Rattle.clr_net.proofs.Next.{IsNextSoFar, next_of_is_best, next_of_best}

-- the place j of some lists stands for the place f j of others, and the other places of those are met
pub record IsPartOf (f : ℕ → ℕ) (claims awards part_claims part_awards : List ℕ) : Type 0 where
  pub in_range : (j : ℕ) → j < length part_claims → f j < length claims
  pub in_order : (i j : ℕ) → i < j → j < length part_claims → f i < f j
  pub same_claim : (j : ℕ) → is_unmet part_claims part_awards j ≡ true → get_or claims (f j) 0 ≡ get_or part_claims j 0
  pub same_award : (j : ℕ) → is_unmet part_claims part_awards j ≡ true → get_or awards (f j) 0 ≡ get_or part_awards j 0
  pub no_other : (k : ℕ) → k < length claims → is_unmet claims awards k ≡ true
      → (j : ℕ) × (j < length part_claims) × (is_unmet part_claims part_awards j ≡ true) × (f j ≡ k)

module _ (rule : RuleKind) (f : ℕ → ℕ) (claims awards part_claims part_awards : List ℕ)
    (part : IsPartOf f claims awards part_claims part_awards) where
  -- an unmet place of the part stands for an unmet place of the whole
  same_unmet : (j : ℕ) → is_unmet part_claims part_awards j ≡ true → is_unmet claims awards (f j) ≡ true
  same_unmet j u = let c = part.same_claim j u in let a = part.same_award j u in cc

  -- of two such places the same goes first in both
  same_precedes : (i j : ℕ) → is_unmet part_claims part_awards i ≡ true → is_unmet part_claims part_awards j ≡ true
      → precedes rule claims awards (f i) (f j) ≡ precedes rule part_claims part_awards i j
  same_precedes i j u v =
      let c = part.same_claim i u in
      let a = part.same_award i u in
      let d = part.same_claim j v in
      let b = part.same_award j v in
      rw (c, a, d, b) refl

  -- the best so far of the part stands for the best so far of the whole
  part_best : (r : Option ℕ) → IsNextSoFar rule part_claims part_awards (length part_claims) r
      → IsNextSoFar rule claims awards (length claims) (option_map f r)
  part_best None none =
      λ k l. false_from_ne_true _ (λ u. let j = part.no_other k l u in true≢false
      (sym j.2 ∙ none j.0 j.1))
  part_best (Some b) best = record {
    in_range = part.in_range b best.in_range;
    counts_itself = same_unmet b best.counts_itself;
    none_before = λ k l u. let j = part.no_other k l u in
        rw (← j.3) (same_precedes j.0 b j.2 best.counts_itself ∙ best.none_before j.0 j.1 j.2);
    before_earlier =
        λ k l u. let j = part.no_other k (omega (arith, part.in_range b best.in_range)) u in
        rw (← j.3) (same_precedes b j.0 best.counts_itself j.2
        ∙ best.before_earlier j.0 (earlier j.0 k j.1 j.3 l) j.2);
  }
    where
      earlier : (j k : ℕ) → j < length part_claims → f j ≡ k → k < f b → j < b
      earlier j k l e m = grind (arith, part.in_order b j, cases_order j b, ap f)

  -- the next place of the whole lists is the one that the next place of the part stands for
  pub next_of_part : next_of rule claims awards ≡ option_map f (next_of rule part_claims part_awards)
  next_of_part = next_of_is_best rule claims awards (option_map f (next_of rule part_claims part_awards))
      (part_best (next_of rule part_claims part_awards) (next_of_best rule part_claims part_awards))

-- only a place with a claim is unmet
pub unmet_in_range : (claims awards : List ℕ) (j : ℕ) → is_unmet claims awards j ≡ true → j < length claims
unmet_in_range claims awards j u = grind (arith, get_or_past claims j 0, cases_lt j (length claims))

-- a place that is met may be removed
pub next_of-remove : (rule : RuleKind) (claims awards : List ℕ) (i : ℕ) → i < length claims → length awards ≡ length claims
    → get_or claims i 0 ≤ get_or awards i 0
    → next_of rule claims awards ≡ option_map (place_without i) (next_of rule (remove claims i) (remove awards i))
next_of-remove rule claims awards i l e m = next_of_part rule (place_without i) claims awards (remove claims i) (remove awards i) part
  where
    at_removed : (xs : List ℕ) (j : ℕ) → length xs ≡ length claims → get_or xs (place_without i j) 0 ≡ get_or (remove xs i) j 0
    at_removed xs j s =
        grind (
          arith,
          nat_tests,
          get_or-remove_below xs i 0,
          get_or-remove_above xs i 0,
          cases_lt j
              i,
        )

    same_place : (k : ℕ) → k ≢ i → (j : ℕ) × (place_without i j ≡ k)
    same_place k ne =
        ⊎_elim (λ (h : k < i). (k, grind (arith, nat_tests)))
        (λ (h : i ≤ k). (k - 1, grind (arith, nat_tests))) (cases_lt k i)

    part : IsPartOf (place_without i) claims awards (remove claims i) (remove awards i)
    part = record {
      in_range = λ j h. grind (arith, length-remove claims i l, nat_tests);
      in_order = λ a b h k. grind (arith, nat_tests);
      same_claim = λ j u. at_removed claims j refl;
      same_award = λ j u. at_removed awards j e;
      no_other = λ k h u.
          let j = same_place k (λ s. true≢false
          (sym u ∙ ap (is_unmet claims awards) s
          ∙ le-ltb (get_or awards i 0) (get_or claims i 0) m)) in
          let c = at_removed claims j.0 refl in
          let a = at_removed awards j.0 e in
          let unmet : is_unmet (remove claims i) (remove awards i) j.0 ≡ true = rw (← c, ← a, j.1) u in
          (j.0, unmet_in_range (remove claims i) (remove awards i) j.0 unmet, unmet, j.1);
    }
