-- The turn of one class, in one list of awards: its places are set to 0 and given its units one by one,
-- each to the debt that is chosen of the whole list, while the places of other classes are paid in full.
use Rattle.std.proofs.Common.{◌≡◌, ℕ, zero, suc, ◌<◌, ◌≤◌, List, length, get_or, Option, Some, None, sym, refl, ◌∙◌, subst, ⊎_elim, arith}
use Rattle.std.proofs.lemmas.Grind.{common_steps}
use Rattle.std.proofs.lemmas.Bool.{cases_eq}
use Rattle.clr_net.specs.Division.{class_claims}
use Rattle.rule_class.specs.Sharing.{cleared_class}
use Rattle.clr_net.proofs.Lists.{zeros_at}
use Rattle.clr_net.proofs.Classes.{length-class_claims, class_claims_here, class_claims_other}
use Rattle.rule_class.specs.ClassSet.{IsClassSet}
use Rattle.rule_class.proofs.ClearedClass.{length-cleared_class, cleared_class_here, cleared_class_other}
use Rattle.rule_unit.specs.Awards.{IsWithin}
use Rattle.rule_unit.specs.Choice.{IsUnitChoice, AgreeWhereUnmet}
use Rattle.rule_unit.specs.Units.{one_more, awards_after, award}
use Rattle.rule_unit.proofs.LeftOut.{choice_agree}
use Rattle.rule_unit.proofs.UnitByUnit.{awards_within, award_within}

-- within the claims, and still so with the places of a class set to 0
pub cleared_within : (c : ℕ) (claims awards classes : List ℕ) → 0 < c → IsWithin claims awards
    → IsWithin claims (cleared_class c awards classes)
cleared_within c claims awards classes p w = record {
  as_many = length-cleared_class c awards classes ∙ w.as_many;
  within = λ k. ⊎_elim
      (λ (e : get_or classes k 0 ≡ c). omega (arith, cleared_class_here c awards classes k p e))
      (λ (ne : get_or classes k 0 ≡ c → ⊥). omega (arith, cleared_class_other c awards classes k ne, w.within k))
      (cases_eq (get_or classes k 0) c);
}

module _ (choice : List ℕ → List ℕ → Option ℕ) (lawful : IsUnitChoice choice) (claims classes : List ℕ) (c : ℕ) (positive : 0 < c) where
  -- the claims of the class
  abbrev mine : List ℕ
  mine = class_claims c claims classes

  -- with its places at 0 none of its units is given yet
  turn_starts : (had : List ℕ) → IsClassSet c classes (award choice mine 0) had (cleared_class c had classes)
  unfolding awards_after
  turn_starts had = record {
    as_many = length-cleared_class c had classes;
    here = λ k e. cleared_class_here c had classes k positive e ∙ sym (zeros_at (length mine) k);
    others = cleared_class_other c had classes;
  }

  -- in the places of other classes no unit is missing, so the debt that is chosen is the class's own
  turn_agrees : (had own now : List ℕ) → ((k : ℕ) → get_or had k 0 ≡ get_or claims k 0) → IsClassSet c classes own had now
      → AgreeWhereUnmet claims now mine own
  turn_agrees had own now full t = record {
    as_many = sym (length-class_claims c claims classes);
    where_unmet = λ k u. ⊎_elim
        (λ (e : get_or classes k 0 ≡ c). (sym (class_claims_here c claims classes k positive e), t.here k e))
        (λ (ne : get_or classes k 0 ≡ c → ⊥). absurd (omega (arith, full k, t.others k ne, u)))
        (cases_eq (get_or classes k 0) c);
    where_other_unmet = λ k u. ⊎_elim
        (λ (e : get_or classes k 0 ≡ c). (sym (class_claims_here c claims classes k positive e), t.here k e))
        (λ (ne : get_or classes k 0 ≡ c → ⊥). absurd (omega (arith, class_claims_other c claims classes k ne, u)))
        (cases_eq (get_or classes k 0) c);
  }

  -- the next unit goes to the place that is next for the class
  turn_goes_on : (had own now : List ℕ) (r : Option ℕ) → length had ≡ length claims → choice mine own ≡ r → IsWithin mine own
      → IsClassSet c classes own had now → IsClassSet c classes (one_more r own) had (one_more r now)
  turn_goes_on had own now None l e w t = t
  turn_goes_on had own now (Some j) l s w t = record {
    as_many = grind (arith, common_steps, t.as_many);
    here = λ k e. grind (arith, common_steps, t.here k e, t.here j own_place, length-class_claims c claims classes, n.0, l, t.as_many, w.as_many);
    others = λ k ne. grind (arith, common_steps, t.others k ne, own_place);
  }
    where
      n : (j < length mine) × (get_or own j 0 < get_or mine j 0)
      n = lawful.unmet mine own j w s

      own_place : get_or classes j 0 ≡ c
      own_place = ⊎_elim
          (λ (e : get_or classes j 0 ≡ c). e)
          (λ (ne : get_or classes j 0 ≡ c → ⊥). absurd (omega (arith, class_claims_other c claims classes j ne, n.1)))
          (cases_eq (get_or classes j 0) c)

  -- after d units, while every place is paid in full at first
  pub turn_after : (had : List ℕ) (e d : ℕ) → IsWithin claims had
      → (0 < e → (k : ℕ) → get_or had k 0 ≡ get_or claims k 0) → d ≤ e
      → IsClassSet c classes (award choice mine d) had (awards_after choice claims (cleared_class c had classes) d)
  unfolding awards_after
  turn_after had e zero w full h = turn_starts had
  turn_after had e (suc d) w full h =
      let own = award choice mine d in
      let now = awards_after choice claims (cleared_class c had classes) d in
      let t : IsClassSet c classes own had now = turn_after had e d w full (omega arith) in
      let agree : AgreeWhereUnmet claims now mine own = turn_agrees had own now (full (omega arith)) t in
      let within : IsWithin claims now = awards_within choice lawful claims (cleared_class c had classes) d
      (cleared_within c claims had classes positive w) in
      let own_within : IsWithin mine own = award_within choice lawful mine d in
      let same : choice claims now ≡ choice mine own = choice_agree choice lawful claims now mine own within own_within agree in
      subst (λ r. IsClassSet c classes (one_more (choice mine own) own) had (one_more r now)) (sym same)
      (turn_goes_on had own now (choice mine own) w.as_many refl own_within t)
