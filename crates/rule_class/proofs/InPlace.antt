-- A division over classes in one list of awards, in place: every award is its claim at first, and each class has its turn.
use Rattle.std.proofs.Common.{◌≡◌, ℕ, zero, suc, ◌+◌, ◌-◌, ◌<◌, ◌≤◌, min, List, [], length, get_or, sum, Option, sym, refl, ap, ◌∙◌, ⊎_elim, arith}
use Rattle.std.proofs.lemmas.Bool.{cases_eq, cases_lt}
use Rattle.std.proofs.lemmas.List.{ext_get_or, get_or_past}
use Rattle.clr_net.specs.declared.TheConstants.{MAX_CLASS}
use Rattle.clr_net.specs.Division.{class_claims, AreClasses}
use Rattle.rule_class.specs.Sharing.{cleared_class}
use Rattle.clr_net.proofs.Lists.{same_from_sum, sum-le}
use Rattle.clr_net.proofs.Classes.{length-class_claims, class_claims_here, class_claims_other, get_or-place_sums}
use Rattle.rule_class.specs.ClassSet.{IsClassSet}
use Rattle.rule_class.proofs.ClearedClass.{cleared_class_other, length-cleared_class}
use Rattle.rule_unit.specs.Awards.{IsWithin}
use Rattle.rule_unit.specs.Choice.{IsUnitChoice}
use Rattle.rule_unit.specs.Units.{awards_after, award}
use Rattle.rule_unit.proofs.UnitByUnit.{awards_within, award_within, sum_award}
use Rattle.clr_net.specs.Division.{share_by_from, share_by}
use Rattle.clr_net.proofs.Share.{IsShare, share_by_from_is}
use Rattle.rule_class.proofs.Turn.{cleared_within, turn_after}

-- the awards once n classes, from the class c on, have had their turns, with e units to give:
-- the places of a class are set to 0, and are given its units one by one, each to the debt that is chosen of the whole list
unfoldable pub in_place_from : (List ℕ → List ℕ → Option ℕ) → List ℕ → List ℕ → ℕ → ℕ → ℕ → List ℕ → List ℕ
in_place_from choice claims classes c zero e awards = awards
in_place_from choice claims classes c (suc n) e awards =
    let given = min (sum (class_claims c claims classes)) e in
    in_place_from choice claims classes (c + 1) n (e - given) (awards_after choice claims (cleared_class c awards classes) given)

-- the turn of one class, as a step of a loop that has n classes to go after it
pub in_place_turn : (choice : List ℕ → List ℕ → Option ℕ) (claims classes : List ℕ) (c n e given : ℕ) (awards now : List ℕ) → c + n ≡ 9
    → given ≡ min (sum (class_claims c claims classes)) e → now ≡ awards_after choice claims (cleared_class c awards classes) given
    → in_place_from choice claims classes (c + 1) (10 - (c + 1)) (e - given) now ≡ in_place_from choice claims classes c (10 - c) e awards
unfolding in_place_from
in_place_turn choice claims classes c n e given awards now s g o =
    let before : suc n ≡ 10 - c = omega arith in
    let after : 10 - (c + 1) ≡ n = omega arith in
    ap (λ m. in_place_from choice claims classes (c + 1) m (e - given) now) after
    ∙ ap (λ xs. in_place_from choice claims classes (c + 1) n (e - given) xs) o
    ∙ ap (λ d. in_place_from choice claims classes (c + 1) n (e - d) (awards_after choice claims (cleared_class c awards classes) d)) g
    ∙ ap (λ m. in_place_from choice claims classes c m e awards) before

-- after the last turn the awards stay
pub in_place_ends : (choice : List ℕ → List ℕ → Option ℕ) (claims classes : List ℕ) (c e : ℕ) (awards : List ℕ) → 10 ≤ c
    → in_place_from choice claims classes c (10 - c) e awards ≡ awards
unfolding in_place_from
in_place_ends choice claims classes c e awards l =
    let none : 10 - c ≡ 0 = omega arith in
    ap (λ m. in_place_from choice claims classes c m e awards) none

-- nor do turns of classes that have no debt change anything
pub in_place_past : (choice : List ℕ → List ℕ → Option ℕ) (claims classes : List ℕ) (c n e : ℕ) (awards : List ℕ)
    → ((k : ℕ) → get_or classes k 0 < c) → in_place_from choice claims classes c n e awards ≡ awards
unfolding in_place_from awards_after
in_place_past choice claims classes c zero e awards l = refl
in_place_past choice claims classes c (suc n) e awards l =
    let mine = class_claims c claims classes in
    let given = min (sum mine) e in
    let cleared = cleared_class c awards classes in
    let nothing : sum mine ≤ 0 =
    sum-le mine [] (λ k. omega (arith, class_claims_other c claims classes k (omega (arith, l k)))) in
    let none : given ≡ 0 = omega (arith, nothing) in
    in_place_past choice claims classes (c + 1) n (e - given) (awards_after choice claims cleared given) (λ k. omega (arith, l k))
    ∙ ap (awards_after choice claims cleared) none
    ∙ ext_get_or 0 cleared awards (length-cleared_class c awards classes)
    (λ k m. cleared_class_other c awards classes k (omega (arith, l k)))

-- before the turn of the class c: its places and those of later classes are paid in full, and every place while a unit is left
-- done
record IsDone (claims classes : List ℕ) (c : ℕ) (had shares now : List ℕ) : Type 0 where
  pub as_many : length now ≡ length claims
  pub earlier : (k : ℕ) → get_or classes k 0 < c → get_or now k 0 ≡ get_or had k 0
  pub later : (k : ℕ) → c ≤ get_or classes k 0 → get_or now k 0 ≡ get_or shares k 0

record IsReady (claims classes : List ℕ) (c e : ℕ) (awards : List ℕ) : Type 0 where
  pub within : IsWithin claims awards
  pub later_met : (k : ℕ) → c ≤ get_or classes k 0 → get_or awards k 0 ≡ get_or claims k 0
  pub all_met : 0 < e → (k : ℕ) → get_or awards k 0 ≡ get_or claims k 0

module _ (choice : List ℕ → List ℕ → Option ℕ) (lawful : IsUnitChoice choice) (claims classes : List ℕ) where
  -- an estate that is enough meets each claim
  award_full : (mine : List ℕ) (e : ℕ) → sum mine ≤ e → award choice mine e ≡ mine
  award_full mine e l =
      let w : IsWithin mine (award choice mine e) = award_within choice lawful mine e in
      same_from_sum (award choice mine e) mine w.as_many w.within (omega (arith, sum_award choice lawful mine e))

  -- after the turn of a class the list is ready for the next one
  ready_next : (c e : ℕ) (had now : List ℕ) → 0 < c → IsReady claims classes c e had → IsWithin claims now
      → IsClassSet c classes (award choice (class_claims c claims classes) (min (sum (class_claims c claims classes)) e)) had now
      → IsReady claims classes (c + 1) (e - min (sum (class_claims c claims classes)) e) now
  ready_next c e had now p r w t = record {
    within = w;
    later_met = λ k l. t.others k (omega arith) ∙ r.later_met k (omega arith);
    all_met = λ left k. ⊎_elim
        (λ (s : get_or classes k 0 ≡ c). t.here k s ∙ ap (λ xs. get_or xs k 0) (award_full mine given (omega arith))
        ∙ class_claims_here c claims classes k p s)
        (λ (ne : get_or classes k 0 ≡ c → ⊥). t.others k ne ∙ r.all_met (omega arith) k)
        (cases_eq (get_or classes k 0) c);
  }
    where
      mine : List ℕ
      mine = class_claims c claims classes

      given : ℕ
      given = min (sum mine) e

  -- with the last class done the list is the shares
  in_place_done : (c n e : ℕ) (had : List ℕ) → 0 < c → ((k : ℕ) → get_or classes k 0 < c + n) → IsReady claims classes c e had
      → IsDone claims classes c had (share_by_from choice claims classes c n e) (in_place_from choice claims classes c n e had)
  unfolding share_by_from in_place_from
  in_place_done c zero e had p h r =
      record { as_many = r.within.as_many; earlier = λ k l. refl; later = λ k l. absurd (omega (arith, h k)) }
  in_place_done c (suc n) e had p h r =
      let mine = class_claims c claims classes in
      let given = min (sum mine) e in
      let own = award choice mine given in
      let w : IsWithin mine own = award_within choice lawful mine given in
      let now = awards_after choice claims (cleared_class c had classes) given in
      let now_within : IsWithin claims now = awards_within choice lawful claims (cleared_class c had classes) given
      (cleared_within c claims had classes p r.within) in
      let rest = share_by_from choice claims classes (c + 1) n (e - given) in
      let s : IsShare claims classes (c + 1) rest = share_by_from_is choice lawful claims classes (c + 1) n (e - given) in
      let t : IsClassSet c classes own had now = turn_after choice lawful claims classes c p had e given r.within r.all_met (omega arith) in
      let done : IsDone claims classes (c + 1) now rest (in_place_from choice claims classes (c + 1) n (e - given) now) =
      in_place_done (c + 1) n (e - given) now (omega arith) (λ k. omega (arith, h k)) (ready_next c e had now p r now_within t) in
      let at = λ (k : ℕ). get_or-place_sums own rest k (w.as_many ∙ length-class_claims c claims classes ∙ sym s.as_many) in
      record {
        as_many = done.as_many;
        earlier = λ k l. done.earlier k (omega arith) ∙ t.others k (omega arith);
        later = λ k l. ⊎_elim
            (λ (i : get_or classes k 0 ≡ c). omega (arith, done.earlier k (omega arith), t.here k i, at k, s.earlier k (omega arith)))
            (λ (ne : get_or classes k 0 ≡ c → ⊥). omega
            (arith, done.later k (omega arith), at k, w.within k, class_claims_other c claims classes k ne))
            (cases_eq (get_or classes k 0) c);
      }

  -- the list at the end is the division
  pub in_place_is : (e : ℕ) → length claims ≡ length classes → AreClasses classes 1 MAX_CLASS
      → in_place_from choice claims classes 1 MAX_CLASS e claims ≡ share_by choice claims classes e
  in_place_is e l h =
      ext_get_or 0 (in_place_from choice claims classes 1 MAX_CLASS e claims) (share_by choice claims classes e)
      (done.as_many ∙ sym (share_by_from_is choice lawful claims classes 1 MAX_CLASS e).as_many) (λ k m. done.later k (h k (omega (arith, done.as_many))).0)
    where
      below : (k : ℕ) → get_or classes k 0 < 10
      below k = ⊎_elim (λ (m : k < length classes). omega (arith, h k m))
          (λ (g : length classes ≤ k). omega (arith, get_or_past classes k 0 g)) (cases_lt k (length classes))

      done : IsDone claims classes 1 claims (share_by choice claims classes e) (in_place_from choice claims classes 1 MAX_CLASS e claims)
      done = in_place_done 1 MAX_CLASS e claims (omega arith) below (record {
        within = record { as_many = refl; within = λ k. omega arith };
        later_met = λ k m. refl;
        all_met = λ m k. refl;
      })
