-- A division over classes by any lawful choice: each debt gets at most its claim, all together what there is,
-- and no debt gets less of a larger estate.
use Rattle.std.proofs.Common.{◌≡◌, ℕ, zero, suc, ◌+◌, ◌-◌, ◌<◌, ◌≤◌, min, List, length, get_or, replicate, sum, Option, ap, sym, ◌∙◌, arith}
use Rattle.std.proofs.lemmas.List.{length-replicate}
use Rattle.std.proofs.lemmas.List.Folds.{sum_by-replicate}
use Rattle.clr_net.specs.declared.TheConstants.{MAX_CLASS}
use Rattle.clr_net.specs.Division.{AreClasses, class_claims, next_of, share, share_by, share_by_from}
use Rattle.clr_net.specs.declared.rule.RuleKind.{RuleKind}
use Rattle.clr_net.proofs.Lists.{same_from_sum, zeros_at}
use Rattle.clr_net.proofs.Award.{kind_is_unit_choice}
use Rattle.clr_net.proofs.Classes.{length-class_claims, class_claims_le, class_claims_other, length-place_sums, get_or-place_sums, sum-place_sums, class_total, class_total_first, class_total_none, class_total_all}
use Rattle.rule_unit.specs.Awards.{IsAtMost, IsWithin}
use Rattle.rule_unit.specs.Choice.{IsUnitChoice}
use Rattle.rule_unit.specs.Units.{award}
use Rattle.rule_unit.proofs.UnitByUnit.{award_within, awards_mono, sum_award}

-- shares from the class c on: as many as the claims, each at most its claim, and nothing to a class below c
pub record IsShare (claims classes : List ℕ) (c : ℕ) (shares : List ℕ) : Type 0 where
  pub as_many : length shares ≡ length claims
  pub within : IsAtMost shares claims
  pub earlier : (k : ℕ) → get_or classes k 0 < c → get_or shares k 0 ≡ 0

module _ (choice : List ℕ → List ℕ → Option ℕ) (lawful : IsUnitChoice choice) (claims classes : List ℕ) where
  -- shares of any number of classes are such
  pub share_by_from_is : (c n e : ℕ) → IsShare claims classes c (share_by_from choice claims classes c n e)
  unfolding share_by_from
  share_by_from_is c zero e = search (arith, length-replicate, zeros_at)
  share_by_from_is c (suc n) e =
      let mine = class_claims c claims classes in
      let given = min (sum mine) e in
      let here = award choice mine given in
      let w : IsWithin mine here = award_within choice lawful mine given in
      let rest = share_by_from choice claims classes (c + 1) n (e - given) in
      let r : IsShare claims classes (c + 1) rest = share_by_from_is (c + 1) n (e - given) in
      let at = λ (k : ℕ). get_or-place_sums here rest k (w.as_many ∙ length-class_claims c claims classes ∙ sym r.as_many) in
      record {
        as_many = length-place_sums here rest ∙ w.as_many ∙ length-class_claims c claims classes;
        within = λ k. grind (
          arith,
          at k,
          r.earlier k,
          r.within k,
          w.within k,
          class_claims_le c claims classes k,
          class_claims_other c claims classes k,
        );
        earlier = λ k l. omega
            (arith, at k, r.earlier k (omega arith), w.within k, class_claims_other c claims classes k (omega arith));
      }

  -- each debt gets at most its claim
  pub share_by_within : (e : ℕ) → IsAtMost (share_by choice claims classes e) claims
  share_by_within e = (share_by_from_is 1 MAX_CLASS e).within

  -- the awards of one class are as many as the shares of the next
  pub lengths_agree : (c n d e : ℕ)
      → length (award choice (class_claims c claims classes) d) ≡ length (share_by_from choice claims classes (c + 1) n e)
  lengths_agree c n d e =
      (award_within choice lawful (class_claims c claims classes) d).as_many ∙ length-class_claims c claims classes
      ∙ sym (share_by_from_is (c + 1) n e).as_many

  -- all shares come to the estate, up to what the classes claim
  sum_share_by_from : (c n e : ℕ) → sum (share_by_from choice claims classes c n e) ≡ min e (class_total claims classes c n)
  unfolding share_by_from
  sum_share_by_from c zero e =
      omega (arith, sum_by-replicate (λ n. n) (length claims) 0, class_total_none claims classes c)
  sum_share_by_from c (suc n) e =
      let mine = class_claims c claims classes in
      let given = min (sum mine) e in
      omega (
        arith,
        sum-place_sums (award choice mine given) (share_by_from choice claims classes (c + 1) n (e - given))
            (lengths_agree c n given (e - given)),
        sum_award choice lawful mine given,
        sum_share_by_from (c + 1) n (e - given),
        class_total_first claims classes c n,
      )

  -- all is given out, up to all that is claimed
  pub sum_share_by : (e : ℕ) → length claims ≡ length classes → AreClasses classes 1 MAX_CLASS
      → sum (share_by choice claims classes e) ≡ min e (sum claims)
  sum_share_by e l h = sum_share_by_from 1 MAX_CLASS e ∙ ap (λ t. min e t) (class_total_all claims classes 1 MAX_CLASS l h)

  -- no share falls as the estate grows
  share_by_from_mono : (c n d e : ℕ) → d ≤ e
      → IsAtMost (share_by_from choice claims classes c n d) (share_by_from choice claims classes c n e)
  unfolding share_by_from
  share_by_from_mono c zero d e l = λ k. omega arith
  share_by_from_mono c (suc n) d e l =
      let mine = class_claims c claims classes in
      let less = min (sum mine) d in
      let more = min (sum mine) e in
      λ k. omega (
        arith,
        get_or-place_sums (award choice mine less) (share_by_from choice claims classes (c + 1) n (d - less)) k
            (lengths_agree c n less (d - less)),
        get_or-place_sums (award choice mine more) (share_by_from choice claims classes (c + 1) n (e - more)) k
            (lengths_agree c n more (e - more)),
        awards_mono choice mine (replicate (length mine) 0) less more (omega arith) k,
        share_by_from_mono (c + 1) n (d - less) (e - more) (omega arith) k,
      )

  -- no debt gets less of a larger estate
  pub share_by_mono : (d e : ℕ) → d ≤ e → IsAtMost (share_by choice claims classes d) (share_by choice claims classes e)
  share_by_mono d e l = share_by_from_mono 1 MAX_CLASS d e l

-- the same of each kind of rule
module _ (rule : RuleKind) (claims classes : List ℕ) where
  -- there is a share for each claim
  pub length-share : (e : ℕ) → length (share rule claims classes e) ≡ length claims
  length-share e = (share_by_from_is (next_of rule) (kind_is_unit_choice rule) claims classes 1 MAX_CLASS e).as_many

  -- each is at most its claim
  pub share_within : (e : ℕ) → IsAtMost (share rule claims classes e) claims
  share_within e = share_by_within (next_of rule) (kind_is_unit_choice rule) claims classes e

  -- all come to the estate, up to all claims
  pub sum_share : (e : ℕ) → length claims ≡ length classes → AreClasses classes 1 MAX_CLASS
      → sum (share rule claims classes e) ≡ min e (sum claims)
  sum_share e l h = sum_share_by (next_of rule) (kind_is_unit_choice rule) claims classes e l h

  -- none falls as the estate grows
  pub share_mono : (d e : ℕ) → d ≤ e → IsAtMost (share rule claims classes d) (share rule claims classes e)
  share_mono d e l = share_by_mono (next_of rule) (kind_is_unit_choice rule) claims classes d e l

  -- where the estate is at least all claims, the share of each debt is its claim
  pub share_full : (e : ℕ) → length claims ≡ length classes → AreClasses classes 1 MAX_CLASS → sum claims ≤ e
      → share rule claims classes e ≡ claims
  share_full e l h enough = same_from_sum (share rule claims classes e) claims (length-share e) (share_within e)
      (omega (arith, sum_share e l h))
