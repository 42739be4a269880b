-- Division by order over classes: the debts of each class are filled up in turn.
use Rattle.std.proofs.Common.{◌≡◌, ◌≢◌, ℕ, suc, ◌+◌, ◌-◌, ◌<◌, ◌≤◌, min, List, length, get_or, set, take, sum, sym, ap, ◌∙◌, ⊎_elim, arith}
use Rattle.std.proofs.lemmas.Bool.{cases_eq, cases_lt}
use Rattle.std.proofs.lemmas.List.{ext_get_or}
use Rattle.std.proofs.lemmas.List.Sums.{sum_by_more}
use Rattle.clr_net.specs.declared.rule.RuleKind.TheVariants as kind
use Rattle.clr_net.specs.Division.{award, class_claims, next_of, share_by_from, share}
use Rattle.clr_net.proofs.Award.{award_full, kind_is_unit_choice}
use Rattle.clr_net.proofs.Classes.{length-class_claims, class_claims_here, class_claims_other, get_or-place_sums}
use Rattle.clr_net.proofs.Share.{lengths_agree, length-share, share_by_from_is}
use Rattle.rule_class.specs.ByOrder.{fill, AreUpTo}
use Rattle.rule_class.specs.ClassSet.{IsClassSet}
use Rattle.rule_class.proofs.ClassSets.{IsClassSetTo, set_here, set_not_here}
use Rattle.rule_class.proofs.OrderFill.{award_fills, get_or-fill}

-- units given out by order, as many as are claimed and there are, fill up the debts
award_of_all : (claims : List ℕ) (e : ℕ) → award kind.Order claims (min (sum claims) e) ≡ fill claims e
award_of_all claims e =
    ⊎_elim
    (λ (l : e < sum claims). ap (award kind.Order claims) (omega arith))
    (λ (g : sum claims ≤ e). award_full kind.Order claims (min (sum claims) e) (omega arith) ∙ sym (award_full kind.Order claims e g))
    (cases_lt e (sum claims))
    ∙ award_fills claims e

-- what a debt gets of the classes from c on: of the class c it is filled up, and the classes above it share what is left
share_from_at : (claims classes : List ℕ) (c n e k : ℕ)
    → get_or (share_by_from (next_of kind.Order) claims classes c (suc n) e) k 0
    ≡ get_or (fill (class_claims c claims classes) e) k 0
    + get_or (share_by_from (next_of kind.Order) claims classes (c + 1) n (e - sum (class_claims c claims classes))) k 0
unfolding share_by_from
share_from_at claims classes c n e k =
    let mine = class_claims c claims classes in
    let given = min (sum mine) e in
    let rest = share_by_from (next_of kind.Order) claims classes (c + 1) n (e - given) in
    let left : e - given ≡ e - sum mine = omega arith in
    get_or-place_sums (award kind.Order mine given) rest k (lengths_agree (next_of kind.Order) (kind_is_unit_choice kind.Order) claims classes c n given (e - given))
    ∙ ap (λ xs. get_or xs k 0 + get_or rest k 0) (award_of_all mine e)
    ∙ ap (λ r. get_or (fill mine e) k 0 + get_or (share_by_from (next_of kind.Order) claims classes (c + 1) n r) k 0) left

-- the classes below c have their shares of the estate, and those from c on share what is left
pub record IsFilledBelow (claims classes : List ℕ) (estate c left : ℕ) (into : List ℕ) : Type 0 where
  pub as_many : length into ≡ length claims
  pub done : (k : ℕ) → k < length claims → get_or classes k 0 < c
      → get_or into k 0 ≡ get_or (share kind.Order claims classes estate) k 0
  pub rest : (k : ℕ) → c ≤ get_or classes k 0
      → get_or (share kind.Order claims classes estate) k 0 ≡ get_or (share_by_from (next_of kind.Order) claims classes c (10 - c) left) k 0

module _ (claims classes : List ℕ) (estate c left : ℕ) (into now : List ℕ) (small : c < 10)
    (before : IsFilledBelow claims classes estate c left into) (turn : IsClassSet c classes (fill (class_claims c claims classes) left) into now) where
  -- the claims of the class c
  abbrev mine : List ℕ
  mine = class_claims c claims classes

  -- the shares of the later classes
  abbrev later : List ℕ
  later = share_by_from (next_of kind.Order) claims classes (c + 1) (10 - (c + 1)) (left - sum mine)

  -- in a place of this class or a later one the share is that of its class
  share_at : (k : ℕ) → c ≤ get_or classes k 0
      → get_or (share kind.Order claims classes estate) k 0 ≡ get_or (fill mine left) k 0 + get_or later k 0
  share_at k l =
      let more : 10 - c ≡ suc (10 - (c + 1)) = omega arith in
      before.rest k l
      ∙ ap (λ n. get_or (share_by_from (next_of kind.Order) claims classes c n left) k 0) more
      ∙ share_from_at claims classes c (10 - (c + 1)) left k

  -- and so it is with one class more
  pub class_more : IsFilledBelow claims classes estate (c + 1) (left - sum mine) now
  class_more = record {
    as_many = turn.as_many ∙ before.as_many;
    done = λ k l m. ⊎_elim
        (λ (e : get_or classes k 0 ≡ c). omega (
          arith,
          turn.here k e,
          share_at k (omega arith),
          (share_by_from_is (next_of kind.Order) (kind_is_unit_choice kind.Order) claims classes (c + 1) (10 - (c + 1)) (left - sum mine)).earlier k (omega arith),
        ))
        (λ (ne : get_or classes k 0 ≡ c → ⊥). turn.others k ne ∙ before.done k l (omega arith))
        (cases_eq (get_or classes k 0) c);
    rest = λ k l. omega (arith, share_at k (omega arith), get_or-fill mine left k, class_claims_other c claims classes k (omega arith));
  }

-- with the last class filled the list is the division by order
pub filled_all : (claims classes : List ℕ) (estate c left : ℕ) (into : List ℕ) → AreUpTo c classes
    → IsFilledBelow claims classes estate (c + 1) left into → into ≡ share kind.Order claims classes estate
filled_all claims classes estate c left into upto filled =
    ext_get_or 0 into (share kind.Order claims classes estate)
    (filled.as_many ∙ sym (length-share kind.Order claims classes estate))
    (λ k l. filled.done k (omega (arith, filled.as_many)) (omega (arith, upto k)))

-- of the class c, the debts before the place i are filled up
pub record IsFilling (c : ℕ) (claims classes : List ℕ) (e : ℕ) (had : List ℕ) (i left : ℕ) (now : List ℕ) : Type 0 where
  pub left_is : left ≡ e - sum (take i (class_claims c claims classes))
  pub filled : IsClassSetTo c classes (fill (class_claims c claims classes) e) had i now

module _ (c : ℕ) (claims classes : List ℕ) (e : ℕ) (had : List ℕ) (i left : ℕ) (now : List ℕ) (in_range : i < length claims)
    (as_many : length had ≡ length claims) (h : IsFilling c claims classes e had i left now) where
  -- the claims of the class c
  abbrev own : List ℕ
  own = class_claims c claims classes

  -- the place i takes its claim more
  taken_more : sum (take (i + 1) own) ≡ sum (take i own) + get_or own i 0
  taken_more = sum_by_more (λ n. n) own i 0 (omega (arith, length-class_claims c claims classes))

  -- a debt of the class takes what is left, up to its claim
  pub filling_takes : (award : ℕ) → 0 < c → get_or classes i 0 ≡ c → award ≡ min left (get_or claims i 0)
      → IsFilling c claims classes e had (i + 1) (left - award) (set now i award)
  filling_takes award positive same a =
      let claim : get_or own i 0 ≡ get_or claims i 0 = class_claims_here c claims classes i positive same in
      record {
        left_is = omega (arith, a, claim, h.left_is, taken_more);
        filled = set_here c classes (fill own e) had i now (omega (arith, as_many)) h.filled same award
            (omega (arith, a, claim, h.left_is, get_or-fill own e i));
      }

  -- a debt of another class takes nothing
  pub filling_skips : get_or classes i 0 ≢ c → IsFilling c claims classes e had (i + 1) left now
  filling_skips other = record {
    left_is = omega (arith, h.left_is, taken_more, class_claims_other c claims classes i other);
    filled = set_not_here c classes (fill own e) had i now h.filled other;
  }
