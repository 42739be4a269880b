-- By the rule `order` the next debt is the first that is not paid in full, so a loop may stop there.
use Rattle.std.proofs.Common.{◌≡◌, ℕ, ◌<◌, List, length, get_or, Some, None, refl, sym, ◌∙◌, lt-ltb}
use Rattle.std.proofs.lemmas.Bool.{true≢false}
use Rattle.clr_net.specs.declared.rule.RuleKind.TheVariants as kind
use Rattle.clr_net.specs.Division.{next_of}
use Rattle.clr_net.proofs.Next.{IsNextSoFar, next_of_is_best}

-- the first debt that is not paid in full is the next
pub first_unmet_is_next : (claims awards : List ℕ) (i : ℕ) → i < length claims → get_or awards i 0 < get_or claims i 0
    → IsNextSoFar kind.Order claims awards i None → next_of kind.Order claims awards ≡ Some i
first_unmet_is_next claims awards i l u none = next_of_is_best kind.Order claims awards (Some i) (record {
  in_range = l;
  counts_itself = lt-ltb (get_or awards i 0) (get_or claims i 0) u;
  none_before = λ k h c. refl;
  before_earlier = λ k h c. absurd (true≢false (sym c ∙ none k h));
})
