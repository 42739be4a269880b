use Rattle.std.proofs.Common.{◌∙◌, ap, rules, subst, sym}
use Rattle.std.proofs.lemmas.List.Sorted.{answers_always}
use Rattle.clear_core.specs.History.{ordered}
use Rattle.raise_journal.specs.Gathered.{AreInOrder}
use Rattle.raise_journal.proofs.Sorted.{sorted_is_ordered}
use Rattle.raise_journal.proofs.gathering.in_order.Goals as goal
use Rattle.raise_journal.proofs.gathering.in_order.Goals.{then-not-are_in_order, else-not-are_in_order}

pub returns : goal.returns
returns c = c.of.ensures ∙ elim c.if-not-are_in_order.branch [
  | then-not-are_in_order w ↦
      ap (λ v. v.items) w.raises-is
      ∙ sorted_is_ordered _ _ w.sort_unstable_by_key.ensures.permutation
      (w.sort_unstable_by_key.ensures.sorted (λ r. (r.stamp, r.debt.0, r.to)) (answers_always _ _ _ (λ f a r g h. search rules)))
      ∙ ap ordered c.into_raises-raises.ensures
  | else-not-are_in_order w ↦
      ap (λ v. v.items) w.raises-is
      ∙ sym (subst AreInOrder c.as_slice.ensures.value (c.are_in_order.ensures w.if-not-are_in_order.false))
      ∙ ap ordered c.into_raises-raises.ensures
]
