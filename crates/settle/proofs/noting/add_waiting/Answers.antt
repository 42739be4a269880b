use Rattle.std.proofs.Common.{◌≡◌, ◌∷◌, [], ◌++◌, append_assoc, ap, ◌∙◌, sym, subst}
use Rattle.std.specs.Vec.Iter.{into_iter_items}
use Rattle.raise_journal.specs.Gathered.{HasMerged}
use Rattle.settle.proofs.Waiting.{one_more_added}
use Rattle.settle.proofs.noting.add_waiting.Goals as goal

pub loop-made-preserved : goal.loop-made-preserved
loop-made-preserved c =
    let at = c.loop-made in
    let done = at.invariant.so_far.0 in
    let made = c.in-Some.made in
    let rest = into_iter_items c.next.new.self in
    let old = c.args.journal.now.raises in
    let steps : into_iter_items at.made-iterator ≡ made ∷ rest = c.in-Some.ensures.steps.0 in
    let merged = subst (λ n. HasMerged at.journal.raises c.add_raises.new.journal.raises n made.raises) at.invariant.place c.in_ok-add_raises.ensures in
    record {
      so_far = (
        done ++ made ∷ [],
        append_assoc done (made ∷ []) rest ∙ ap (λ xs. done ++ xs) (sym steps) ∙ at.invariant.so_far.1,
        one_more_added old at.journal.raises c.add_raises.new.journal.raises done made at.invariant.so_far.2 merged,
      );
      place = at.invariant.place;
      none = at.invariant.none;
    }
