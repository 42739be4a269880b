-- The lines that were written whole, and of those in the room a part.
use Rattle.std.proofs.Common.{◌≡◌, ℕ, ◌+◌, ◌-◌, List, ◌++◌, take, drop, sym, ap, ◌∙◌, arith, take-add, take-append-drop}
use Rattle.std.specs.List.{flat_map}
use Rattle.std.proofs.lemmas.List.Concat.{flat_map-append}
use Rattle.raise_journal.specs.Texts.{raise_line}
use Rattle.clr_edge.proofs.Pieces.{on_err, part_in_front, whole_then_part, whole_then_whole}
use Rattle.raise_journal.proofs.putting.put_raises.Goals as goal

-- the lines of n more, and of all
module _ {A : Type 0} (f : A → List ℕ) (xs : List A) (i n : ℕ) where
  upto : flat_map f (take (i + n) xs) ≡ flat_map f (take i xs) ++ flat_map f (take (i + n - i) (drop i xs))
  upto =
      let n_is : n ≡ i + n - i = omega arith in
      ap (flat_map f) (take-add i n xs) ∙ flat_map-append f (take i xs) (take n (drop i xs))
      ∙ ap (λ m. flat_map f (take i xs) ++ flat_map f (take m (drop i xs))) n_is

  with_rest : flat_map f xs ≡ (flat_map f (take i xs) ++ flat_map f (take (i + n - i) (drop i xs))) ++ flat_map f (drop (i + n) xs)
  with_rest =
      ap (flat_map f) (sym (take-append-drop (i + n) xs)) ∙ flat_map-append f (take (i + n) xs) (drop (i + n) xs)
      ∙ ap (λ l. l ++ flat_map f (drop (i + n) xs)) upto

pub loop-done-preserved : goal.loop-done-preserved
loop-done-preserved g c =
    let f = raise_line c.args.net.now in
    let done = c.loop-done.done in
    record {
      within = omega (arith, c.min-count.ensures, c.loop-done.invariant.within);
      room = omega (arith, c.loop-done.invariant.room, c.print_raises.ensures.room);
      written = rw (upto f c.args.raises.now done c.min-count.result)
          (rw (← c.as_slice.ensures.value ∙ c.print_raises.ensures.lines)
          (whole_then_whole _ _ _ c.loop-done.invariant.written c.in_ok-put_all.ensures.written));
      no_fall = omega (arith, c.loop-done.invariant.no_fall, c.put_all.ensures.faults);
      well = λ alone. c.in_ok-put_all.ensures.well alone ∙ c.loop-done.invariant.well alone;
    }

pub returns-in_err-put_all-clause-part : goal.returns-in_err-put_all-clause-part
returns-in_err-put_all-clause-part g c =
    let f = raise_line c.args.net.now in
    rw (with_rest f c.args.raises.now c.loop-done.done c.min-count.result)
    (rw (← c.as_slice.ensures.value ∙ c.print_raises.ensures.lines)
    (on_err c.from_residual.result
    (part_in_front _
    (whole_then_part _ _ _ c.loop-done.invariant.written c.loop-done.invariant.no_fall
    (c.in_err-put_all.ensures.part, c.in_err-put_all.ensures.failed)))))
