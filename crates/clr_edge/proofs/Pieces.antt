-- A sink that takes a text piece by piece.
use Rattle.std.proofs.Math.Seq.{take-add}
use Rattle.std.proofs.Common.{◌≡◌, ℕ, ◌+◌, ◌<◌, ◌≤◌, List, [], ◌++◌, length, take}
use Rattle.std.proofs.Common.{drop, get_or, map, Option, None, Some, refl, sym, ap, ◌∙◌}
use Rattle.std.proofs.Common.{append_assoc, length-append, arith, true, false, true≢false}
use Rattle.std.proofs.Common.{Result, Ok, Err}
use Rattle.std.specs.List.{concat}
use Rattle.std.specs.Result.{is_err, OnOk, OnErr}
use Rattle.std.proofs.lemmas.List.{take_at, drop_at, take-append-drop, take_more, drop_more, take-append-le, append-nil, map-append}
use Rattle.std.proofs.lemmas.List.Folds.{concat-append}
use Rattle.clr_edge.specs.Sink.{with_bytes, WritesPart}
use Rattle.clr_edge.proofs.Rises.{risen_since}
use Rattle.clr_edge.specs.Taking.{TakesPart, sink_call}

-- bytes and then bytes
pub with_bytes-twice : (w : Option (List ℕ)) (a b : List ℕ) → with_bytes (with_bytes w a) b ≡ with_bytes w (a ++ b)
with_bytes-twice None a b = refl
with_bytes-twice (Some w) a b = ap Some (append_assoc w a b)

-- a part of a piece is a part of the whole
part_of_whole : (old mid new : Option (List ℕ)) (before piece after whole : List ℕ)
    → mid ≡ with_bytes old before → whole ≡ before ++ (piece ++ after) → WritesPart mid new piece → WritesPart old new whole
part_of_whole old mid new before piece after whole at is part = record {
  count = length before + part.count;
  not_all = omega (arith, ap length is, length-append before (piece ++ after), length-append piece after, part.not_all);
  part = rw (part.part, at, is, take-add (length before) part.count (before ++ (piece ++ after)))
      (rw (take_at before (piece ++ after) (length before) refl)
      (rw (drop_at before (piece ++ after) (length before) refl)
      (rw (take-append-le part.count piece after (omega (arith, part.not_all)))
      (with_bytes-twice old before (take part.count piece)))));
}

-- nothing is written yet
pub with_nothing : (w : Option (List ℕ)) → w ≡ with_bytes w []
with_nothing None = refl
with_nothing (Some w) = ap Some (sym (append-nil w))

-- some bytes and then others, at a sink before them, between them and after them
module _ (old : Option (List ℕ)) {mid new : Option (List ℕ)} (x y : List ℕ) where
  -- if both are taken whole, so are all
  pub whole_then_whole : mid ≡ with_bytes old x → new ≡ with_bytes mid y → new ≡ with_bytes old (x ++ y)
  whole_then_whole first second = rw (second, first) (with_bytes-twice old x y)

  -- if the others are taken in part, so are all
  pub whole_then_part : {a b c : ℕ} → mid ≡ with_bytes old x → a ≤ b → TakesPart (sink_call mid new b c) y
      → TakesPart (sink_call old new a c) (x ++ y)
  whole_then_part {a} {b} {c} first no_fall second = (
    part_of_whole old mid new x y [] (x ++ y) first (ap (λ l. x ++ l) (sym (append-nil y))) second.0,
    risen_since a b c no_fall second.1,
  )

-- a part of the bytes in front is a part of all
pub part_in_front : {old new : Option (List ℕ)} {a c : ℕ} {x : List ℕ} (y : List ℕ) → TakesPart (sink_call old new a c) x
    → TakesPart (sink_call old new a c) (x ++ y)
part_in_front {old} {new} {a} {c} {x} y part =
    (part_of_whole old old new [] x y (x ++ y) (with_nothing old) refl part.0, part.1)

-- pieces, each of which has a text: the piece i of them
module _ {A : Type 0} (text : A → List ℕ) (ps : List A) (i : ℕ) (d : A) (l : i < length ps) where
  -- one piece more
  texts_more : concat (map text (take (i + 1) ps)) ≡ concat (map text (take i ps)) ++ text (get_or ps i d)
  texts_more = rw (take_more ps i d l) (simp (map-append, concat-append, append-nil))

  -- the pieces up to one, that one, and those after it
  texts_split : concat (map text ps)
      ≡ concat (map text (take i ps)) ++ (text (get_or ps i d) ++ concat (map text (drop (i + 1) ps)))
  texts_split =
      ap (λ qs. concat (map text qs)) (sym (take-append-drop i ps) ∙ ap (λ qs. take i ps ++ qs) (drop_more ps i d l))
      ∙ simp (map-append, concat-append)

  -- one piece more, taken whole
  pub piece_taken : (old mid new : Option (List ℕ)) → mid ≡ with_bytes old (concat (map text (take i ps)))
      → new ≡ with_bytes mid (text (get_or ps i d)) → new ≡ with_bytes old (concat (map text (take (i + 1) ps)))
  piece_taken old mid new at then =
      rw (then, at, texts_more) (with_bytes-twice old (concat (map text (take i ps))) (text (get_or ps i d)))

  -- a piece taken in part: a part of all
  pub piece_part : (old mid new : Option (List ℕ)) → mid ≡ with_bytes old (concat (map text (take i ps)))
      → WritesPart mid new (text (get_or ps i d)) → WritesPart old new (concat (map text ps))
  piece_part old mid new at part =
      part_of_whole old mid new (concat (map text (take i ps))) (text (get_or ps i d))
      (concat (map text (drop (i + 1) ps))) (concat (map text ps)) at texts_split part

-- what holds in any case
pub on_err : {T E P : Type 0} (r : Result T E) → P → OnErr r P
on_err (Ok x) p = tt
on_err (Err e) p = p

-- a call without an error has kept what it promises for that case
pub on_ok_of : {T E P : Type 0} (r : Result T E) → is_err r ≡ false → OnOk r P → P
on_ok_of (Ok x) e p = p
on_ok_of (Err y) e p = absurd (true≢false e)

-- and one with an error what it promises for that
pub on_err_of : {T E P : Type 0} (r : Result T E) → is_err r ≡ true → OnErr r P → P
on_err_of (Ok x) e p = absurd (true≢false (sym e))
on_err_of (Err y) e p = p
