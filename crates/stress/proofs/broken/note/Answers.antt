-- One bank more is noted: its place changes, and no other.
use Rattle.std.proofs.Common.{◌≡◌, ◌≢◌, ℕ, ◌+◌, ◌<◌, ◌≤◌, List, length, get_or, set, sym, ap, ◌∙◌, ⊎_elim, arith}
use Rattle.std.proofs.lemmas.Bool.{cases_eq}
use Rattle.std.proofs.lemmas.List.{get_or_default, get_or-set_same, get_or-set_other}
use Rattle.stress.specs.Breaking.{noted}
use Rattle.stress.specs.declared.broken.Broken.{Broken}
use Rattle.stress.proofs.broken.note.Goals as goal

-- the first n places are changed by f, and no other is
record AreChanged (f : ℕ → Broken → Broken) (before now : List Broken) (n : ℕ) : Type 0 where
  pub done : (i : ℕ) (none : Broken) → i < n → get_or now i none ≡ f i (get_or before i none)
  pub rest : (i : ℕ) (none : Broken) → n ≤ i → get_or now i none ≡ get_or before i none

-- the next place is changed
changed_more : (f : ℕ → Broken → Broken) (before now : List Broken) (n : ℕ) (v d : Broken) → n < length now
    → AreChanged f before now n → v ≡ f n (get_or now n d) → AreChanged f before (set now n v) (n + 1)
changed_more f before now n v d l so_far is = record {
  done = λ i none m. ⊎_elim
      (λ (s : i ≡ n). ap (λ j. get_or (set now n v) j none) s ∙ get_or-set_same now n v none l ∙ is
      ∙ ap (f n) (get_or_default now n d none l ∙ so_far.rest n none (omega arith))
      ∙ ap (λ j. f j (get_or before j none)) (sym s))
      (λ (ne : i ≢ n). get_or-set_other now n i v none ne ∙ so_far.done i none (omega (arith, m, ne)))
      (cases_eq i n);
  rest = λ i none g. get_or-set_other now n i v none (λ e. absurd (omega (arith, e, g)))
      ∙ so_far.rest i none (omega (arith, g));
}

pub loop-number-preserved : goal.loop-number-preserved
loop-number-preserved c =
    let f = noted c.args.left.now c.args.payments.now.paid c.args.cut in
    let old = c.loop-number.invariant in
    let so_far : AreChanged f c.args.all.now c.loop-number.all c.loop-number.number =
    record { done = old.done; rest = old.rest } in
    let more = changed_more f c.args.all.now c.loop-number.all c.loop-number.number c.noted.result _
    (omega arith) so_far c.noted.ensures in
    record { done = more.done; rest = more.rest }
