-- What is told of the banks stays so, as a walk begins, looks on, and its last bank is done.
use Rattle.std.proofs.Common.{◌≡◌, ◌≢◌, ℕ, ◌<◌, ◌≤◌, List, length, length-set, get_or, set, sum_by, Option, Some, None, refl, sym, ap, ◌∙◌, subst, ⊎_elim, arith}
use Rattle.std.proofs.lemmas.Bool.{cases_eq}
use Rattle.std.specs.Global.{Vec}
use Rattle.std.proofs.lemmas.List.{get_or-set_same, get_or-set_other, with_items_is}
use Rattle.std.proofs.lemmas.List.Sums.{sum_by-set}
use Rattle.std.specs.Vec.{with_item, with_items}
use Rattle.clr_net.specs.declared.debt.BankId.{BankId}
use Rattle.clr_net.specs.Limits.{IsNetwork}
use Rattle.clr_net.specs.Net.{Net}
use Rattle.clr_net.specs.declared.TheConstants.{MAX_BANKS}
use Rattle.compress.specs.Compression.{rank_above}
use Rattle.compress.specs.declared.mark.Mark.{Mark}
use Rattle.compress.specs.declared.mark.Mark.TheVariants.{New, Walked, Done}
use Rattle.compress.specs.declared.walk.Walk.{Walk}
use Rattle.compress.specs.declared.step.Step.{Step}
use Rattle.compress.specs.Walk.{mark_of, numbers, end_of, steps_left, AreDone, AreHeads, ArePassed, IsStepFrom, IsWalk, IsKept, IsReady, IsTold, IsUnderWay, IsAtRest}
use Rattle.compress.proofs.Walks.{walk_begins, walked_not_done}
use Rattle.compress.proofs.Dones.{done_marked, done_more}
use Rattle.compress.proofs.Cursors.{passed_kept}
use Rattle.compress.proofs.Steps.{end_not_done, kept_done, not_done_in_range}

-- a bank that is new is walked to
pub begun_kept : (net : Net) (c : ℕ) (C : List ℕ) (marks : List Mark) (s : ℕ)
    → mark_of marks s ≡ New → IsKept net c C C marks (set marks s (Walked 0))
begun_kept net c C marks s new =
    kept_done net c C marks s (Walked 0) (λ e. absurd (cc))

-- a walk begins there
pub begun : {net : Net} {c : ℕ} {C : List ℕ} {w : Walk} (start : BankId) → IsAtRest net c C w
    → start.0 < length w.marks.items → mark_of w.marks.items start.0 ≡ New
    → IsUnderWay net c C (record w {
      start = start;
      marks = with_item w.marks start.0 (Walked 0);
    })
begun {net = net} {c = c} {C = C} {w = w} start rest known new =
    let marks = w.marks.items in
    let after = set marks start.0 (Walked 0) in
    let sizes = rest.told.sizes in
    record {
      walk = subst (λ ids. IsWalk net c start.0 C (numbers ids) after) (sym rest.empty)
          (walk_begins net c start.0 C marks known rest.no_walk);
      steps = λ k d l. absurd (omega (arith, ap length rest.empty));
      told = record {
        done = done_marked start.0 (Walked 0) rest.told.done known
            (λ e. absurd (cc)) (walked_not_done 0);
        passed = passed_kept w.cursors.items (begun_kept net c C marks start.0 new) rest.told.passed;
        heads = rest.told.heads;
        sizes = record {
          marks = omega (arith, length-set {A = Mark}, sizes.marks);
          cursors = sizes.cursors;
          heads = sizes.heads;
          ranks = sizes.ranks;
        };
      };
    }

-- a step back from a bank is put beside it
heads_put : (net : Net) (c : ℕ) (H : List (Option Step)) (b : ℕ) (o : Option Step)
    → AreHeads net c H → b < length H → ((s : Step) → o ≡ Some s → IsStepFrom net c b s)
    → AreHeads net c (set H b o)
heads_put net c H b o old l new j s e = ⊎_elim
    (λ (same : j ≡ b). subst (λ i. IsStepFrom net c i s) (sym same)
    (new s (sym (get_or-set_same H b o None l)
    ∙ ap (λ i. get_or (set H b o) i None) (sym same) ∙ e)))
    (λ (ne : j ≢ b). old j s (sym (get_or-set_other H b j o None ne) ∙ e))
    (cases_eq j b)

-- the cursors are moved, and the step that was found is put beside its bank
pub looked_on : {net : Net} {c : ℕ} {C : List ℕ} {w : Walk} (K : List ℕ) (b : ℕ) (o : Option Step)
    → IsUnderWay net c C w → b < length net.banks
    → length K ≡ length w.cursors.items → ArePassed net c C w.marks.items K
    → ((s : Step) → o ≡ Some s → IsStepFrom net c b s)
    → IsUnderWay net c C (record w {
      cursors = with_items w.cursors K;
      heads = with_item w.heads b o;
    })
looked_on {net = net} {c = c} {C = C} {w = w} K b o old inside l passed found =
    let moved : (with_items w.cursors K).items ≡ K = with_items_is w.cursors K (omega (arith, l)) in
    record {
      walk = old.walk;
      steps = old.steps;
      told = record {
        done = old.told.done;
        passed = subst (ArePassed net c C w.marks.items) (sym moved) passed;
        heads = heads_put net c w.heads.items b o old.told.heads
            (omega (arith, inside, old.told.sizes.heads)) found;
        sizes = record {
          marks = old.told.sizes.marks;
          cursors = ap length moved ∙ l ∙ old.told.sizes.cursors;
          heads = omega (arith, length-set {A = Option Step}, old.told.sizes.heads);
          ranks = old.told.sizes.ranks;
        };
      };
    }

-- the last bank of a walk was not done before
retired_was : {net : Net} {c : ℕ} {C : List ℕ} {w : Walk} (e : ℕ) → IsUnderWay net c C w
    → e ≡ end_of net w.start.0 (numbers w.steps.items) → mark_of w.marks.items e ≢ Done
retired_was {net = net} {c = c} {C = C} {w = w} e old at =
    subst (λ (b : ℕ). mark_of w.marks.items b ≢ Done) (sym at)
    (end_not_done net c w.start.0 C (numbers w.steps.items) w.marks.items old.walk)

-- and it is a bank of the network
pub retired_known : {net : Net} {c : ℕ} {C : List ℕ} {w : Walk} (e : ℕ) → IsUnderWay net c C w
    → e ≡ end_of net w.start.0 (numbers w.steps.items) → e < length net.banks
retired_known {w = w} e old at =
    omega (arith, not_done_in_range w.marks.items e (retired_was e old at), old.told.sizes.marks)

-- no bank has a number above the limit on banks
pub ranks_low : {net : Net} {c : ℕ} {C : List ℕ} {w : Walk} (R : List ℕ) → IsUnderWay net c C w → IsNetwork net
    → R ≡ w.ranks.items → (b : ℕ) → get_or R b 0 ≤ MAX_BANKS
ranks_low R old network same b =
    omega (arith, ap (λ (R : List ℕ). get_or R b 0) same, old.told.done.low b, network.banks_in_limit)

-- once it is, what every step keeps is kept
pub retired_kept : {net : Net} {c : ℕ} {C : List ℕ} {w : Walk} (e : ℕ) → IsUnderWay net c C w
    → e ≡ end_of net w.start.0 (numbers w.steps.items)
    → IsKept net c C C w.marks.items (set w.marks.items e Done)
retired_kept {net = net} {c = c} {C = C} {w = w} e old at =
    kept_done net c C w.marks.items e Done (retired_was e old at)

-- a bank that is not done has a step left
some_left : (m : Mark) → m ≢ Done → 0 < steps_left m
some_left New ne = omega arith
some_left (Walked p) ne = omega arith
some_left Done ne = absurd (ne refl)

-- and fewer steps are left
pub retired_less : {net : Net} {c : ℕ} {C : List ℕ} {w : Walk} (e : ℕ) → IsUnderWay net c C w
    → e ≡ end_of net w.start.0 (numbers w.steps.items)
    → sum_by steps_left (set w.marks.items e Done) < sum_by steps_left w.marks.items
retired_less {w = w} e old at =
    let marks = w.marks.items in
    let was = retired_was e old at in
    omega (
      arith,
      sum_by-set steps_left marks e Done Done (not_done_in_range marks e was),
      some_left (mark_of marks e) was,
    )

-- and where the walk goes on to a new bank
pub grown_less : (marks : List Mark) (b k : ℕ) → mark_of marks b ≡ New
    → sum_by steps_left (set marks b (Walked k)) < sum_by steps_left marks
grown_less marks b k new =
    omega (
      arith,
      sum_by-set steps_left marks b (Walked k) Done (not_done_in_range marks b (λ e. absurd (cc))),
      ap steps_left new,
    )

-- the last bank of a walk is done: what is told of the banks is so
pub retired_told : {net : Net} {c : ℕ} {C : List ℕ} {w : Walk} (ids : Vec Step) (e v : ℕ)
    → IsUnderWay net c C w → e ≡ end_of net w.start.0 (numbers w.steps.items)
    → IsReady net c e C w.marks.items → v ≡ rank_above net C (λ j. get_or w.ranks.items j 0) c e
    → IsTold net c C (record w {
      steps = ids;
      marks = with_item w.marks e Done;
      ranks = with_item w.ranks e v;
    })
retired_told {net = net} {c = c} {C = C} {w = w} ids e v old at ready is =
    let marks = w.marks.items in
    let sizes = old.told.sizes in
    let not_done = retired_was e old at in
    let inside = not_done_in_range marks e not_done in
    record {
      done = done_more e v old.told.done inside (omega (arith, inside, sizes.ranks, sizes.marks))
          not_done ready is;
      passed = passed_kept w.cursors.items (kept_done net c C marks e Done not_done) old.told.passed;
      heads = old.told.heads;
      sizes = record {
        marks = omega (arith, length-set {A = Mark}, sizes.marks);
        cursors = sizes.cursors;
        heads = sizes.heads;
        ranks = omega (arith, length-set {A = ℕ}, sizes.ranks);
      };
    }

-- the walk is back at the first bank of the cycle, and what is told of the banks is so
pub cancelled_told : {net : Net} {c : ℕ} {C D : List ℕ} {w : Walk} (v : Walk)
    → IsTold net c C w → IsKept net c C D w.marks.items v.marks.items
    → ((R : List ℕ) → AreDone net c C R w.marks.items → AreDone net c D R v.marks.items)
    → v.cursors ≡ w.cursors → v.heads ≡ w.heads → v.ranks ≡ w.ranks → IsTold net c D v
cancelled_told {w = w} v told kept done cursors heads ranks = record {
  done = rw ranks (done w.ranks.items told.done);
  passed = rw cursors (passed_kept w.cursors.items kept told.passed);
  heads = rw heads told.heads;
  sizes = record {
    marks = kept.banks ∙ told.sizes.marks;
    cursors = rw cursors told.sizes.cursors;
    heads = rw heads told.sizes.heads;
    ranks = rw ranks told.sizes.ranks;
  };
}
