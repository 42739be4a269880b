-- A walk grows by a debt, and is taken back by one.
use Rattle.std.proofs.Common.{◌≡◌, ◌≢◌, ℕ, suc, ◌+◌, ◌<◌, ◌≤◌, List, [], ◌∷◌, ◌++◌, length, get_or, set, refl, sym, ap, ◌∙◌, subst, ⊎_elim, arith}
use Rattle.std.proofs.Math.ListN.{get_or-append}
use Rattle.std.proofs.lemmas.Bool.{cases_eq, cases_lt}
use Rattle.std.proofs.lemmas.List.{get_or_push, get_or-map, get_or-set_same, get_or-set_other, length_push, length-map, map-append}
use Rattle.clr_net.specs.Net.{Net, debtor_of, creditor_of}
use Rattle.compress.specs.Compression.{IsLive}
use Rattle.compress.proofs.Cycles.{live_class, live_claim, live_with}
use Rattle.compress.specs.declared.mark.Mark.{Mark}
use Rattle.compress.specs.declared.mark.Mark.TheVariants.{New, Walked, Done}
use Rattle.compress.specs.Walk.{mark_of, stops, end_of, IsWalk, HasNoWalk}

-- the stops of a walk with one debt more
stops_push : (net : Net) (s : ℕ) (W : List ℕ) (x : ℕ)
    → stops net s (W ++ x ∷ []) ≡ stops net s W ++ debtor_of net x ∷ []
stops_push net s W x = ap (λ (ds : List ℕ). s ∷ ds) (map-append (debtor_of net) W (x ∷ []))

-- a walk has one stop more than debts
pub length-stops : (net : Net) (s : ℕ) (W : List ℕ) → length (stops net s W) ≡ length W + 1
length-stops net s W = omega (arith, length-map W (debtor_of net))

-- one debt more leaves the stops before it
pub stop_before : (net : Net) (s : ℕ) (W : List ℕ) (x k : ℕ) → k < length W + 1
    → get_or (stops net s (W ++ x ∷ [])) k 0 ≡ get_or (stops net s W) k 0
stop_before net s W x k l =
    ap (λ (bs : List ℕ). get_or bs k 0) (stops_push net s W x)
    ∙ get_or-append (stops net s W) (debtor_of net x ∷ []) 0 k (omega (arith, length-stops net s W))

-- the last stop is the debtor of the last debt
pub stop_last : (net : Net) (s : ℕ) (W : List ℕ) (x k : ℕ) → k ≡ length W + 1
    → get_or (stops net s (W ++ x ∷ [])) k 0 ≡ debtor_of net x
stop_last net s W x k e =
    ap (λ (bs : List ℕ). get_or bs k 0) (stops_push net s W x)
    ∙ get_or_push (stops net s W) (debtor_of net x) 0 k (omega (arith, length-stops net s W))

-- the debt in a place leads to the stop after it
pub stop_after : (net : Net) (s : ℕ) (W : List ℕ) (k : ℕ) → k < length W
    → get_or (stops net s W) (k + 1) 0 ≡ debtor_of net (get_or W k 0)
stop_after net s W k l =
    let more : k + 1 ≡ suc k = omega arith in
    ap (λ n. get_or (stops net s W) n 0) more ∙ get_or-map (debtor_of net) W k 0 0 l

-- two marks of a walk that are equal name the same place
same_place : (j k : ℕ) → Walked j ≡ Walked k → j ≡ k
same_place j k e = cc

-- a bank that is new is on no walk
new_not_walked : (k : ℕ) → New ≢ Walked k
new_not_walked k e = absurd (cc)

-- a bank on the walk is not done
pub walked_not_done : (k : ℕ) → Walked k ≢ Done
walked_not_done k e = absurd (cc)

-- no bank stands twice on a walk
pub stop_once : {net : Net} {c s : ℕ} {C W : List ℕ} {marks : List Mark} (j k : ℕ) → IsWalk net c s C W marks
    → j < length W + 1 → k < length W + 1 → get_or (stops net s W) j 0 ≡ get_or (stops net s W) k 0 → j ≡ k
stop_once {marks = marks} j k w l m same =
    same_place j k (sym (w.marked j l) ∙ ap (mark_of marks) same ∙ w.marked k m)

-- the last debt of a walk stands in no earlier place
pub last_apart : {net : Net} {c s : ℕ} {C : List ℕ} {marks : List Mark} (W : List ℕ) (x k : ℕ)
    → IsWalk net c s C (W ++ x ∷ []) marks → k < length W → get_or W k 0 ≢ x
last_apart {net = net} {s = s} W x k w l e =
    let same = stop_once (k + 1) (length W + 1) w (omega (arith, length_push W x)) (omega (arith, length_push W x))
    (stop_before net s W x (k + 1) (omega arith) ∙ stop_after net s W k l ∙ ap (debtor_of net) e
    ∙ sym (stop_last net s W x (length W + 1) refl)) in
    omega arith

-- and a debt to the end of a walk stands in none
pub closing_apart : {net : Net} {c s : ℕ} {C W : List ℕ} {marks : List Mark} (x k : ℕ)
    → IsWalk net c s C W marks → k < length W → creditor_of net x ≡ end_of net s W → get_or W k 0 ≢ x
closing_apart {net = net} {W = W} x k w l link e =
    let same = stop_once k (length W) w (omega arith) (omega arith)
    (sym (w.links k l) ∙ ap (creditor_of net) e ∙ link) in
    omega arith

-- a walk begins at a bank
pub walk_begins : (net : Net) (c s : ℕ) (C : List ℕ) (marks : List Mark) → s < length marks
    → HasNoWalk marks
    → IsWalk net c s C [] (set marks s (Walked 0))
walk_begins net c s C marks l none = record {
  live = λ k m. absurd (omega arith);
  links = λ k m. absurd (omega arith);
  marked = λ k m.
      let first : k ≡ 0 = omega arith in rw first (get_or-set_same marks s (Walked 0) Done l);
  placed = λ b p e. ⊎_elim
      (λ (same : b ≡ s).
      let here : Walked 0 ≡ Walked p = sym (get_or-set_same marks s (Walked 0) Done l)
      ∙ ap (λ b. get_or (set marks s (Walked 0)) b Done) (sym same) ∙ e in
      let first = same_place 0 p here in
      (omega arith, rw (← first) (sym same)))
      (λ (ne : b ≢ s). absurd (none b p (sym (get_or-set_other marks s b (Walked 0) Done ne) ∙ e)))
      (cases_eq b s);
}

-- a walk grows by a debt above 0 to its end, owed by a bank that is new
pub walk_grows : (net : Net) (c s : ℕ) (C W : List ℕ) (marks : List Mark) (x : ℕ)
    → IsWalk net c s C W marks → IsLive net C c x
    → creditor_of net x ≡ end_of net s W → debtor_of net x < length marks
    → mark_of marks (debtor_of net x) ≡ New
    → IsWalk net c s C (W ++ x ∷ []) (set marks (debtor_of net x) (Walked (length W + 1)))
walk_grows net c s C W marks x w live link l new = record {
  live = λ k m. ⊎_elim
      (λ (b : k < length W). subst (IsLive net C c) (sym (get_or-append W (x ∷ []) 0 k b))
      (w.live k b))
      (λ (g : length W ≤ k). subst (IsLive net C c) (sym (get_or_push W x 0 k (at_end k m g))) live)
      (cases_lt k (length W));
  links = λ k m. ⊎_elim
      (λ (b : k < length W). ap (creditor_of net) (get_or-append W (x ∷ []) 0 k b) ∙ w.links k b
      ∙ sym (stop_before net s W x k (omega arith)))
      (λ (g : length W ≤ k).
      let e = at_end k m g in
      ap (creditor_of net) (get_or_push W x 0 k e) ∙ link ∙ ap (λ n. get_or (stops net s W) n 0) e
      ∙ sym (stop_before net s W x k (omega arith)))
      (cases_lt k (length W));
  marked = λ k m. ⊎_elim
      (λ (b : k < length W + 1).
      ap (λ b. get_or marks' b Done) (stop_before net s W x k b)
      ∙ get_or-set_other marks (debtor_of net x) (get_or (stops net s W) k 0)
      (Walked (length W + 1)) Done (λ same.
      new_not_walked k (sym new ∙ ap (mark_of marks) (sym same) ∙ w.marked k b))
      ∙ w.marked k b)
      (λ (g : length W + 1 ≤ k).
      let e : k ≡ length W + 1 = omega (arith, length_push W x) in
      ap (λ b. get_or marks' b Done) (stop_last net s W x k e)
      ∙ get_or-set_same marks (debtor_of net x) (Walked (length W + 1)) Done l
      ∙ ap Walked (sym e))
      (cases_lt k (length W + 1));
  placed = λ b p e. ⊎_elim
      (λ (same : b ≡ debtor_of net x).
      let here : Walked (length W + 1) ≡ Walked p =
      sym (get_or-set_same marks (debtor_of net x) (Walked (length W + 1)) Done l)
      ∙ ap (λ b. get_or marks' b Done) (sym same) ∙ e in
      let place : p ≡ length W + 1 = sym (same_place (length W + 1) p here) in
      (omega (arith, length_push W x, place), stop_last net s W x p place ∙ sym same))
      (λ (ne : b ≢ debtor_of net x).
      let old = w.placed b p (sym (get_or-set_other marks (debtor_of net x) b
      (Walked (length W + 1)) Done ne) ∙ e) in
      (omega (arith, length_push W x, old.0), stop_before net s W x p old.0 ∙ old.1))
      (cases_eq b (debtor_of net x));
}
  where
    marks' : List Mark
    marks' = set marks (debtor_of net x) (Walked (length W + 1))

    at_end : (k : ℕ) → k < length (W ++ x ∷ []) → length W ≤ k → length W ≡ k
    at_end k m g = omega (arith, length_push W x)

-- a walk is taken back by its last debt, whose claim may have been lowered, and whose debtor is no
-- longer on it
pub walk_back : {net : Net} {c s : ℕ} {C : List ℕ} {marks : List Mark} (D W : List ℕ) (x : ℕ) (v : Mark)
    → IsWalk net c s C (W ++ x ∷ []) marks
    → ((y : ℕ) → y ≢ x → get_or D y 0 ≡ get_or C y 0) → debtor_of net x < length marks
    → ((k : ℕ) → v ≢ Walked k)
    → IsWalk net c s D W (set marks (debtor_of net x) v)
walk_back {net = net} {c = c} {s = s} {C = C} {marks = marks} D W x v w same l free = record {
  live = λ k m.
      let y = get_or W k 0 in
      let old = subst (IsLive net C c) (get_or-append W (x ∷ []) 0 k m)
      (w.live k (omega (arith, length_push W x))) in
      live_with net D c y old.debt (live_class old)
      (omega (arith, live_claim old, same y (last_apart W x k w m)));
  links = λ k m.
      ap (creditor_of net) (sym (get_or-append W (x ∷ []) 0 k m))
      ∙ w.links k (omega (arith, length_push W x))
      ∙ stop_before net s W x k (omega arith);
  marked = λ k m.
      get_or-set_other marks (debtor_of net x) (get_or (stops net s W) k 0) v Done
      (λ e. other k m (stop_before net s W x k m ∙ e))
      ∙ ap (mark_of marks) (sym (stop_before net s W x k m))
      ∙ w.marked k (omega (arith, length_push W x));
  placed = λ b p e. ⊎_elim
      (λ (s : b ≡ debtor_of net x). absurd (free p
      (sym (get_or-set_same marks (debtor_of net x) v Done l)
      ∙ ap (λ b. get_or (set marks (debtor_of net x) v) b Done) (sym s) ∙ e)))
      (λ (ne : b ≢ debtor_of net x).
      let old = w.placed b p (sym (get_or-set_other marks (debtor_of net x) b v Done ne) ∙ e) in
      ⊎_elim
      (λ (m : p < length W + 1). (m, sym (stop_before net s W x p m) ∙ old.1))
      (λ (g : length W + 1 ≤ p). absurd (ne (sym old.1
      ∙ stop_last net s W x p (omega (arith, old.0, length_push W x)))))
      (cases_lt p (length W + 1)))
      (cases_eq b (debtor_of net x));
}
  where
    -- no stop before the last is the last debt's debtor
    other : (k : ℕ) → k < length W + 1 → get_or (stops net s (W ++ x ∷ [])) k 0 ≢ debtor_of net x
    other k m e =
        let both = stop_once k (length W + 1) w (omega (arith, length_push W x)) (omega (arith, length_push W x))
        (e ∙ sym (stop_last net s W x (length W + 1) refl)) in
        omega arith

-- a walk that has come back to its start ends there
pub walk_ends : (net : Net) (c s : ℕ) (C : List ℕ) (marks : List Mark) (v : Mark)
    → IsWalk net c s C [] marks → s < length marks
    → ((k : ℕ) → v ≢ Walked k) → HasNoWalk (set marks s v)
walk_ends net c s C marks v w l free b p e = ⊎_elim
    (λ (same : b ≡ s). free p (sym (get_or-set_same marks s v Done l)
    ∙ ap (λ b. get_or (set marks s v) b Done) (sym same) ∙ e))
    (λ (ne : b ≢ s).
    let old = w.placed b p (sym (get_or-set_other marks s b v Done ne) ∙ e) in
    let first : p ≡ 0 = omega (arith, old.0) in
    ne (sym old.1 ∙ ap (λ p. get_or (stops net s []) p 0) first))
    (cases_eq b s)
