-- The two other steps: a walk goes on to a new bank, or its last bank is done.
use Rattle.std.proofs.Common.{◌≡◌, ◌≢◌, ℕ, ◌<◌, ◌≤◌, List, [], ◌∷◌, ◌++◌, All, length, length-set, length-append, get_or, set, true, Option, Some, None, refl, sym, ap, ◌∙◌, subst, ⊎_elim, arith}
use Rattle.std.proofs.Math.ListN.{get_or-append}
use Rattle.std.proofs.lemmas.Bool.{cases_lt}
use Rattle.std.proofs.lemmas.List.{get_or_past, get_or-set_same, length_push, map-append}
use Rattle.std.specs.Option.{is_some, option_to_list}
use Rattle.clr_net.specs.Net.{Net, debtor_of}
use Rattle.compress.specs.declared.mark.Mark.{Mark}
use Rattle.compress.specs.declared.mark.Mark.TheVariants.{Done}
use Rattle.compress.specs.declared.step.Step.{Step}
use Rattle.compress.specs.Walk.{mark_of, numbers, end_of, HasNoWalk, IsStep, IsWalk, IsKept}
use Rattle.compress.proofs.Walks.{stop_last, walk_back, walk_ends, walked_not_done}
use Rattle.compress.proofs.Dones.{marks_stay}

-- a number that is not marked as done is that of a bank
pub not_done_in_range : (marks : List Mark) (b : ℕ) → mark_of marks b ≢ Done → b < length marks
not_done_in_range marks b ne = ⊎_elim (λ (l : b < length marks). l)
    (λ (g : length marks ≤ b). absurd (ne (get_or_past marks b Done g)))
    (cases_lt b (length marks))

-- steps one after another
pub kept_both : {net : Net} {c : ℕ} {C D E : List ℕ} {m n o : List Mark} → IsKept net c C D m n
    → IsKept net c D E n o → IsKept net c C E m o
kept_both a b = record {
  as_many = b.as_many ∙ a.as_many;
  falls = λ k. omega (arith, a.falls k, b.falls k);
  others = λ x ne. b.others x ne ∙ a.others x ne;
  balances = λ k i same. b.balances k i (a.balances k i same);
  banks = b.banks ∙ a.banks;
  stays = λ i e. b.stays i (a.stays i e);
}

-- and where nothing but the marks tells them apart
pub kept_then : {net : Net} {c : ℕ} {C D E : List ℕ} {m n k o : List Mark} → IsKept net c C D m n
    → k ≡ n → IsKept net c D E k o → IsKept net c C E m o
kept_then {net = net} {c = c} {D = D} {E = E} {o = o} a same b =
    kept_both a (subst (λ k. IsKept net c D E k o) same b)

-- a bank that was not done is
pub kept_done : (net : Net) (c : ℕ) (C : List ℕ) (marks : List Mark) (b : ℕ) (v : Mark)
    → mark_of marks b ≢ Done → IsKept net c C C marks (set marks b v)
kept_done net c C marks b v was = record {
  as_many = refl;
  falls = λ k. omega arith;
  others = λ x ne. refl;
  balances = λ k b same. same;
  banks = length-set marks b v;
  stays = marks_stay marks b v was;
}

module _ (net : Net) (c s : ℕ) (C W : List ℕ) (marks : List Mark)
    (w : IsWalk net c s C W marks) where
  -- the bank where a walk ends is not done
  pub end_not_done : mark_of marks (end_of net s W) ≢ Done
  end_not_done e = walked_not_done (length W) (sym (w.marked (length W) (omega arith)) ∙ e)

  -- where a walk ends there is a bank
  pub end_in_range : end_of net s W < length marks
  end_in_range = not_done_in_range marks (end_of net s W) end_not_done

  -- with its last bank done, the walk without its last debt is a walk
  pub retired_back : (V : List ℕ) (y : ℕ) → W ≡ V ++ y ∷ []
      → IsWalk net c s C V (set marks (end_of net s W) Done)
  retired_back V y e =
      let at : end_of net s W ≡ debtor_of net y = ap (end_of net s) e
      ∙ stop_last net s V y (length (V ++ y ∷ [])) (length_push V y) in
      subst (λ b. IsWalk net c s C V (set marks b Done)) (sym at)
      (walk_back C V y Done (subst (λ U. IsWalk net c s C U marks) e w)
      (λ z ne. refl) (omega (arith, end_in_range, at)) (λ k f. absurd (cc)))

  -- once the first bank of an empty walk is done, no walk is marked any more
  pub retired_ends : W ≡ [] → HasNoWalk (set marks (end_of net s W) Done) ×
      (mark_of (set marks (end_of net s W) Done) s ≡ Done)
  retired_ends e =
      let at : end_of net s W ≡ s = ap (end_of net s) e in
      subst (λ b. HasNoWalk (set marks b Done) × (mark_of (set marks b Done) s ≡ Done)) (sym at) (
        walk_ends net c s C marks Done (subst (λ U. IsWalk net c s C U marks) e w)
            (omega (arith, end_in_range, at)) (λ k f. absurd (cc)),
        get_or-set_same marks s Done Done (omega (arith, end_in_range, at)),
      )

-- what is left of a walk where its last debt is taken off
pub popped : (net : Net) (c s : ℕ) (C : List ℕ) (marks : List Mark) (items ids : List Step) (o : Option Step)
    → IsWalk net c s C (numbers items) marks → is_some o ≡ true → items ≡ ids ++ option_to_list o
    → IsWalk net c s C (numbers ids) (set marks (end_of net s (numbers items)) Done)
popped net c s C marks items ids None w some at = absurd (cc)
popped net c s C marks items ids (Some y) w some at =
    retired_back net c s C (numbers items) marks w (numbers ids) y.debt.0
    (ap numbers at ∙ map-append (λ (s : Step). s.debt.0) ids (y ∷ []))

-- and its steps
pub steps_popped : (net : Net) (items ids : List Step) (o : Option Step) → All (IsStep net) items
    → items ≡ ids ++ option_to_list o → All (IsStep net) ids
steps_popped net items ids o all at = λ k d l.
    subst (IsStep net) (ap (λ ss. get_or ss k d) at ∙ get_or-append ids (option_to_list o) d k l)
    (all k d (omega (arith, ap length at, length-append ids (option_to_list o))))
