-- Whom it saves besides, that a bank is given the least sum that saves it.
use Rattle.std.proofs.Common.{◌≡◌, ℕ, ◌+◌, ◌<◌, ◌==◌, ◌&&◌, not, Bool, true, false, cond, List, [], ◌∷◌, ◌++◌, length, map, filter, count_by, get_or, refl, sym, ap, ◌∙◌, arith}
use Rattle.std.specs.List.{range_with_len}
use Rattle.std.proofs.lemmas.List.{map-id}
use Rattle.std.proofs.lemmas.List.{map-append}
use Rattle.std.proofs.lemmas.List.Folds.{fold-map}
use Rattle.std.proofs.lemmas.List.FromFn.{filter_of_map_range_with_len_more}
use Rattle.clr_net.specs.declared.debt.BankId.{BankId}
use Rattle.clr_net.specs.Limits.{IsNetwork}
use Rattle.clr_net.specs.Net.{Net, cash_of}
use Rattle.clear_core.specs.Clearing.{least}
use Rattle.cascade.specs.MoreCash.{NobodyLoses, is_sound_at_least}
use Rattle.cascade.specs.declared.standing.Standing.{Standing}
use Rattle.cascade.specs.Standings.{bank_numbers, is_sound, standing, standings}
use Rattle.cascade.proofs.CashAt.{length-with_cash}
use Rattle.cascade.proofs.MoreCash.{nobody_loses_by_cash}
use Rattle.cascade.proofs.Stands.{as_many_stand, stands_there}
use Rattle.rescue.specs.Rescue.{added, rescue}
use Rattle.rescue.specs.Saved.{is_saved_with, left_in_default, rescued}
use Rattle.rescue.proofs.MoreCash.{more_by_some}

-- cash that is added hurts nobody
pub added_hurts_nobody : (net : Net) (i a : ℕ) → IsNetwork net → NobodyLoses net (added net i a)
added_hurts_nobody net i a network =
    nobody_loses_by_cash net (added net i a) network (more_by_some net i a)

-- the network has as many banks once the bank i is saved
pub as_many_rescued : (net : Net) (i : ℕ) → length (rescued net i).banks ≡ length net.banks
as_many_rescued net i = length-with_cash net i (cash_of net i + rescue net i)

-- of banks that stand so once the bank i is saved
module _ (net : Net) (i : ℕ) (after : List Standing)
    (is : after ≡ standings (rescued net i) (least (rescued net i))) where
  -- there are as many as banks
  pub as_many_after : length after ≡ length net.banks
  as_many_after =
      as_many_stand (rescued net i) (least (rescued net i)) after is ∙ as_many_rescued net i

  -- so many are not sound
  pub counted_after : count_by (λ s. not (is_sound s.health)) after ≡ left_in_default net i
  counted_after =
      let more = rescued net i in
      ap (count_by (λ (s : Standing). not (is_sound s.health))) is
      ∙ fold-map (λ a (s : Standing). a + cond (not (is_sound s.health)) 1 0)
      (standing more (least more)) 0
      (bank_numbers more)
      ∙ ap (λ n. count_by (λ k. not (is_sound_at_least more k)) (range_with_len 0 n))
      (as_many_rescued net i)

-- it is told of a bank k whether it is saved, where all banks stand so before and so after
pub saving_told : (net : Net) (i k : ℕ) (before after : List Standing)
    → before ≡ standings net (least net)
    → after ≡ standings (rescued net i) (least (rescued net i)) → k < length net.banks
    → (d e : Standing) (other cured : Bool) → other ≡ not (k == i)
    → cured ≡ (not (is_sound (get_or before k d).health) && is_sound (get_or after k e).health)
    → (other && cured) ≡ is_saved_with net i k
saving_told net i k before after was is bank d e other cured o t =
    let more = rescued net i in
    rw (
      o,
      t,
      stands_there net (least net) before was k d bank,
      stands_there more (least more) after is k e (omega (arith, as_many_rescued net i, bank)),
    )

-- the banks that pass, with the bank n, which does or does not
pub passing_more : (p : ℕ → Bool) (n : ℕ) (all more : List BankId) (b : BankId) (v : Bool)
    → map (λ b. b.0) all ≡ filter p (range_with_len 0 n) → b.0 ≡ n → p n ≡ v
    → more ≡ all ++ cond v (b ∷ []) []
    → map (λ b. b.0) more ≡ filter p (range_with_len 0 (n + 1))
passing_more p n all more b v so_far e is m =
    rw (m, map-append (λ (b : BankId). b.0) all (cond v (b ∷ []) []), so_far, one v, ← is)
    (simp map-id at (sym (filter_of_map_range_with_len_more p (λ (k : ℕ). k) 0 n n (omega arith))))
  where
    one : (v : Bool) → map (λ b. b.0) (cond v (b ∷ []) []) ≡ cond v (n ∷ []) []
    one true = ap (λ k. k ∷ []) e
    one false = refl
