-- A smaller shock hurts nobody, and so a bank is sound exactly below the least cut that breaks it.
use Rattle.std.proofs.Common.{◌≡◌, ◌↔◌, ℕ, ◌+◌, ◌<◌, ◌≤◌, false, not, Option, Some, None, find, sym, ap, ◌∙◌, refl, ⊎_elim, arith}
use Rattle.std.specs.List.{range_with_len}
use Rattle.std.specs.Option.{option_map_or}
use Rattle.std.proofs.lemmas.Bool.{cases_lt, not-false, true≢false}
use Rattle.std.proofs.lemmas.Nat.{mul-le}
use Rattle.clr_net.specs.Limits.{IsNetwork}
use Rattle.clr_net.specs.Net.{Net, cash_of}
use Rattle.clr_net.proofs.Ranges.{Found, found}
use Rattle.clear_core.specs.Clearing.{least}
use Rattle.cascade.specs.MoreCash.{HasMoreCash, NobodyLoses}
use Rattle.cascade.specs.Standings.{health_of, is_sound}
use Rattle.cascade.proofs.Healths.{sound_told}
use Rattle.cascade.proofs.MoreCash.{nobody_loses}
use Rattle.stress.specs.Milder.{IsMilder, cut_alone, left_by, IsSoundAfter, IsBreakingCut, is_broken_by, breaking_cut}
use Rattle.stress.specs.Shocks.{shocked, shocked_from}
use Rattle.stress.specs.declared.TheConstants.{MAX_CUT}
use Rattle.stress.specs.declared.scenario.Scenario.{Scenario}
use Rattle.stress.proofs.Kept.{keeps_all_but_cash, leaves_cash}

-- a milder shock leaves no bank less, since a smaller cut does not
pub milder_leaves_more : (net : Net) (milder harder : Scenario) → IsMilder milder harder
    → HasMoreCash (shocked net harder) (shocked net milder)
milder_leaves_more net milder harder h =
    let less = keeps_all_but_cash net harder in
    let more = keeps_all_but_cash net milder in
    record {
      banks = more.banks ∙ sym less.banks;
      rules = λ i. more.rules i ∙ sym (less.rules i);
      outside = λ i. more.outside i ∙ sym (less.outside i);
      cash = λ i. omega (
        arith,
        leaves_cash net harder i,
        leaves_cash net milder i,
        mul-le (cash_of net i) milder.cut (cash_of net i) harder.cut (omega arith) h.cut,
        h.losses i,
      );
      debts = refl;
    }

-- and hurts nobody
pub milder_hurts_nobody : (net : Net) (milder harder : Scenario) → IsNetwork net
    → IsMilder milder harder → NobodyLoses (shocked net harder) (shocked net milder)
milder_hurts_nobody net milder harder network h =
    nobody_loses net (shocked_from harder.cut harder.losses 0 net.banks)
    (shocked_from milder.cut milder.losses 0 net.banks) (milder_leaves_more net milder harder h)
    network

-- a cut that does not break the bank leaves it sound
not_broken : (net : Net) (i k : ℕ) → is_broken_by net i k ≡ false → IsSoundAfter net i k
not_broken net i k e =
    let h = health_of (left_by net k) (least (left_by net k)) i in
    sound_told h (not-false (is_sound h) e)

-- the first cut that breaks the bank, if one does
cut_found : (net : Net) (i : ℕ) (r : Option ℕ) → Found (is_broken_by net i) (MAX_CUT + 1) r
    → IsBreakingCut net i (option_map_or (λ k. k) r (MAX_CUT + 1))
cut_found net i None f = record {
  within = omega arith;
  breaks = λ l. absurd (omega arith);
  least = λ k l. not_broken net i k (f k l);
}
cut_found net i (Some c) f = record {
  within = omega (arith, f.0);
  breaks = λ l sound. true≢false (sym f.1 ∙ ap (λ h. not (is_sound h)) sound);
  least = λ k l. not_broken net i k (f.2 k l);
}

-- is the least
pub breaking_cut_is : (net : Net) (i : ℕ) → IsBreakingCut net i (breaking_cut net i)
breaking_cut_is net i = cut_found net i (find (is_broken_by net i) (range_with_len 0 (MAX_CUT + 1)))
    (found (is_broken_by net i) (MAX_CUT + 1))

-- the bank is sound exactly below it
pub sound_below : (net : Net) (i k : ℕ) → IsNetwork net → k ≤ MAX_CUT
    → IsSoundAfter net i k ↔ (k < breaking_cut net i)
sound_below net i k network l =
    let c = breaking_cut net i in
    let is = breaking_cut_is net i in (
      λ sound. ⊎_elim
          (λ (m : k < c). m)
          (λ (g : c ≤ k). absurd (is.breaks (omega arith)
          ((milder_hurts_nobody net (cut_alone c) (cut_alone k) network
          (record { cut = g; losses = λ i. omega arith })).sound i sound)))
          (cases_lt k c),
      is.least k,
    )
