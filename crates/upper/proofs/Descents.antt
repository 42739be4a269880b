-- What the rounds from all debts paid in full come to, and the waves with them.
use Rattle.std.proofs.Common.{◌≡◌, ◌≢◌, ℕ, suc, ◌+◌, ◌≤◌, List, length, get_or, replicate, sum, sym, ap, ◌∙◌, subst, arith}
use Rattle.std.proofs.lemmas.List.{length-map, length-replicate}
use Rattle.std.proofs.lemmas.List.Sums.{sum-map}
use Rattle.std.proofs.lemmas.List.FromFn.{fill_by_all, get_or-map-range_with_len}
use Rattle.clr_net.specs.Amounts.{IsAtMost}
use Rattle.clr_net.specs.Limits.{IsNetwork}
use Rattle.clr_net.specs.Net.{Net, units_owed}
use Rattle.clr_net.proofs.Lists.{sum_rises, zeros_at}
use Rattle.clr_net.proofs.RowsAndColumns.{claim_of_at}
use Rattle.clear_core.specs.Buffers.{AreInLimit}
use Rattle.clear_core.specs.Clearing.{NeverFalls, pay_by, estate}
use Rattle.clear_core.specs.Rounds.{rounds_of}
use Rattle.clear_core.proofs.Pay.{length-pay_by}
use Rattle.clear_core.proofs.Rows.{claim_in_limit}
use Rattle.cascade.specs.Standings.{due}
use Rattle.clr_net.specs.Claims.{all_claims}
use Rattle.upper.specs.Bounds.{wave, waves, IsWave, WavesTellHealth}
use Rattle.upper.specs.Greatest.{falling_by, greatest_by}
use Rattle.upper.specs.Waves.{FallsShortIn, IsWaveIn, wave_in, waves_in}
use Rattle.upper.specs.Descent.{IsWaveTo, AreWavesTo, AreMarked}
use Rattle.upper.proofs.Tops.{falling_falls, falling_back, falling_settled}
use Rattle.upper.proofs.Waves.{wave_is, wave_in_known, wave_tells}

-- the payments after n rounds by f, which never falls; each round took a unit off at least
pub record IsDown (net : Net) (f : ℕ → ℕ → ℕ) (n : ℕ) (P : List ℕ) : Type 0 where
  pub never : NeverFalls f
  pub as_many : length P ≡ length net.debts
  pub at : P ≡ falling_by net f n
  pub units : sum P + n ≤ units_owed net

-- before the first round
pub down_first : (net : Net) (f : ℕ → ℕ → ℕ) (P : List ℕ) → NeverFalls f → P ≡ all_claims net → IsDown net f 0 P
unfolding rounds_of
down_first net f P never e = record {
  never = never;
  as_many = ap length e ∙ length-map net.debts (λ d. d.claim);
  at = e;
  units = omega (arith, ap sum e, sum-map (λ d. d.claim) net.debts);
}

module _ {net : Net} {f : ℕ → ℕ → ℕ} {n : ℕ} {P : List ℕ} (d : IsDown net f n P) where
  -- a round only takes off
  pub down_falls : IsAtMost (pay_by net f P) P
  down_falls = subst (λ R. IsAtMost (pay_by net f R) R) (sym d.at) (falling_falls net f d.never n)

  -- so payments stay within the claims
  pub down_in_limit : IsNetwork net → AreInLimit P
  unfolding rounds_of
  down_in_limit network k =
      let first : n + 0 ≡ n = omega arith in
      let is = ap (λ (R : List ℕ). get_or R k 0) d.at in
      let fallen = (rw first at (falling_back net f d.never 0 n)) k in
      omega (arith, claim_of_at net k, claim_in_limit net k network)

  -- n rounds and one that changes something, which takes off a unit, are n + 1
  pub down_more : (Q : List ℕ) → Q ≡ pay_by net f P → P ≢ Q → IsDown net f (n + 1) Q
  unfolding rounds_of
  down_more Q e ne =
      let as_many = ap length e ∙ length-pay_by net f P in
      let lower : IsAtMost Q P = rw e down_falls in
      record {
        never = d.never;
        as_many = as_many;
        at = let more : suc n ≡ n + 1 = omega arith in
            e ∙ ap (pay_by net f) d.at ∙ ap (falling_by net f) more;
        units = omega (arith, sum_rises Q P (as_many ∙ sym d.as_many) lower (λ s. ne (sym s)), d.units);
      }

  -- payments that a round does not change are those of every later round
  pub down_stays : pay_by net f P ≡ P → (m : ℕ) → n ≤ m → falling_by net f m ≡ P
  down_stays c m g =
      falling_settled net f d.never n m (subst (λ R. pay_by net f R ≡ R) d.at c) g ∙ sym d.at

  -- and so the greatest
  pub down_ends : pay_by net f P ≡ P → P ≡ greatest_by net f
  down_ends c = sym (down_stays c (units_owed net) (omega (arith, d.units)))

-- before the first round no wave is known
pub waves_none : (net : Net) (R : ℕ → List ℕ) → AreWavesTo net R 0 (replicate (length net.banks) 0)
waves_none net R = record {
  as_many = length-replicate (length net.banks) 0;
  each = λ i l. record {
    falls = λ m e. absurd (omega (arith, zeros_at (length net.banks) i));
    never = λ e m b. absurd (omega arith);
  };
}

-- one round more is looked at
wave_to_more : (net : Net) (R : ℕ → List ℕ) (n i v w : ℕ) → IsWaveTo net R n i v
    → (v ≡ 0 → FallsShortIn net R i n → w ≡ n + 1) → (due net i ≤ estate net (R n) i → w ≡ v)
    → (v ≢ 0 → w ≡ v)
    → IsWaveTo net R (n + 1) i w
wave_to_more net R n i v w old short not_short had = record {
  falls = λ m f. let before = old.falls m in (
    grind (arith, short, not_short, had, before),
    grind (arith, short, not_short, had, before),
    λ k b. grind (arith, short, not_short, had, before, old.never),
  );
  never = λ f m l. grind (arith, old.falls, old.never, short, not_short, had);
}

-- so it is with all banks
pub waves_more : (net : Net) (R : ℕ → List ℕ) (n : ℕ) (P before after : List ℕ) → P ≡ R n
    → AreWavesTo net R n before
    → AreMarked net P (n + 1) before after → AreWavesTo net R (n + 1) after
waves_more net R n P before after at old marked = record {
  as_many = marked.as_many ∙ old.as_many;
  each = λ i l. wave_to_more net R n i (get_or before i 0) (get_or after i 0) (old.each i l)
      (λ none short. marked.short i l none
      (omega (arith, short, ap (λ (P : List ℕ). estate net P i) at)))
      (λ enough. marked.enough i (omega (arith, enough, ap (λ (P : List ℕ). estate net P i) at)))
      (marked.had i);
}

-- once nothing changes, the waves are known
pub waves_end : {net : Net} {f : ℕ → ℕ → ℕ} {n : ℕ} {P : List ℕ} (ws : List ℕ) → IsDown net f n P
    → pay_by net f P ≡ P → AreWavesTo net (falling_by net f) (n + 1) ws
    → ws ≡ waves_in net (falling_by net f)
waves_end {net = net} {f = f} {n = n} ws d c known =
    fill_by_all (wave_in net (falling_by net f)) ws (length net.banks) 0 known.as_many
    (λ i l. wave_in_known net f d.never i (get_or ws i 0)
    (whole i (get_or ws i 0) (known.each i l)))
  where
    whole : (i w : ℕ) → IsWaveTo net (falling_by net f) (n + 1) i w
        → IsWaveIn net (falling_by net f) i w
    whole i w to = record {
      falls = λ m e. ((to.falls m e).1, (to.falls m e).2);
      never = λ e m.
          grind (arith, to.never e m, to.never e n, down_stays d c m, down_stays d c n);
    }

-- what they tell
pub waves_tell : (net : Net) (ws : List ℕ) → IsNetwork net → ws ≡ waves net → WavesTellHealth net ws
waves_tell net ws network e i l =
    wave_tells net network i (get_or ws i 0)
    (subst (IsWave net i)
    (sym (ap (λ (ws : List ℕ). get_or ws i 0) e
    ∙ get_or-map-range_with_len (wave net) 0 (length net.banks) i i 0 l (omega arith)))
    (wave_is net i))
