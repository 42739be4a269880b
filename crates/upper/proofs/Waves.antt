-- In which round a bank falls: in the first by its own fundamentals, and in none where it is sound
-- at last.
use Rattle.std.proofs.Common.{◌≡◌, ◌↔◌, ℕ, ◌+◌, ◌-◌, ◌<◌, ◌≤◌, Option, Some, None, find, List, get_or, arith}
use Rattle.std.specs.Option.{option_map_or}
use Rattle.std.specs.List.{range_with_len}
use Rattle.std.proofs.Math.Dec.{ltb}
use Rattle.std.proofs.lemmas.Bool.Decides.{nat_tests}
use Rattle.std.proofs.lemmas.Bool.{ltb-true, ltb-false}
use Rattle.clr_net.specs.Limits.{IsNetwork}
use Rattle.clr_net.specs.Net.{Net, units_owed, column, claim_of}
use Rattle.clr_net.proofs.Ranges.{Found, found}
use Rattle.clr_net.proofs.RowsAndColumns.{claim_of_at}
use Rattle.clear_core.specs.Clearing.{estate, spend, NeverFalls, pay, least}
use Rattle.clear_core.specs.Rounds.{rounds_of}
use Rattle.clear_core.proofs.Least.{least_clears}
use Rattle.clear_core.proofs.Pay.{spend_mono}
use Rattle.cascade.specs.declared.standing.Health.TheVariants.{Sound, Fundamental}
use Rattle.cascade.specs.Standings.{due, worth, health_of}
use Rattle.cascade.proofs.Sums.{sum_by_same}
use Rattle.cascade.proofs.Limits.{estate_le_worth}
use Rattle.cascade.proofs.PayingOut.{paid_is}
use Rattle.cascade.proofs.Healths.{sound_enough, enough_sound, fundamental_below, below_fundamental}
use Rattle.clr_net.specs.Claims.{all_claims}
use Rattle.upper.specs.Bounds.{greatest, wave, IsWave, TellsHealth}
use Rattle.upper.specs.Greatest.{falling_by}
use Rattle.upper.specs.Waves.{IsWaveIn, wave_in}
use Rattle.upper.proofs.Tops.{rounds_come_to, greatest_clears, estate_le_falling}

-- where R n are the payments after n rounds
module _ (net : Net) (R : ℕ → List ℕ) where
  -- what is found among as many as units are owed and one more, counted from 1, is the wave, where
  -- nothing changes after them
  wave_found : ((n : ℕ) → units_owed net ≤ n → R n ≡ R (units_owed net)) → (i : ℕ) (r : Option ℕ)
      → Found (λ n. ltb (estate net (R n) i) (due net i)) (units_owed net + 1) r
      → IsWaveIn net R i (option_map_or (λ n. n + 1) r 0)
  wave_found settled i None f = record {
    falls = λ n e. absurd (omega arith);
    never = λ e n. grind (arith, nat_tests, settled n, f n, f (units_owed net));
  }
  wave_found settled i (Some j) f = record {
    falls = λ n e. let same : n ≡ j = omega arith in rw same (
      ltb-true (estate net (R j) i) (due net i) f.1,
      λ m l. ltb-false (estate net (R m) i) (due net i) (f.2 m l),
    );
    never = λ e. absurd (omega arith);
  }

  -- there is only one wave
  wave_only : (i v w : ℕ) → IsWaveIn net R i v → IsWaveIn net R i w → v ≡ w
  wave_only i v w a b =
      let first = λ (e : v ≡ 0). a.never e (w - 1) in
      let second = λ (e : w ≡ 0). b.never e (v - 1) in
      grind (arith, a.falls (v - 1), b.falls (w - 1), first, second)

module _ (net : Net) (f : ℕ → ℕ → ℕ) (never : NeverFalls f) where
  -- so `wave_in` computes it of the rounds by f
  wave_in_is : (i : ℕ) → IsWaveIn net (falling_by net f) i (wave_in net (falling_by net f) i)
  wave_in_is i =
      let p = λ (n : ℕ). ltb (estate net (falling_by net f n) i) (due net i) in
      wave_found net (falling_by net f) (rounds_come_to net f never) i
      (find p (range_with_len 0 (units_owed net + 1))) (found p (units_owed net + 1))

  -- what is the wave is what `wave_in` computes
  pub wave_in_known : (i w : ℕ) → IsWaveIn net (falling_by net f) i w
      → w ≡ wave_in net (falling_by net f) i
  wave_in_known i w is =
      wave_only net (falling_by net f) i w (wave_in net (falling_by net f) i) is (wave_in_is i)

-- so where banks divide all that they have, less what they owe outside
pub wave_is : (net : Net) (i : ℕ) → IsWave net i (wave net i)
unfolding pay
wave_is net i = wave_in_is net (spend net) (spend_mono net) i

-- with all debts paid in full a bank has all that it is worth
estate_of_claims : (net : Net) (i : ℕ) → estate net (all_claims net) i ≡ worth net i
estate_of_claims net i = omega (
  arith,
  sum_by_same (λ x. get_or (all_claims net) x 0) (claim_of net) (column net i) (claim_of_at net),
)

module _ (net : Net) (network : IsNetwork net) (i w : ℕ) (is : IsWave net i w) where
  -- the first round is entered with all that a bank is worth
  wave_one : (w ≡ 1) ↔ (health_of net (least net) i ≡ Fundamental)
  unfolding rounds_of
  wave_one =
      let pays = paid_is net (least net) network (least_clears net) i in
      let top = estate_of_claims net i in (
        λ e. below_fundamental net (least net) i pays
            (estate_le_worth net (least net) (least_clears net) i)
            (omega (arith, top, (is.falls 0 e).0)),
        λ h. let l : worth net i < due net i = fundamental_below net (least net) i pays h in
            grind (arith, top, is.falls (w - 1), λ (e : w ≡ 0). is.never e 0),
      )

  -- and none with less than what it has under the greatest
  wave_none : (w ≡ 0) ↔ (health_of net (greatest net) i ≡ Sound)
  wave_none =
      let pays = paid_is net (greatest net) network (greatest_clears net) i in (
        λ e. enough_sound net (greatest net) i pays (is.never e (units_owed net)),
        λ h. let enough = sound_enough net (greatest net) i pays h in
            grind (arith, is.falls (w - 1), estate_le_falling net (w - 1) i),
      )

  -- so they are what is told of it
  pub wave_tells : TellsHealth net i w
  wave_tells = record { first = wave_one; none = wave_none }
