-- When a bank is sound, and when its own fundamentals are at fault: by what it has and what it owes.
use Rattle.std.proofs.Common.{◌≡◌, ℕ, ◌<◌, ◌≤◌, true, min, List, refl, arith}
use Rattle.std.proofs.lemmas.Bool.Decides.{nat_tests}
use Rattle.clr_net.specs.Net.{Net}
use Rattle.clear_core.specs.Clearing.{receipts, estate, spend}
use Rattle.cascade.specs.declared.standing.Health.{Health}
use Rattle.cascade.specs.declared.standing.Health.TheVariants.{Sound, Fundamental, Contagion}
use Rattle.cascade.specs.Standings.{worth, due, paid_by, owed_by, health_at, health_of, is_sound}

-- a health that passes the test is sound
pub sound_told : (h : Health) → is_sound h ≡ true → h ≡ Sound
sound_told Sound e = refl
sound_told Fundamental e = absurd (cc)
sound_told Contagion e = absurd (cc)

-- of a bank that pays all that its outside claim leaves it, up to its debts
module _ (net : Net) (P : List ℕ) (i : ℕ)
    (pays : paid_by net P i ≡ min (spend net i (receipts net P i)) (owed_by net i)) where
  -- it is sound only where it has all that it owes
  pub sound_enough : health_of net P i ≡ Sound → due net i ≤ estate net P i
  sound_enough e = grind (arith, nat_tests, pays)

  -- and wherever it has
  pub enough_sound : due net i ≤ estate net P i → health_of net P i ≡ Sound
  enough_sound l = grind (arith, nat_tests, pays)

  -- its fundamentals are at fault only where it would not have all that it owes if all its debtors paid
  pub fundamental_below : health_of net P i ≡ Fundamental → worth net i < due net i
  fundamental_below e = grind (arith, nat_tests, pays)

  -- and wherever it would not, since it has no more now
  pub below_fundamental : estate net P i ≤ worth net i → worth net i < due net i → health_of net P i ≡ Fundamental
  below_fundamental le l = grind (arith, nat_tests, pays)

  -- so its estate tells how it stands
  pub health_told : health_of net P i ≡ health_at net i (estate net P i)
  health_told = grind (arith, nat_tests, pays)
