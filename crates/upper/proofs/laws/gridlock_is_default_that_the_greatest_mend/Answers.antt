use Rattle.std.proofs.Common.{◌≡◌, ◌≢◌, ◌↔◌, ℕ, true, refl, eq-eqb}
use Rattle.std.proofs.lemmas.Bool.{eqb-true}
use Rattle.cascade.specs.declared.standing.Health.{Health}
use Rattle.cascade.specs.declared.standing.Health.TheVariants.{Sound}
use Rattle.clear_core.specs.Clearing.{least}
use Rattle.cascade.specs.Standings.{health_of}
use Rattle.upper.specs.Bounds.{greatest, is_gridlocked, wave}
use Rattle.upper.proofs.Waves.{wave_is, wave_tells}
use Rattle.upper.proofs.laws.gridlock_is_default_that_the_greatest_mend.Goals as goal

-- of a bank whose wave is 0 exactly where it is sound under the greatest payments
gridlock_is : (h g : Health) (w : ℕ) → ((w ≡ 0) ↔ (g ≡ Sound))
    → (is_gridlocked h w ≡ true) ↔ ((h ≢ Sound) × (g ≡ Sound))
gridlock_is Sound g w none = (λ e. absurd (cc), λ p. absurd (p.0 refl))
gridlock_is h g w none =
    (λ e. (λ f. absurd (cc), none.0 (eqb-true w 0 e)), λ p. eq-eqb w 0 (none.1 p.1))

pub returns : goal.returns
returns c net i network =
    gridlock_is (health_of net (least net) i) (health_of net (greatest net) i) (wave net i)
    (wave_tells net network i (wave net i) (wave_is net i)).none
