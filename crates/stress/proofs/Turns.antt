-- The reading of values one after another, turn by turn.
use Rattle.std.proofs.Common.{◌≡◌, ℕ, ◌+◌, ◌<◌, ◌≤◌, List, [], ◌∷◌, ◌++◌, length, Ok, Err, refl, ap}
use Rattle.std.proofs.lemmas.Bool.{le-ltb, lt-ltb}
use Rattle.net_check.specs.Checks.{and_then}
use Rattle.net_check.specs.declared.fault.Fault.{Fault}
use Rattle.net_check.specs.declared.fault.FaultKind.TheVariants as fault
use Rattle.clr_net.specs.Net.{Net}
use Rattle.toml.specs.Data.{Data, Items, no_items, item}
use Rattle.stress.specs.Reading.{loss_in, read_losses, next_scenario, read_all, fault_in, scenario_in_row}
use Rattle.stress.specs.declared.TheConstants.{MAX_SCENARIOS}
use Rattle.stress.specs.declared.scenario.Loss.{Loss}
use Rattle.stress.specs.declared.scenario.Scenario.{Scenario}

-- what values give of which the first is this
pub losses-next : (net : Net) (before : List Loss) (values rest : Items) (value : Data)
    → values ≡ item value rest
    → read_losses net before values
    ≡ and_then (loss_in net before value) (λ l. read_losses net (before ++ l ∷ []) rest)
unfolding read_losses
losses-next net before values rest value is = ap (read_losses net before) is

-- where no value is left, all are read
pub losses-end : (net : Net) (before : List Loss) (values : Items) → values ≡ no_items
    → read_losses net before values ≡ Ok before
unfolding read_losses
losses-end net before values is = ap (read_losses net before) is

-- and so with scenarios
pub scenarios-next : (net : Net) (before : List Scenario) (values rest : Items) (value : Data)
    → values ≡ item value rest
    → read_all net before values
    ≡ and_then (next_scenario net before value) (λ s. read_all net (before ++ s ∷ []) rest)
unfolding read_all
scenarios-next net before values rest value is = ap (read_all net before) is

-- with no value left the scenarios are those so far
pub scenarios-end : (net : Net) (before : List Scenario) (values : Items) → values ≡ no_items
    → read_all net before values ≡ Ok before
unfolding read_all
scenarios-end net before values is = ap (read_all net before) is

module _ (net : Net) (before : List Scenario) (value : Data) where
  -- one scenario more than the limit is a fault
  pub too_many : (n : ℕ) (f : Fault) → n ≡ length before → MAX_SCENARIOS ≤ length before
      → f ≡ fault_in (n + 1) fault.TooMany → next_scenario net before value ≡ Err f
  too_many n f counted many is = rw (le-ltb (length before) MAX_SCENARIOS many, is, counted) refl

  -- and up to the limit it is what its value gives in its row
  pub next_is : (n : ℕ) → n ≡ length before → length before < MAX_SCENARIOS
      → next_scenario net before value ≡ scenario_in_row net (n + 1) value
  next_is n counted few = rw (lt-ltb (length before) MAX_SCENARIOS few, counted) refl
