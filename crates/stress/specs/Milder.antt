-- Scenarios that shock less, and the least cut that breaks a bank.
use Rattle.std.specs.Prelude.{ℕ, ◌+◌, ◌<◌, ◌≤◌, Bool, not, [], find}
use Rattle.std.specs.List.{range_with_len}
use Rattle.std.specs.Option.{option_map_or}
use Rattle.clr_net.specs.Net.{Net}
use Rattle.clear_core.specs.Clearing.{least}
use Rattle.cascade.specs.MoreCash.{IsSoundAtLeast}
use Rattle.cascade.specs.Standings.{health_of, is_sound}
use Rattle.stress.specs.Shocks.{loss_of, shocked}
use Rattle.stress.specs.declared.TheConstants.{MAX_CUT}
use Rattle.stress.specs.declared.scenario.Scenario.{Scenario}

-- the first scenario is no harder than the second: it cuts no more, and in it no bank loses more
pub record IsMilder (milder harder : Scenario) : Type 0 where
  pub cut : milder.cut ≤ harder.cut
  pub losses : (i : ℕ) → loss_of milder.losses i ≤ loss_of harder.losses i

-- a cut alone, without losses
abbrev pub cut_alone : ℕ → Scenario
cut_alone cut = record { name = []; cut = cut; losses = [] }

-- what a cut of k per mille leaves of a network
abbrev pub left_by : Net → ℕ → Net
left_by net k = shocked net (cut_alone k)

-- the bank i is sound after a cut of k per mille, under the least payments that clear then
abbrev pub IsSoundAfter : Net → ℕ → ℕ → Type 0
IsSoundAfter net i k = IsSoundAtLeast (left_by net k) i

-- the cut c breaks the bank i, and no smaller one does. It is one more than the greatest cut where
-- none breaks it
pub record IsBreakingCut (net : Net) (i c : ℕ) : Type 0 where
  pub within : c ≤ MAX_CUT + 1
  pub breaks : c ≤ MAX_CUT → ¬ (IsSoundAfter net i c)
  pub least : (k : ℕ) → k < c → IsSoundAfter net i k

-- whether a cut breaks the bank i
abbrev pub is_broken_by : Net → ℕ → ℕ → Bool
is_broken_by net i k = not (is_sound (health_of (left_by net k) (least (left_by net k)) i))

-- the same cut, found: the first that breaks the bank, of all up to the greatest
abbrev pub breaking_cut : Net → ℕ → ℕ
breaking_cut net i =
    let cuts = range_with_len 0 (MAX_CUT + 1) in
    option_map_or (λ k. k) (find (is_broken_by net i) cuts) (MAX_CUT + 1)
