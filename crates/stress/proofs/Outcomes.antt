-- Scenarios in sums: their tallies add up, and no unit of them is made or lost.
use Rattle.std.proofs.Common.{◌≡◌, ℕ, ◌+◌, ◌≤◌, cond, List, [], ◌∷◌, ◌++◌, length, get_or, map, sum, sum_by, replicate, refl, sym, ap, ◌∙◌, arith}
use Rattle.std.specs.List.{count_by, range_with_len}
use mathlib.Core.List.{map-map}
use Rattle.std.proofs.lemmas.List.Folds.{fold-map}
use Rattle.std.proofs.lemmas.List.{get_or-replicate, length-replicate}
use Rattle.std.proofs.lemmas.List.Elements.{All-map}
use Rattle.std.proofs.lemmas.List.FromFn.{fill_by_all, length-map-range_with_len}
use Rattle.std.proofs.lemmas.List.Sums.{count_by-le-length, sum_by-append}
use Rattle.clr_net.specs.Limits.{IsNetwork}
use Rattle.clr_net.specs.Net.{Net, all_cash, units_owed}
use Rattle.clear_core.specs.Clearing.{Clears, least}
use Rattle.clear_core.proofs.Pay.{sum-pay_le}
use Rattle.cascade.specs.declared.standing.Health.TheVariants.{Sound}
use Rattle.cascade.specs.declared.standing.Standing.{Standing}
use Rattle.cascade.specs.Standings.{bank_numbers, equity, is_default, outside_paid, standing, standings}
use Rattle.cascade.proofs.Limits.{clearing_over}
use Rattle.cascade.proofs.PayingOut.{adds_up, all_paid, sum_by_numbers}
use Rattle.cascade.proofs.Sums.{sum_by-add}
use Rattle.stress.specs.Outcomes.{AreWithin, added, both, falls, health_in, is_fundamental, once, tally, tally_of_one}
use Rattle.stress.specs.Shocks.{shocked}
use Rattle.stress.specs.declared.scenario.Scenario.{Scenario}
use Rattle.stress.specs.declared.sums.Outcome.{Outcome}
use Rattle.stress.specs.declared.tally.Falls.{Falls}
use Rattle.stress.proofs.Kept.{length-shocked_from}

-- a scenario leaves as many banks, of the same numbers
pub same_numbers : (net : Net) (s : Scenario) → bank_numbers (shocked net s) ≡ bank_numbers net
same_numbers net s = ap (λ n. range_with_len 0 n) (length-shocked_from s.cut 0 s.losses net.banks)

-- a bank falls in some scenarios and in others as often as in both together
falls_together : (net : Net) (front back : List Scenario) (i : ℕ)
    → falls net (front ++ back) i ≡ both (falls net front i) (falls net back i)
falls_together net front back i =
    let defaults = sum_by-append (λ (s : Scenario). cond (is_default (health_in net i s)) 1 0) front back in
    let faults = sum_by-append (λ (s : Scenario). cond (is_fundamental (health_in net i s)) 1 0) front back in
    λ at. record { defaults = defaults at; fundamental = faults at }

-- and so do these
fall_together : (net : Net) (front back : List Scenario) (banks : List ℕ)
    → map (falls net (front ++ back)) banks
    ≡ added (map (falls net front) banks) (map (falls net back) banks)
fall_together net front back [] = refl
fall_together net front back (i ∷ banks) =
    λ at. falls_together net front back i at ∷ fall_together net front back banks at

-- so tallies of scenarios side by side add up
pub tallies_add_up : (net : Net) (front back : List Scenario)
    → tally net (front ++ back) ≡ added (tally net front) (tally net back)
tallies_add_up net front back = fall_together net front back (bank_numbers net)

-- in one scenario a bank falls as it stands in it
falls_once : (net : Net) (s : Scenario) (i : ℕ) → falls net (s ∷ []) i ≡ once (health_in net i s)
falls_once net s i =
    let none : (n : ℕ) → 0 + n ≡ n = λ n. omega arith in
    λ at. record {
      defaults = none (cond (is_default (health_in net i s)) 1 0) at;
      fundamental = none (cond (is_fundamental (health_in net i s)) 1 0) at;
    }

-- so one scenario more counts by how banks stand in it
pub one_scenario_more : (net : Net) (past : List Scenario) (s : Scenario)
    → tally net (past ++ s ∷ [])
    ≡ added (tally net past) (tally_of_one (standings (shocked net s) (least (shocked net s))))
one_scenario_more net past s =
    let left = shocked net s in
    let told = standing left (least left) in
    let one : tally net (s ∷ []) ≡ map (λ i. once (told i).health) (bank_numbers left) =
    λ at. map (λ i. falls_once net s i at) (sym (same_numbers net s) at) in
    tallies_add_up net past (s ∷ [])
    ∙ ap (added (tally net past)) (one ∙ sym (map-map (λ (s : Standing). once s.health) told (bank_numbers left)))

-- in no scenario no bank falls
pub none_fall : (net : Net) (all : List Falls)
    → all ≡ replicate (length net.banks) (record { defaults = 0; fundamental = 0 })
    → all ≡ tally net []
none_fall net all e =
    let never : Falls = record { defaults = 0; fundamental = 0 } in
    e ∙ fill_by_all (falls net []) (replicate (length net.banks) never) (length net.banks) never
    (length-replicate (length net.banks) never)
    (λ i l. get_or-replicate (length net.banks) i never never l)

-- there is one for each bank
pub as_many_falls : (net : Net) (all : List Scenario) → length (tally net all) ≡ length net.banks
as_many_falls net all = length-map-range_with_len (falls net all) 0 (length net.banks)

-- no bank falls more often than there are scenarios
pub falls_within : (net : Net) (all : List Scenario) (n : ℕ) → length all ≤ n → AreWithin n (tally net all)
falls_within net all n l =
    All-map (λ f. (f.defaults ≤ n) × (f.fundamental ≤ n)) (falls net all) (bank_numbers net) (λ k d m. (
      omega (arith, count_by-le-length (λ s. is_default (health_in net (get_or (bank_numbers net) k d) s)) all),
      omega (arith, count_by-le-length (λ s. is_fundamental (health_in net (get_or (bank_numbers net) k d) s)) all),
    ))

-- what stands past the end
abbrev pub past_end : Standing
past_end = record {
  estate = 0;
  outside = 0;
  outside_paid = 0;
  paid = 0;
  owed = 0;
  equity = 0;
  health = Sound;
}

-- the sums of a network over its standings
abbrev pub sums_over : ℕ → List Standing → Outcome
sums_over cash all = record {
  cash = cash;
  paid = sum_by (λ s. s.paid) all;
  outside_paid = sum_by (λ s. s.outside_paid) all;
  equity = sum_by (λ s. s.equity) all;
  defaults = count_by (λ s. is_default s.health) all;
  fundamental = count_by (λ s. is_fundamental s.health) all;
}

module _ (net : Net) (P : List ℕ) (all : List Standing) (are : all ≡ standings net P) where
  -- a sum over standings is one over banks
  summed : (g : Standing → ℕ) → sum_by g all ≡ sum_by (λ i. g (standing net P i)) (bank_numbers net)
  summed g = ap (sum_by g) are ∙ fold-map (λ a s. a + g s) (standing net P) 0 (bank_numbers net)

  module _ (network : IsNetwork net) (clears : Clears net P) where
    -- all cash is paid outside or left
    pub sums_add_up : all_cash net ≡ sum_by (λ s. s.outside_paid) all + sum_by (λ s. s.equity) all
    sums_add_up = omega (
      arith,
      summed (λ s. s.outside_paid),
      summed (λ s. s.equity),
      sum_by-add (equity net P) (outside_paid net P) (bank_numbers net),
      (adds_up net P network clears).equities,
    )

    -- and no more is paid than is owed
    pub paid_within_owed : sum_by (λ s. s.paid) all ≤ units_owed net
    paid_within_owed =
        omega (
          arith,
          summed (λ s. s.paid),
          all_paid net P network,
          sum_by_numbers net P (clearing_over net P clears),
          ap sum clears,
          sum-pay_le net P,
        )
