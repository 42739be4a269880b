-- A network with the same debts, in which banks pay no less: its least payments are no less, and what was lawful stays so.
use Rattle.std.proofs.Common.{◌≡◌, ℕ, List, [], ◌∷◌, length, set, replicate, sym, ap, subst, arith}
use Rattle.clr_net.specs.declared.debt.Debt.{Debt}
use Rattle.clr_net.specs.Amounts.{IsAtMost}
use Rattle.clr_net.specs.Net.{Net, units_owed}
use Rattle.clear_core.specs.declared.event.Raise.{Raise}
use Rattle.clear_core.specs.Clearing.{pay, zeros, rounds, least}
use Rattle.clear_core.specs.History.{StandsFrom, Stands, paid_before, IsTraced}
use Rattle.clear_core.proofs.Least.{least_clears, zeros_le}
use Rattle.clear_core.specs.Richer.{IsRicher}
use Rattle.clear_core.proofs.Settling.{pay_is_paying, rounds_below}

-- its least payments are no less
pub least_le_richer : (net more : Net) → IsRicher net more → IsAtMost (least net) (least more)
unfolding rounds
least_le_richer net more richer =
    rounds_below (pay net) (length net.debts) (units_owed net) (pay_is_paying net) (zeros net) (least more)
    (zeros_le net (least more))
    (subst (λ R. IsAtMost (pay net (least more)) R) (least_clears more) (richer.pays (least more)))
    (units_owed net)

-- a journal that stands in a network stands in a richer one
stands_from : (net more : Net) → IsRicher net more → (stamp : ℕ) (P : List ℕ) (rs : List Raise) → StandsFrom net stamp P rs
    → StandsFrom more stamp P rs
unfolding StandsFrom
stands_from net more richer stamp P [] s = tt
stands_from net more richer stamp P (r ∷ rs) s = (
  s.0,
  (s.1.0, omega (arith, s.1.1, richer.pays P r.debt.0)),
  stands_from net more richer r.stamp (set P r.debt.0 r.to) rs s.2,
)

-- a journal that stands does so in the richer network
pub stands_richer : (net more : Net) → IsRicher net more → (rs : List Raise) → Stands net rs → Stands more rs
stands_richer net more richer rs s =
    let none : zeros net ≡ zeros more = ap (λ (ds : List Debt). replicate (length ds) 0) (sym richer.debts) in
    subst (λ P. StandsFrom more 0 P rs) none (stands_from net more richer 0 (zeros net) rs s)

-- and one that is traced in a network is traced in a richer one
pub traced_richer : (net more : Net) → IsRicher net more → (rs : List Raise) → IsTraced net rs → IsTraced more rs
traced_richer net more richer rs t = record {
  differ = t.differ;
  within = λ i r e.
      let before : paid_before net r.stamp rs ≡ paid_before more r.stamp rs =
      ap (λ (ds : List Debt). paid_before (record { banks = []; debts = ds }) r.stamp rs) (sym richer.debts) in
      rw (← before) (omega (arith, t.within i r e, richer.pays (paid_before net r.stamp rs) r.debt.0));
}
