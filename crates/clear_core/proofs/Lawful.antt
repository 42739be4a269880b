-- What a journal pays: raise by raise, within the claims, and never more than all banks would pay on it.
use Rattle.std.proofs.Common.{◌≡◌, ℕ, zero, suc, ◌<◌, ◌≤◌, List, [], ◌∷◌, ◌++◌, length, get_or, set, refl, ◌∙◌, ⊎_elim, arith}
use Rattle.std.specs.List.{All}
use Rattle.std.proofs.lemmas.Grind.{common_steps}
use Rattle.std.proofs.lemmas.Bool.{cases_lt}
use Rattle.std.proofs.lemmas.List.{length-replicate}
use Rattle.std.proofs.Math.ListN.{length-set}
use Rattle.clr_net.specs.Amounts.{IsAtMost}
use Rattle.clr_net.specs.Net.{Net}
use Rattle.clear_core.specs.declared.event.Raise.{Raise}
use Rattle.clear_core.specs.Clearing.{pay, zeros}
use Rattle.clear_core.specs.History.{replayed_from, replayed, StandsFrom, Stands, IsLawful}
use Rattle.clear_core.proofs.Least.{zeros_le}
use Rattle.clear_core.proofs.Legal.{raised_within}
use Rattle.clear_core.proofs.Pay.{pay_past, pay_mono}

-- a journal leaves as many payments as there are debts
length-replayed_from : (P : List ℕ) (rs : List Raise) → length (replayed_from P rs) ≡ length P
unfolding replayed_from
length-replayed_from P [] = refl
length-replayed_from P (r ∷ rs) = length-replayed_from (set P r.debt.0 r.to) rs ∙ length-set P r.debt.0 r.to

-- and so from the first
pub length-replayed : (net : Net) (rs : List Raise) → length (replayed net rs) ≡ length net.debts
length-replayed net rs = length-replayed_from (zeros net) rs ∙ length-replicate (length net.debts) 0

-- a journal that stands does so with one raise more that is lawful then, with no smaller stamp
stands_from_more : (net : Net) (stamp : ℕ) (P : List ℕ) (rs : List Raise) (s : Raise) → StandsFrom net stamp P rs → stamp ≤ s.stamp
    → All (λ r. r.stamp ≤ s.stamp) rs → IsLawful net (replayed_from P rs) s → StandsFrom net stamp P (rs ++ s ∷ [])
unfolding StandsFrom replayed_from
stands_from_more net stamp P [] s h l all lawful = (l, lawful, tt)
stands_from_more net stamp P (r ∷ rs) s h l all lawful =
    (h.0, h.1, stands_from_more net r.stamp (set P r.debt.0 r.to) rs s h.2 (all 0 r (omega arith)) (λ k d m. all (suc k) d (omega arith)) lawful)

-- so one more raise, lawful then, leaves a journal that stands
pub stands_more : (net : Net) (rs : List Raise) (s : Raise) → Stands net rs → All (λ r. r.stamp ≤ s.stamp) rs
    → IsLawful net (replayed net rs) s → Stands net (rs ++ s ∷ [])
stands_more net rs s h all lawful = stands_from_more net 0 (zeros net) rs s h (omega arith) all lawful

-- a lawful raise is of a debt of the network
pub lawful_in_range : (net : Net) (P : List ℕ) (r : Raise) → IsLawful net P r → r.debt.0 < length net.debts
lawful_in_range net P r l = ⊎_elim (λ (below : r.debt.0 < length net.debts). below)
    (λ (past : length net.debts ≤ r.debt.0). absurd (omega (arith, l.0, l.1, pay_past net P r.debt.0 past)))
    (cases_lt r.debt.0 (length net.debts))

-- each raise of a journal that stands is of a debt of the network
in_range_from : (net : Net) (stamp : ℕ) (P : List ℕ) (rs : List Raise) → StandsFrom net stamp P rs
    → (k : ℕ) (d : Raise) → k < length rs → (get_or rs k d).debt.0 < length net.debts
unfolding StandsFrom
in_range_from net stamp P [] h k d l = absurd (omega arith)
in_range_from net stamp P (r ∷ rs) h zero d l = lawful_in_range net P r h.1
in_range_from net stamp P (r ∷ rs) h (suc k) d l = in_range_from net r.stamp (set P r.debt.0 r.to) rs h.2 k d (omega arith)

-- no raise of it is of another debt
pub stands_in_range : (net : Net) (rs : List Raise) → Stands net rs → All (λ r. r.debt.0 < length net.debts) rs
stands_in_range net rs h = in_range_from net 0 (zeros net) rs h

-- what a journal that stands pays, all banks would pay as well
pub raised_by : (P : List ℕ) (x v : ℕ) → get_or P x 0 < v → IsAtMost P (set P x v)
raised_by P x v l k = grind (arith, common_steps)

-- from payments that are covered on
pay_covers_from : (net : Net) (stamp : ℕ) (P : List ℕ) (rs : List Raise) → IsAtMost P (pay net P) → StandsFrom net stamp P rs
    → IsAtMost (replayed_from P rs) (pay net (replayed_from P rs))
unfolding StandsFrom replayed_from
pay_covers_from net stamp P [] h s = h
pay_covers_from net stamp P (r ∷ rs) h s =
    let Q = set P r.debt.0 r.to in
    let grows = pay_mono net P Q (raised_by P r.debt.0 r.to s.1.0) in
    let within = raised_within P (pay net P) r.debt.0 r.to h s.1.1 in
    pay_covers_from net r.stamp Q rs (λ k. omega (arith, grows k, within k)) s.2

-- and so from nothing paid
pub pay_covers : (net : Net) (rs : List Raise) → Stands net rs → IsAtMost (replayed net rs) (pay net (replayed net rs))
pay_covers net rs s = pay_covers_from net 0 (zeros net) rs (zeros_le net (pay net (zeros net))) s
