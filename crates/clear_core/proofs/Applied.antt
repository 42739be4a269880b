-- What applying one event does: when it is legal, and what it keeps.
use Rattle.std.proofs.Common.{◌≡◌, ℕ, ◌<◌, ◌≤◌, List, length, get_or, set, sym, subst, arith}
use Rattle.std.proofs.lemmas.Grind.{common_steps}
use Rattle.clr_net.specs.declared.TheConstants.{MAX_CLAIM}
use Rattle.clr_net.specs.declared.debt.DebtId.{DebtId}
use Rattle.clr_net.specs.Limits.{IsNetwork}
use Rattle.clr_net.specs.Net.{Net, debtor_of}
use Rattle.clear_core.specs.declared.event.Event.{Event}
use Rattle.clear_core.specs.declared.event.Event.TheVariants.{Raise}
use Rattle.clear_core.specs.Buffers.{IsSound}
use Rattle.clear_core.specs.Clearing.{receipts}
use Rattle.clear_core.specs.Process.{Progress, allowed, debt_of, IsLegal, IsBelowLeast, step}
use Rattle.clear_core.proofs.Legal.{below_step}
use Rattle.clear_core.proofs.Pay.{part_within}
use Rattle.clear_core.proofs.Rows.{claim_in_limit}

-- what is allowed on a debt is in the limit of claims
pub allowed_in_limit : (net : Net) (s : Progress) (x : ℕ) → IsNetwork net → x < length net.debts → allowed net s x ≤ MAX_CLAIM
allowed_in_limit net s x network l = omega (arith, part_within net x (receipts net s.seen (debtor_of net x)) l, claim_in_limit net x network)

-- an event that raises a debt of the network is of that debt
pub raise_in_range : (net : Net) (e : Event) (x : DebtId) (to : ℕ) → e ≡ Raise x to → debt_of e < length net.debts
    → x.0 < length net.debts
raise_in_range net e x to is l = subst (λ e. debt_of e < length net.debts) is l

-- a raise above what is paid and within what is allowed is legal
pub raise_legal : (net : Net) (s : Progress) (e : Event) (x : DebtId) (to : ℕ) → e ≡ Raise x to → debt_of e < length net.debts
    → get_or s.paid x.0 0 < to → to ≤ allowed net s x.0 → IsLegal net s e
raise_legal net s e x to is l more most = subst (λ e. IsLegal net s e) (sym is) (raise_in_range net e x to is l, more, most)

-- amounts stay in the limit where one of them changes to another in the limit
pub sound_raised : (paid seen : List ℕ) (x v : ℕ) → IsSound paid seen → v ≤ MAX_CLAIM → IsSound (set paid x v) seen
sound_raised paid seen x v s l = record {
  as_many = grind (arith, common_steps, s.as_many);
  paid_in_limit = λ k. grind (arith, common_steps, s.paid_in_limit k);
  seen_in_limit = s.seen_in_limit;
}

-- what is paid stays below the least clearing payments over a legal event
pub below_applied : (net : Net) (s t : Progress) (e : Event) → t ≡ step s e → IsLegal net s e → IsBelowLeast net s → IsBelowLeast net t
below_applied net s t e is legal below = subst (λ t. IsBelowLeast net t) (sym is) (below_step net s e below legal)
