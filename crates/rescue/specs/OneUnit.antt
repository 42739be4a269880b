-- What one unit more at a bank does.
use Rattle.std.specs.Prelude.{◌≡◌, ◌↔◌, ◌⊎◌, ℕ, ◌+◌, ◌≤◌, sum, sum_by}
use Rattle.clr_net.specs.Net.{Net, outside_of}
use Rattle.clear_core.specs.Clearing.{estate, least}
use Rattle.cascade.specs.MoreCash.{IsSoundAtLeast}
use Rattle.cascade.specs.Standings.{bank_numbers, kept}
use Rattle.rescue.specs.Rescue.{added}

-- all that banks keep under the least payments that clear
abbrev pub all_kept : Net → ℕ
all_kept net = sum_by (kept net (least net)) (bank_numbers net)

-- the bank i would pay none of one unit more on its debts: it pays them all as it is, or its
-- outside claim would still take the unit
abbrev pub PassesNothingOn : Net → ℕ → Type 0
PassesNothingOn net i = IsSoundAtLeast net i ⊎ (estate net (least net) i + 1 ≤ outside_of net i)

-- what one unit more at the bank i does, under the least payments: all banks together keep one unit
-- more; the payments stay exactly where the bank passes nothing on, and else rise in all
pub record CountsOnce (net : Net) (i : ℕ) : Type 0 where
  pub kept : all_kept (added net i 1) ≡ all_kept net + 1
  pub stays : (least (added net i 1) ≡ least net) ↔ PassesNothingOn net i
  pub rises : ¬ (PassesNothingOn net i) → sum (least net) + 1 ≤ sum (least (added net i 1))
