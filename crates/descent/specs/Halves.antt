-- A descent through halves of many networks: what it holds at any time.
use Rattle.std.specs.Prelude.{◌≡◌, ℕ, ◌+◌, ◌-◌, ◌*◌, ◌<◌, ◌≤◌, All, length, min}
use Rattle.clr_net.specs.Limits.{IsNetwork}
use Rattle.clr_net.specs.Net.{Net, all_cash}
use Rattle.clear_core.specs.Buffers.{HasRoom}
use Rattle.clear_core.specs.Clearing.{least}
use Rattle.clear_core.specs.Sums.{HaveSums}
use Rattle.cascade.specs.MoreCash.{IsOfOtherCash}
use Rattle.descent.specs.Cashes.{IsCashOf, network_at, with_cashes}
use Rattle.descent.specs.declared.halves.Descent.{Descent}
use Rattle.descent.specs.declared.halves.Step.{Step}
use Rattle.descent.specs.declared.share.Share.{Share}

-- a share is within another, and has a network
pub record IsPartOf (part whole : Share) : Type 0 where
  pub low : whole.low ≤ part.low
  pub some : part.low < part.high
  pub high : part.high ≤ whole.high

-- a step holds the least payments where each bank has the least cash that it has in a share, with
-- their sums; and that cash, where there are parts of the share to go on for
pub record IsStepOf (net : Net) (size : ℕ) (floor : ℕ → ℕ → ℕ → ℕ) (s : Step) : Type 0 where
  pub some : s.share.low < s.share.high
  pub share : s.share.high ≤ size
  pub paid : s.payments.paid ≡ least (with_cashes net (floor s.share.low s.share.high))
  pub sums : HaveSums net s.payments
  pub cash : s.share.low + 1 < s.share.high
      → IsCashOf (with_cashes net (floor s.share.low s.share.high)) s.cash.items

-- a step whose share has parts
abbrev pub IsWideStepOf : Net → ℕ → (ℕ → ℕ → ℕ → ℕ) → Step → Type 0
IsWideStepOf net size floor s = IsStepOf net size floor s × (s.share.low + 1 < s.share.high)

-- a descent through so many networks: its copy differs in cash alone, and each of its steps is one,
-- whose share has parts
pub record IsDescentOf (net : Net) (size : ℕ) (floor : ℕ → ℕ → ℕ → ℕ) (d : Descent) : Type 0 where
  pub alike : IsOfOtherCash net d.laid
  pub steps : All (IsWideStepOf net size floor) d.steps.items
  pub for_each_bank : length d.marks.items ≡ length net.banks
  pub room : HasRoom net d.scratch

-- the same of a step, of networks of some kind, which tells of each x how many they are and what
-- their least cash is
abbrev pub IsStepBy : {F : Type 0} → (F → Net → ℕ) → (F → Net → ℕ → ℕ → ℕ → ℕ) → Net → F
    → Step → Type 0
IsStepBy size floors net x = IsStepOf net (size x net) (floors x net)

-- so of a descent
abbrev pub IsDescentBy : {F : Type 0} → (F → Net → ℕ) → (F → Net → ℕ → ℕ → ℕ → ℕ) → Net → F
    → Descent → Type 0
IsDescentBy size floors net x = IsDescentOf net (size x net) (floors x net)

-- a network and a descent through networks of some kind that are of it
pub record IsReady {F : Type 0} (of : F → Net → Type 0) (size : F → Net → ℕ)
    (floors : F → Net → ℕ → ℕ → ℕ → ℕ) (net : Net) (x : F) (d : Descent) : Type 0 where
  pub network : IsNetwork net
  pub its_own : of x net
  pub descent : IsDescentBy size floors net x d

-- the least cash in a share, which begins at a number, comes to at least two thirds of the cash
-- that the network of this number has
abbrev pub HasEnough : Net → (ℕ → ℕ → ℕ → ℕ) → ℕ → ℕ → Type 0
HasEnough net floor number high =
    2 * all_cash (network_at net floor number)
    ≤ 3 * all_cash (with_cashes net (floor number high))

-- where a share twice as wide ends, of so many networks
abbrev pub twice_as_wide : ℕ → ℕ → ℕ → ℕ
twice_as_wide low high size = min size (high + (high - low))
