use Rattle.std.proofs.Common.{◌≡◌, ◌<◌, ℕ, false, get_or}
use Rattle.std.specs.Bool.{OnFalse}
use Rattle.clr_net.specs.Net.{cash_of}
use Rattle.descent.proofs.marks.mark_richer.Given as goal

abbrev pub invariant-loop-number : goal.invariant-loop-number
invariant-loop-number l = (i : ℕ) → i < l.number
    → OnFalse (get_or l.marks i false) (get_or l.before i 0 ≡ cash_of l.laid i)
