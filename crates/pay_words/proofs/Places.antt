-- Which banks a seat holds.
use Rattle.std.proofs.Common.{◌≡◌, ◌∙◌, ℕ, ◌<◌, length, true, false, true≢false, sym, refl, arith}
use Rattle.std.specs.Prelude.{◌%◌}
use Rattle.std.proofs.Math.Nat.{mod-lt}
use Rattle.std.proofs.lemmas.Bool.{eq-eqb}
use Rattle.pay_words.specs.declared.view.Shown.{Shown}
use Rattle.pay_words.specs.Holding.{HoldsAll, HoldsAllOf, holds}
use Rattle.pay_words.specs.Sound.{IsOver}
use Rattle.std.proofs.lemmas.List.{get_or_past}
use mathlib.Core.Logic.{dite}
use native.Mathlib.Decide.{dec_lt}

-- a seat that holds the banks of each worker holds all banks
pub holds_all_of_each : (workers : ℕ) (s : Shown) → 0 < workers → ((i : ℕ) → i < workers → HoldsAllOf workers i s) → HoldsAll s
holds_all_of_each workers s some each b lt = each (b % workers) (mod-lt b some) b lt (eq-eqb (b % workers) (b % workers) refl)

-- each bank that a seat holds is one of the network
pub held_in_range : (s : Shown) (b : ℕ) → IsOver s → holds s b ≡ true → b < length s.net.banks
held_in_range s b over held = dite (dec_lt b (length s.net.banks)) (λ lt. lt)
    (λ ge. absurd (true≢false (sym held ∙ get_or_past s.banks b false (omega (arith, ge, over.banks)))))
