-- Which banks a seat holds.
use Rattle.std.specs.Prelude.{◌≡◌, ℕ, ◌%◌, ◌<◌, ◌==◌, Bool, true, length}
use Rattle.clear_core.specs.Raised.{is_marked}
use Rattle.pay_words.specs.declared.view.Shown.{Shown}

-- the seat holds the bank b
abbrev pub holds : Shown → ℕ → Bool
holds s b = is_marked s.banks b

-- the seat holds each bank of the network
abbrev pub HoldsAll : Shown → Type 0
HoldsAll s = (b : ℕ) → b < length s.net.banks → holds s b ≡ true

-- the bank b is one of the worker i
abbrev pub is_of_worker : ℕ → ℕ → ℕ → Bool
is_of_worker workers i b = (b % workers) == i

-- the seat holds each bank of the worker i
abbrev pub HoldsAllOf : ℕ → ℕ → Shown → Type 0
HoldsAllOf workers i s = (b : ℕ) → b < length s.net.banks → is_of_worker workers i b ≡ true
    → holds s b ≡ true
