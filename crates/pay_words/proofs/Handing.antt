-- Which banks a master holds while seats are handed out and taken back.
use Rattle.std.proofs.Common.{◌≡◌, ◌≢◌, ℕ, ◌<◌, length, true, sym, ◌∙◌, eqb-true}
use Rattle.std.specs.Prelude.{◌%◌}
use Rattle.std.proofs.lemmas.Bool.{false_from_ne_true}
use Rattle.pay_words.specs.declared.view.Shown.{Shown}
use Rattle.pay_words.specs.Holding.{HoldsAll, HoldsAllOf, holds, is_of_worker}
use Rattle.pay_words.specs.Seating.{handed, without, rejoined}
use Rattle.pay_words.proofs.Marks.{marked}
use Rattle.pay_words.proofs.Splits.{goes, goes_if, stays}
use Rattle.pay_words.proofs.Joins.{held_first, held_second}

-- a master that holds all banks holds those of each worker
pub holds_of_all : (workers i : ℕ) (s : Shown) → HoldsAll s → HoldsAllOf workers i s
holds_of_all workers i s all b lt e = all b lt

-- what is handed to one worker is not missing for another
pub holds_of_others : (workers i j : ℕ) (s : Shown) → i ≢ j → HoldsAllOf workers j s → HoldsAllOf workers j (without workers i s)
holds_of_others workers i j s apart all b lt e = stays workers i s b lt (all b lt e)
    (false_from_ne_true (goes workers i s b) (λ t. apart (sym (eqb-true (b % workers) i (goes_if workers i s b t).1) ∙ eqb-true (b % workers) j e)))

-- the banks of a worker are back with its seat
pub holds_of_back : (workers i : ℕ) (s t : Shown) → ((b : ℕ) → b < length s.net.banks → is_of_worker workers i b ≡ true → holds t b ≡ true) → HoldsAllOf workers i (rejoined s t)
holds_of_back workers i s t theirs b lt e = held_second s.net s t b lt (theirs b lt e)

-- and no bank is lost
pub holds_of_kept : (workers i : ℕ) (s t : Shown) → HoldsAllOf workers i s → HoldsAllOf workers i (rejoined s t)
holds_of_kept workers i s t all b lt e = held_first s.net s t b lt (all b lt e)

-- the seat of a worker holds the worker's banks
pub holds_of_handed : (workers i : ℕ) (s : Shown) → HoldsAllOf workers i (handed workers i s)
holds_of_handed workers i s b lt e = marked (length s.net.banks) (is_of_worker workers i) b lt e
