-- What a worker is made with.
use Rattle.std.proofs.Common.{◌≡◌, ℕ, zero, suc, ◌+◌, ◌<◌, Bool, true, false, cond, [], ◌∷◌, ◌++◌, length, map, filter, refl, sym, ap, ◌∙◌, arith, append-nil, add-one, zero-add}
use Rattle.std.specs.List.{range_with_len}
use Rattle.std.proofs.lemmas.List.{map_push}
use Rattle.clr_net.specs.Net.{Net}
use Rattle.clr_net.proofs.RangeFilters.{filter_range_more}
use Rattle.bank_desk.specs.Desks.{desk_of}
use Rattle.pay_words.specs.declared.view.Shown.{Shown}
use Rattle.pay_words.specs.Views.{holds, is_of_worker}
use Rattle.bank_worker.specs.Offices.{banks_of_worker}
use Rattle.bank_worker.specs.Views.{banks_held}

-- the numbers below the next one that pass, with this one if it passes
pub filter_next : (p : ℕ → Bool) (n : ℕ) → filter p (range_with_len 0 (n + 1)) ≡ filter p (range_with_len 0 n) ++ cond (p n) (n ∷ []) []
filter_next p n = rw (add-one, filter_range_more p p 0 n (λ m l. refl), zero-add)

-- a desk more, where the bank is one of the worker's
pub desks_with : (net : Net) (p : ℕ → Bool) (n : ℕ) → p n ≡ true → map (desk_of net) (filter p (range_with_len 0 n)) ++ desk_of net n ∷ [] ≡ map (desk_of net) (filter p (range_with_len 0 (n + 1)))
desks_with net p n e = rw (filter_next p n, e) (sym (map_push (desk_of net) (filter p (range_with_len 0 n)) n))

-- a bank that is not the worker's adds no desk
pub desks_without : (net : Net) (p : ℕ → Bool) (n : ℕ) → p n ≡ false → map (desk_of net) (filter p (range_with_len 0 n)) ≡ map (desk_of net) (filter p (range_with_len 0 (n + 1)))
desks_without net p n e = rw (filter_next p n, e, append-nil)

-- tests that agree on all numbers of a range pass the same of them
filter_agree : (p q : ℕ → Bool) (n : ℕ) → ((k : ℕ) → k < n → q k ≡ p k) → filter q (range_with_len 0 n) ≡ filter p (range_with_len 0 n)
filter_agree p q zero h = refl
filter_agree p q (suc n) h =
    filter_range_more p q 0 n (λ m l. h (0 + m) (omega arith))
    ∙ rw (h (0 + n) (omega arith)) (sym (filter_range_more p p 0 n (λ m l. refl)))

-- the banks of a worker are those of its seat
pub banks_of_seat : (net : Net) (s : Shown) (workers i : ℕ) → net ≡ s.net
    → ((b : ℕ) → b < length net.banks → holds s b ≡ is_of_worker workers i b) → banks_of_worker net workers i ≡ banks_held s
banks_of_seat net s workers i e h =
    sym (filter_agree (is_of_worker workers i) (holds s) (length net.banks) h)
    ∙ ap (λ (m : Net). filter (holds s) (range_with_len 0 (length m.banks))) e
