-- The banks of a worker: the number of each, divided by the number of workers, is its place.
use Rattle.std.proofs.Common.{◌≡◌, ℕ, zero, suc, ◌+◌, ◌*◌, ◌/◌, ◌%◌, ◌<◌, ◌≤◌, ◌==◌, List, [], ◌∷◌, length, map, get_or, filter, inl, inr, refl, sym, ap, ◌∙◌, ⊎_elim, arith, div-add-mod', mul-le-mul_right, eqb-true, eq-eqb}
use Rattle.std.specs.Prelude.{All}
use Rattle.std.specs.List.{range_with_len}
use Rattle.std.proofs.lemmas.Bool.{cases_eq, cases_lt}
use Rattle.std.proofs.lemmas.List.{get_or_default}
use Rattle.std.proofs.lemmas.List.Folds.{Any-from_list_any, list_any_at}
use Rattle.std.proofs.lemmas.List.Elements.{All-from_get_or}
use Rattle.std.proofs.lemmas.Nat.{div-mul-add, mod_below, mod-mul-add}
use Rattle.clr_net.specs.Net.{Net}
use Rattle.clr_net.specs.Limits.{IsNetwork}
use Rattle.clr_net.specs.declared.TheConstants.{MAX_BANKS}
use Rattle.bank_desk.specs.Desks.{desk_of}
use Rattle.pay_words.specs.Views.{is_of_worker}
use Rattle.bank_worker.specs.BankSets.{AreSetOut, is_in}
use Rattle.bank_worker.specs.Offices.{banks_of_worker}
use Rattle.bank_worker.specs.Rings.{is_among}
use Rattle.bank_worker.specs.Rising.{Rises}
use Rattle.bank_worker.specs.Views.{banks_of}
use Rattle.bank_worker.proofs.Filtered.{Stands, filter_finds, filter_passes, filter_rises}

-- the banks of the desks of some banks are these
pub banks_of_desks : (net : Net) (banks : List ℕ) → banks_of (map (desk_of net) banks) ≡ banks
banks_of_desks net [] = refl
banks_of_desks net (b ∷ banks) = ap (λ bs. b ∷ bs) (banks_of_desks net banks)

-- the numbers below n that are of the worker i among w
abbrev of_worker : ℕ → ℕ → ℕ → List ℕ
of_worker n w i = filter (is_of_worker w i) (range_with_len 0 n)

-- each that stands in a place of the list is below n, and is a multiple of w and i, which is less than w
one_of : (n w i k : ℕ) → 1 ≤ w → k < length (of_worker n w i)
    → (get_or (of_worker n w i) k 0 < n) × (get_or (of_worker n w i) k 0 ≡ get_or (of_worker n w i) k 0 / w * w + i) × (i < w)
one_of n w i k some l =
    let x = get_or (of_worker n w i) k 0 in
    let f = filter_passes (is_of_worker w i) n k l in
    let e : x % w ≡ i = eqb-true (x % w) i f.1 in
    (f.0, sym (div-add-mod' x w) ∙ ap (λ r. x / w * w + r) e, omega (arith, e, mod_below x w some))

-- a number of the worker that is below n stands in the list
stands : (n w i a : ℕ) → i < w → a * w + i < n → Stands (of_worker n w i) (a * w + i)
stands n w i a low lt = filter_finds (is_of_worker w i) n (a * w + i) lt (eq-eqb ((a * w + i) % w) i (mod-mul-add a w i low))

-- a number of an earlier place is not greater
pub not_after : (xs : List ℕ) (a b : ℕ) → Rises xs → a ≤ b → b < length xs → get_or xs a 0 ≤ get_or xs b 0
not_after xs a b rise le l = elim (cases_eq a b) [
  | inl e ↦ omega (arith, ap (λ k. get_or xs k 0) e)
  | inr n ↦ omega (arith, rise a b 0 (omega (arith, n)) l)
]

-- each is its place times w, and i
placed : (n w i k : ℕ) → 1 ≤ w → k < length (of_worker n w i) → get_or (of_worker n w i) k 0 ≡ k * w + i
placed n w i zero some l =
    let xs = of_worker n w i in
    let h = one_of n w i 0 some l in
    let s = stands n w i 0 h.2 (omega (arith, h.0, h.1)) in
    omega (arith, h.1, s.2, not_after xs 0 s.0 (filter_rises (is_of_worker w i) 0 n) (omega arith) s.1)
placed n w i (suc k) some l =
    let xs = of_worker n w i in
    let q = get_or xs (suc k) 0 / w in
    let h = one_of n w i (suc k) some l in
    let rise = filter_rises (is_of_worker w i) 0 n in
    let before : get_or xs k 0 ≡ k * w + i = placed n w i k some (omega (arith, l)) in
    let after : get_or xs k 0 < get_or xs (suc k) 0 = rise k (suc k) 0 (omega arith) l in
    let more : k < q = ⊎_elim (λ (lt : k < q). lt) (λ (le : q ≤ k). absurd (omega (arith, h.1, before, after, mul-le-mul_right w le))) (cases_lt k q) in
    let next : suc k ≤ q = omega (arith, more) in
    let least : suc k * w ≤ q * w = mul-le-mul_right w next in
    let s = stands n w i (suc k) h.2 (omega (arith, h.0, h.1, least)) in
    let later : k < s.0 = ⊎_elim (λ (lt : k < s.0). lt) (λ (le : s.0 ≤ k). absurd (omega (arith, s.2, before, not_after xs s.0 k rise le (omega (arith, l))))) (cases_lt k s.0) in
    omega (arith, h.1, least, s.2, not_after xs (suc k) s.0 rise (omega (arith, later)) s.1)

-- the set of a worker's banks is set out: the place of each is its number divided by that of workers
pub set_out : (net : Net) (set : List ℕ) (workers i : ℕ) → 1 ≤ workers
    → ((b : ℕ) → is_in set b ≡ is_among (banks_of_worker net workers i) b) → AreSetOut set workers (banks_of_worker net workers i)
set_out net set workers i some are =
    let banks = banks_of_worker net workers i in
    let n = length net.banks in
    record {
      some = some;
      placed = λ k l.
          let low = (one_of n workers i k some l).2 in
          (are (get_or banks k 0) ∙ list_any_at (λ y. get_or banks k 0 == y) banks k 0 l (eq-eqb (get_or banks k 0) (get_or banks k 0) refl), ap (λ b. b / workers) (placed n workers i k some l) ∙ div-mul-add k workers i low);
      only = λ b e.
          let p = Any-from_list_any (λ y. b == y) banks (sym (are b) ∙ e) in
          (p.0, p.2, get_or_default banks p.0 0 p.1 p.2 ∙ p.3 ∙ sym (eqb-true b p.1 p.4));
    }

-- each bank of a worker is below the most that there may be
pub known_banks : (net : Net) (banks : List ℕ) (workers i : ℕ) → IsNetwork net → banks ≡ banks_of_worker net workers i → All (λ b. b < MAX_BANKS) banks
known_banks net banks workers i network e = rw e (All-from_get_or (λ b. b < MAX_BANKS) (banks_of_worker net workers i) 0
    (λ k l. omega (arith, (filter_passes (is_of_worker workers i) (length net.banks) k l).0, network.banks_in_limit)))
