-- How banks stand before and after a ruin, and whom it hurts, one bank after another.
use Rattle.std.proofs.Common.{◌≡◌, ℕ, ◌+◌, ◌-◌, ◌<◌, ◌≤◌, ◌==◌, ◌&&◌, not, Bool, true, false, cond, All, List, [], ◌∷◌, ◌++◌, length, map, filter, count_by, get_or, refl, sym, ap, ◌∙◌, arith}
use Rattle.std.specs.List.{range_with_len}
use mir.Val.{bool_byte}
use Rattle.std.proofs.lemmas.List.Elements.{All-filter, All-map, filter-append}
use Rattle.std.proofs.lemmas.List.FromFn.{get_or-range_with_len, length-range_with_len, map-range_with_len_more, filter_of_map_range_with_len_more}
use Rattle.std.proofs.lemmas.List.Sums.{sum_by_push}
use Rattle.std.proofs.lemmas.List.{append-nil, map-id}
use Rattle.clr_net.specs.Limits.{IsNetwork}
use Rattle.clr_net.specs.Net.{Net}
use Rattle.clear_core.specs.Clearing.{least}
use Rattle.cascade.specs.declared.standing.Standing.{Standing}
use Rattle.cascade.specs.Ruin.{hit, kept_less}
use Rattle.cascade.specs.Standings.{bank_numbers, is_sound, standing, standings}
use Rattle.cascade.proofs.CashAt.{length-with_cash}
use Rattle.cascade.proofs.Ruin.{costs_its_cash}
use Rattle.cascade.proofs.Stands.{stands_there}
use Rattle.impact.specs.declared.hurt.Hurt.{Hurt}
use Rattle.impact.specs.Impact.{falls_with, hurt_by, hurt_to, is_hurt}

-- of a bank of those that stand so under some payments, what it keeps is within its estate
pub kept_within : (net : Net) (P : List ℕ) (all : List Standing) → all ≡ standings net P
    → (i : ℕ) (d : Standing) → i < length net.banks
    → (get_or all i d).equity + (get_or all i d).outside_paid ≤ (get_or all i d).estate
kept_within net P all are i d bank = rw (stands_there net P all are i d bank) (omega arith)

-- the network is as large after a ruin
pub bank_after : (net : Net) (j i : ℕ) → i < length net.banks → i < length (hit net j).banks
bank_after net j i bank = omega (arith, length-with_cash net j 0)

-- of a bank i, where all banks stand so before and so after the ruin of the bank j
module _ (net : Net) (j i : ℕ) (before after : List Standing)
    (was : before ≡ standings net (least net))
    (is : after ≡ standings (hit net j) (least (hit net j))) (bank : i < length net.banks) where
  -- it stood so before
  stood : (d : Standing) → get_or before i d ≡ standing net (least net) i
  stood d = stands_there net (least net) before was i d bank

  -- and so after
  stood_after : (d : Standing) → get_or after i d ≡ standing (hit net j) (least (hit net j)) i
  stood_after d =
      stands_there (hit net j) (least (hit net j)) after is i d (bank_after net j i bank)

  -- what it keeps less by the two
  pub keeps_less : (d e : Standing) (a b : ℕ)
      → a ≡ (get_or before i d).equity + (get_or before i d).outside_paid
      → b ≡ (get_or after i e).equity + (get_or after i e).outside_paid
      → a - b ≡ kept_less net j i
  keeps_less d e a b first second = rw (first, second, stood d, stood_after e)

  -- and that it does not keep more
  pub no_more : IsNetwork net → j < length net.banks → (d e : Standing) (a b : ℕ)
      → a ≡ (get_or before i d).equity + (get_or before i d).outside_paid
      → b ≡ (get_or after i e).equity + (get_or after i e).outside_paid
      → b ≤ a
  no_more network l d e a b first second =
      let before = ap (λ (s : Standing). s.equity + s.outside_paid) (stood d) in
      let later = ap (λ (s : Standing). s.equity + s.outside_paid) (stood_after e) in
      omega (arith, (costs_its_cash net j network l).nobody_gains.keeps i)

  -- so the two tell what the ruin does to it
  pub told : (d e : Standing) (lost : ℕ) (fell : Bool) → lost ≡ kept_less net j i
      → fell ≡ (is_sound (get_or before i d).health && not (is_sound (get_or after i e).health))
      → ◌≡◌ {A = Hurt} (record { bank = record { 0 = i }; lost = lost; falls = fell }) (hurt_to net j i)
  told d e lost fell less broken = rw (less, broken, stood d, stood_after e)

-- one number more
range_more : (n : ℕ) → range_with_len 0 (n + 1) ≡ range_with_len 0 n ++ n ∷ []
range_more n =
    sym (map-id (range_with_len 0 (n + 1)))
    ∙ map-range_with_len_more (λ (x : ℕ). x) 0 n n (omega arith)
    ∙ ap (λ xs. xs ++ n ∷ []) (map-id (range_with_len 0 n))

-- those of a range that pass both tests, counted with one more
count_more : (p q : ℕ → Bool) (n : ℕ)
    → count_by p (filter q (range_with_len 0 (n + 1)))
    ≡ count_by p (filter q (range_with_len 0 n)) + cond (q n && p n) 1 0
count_more p q n =
    ap (λ xs. count_by p (filter q xs)) (range_more n)
    ∙ ap (count_by p) (filter-append q (range_with_len 0 n) (n ∷ []))
    ∙ one (q n)
  where
    one : (b : Bool) → count_by p (filter q (range_with_len 0 n) ++ cond b (n ∷ []) [])
        ≡ count_by p (filter q (range_with_len 0 n)) + cond (b && p n) 1 0
    one true = sum_by_push (λ y. cond (p y) 1 0) (filter q (range_with_len 0 n)) n
    one false = omega (arith, ap (count_by p) (append-nil (filter q (range_with_len 0 n))))

-- a test as a number
as_number : (b : Bool) → (bool_byte b ≡ cond b 1 0) × (bool_byte b ≤ 1)
as_number true = (refl, omega arith)
as_number false = (refl, omega arith)

-- one bank more, which is another and falls, or not
pub fallen_more : (net : Net) (j n count one : ℕ) (b : Bool)
    → count ≡ count_by (falls_with net j) (filter (λ i. not (i == j)) (range_with_len 0 n))
    → one ≡ bool_byte b → b ≡ (not (n == j) && falls_with net j n)
    → (count + one
    ≡ count_by (falls_with net j) (filter (λ i. not (i == j)) (range_with_len 0 (n + 1))))
    × (one ≤ 1)
fallen_more net j n count one b so_far e is = (
  (let more = count_more (falls_with net j) (λ i. not (i == j)) n in
      omega (arith, (as_number b).0, ap {B = ℕ} (λ b. cond b 1 0) is)),
  omega (arith, e, (as_number b).1),
)

-- the banks that are hurt, with the bank n, which is or is not
pub hurts_more : (net : Net) (j n : ℕ) (all more : List Hurt) (h : Hurt) (b : Bool)
    → all ≡ filter is_hurt (map (hurt_to net j) (range_with_len 0 n))
    → h ≡ hurt_to net j n → is_hurt h ≡ b → more ≡ all ++ cond b (h ∷ []) []
    → more ≡ filter is_hurt (map (hurt_to net j) (range_with_len 0 (n + 1)))
hurts_more net j n all more h b so_far e is m =
    rw (m, so_far, ← is, e)
    (sym (filter_of_map_range_with_len_more is_hurt (hurt_to net j) 0 n n (omega arith)))

-- all that are hurt are banks of the network
pub hurt_are_banks : (net : Net) (j : ℕ) → All (λ h. h.bank.0 < length net.banks) (hurt_by net j)
hurt_are_banks net j =
    let n = length net.banks in
    All-filter is_hurt (λ (h : Hurt). h.bank.0 < n) (map (hurt_to net j) (bank_numbers net))
    (All-map (λ (h : Hurt). h.bank.0 < n) (hurt_to net j) (bank_numbers net) (λ k d l.
    let few : k < n = omega (arith, length-range_with_len 0 n) in
    omega (arith, get_or-range_with_len 0 n k d few)))
