-- Words of a set of banks: one bit more or less, and the first bit in two sets.
use Rattle.std.proofs.Common.{◌≡◌, ◌≢◌, ℕ, ◌+◌, ◌*◌, ◌-◌, ◌/◌, ◌%◌, ◌^◌, ◌<◌, ◌≤◌, ◌==◌, Bool, true, false, not, List, length, get_or, replicate, set, min, max, inl, inr, refl, sym, ap, ◌∙◌, arith, eqb-true, eq-eqb, ne_eqb, get_or-set_same, get_or-set_other, w64}
use Rattle.std.specs.Prelude.{◌&&◌, ◌||◌, Option, Some, None, IfNone, IfSome, bit_and, bit_or}
use Rattle.std.specs.Int.{bit_at, bit_not, trailing_zeros}
use Rattle.std.proofs.lemmas.Bool.{cases_eq}
use Rattle.std.proofs.lemmas.Nat.{and_le_r, and_mask, le_or_l, le_or_r}
use Rattle.std.proofs.Math.Nat.{mod-eq_of_lt}
use Rattle.clr_net.specs.declared.debt.BankId.{BankId}
use Rattle.std.proofs.lemmas.Nat.Bits.{bit_at-trailing_zeros, bit_at-lt, bit_at-zero, bit_at_and, bit_at_or, bit_at_clear_same, bit_at_clear_other, bit_at_mask_below, bit_at_mask_inside, bit_at_ones, bit_at_set_same, bit_at_set_other, ones_shl}
use Rattle.std.proofs.lemmas.Bool.{cases_lt}
use Rattle.std.proofs.lemmas.List.{get_or-replicate, get_or_past, length-replicate}
use Rattle.bank_worker.specs.BankSets.{HaveNoneInBoth, is_in}
use mathlib.Core.Bool.{or-false, or-true, and-true, and-false}
use Rattle.std.proofs.lemmas.Bool.Decides.{nat_tests}

-- no bit of 0 is set
unset : (i : ℕ) → (bit_at 0 i == 1) ≡ false
unset i = ne_eqb (bit_at 0 i) 1 (λ e. absurd (omega (arith, e, bit_at-zero i)))

-- no bank is in a set of words that have no bit
pub none_in : (n b : ℕ) → is_in (replicate n 0) b ≡ false
none_in n b =
    let none : get_or (replicate n 0) (b / 64) 0 ≡ 0 = elim (cases_lt (b / 64) n) [
      | inl l ↦ get_or-replicate n (b / 64) 0 0 l
      | inr g ↦ get_or_past (replicate n 0) (b / 64) 0 (omega (arith, g, length-replicate {A = ℕ} n 0))
    ] in
    ap (λ w. bit_at w (b % 64) == 1) none ∙ unset (b % 64)

-- each bank is in a set of words that have all bits
pub all_in : (n b : ℕ) → b / 64 < n → is_in (replicate n (2 ^ 64 - 1)) b ≡ true
all_in n b l =
    ap (λ w. bit_at w (b % 64) == 1) (get_or-replicate n (b / 64) (2 ^ 64 - 1) 0 l)
    ∙ eq-eqb (bit_at (2 ^ 64 - 1) (b % 64)) 1 (bit_at_ones 64 (b % 64) (omega arith))

-- a word was edited at the bit of one bank alone
edited : (f : Bool → Bool → Bool) (xs : List ℕ) (b c w : ℕ) → ((t : Bool) → f t false ≡ t) → b / 64 < length xs
    → (bit_at w (b % 64) == 1) ≡ f (is_in xs b) true → ((i : ℕ) → i < 64 → i ≢ b % 64 → bit_at w i ≡ bit_at (get_or xs (b / 64) 0) i)
    → is_in (set xs (b / 64) w) c ≡ f (is_in xs c) (c == b)
edited f xs b c w none lt here other = elim (cases_eq c b) [
  | inl e ↦ rw (e, get_or-set_same xs (b / 64) w 0 lt, eq-eqb b b refl) here
  | inr ne ↦ rw (ne_eqb c b ne, none (is_in xs c)) (elim (cases_eq (c / 64) (b / 64)) [
    | inl e ↦ rw (e, get_or-set_same xs (b / 64) w 0 lt, other (c % 64) (omega arith) (λ bit. ne (omega (arith, bit, e))))
    | inr g ↦ rw (get_or-set_other xs (b / 64) (c / 64) w 0 g)
  ])
]

-- the bit of a bank was set in its word
pub added : (xs : List ℕ) (b c : ℕ) → b / 64 < length xs
    → is_in (set xs (b / 64) (bit_or (get_or xs (b / 64) 0) (1 * 2 ^ (b % 64) % 2 ^ 64))) c ≡ (is_in xs c || (c == b))
added xs b c lt =
    let old = get_or xs (b / 64) 0 in
    edited (λ t q. t || q) xs b c (bit_or old (1 * 2 ^ (b % 64) % 2 ^ 64)) or-false lt
    (rw (bit_at_set_same w64 old (b % 64) (omega arith), or-true))
    (λ i _ ne. bit_at_set_other w64 old (b % 64) (omega arith) i ne)

-- the bit of a bank was cleared in its word
pub removed : (xs : List ℕ) (b c : ℕ) → b / 64 < length xs
    → is_in (set xs (b / 64) (bit_and (get_or xs (b / 64) 0) (bit_not w64 (1 * 2 ^ (b % 64) % 2 ^ 64)))) c ≡ (is_in xs c && not (c == b))
removed xs b c lt =
    let old = get_or xs (b / 64) 0 in
    edited (λ t q. t && not q) xs b c (bit_and old (bit_not w64 (1 * 2 ^ (b % 64) % 2 ^ 64))) and-true lt
    (rw (bit_at_clear_same w64 old (b % 64) (omega arith), and-false))
    (λ i l ne. bit_at_clear_other w64 old (b % 64) (omega arith) i l ne)

-- what is known of a mask that leaves out the banks before one, in the word k
pub record IsMask (from k mask : ℕ) : Type 0 where
  pub on : (i : ℕ) → i < 64 → from ≤ k * 64 + i → bit_at mask i ≡ 1
  pub off : (i : ℕ) → i < 64 → k * 64 + i < from → bit_at mask i ≡ 0

-- the word that two sets have in common from one bank on
unfoldable pub common : List ℕ → List ℕ → ℕ → ℕ → ℕ
common xs ys k mask = bit_and (bit_and (get_or xs k 0) (get_or ys k 0)) mask

-- the mask of the first word
pub first_mask : (from mask : ℕ) → mask ≡ (2 ^ 64 - 1) * 2 ^ (from % 64) % 2 ^ 64 → IsMask from (from / 64) mask
first_mask from mask e =
    let is : mask ≡ 2 ^ 64 - 2 ^ (from % 64) = e ∙ ones_shl 64 (from % 64) (omega arith) in
    record {
      on = λ i l le. ap (λ m. bit_at m i) is ∙ bit_at_mask_inside (from % 64) 64 i (omega arith) l;
      off = λ i l lt. ap (λ m. bit_at m i) is ∙ bit_at_mask_below (from % 64) 64 i (omega arith);
    }

-- the mask of a word after that bank
pub whole_mask : (from k : ℕ) → from ≤ k * 64 → IsMask from k (2 ^ 64 - 1)
whole_mask from k le = record {
  on = λ i l _. bit_at_ones 64 i l;
  off = λ i l less. absurd (omega arith);
}

-- a bit of the common word is set where it is in both words and in the mask
common_bit : (xs ys : List ℕ) (k mask i : ℕ)
    → bit_at (common xs ys k mask) i ≡ min (min (bit_at (get_or xs k 0) i) (bit_at (get_or ys k 0) i)) (bit_at mask i)
unfolding common
common_bit xs ys k mask i =
    rw (bit_at_and (bit_and (get_or xs k 0) (get_or ys k 0)) mask i, bit_at_and (get_or xs k 0) (get_or ys k 0) i)

-- none is in both where the common word has no bit up to a place of it
pub none_more : (xs ys : List ℕ) (from k mask t : ℕ) → IsMask from k mask → HaveNoneInBoth xs ys from (k * 64) → t ≤ 64
    → ((i : ℕ) → i < t → bit_at (common xs ys k mask) i ≡ 0) → HaveNoneInBoth xs ys from (k * 64 + t)
none_more xs ys from k mask t m before le none b ge lt e = elim (cases_lt b (k * 64)) [
  | inl l ↦ before b ge l e
  | inr g ↦
      let is : b / 64 ≡ k = omega arith in
      let x = eqb-true (bit_at (get_or xs k 0) (b % 64)) 1 (rw is at e) in
      let unset = none (b % 64) (omega arith) in
      let on = m.on (b % 64) (omega arith) (omega arith) in
      rw is (ne_eqb (bit_at (get_or ys k 0) (b % 64)) 1 (λ y. absurd (omega (arith, common_bit xs ys k mask (b % 64), unset, on, x, y))))
]

-- no bit at all in the common word
pub none_in_word : (xs ys : List ℕ) (from k mask : ℕ) → IsMask from k mask → HaveNoneInBoth xs ys from (k * 64)
    → common xs ys k mask ≡ 0 → HaveNoneInBoth xs ys from ((k + 1) * 64)
none_in_word xs ys from k mask m before none b ge lt e =
    none_more xs ys from k mask 64 m before (omega arith) (λ i l. ap (λ n. bit_at n i) none ∙ bit_at-zero i) b ge (omega arith) e

-- the common word, read from lists that are equal to these
pub common_of : (xs ys zs ws : List ℕ) (k mask : ℕ) → xs ≡ zs → ys ≡ ws → bit_and (bit_and (get_or xs k 0) (get_or ys k 0)) mask ≡ common zs ws k mask
unfolding common
common_of xs ys zs ws k mask p q = λ i. bit_and (bit_and (get_or (p i) k 0) (get_or (q i) k 0)) mask

-- so the first bank is found by the count of zeros below the lowest bit
pub found_in_word : (xs ys : List ℕ) (from k mask w : ℕ) → IsMask from k mask → HaveNoneInBoth xs ys from (k * 64) → w ≡ common xs ys k mask
    → mask < 2 ^ 64 → w ≢ 0
    → ((from ≤ k * 64 + trailing_zeros w64 w) × (is_in xs (k * 64 + trailing_zeros w64 w) ≡ true) × (is_in ys (k * 64 + trailing_zeros w64 w) ≡ true))
    × HaveNoneInBoth xs ys from (k * 64 + trailing_zeros w64 w)
unfolding common
found_in_word xs ys from k mask w m before e fits some =
    let h = bit_at-trailing_zeros w64 w (omega arith) (omega (arith, e, and_le_r (bit_and (get_or xs k 0) (get_or ys k 0)) mask)) in
    let t = trailing_zeros w64 w in
    let both = common_bit xs ys k mask t in
    let word : (k * 64 + t) / 64 ≡ k = omega (arith, h.0) in
    let bit : (k * 64 + t) % 64 ≡ t = omega (arith, h.0) in
    let set : bit_at (common xs ys k mask) t ≡ 1 = ap (λ n. bit_at n t) (sym e) ∙ h.1 in
    let ahead : from ≤ k * 64 + t = elim (cases_lt (k * 64 + t) from) [ inl less ↦ absurd (omega (arith, both, set, m.off t h.0 less)) | inr ge ↦ ge ] in (
      (
        ahead,
        rw (word, bit) (eq-eqb (bit_at (get_or xs k 0) t) 1 (omega (arith, both, set))),
        rw (word, bit) (eq-eqb (bit_at (get_or ys k 0) t) 1 (omega (arith, both, set))),
      ),
      none_more xs ys from k mask t m before (omega arith) (λ i l. ap (λ n. bit_at n i) (sym e) ∙ h.2 i l),
    )

-- what two words have in common, as the common word of a mask that leaves out no bank
pub common_all : (xs ys : List ℕ) (k : ℕ) → bit_and (get_or xs k 0) (get_or ys k 0) < 2 ^ 64
    → bit_and (get_or xs k 0) (get_or ys k 0) ≡ common xs ys k (2 ^ 64 - 1)
unfolding common
common_all xs ys k fits =
    let both = bit_and (get_or xs k 0) (get_or ys k 0) in
    sym (and_mask both 64 ∙ mod-eq_of_lt fits)

-- no bank is in both sets where their words, in turn, have nothing in common
pub none_in_words : (xs ys : List ℕ) (from to : ℕ)
    → ((k : ℕ) → from ≤ k → k < to → bit_and (get_or xs k 0) (get_or ys k 0) ≡ 0)
    → HaveNoneInBoth xs ys (from * 64) (to * 64)
none_in_words xs ys from to none b ge lt e =
    let k = b / 64 in
    let i = b % 64 in
    let x = eqb-true (bit_at (get_or xs k 0) i) 1 e in
    let unset = ap (λ n. bit_at n i) (none k (omega arith) (omega arith)) ∙ bit_at-zero i in
    ne_eqb (bit_at (get_or ys k 0) i) 1 (λ y. absurd (omega (arith, bit_at_and (get_or xs k 0) (get_or ys k 0) i, unset, x, y)))

-- four numbers that have no bit together are 0
none_of_four : (a b c d : ℕ) → bit_or (bit_or (bit_or a b) c) d ≡ 0 → (a ≡ 0) × (b ≡ 0) × (c ≡ 0) × (d ≡ 0)
none_of_four a b c d e =
    let three : bit_or (bit_or a b) c ≡ 0 = omega (arith, e, le_or_l (bit_or (bit_or a b) c) d) in
    let two : bit_or a b ≡ 0 = omega (arith, three, le_or_l (bit_or a b) c) in (
      omega (arith, two, le_or_l a b),
      omega (arith, two, le_or_r a b),
      omega (arith, three, le_or_r (bit_or a b) c),
      omega (arith, e, le_or_r (bit_or (bit_or a b) c) d),
    )

-- what is 0 at four numbers in a row is 0 at each of them
zero_at_four : (f : ℕ → ℕ) (k j : ℕ) → f k ≡ 0 → f (k + 1) ≡ 0 → f (k + 2) ≡ 0 → f (k + 3) ≡ 0 → k ≤ j → j < k + 4 → f j ≡ 0
zero_at_four f k j a b c d ge lt = elim (cases_lt j (k + 1)) [
  | inl l ↦ (let e : j ≡ k = omega (arith, ge, l) in ap f e ∙ a)
  | inr g ↦ elim (cases_lt j (k + 2)) [
    | inl l ↦ (let e : j ≡ k + 1 = omega (arith, g, l) in ap f e ∙ b)
    | inr h ↦ elim (cases_lt j (k + 3)) [
      | inl l ↦ (let e : j ≡ k + 2 = omega (arith, h, l) in ap f e ∙ c)
      | inr m ↦ (let e : j ≡ k + 3 = omega (arith, m, lt) in ap f e ∙ d)
    ]
  ]
]

-- no bank of four words is in both sets where what they have in common has no bit together
pub none_in_four : (xs ys : List ℕ) (k : ℕ)
    → bit_or (bit_or (bit_or (bit_and (get_or xs k 0) (get_or ys k 0)) (bit_and (get_or xs (k + 1) 0) (get_or ys (k + 1) 0)))
    (bit_and (get_or xs (k + 2) 0) (get_or ys (k + 2) 0))) (bit_and (get_or xs (k + 3) 0) (get_or ys (k + 3) 0)) ≡ 0
    → HaveNoneInBoth xs ys (k * 64) ((k + 4) * 64)
none_in_four xs ys k e =
    let z = none_of_four (bit_and (get_or xs k 0) (get_or ys k 0)) (bit_and (get_or xs (k + 1) 0) (get_or ys (k + 1) 0))
    (bit_and (get_or xs (k + 2) 0) (get_or ys (k + 2) 0)) (bit_and (get_or xs (k + 3) 0) (get_or ys (k + 3) 0)) e in
    none_in_words xs ys k (k + 4) (λ j ge lt. zero_at_four (λ n. bit_and (get_or xs n 0) (get_or ys n 0)) k j z.0 z.1 z.2 z.3 ge lt)

-- none is in both up to a bank where none is up to an earlier one, and none from that one on
pub none_further : (xs ys : List ℕ) (from between to : ℕ) → HaveNoneInBoth xs ys from between → HaveNoneInBoth xs ys between to
    → HaveNoneInBoth xs ys from to
none_further xs ys from between to before after b ge lt e = elim (cases_lt b between) [
  | inl l ↦ before b ge l e
  | inr g ↦ after b g lt e
]

-- the same of what is found from that bank on, or of all banks up to an end where nothing is found
pub found_later : (xs ys : List ℕ) (from between to end : ℕ) (r : Option BankId) → HaveNoneInBoth xs ys from between
    → IfSome r (λ bank. HaveNoneInBoth xs ys between bank.0) → IfNone r (HaveNoneInBoth xs ys between to) → end ≤ to
    → IfSome r (λ bank. HaveNoneInBoth xs ys from bank.0) × IfNone r (HaveNoneInBoth xs ys from end)
found_later xs ys from between to end (Some bank) before none_before none le = (none_further xs ys from between bank.0 before none_before, tt)
found_later xs ys from between to end None before none_before none le =
    (tt, λ b ge lt e. none_further xs ys from between to before none b ge (omega (arith, lt, le)) e)

-- a bit of two words together is set where it is in one of them
pub bit_of_either : (x y i : ℕ) → (bit_at (bit_or x y) i == 1) ≡ ((bit_at x i == 1) || (bit_at y i == 1))
bit_of_either x y i = greater (bit_at (bit_or x y) i) (bit_at x i) (bit_at y i) (bit_at-lt x i) (bit_at-lt y i) (bit_at_or x y i)
  where
    greater : (m a b : ℕ) → a < 2 → b < 2 → m ≡ max a b → (m == 1) ≡ ((a == 1) || (b == 1))
    greater m a b la lb e = grind (arith, nat_tests)
