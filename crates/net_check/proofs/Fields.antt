-- Steps of reading one field: a byte trimmed, a digit read.
use Rattle.std.proofs.Common.{◌≡◌, ℕ, ◌+◌, ◌-◌, ◌*◌, ◌^◌, ◌<◌, ◌≤◌, true, false, cond, List, [], ◌∷◌, ◌++◌, length, reverse, get_or, take, drop, Some, refl, sym, ap, ◌∙◌, arith, add-one}
use Rattle.std.specs.List.{list_all}
use Rattle.std.specs.Char.{is_ascii_digit}
use Rattle.std.proofs.Math.Nat.{pow-le-pow_right, pow-suc}
use Rattle.std.proofs.lemmas.Bool.{le-leb}
use Rattle.std.proofs.lemmas.List.{at_drop_more, at_drop_all, length_push, take_all, reverse-append, reverse-reverse, nil_from_length}
use Rattle.std.proofs.lemmas.List.Folds.{list_all-append}
use Rattle.net_check.specs.Field.{is_space_or_tab, trimmed_start, number_after, number_in}
use Rattle.net_check.specs.declared.TheConstants.{MAX_DIGITS}

-- a space or a tab at the start is dropped
pub trimmed_start-drops : (field rest : List ℕ) (b : ℕ) → field ≡ b ∷ rest → is_space_or_tab b ≡ true → trimmed_start field ≡ trimmed_start rest
unfolding trimmed_start
trimmed_start-drops field rest b e blank = ap trimmed_start e ∙ ap (λ t. cond t (trimmed_start rest) (b ∷ rest)) blank

-- another byte at the start ends the trimming
pub trimmed_start-stops : (field rest : List ℕ) (b : ℕ) → field ≡ b ∷ rest → is_space_or_tab b ≡ false → trimmed_start field ≡ field
unfolding trimmed_start
trimmed_start-stops field rest b e other = ap trimmed_start e ∙ ap (λ t. cond t (trimmed_start rest) (b ∷ rest)) other ∙ sym e

-- a field without a byte is trimmed already
pub trimmed_start-empty : (field : List ℕ) → length field ≡ 0 → trimmed_start field ≡ field
unfolding trimmed_start
trimmed_start-empty field h = rw (nil_from_length field h) refl

-- the same at the end
pub trimmed_end-drops : (field rest : List ℕ) (b : ℕ) → field ≡ rest ++ b ∷ [] → is_space_or_tab b ≡ true
    → reverse (trimmed_start (reverse field)) ≡ reverse (trimmed_start (reverse rest))
trimmed_end-drops field rest b e blank =
    ap reverse (trimmed_start-drops (reverse field) (reverse rest) b (ap reverse e ∙ reverse-append rest (b ∷ [])) blank)

-- from the end: another byte there ends the trimming
pub trimmed_end-stops : (field rest : List ℕ) (b : ℕ) → field ≡ rest ++ b ∷ [] → is_space_or_tab b ≡ false
    → reverse (trimmed_start (reverse field)) ≡ field
trimmed_end-stops field rest b e other =
    ap reverse (trimmed_start-stops (reverse field) (reverse rest) b (ap reverse e ∙ reverse-append rest (b ∷ [])) other)
    ∙ reverse-reverse field

-- from the end: a field without a byte is trimmed already
pub trimmed_end-empty : (field : List ℕ) → length field ≡ 0 → reverse (trimmed_start (reverse field)) ≡ field
unfolding trimmed_start
trimmed_end-empty field h = rw (nil_from_length field h) refl

-- one digit more
pub number_after_more : (field : List ℕ) (i n : ℕ) → i < length field
    → number_after n (drop i field) ≡ number_after (10 * n + (get_or field i 0 - 48)) (drop (i + 1) field)
unfolding number_after
number_after_more field i n h = at_drop_more (number_after n) field i 0 h

-- it keeps the number below a power of ten
pub number_below_more : (i n d : ℕ) → n < 10 ^ i → d ≤ 9 → 10 * n + d < 10 ^ (i + 1)
number_below_more i n d small digit = rw (add-one, pow-suc) (omega arith)

-- of less than twenty digits the number and ten times the number are below 2 ^ 64
pub number_fits : (i n : ℕ) → n < 10 ^ i → i < 19 → 10 * n + 9 < 18446744073709551616
number_fits i n small few =
    let most : 10 ^ i ≤ 10 ^ 18 = pow-le-pow_right {n = 10} (omega arith) {i = i} {j = 18} (omega (arith, few)) in
    omega (arith, small, most)

-- the number of some digits and one more
number_after-push : (n : ℕ) (digits : List ℕ) (last : ℕ) → number_after n (digits ++ last ∷ []) ≡ 10 * number_after n digits + (last - 48)
unfolding number_after
number_after-push n [] last = refl
number_after-push n (digit ∷ digits) last = number_after-push (10 * n + (digit - 48)) digits last

-- a field of digits alone, of which all but the last are read
pub number_in-digits : (field front : List ℕ) (last i n : ℕ) → field ≡ front ++ last ∷ [] → length front < MAX_DIGITS → length front ≤ i
    → list_all is_ascii_digit (take i front) ≡ true → number_after n (drop i front) ≡ number_after 0 front → is_ascii_digit last ≡ true
    → number_in field ≡ Some (10 * n + (last - 48))
unfolding number_after
number_in-digits field front last i n are few all_read digits e digit =
    let many : length field ≡ length front + 1 = ap length are ∙ length_push front last in
    let spelled : n ≡ number_after 0 front = sym (at_drop_all (number_after n) front i all_read) ∙ e in
    let firsts : list_all is_ascii_digit front ≡ true = ap (list_all is_ascii_digit) (sym (take_all i front all_read)) ∙ digits in
    let all_digits : list_all is_ascii_digit field ≡ true =
    ap (list_all is_ascii_digit) are ∙ list_all-append is_ascii_digit front (last ∷ []) ∙ rw (firsts, digit) refl in
    let number : number_after 0 field ≡ 10 * n + (last - 48) =
    ap (number_after 0) are ∙ number_after-push 0 front last ∙ ap (λ m. 10 * m + (last - 48)) (sym spelled) in
    rw (le-leb 1 (length field) (omega (arith, many)), le-leb (length field) MAX_DIGITS (omega (arith, many, few)), all_digits) (ap Some number)
