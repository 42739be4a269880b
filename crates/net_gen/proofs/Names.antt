-- The names of generated banks are names, and each is of one bank.
use Rattle.std.proofs.Common.{◌≡◌, ◌≢◌, ℕ, zero, suc, ◌+◌, ◌-◌, ◌<◌, ◌*◌, ◌%◌, true, List, [], ◌∷◌, codes, slice_get, refl, sym, ap, ◌∙◌, arith}
use Rattle.std.specs.Fmt.{decimal}
use Rattle.std.specs.Int.{IsInRange}
use Rattle.std.specs.List.{list_all, range_with_len}
use Rattle.std.specs.Option.{option_map_or}
use Rattle.std.specs.Str.{IsAscii}
use Rattle.std.specs.Str.Parse.{AllDigits}
use Rattle.std.proofs.lemmas.Bool.{and_from}
use Rattle.std.proofs.lemmas.Fmt.{IsAscii-decimal, decimal_injective, decimal_is_IsNumeral, length-decimal-le}
use Rattle.std.proofs.lemmas.List.FromFn.{get_or-map-range_with_len, length-map-range_with_len}
use Rattle.std.proofs.lemmas.Option.{slice_get-get_or}
use Rattle.std.proofs.lemmas.Str.{IsAscii-append, IsUtf8-from_ascii, chars-IsAscii}
use Rattle.std.proofs.lemmas.Str.Parse.{digit_from_value}
use Rattle.clr_net.proofs.NameTests.{name_of_text}
use Rattle.clr_net.proofs.Ranges.{list_all-range_at}
use Rattle.clr_net.specs.Name.{is_name, may_stand_in_name}
use Rattle.clr_net.specs.Net.{Net, name_of}
use Rattle.clr_net.specs.declared.rule.RuleKind.{RuleKind}
use Rattle.net_gen.specs.Generated.{bank_at, banks_made, name_at, rule_numbered, word}

-- the ten digits may stand in a name
digits_stand : list_all (λ d. may_stand_in_name (48 + d)) (range_with_len 0 10) ≡ true
digits_stand = refl

-- a digit may stand in a name
digit_stands : (c : ℕ) → IsInRange 48 57 c → may_stand_in_name c ≡ true
digit_stands c r =
    let e : c ≡ 48 + (c - 48) = omega (arith, r) in
    ap may_stand_in_name e
    ∙ list_all-range_at (λ d. may_stand_in_name (48 + d)) 10 (c - 48) digits_stand
    (omega (arith, r))

-- digits may
all_stand : (ds : List ℕ) → AllDigits 10 ds → list_all may_stand_in_name ds ≡ true
all_stand [] d = refl
all_stand (c ∷ cs) d =
    and_from (may_stand_in_name c) (list_all may_stand_in_name cs)
    (digit_stands c (digit_from_value c d.0)) (all_stand cs d.1)

-- the first byte of a name is ASCII
n_is_ascii : IsAscii (codes "N")
n_is_ascii zero = omega arith
n_is_ascii (suc i) = omega arith

-- the name of each of a thousand banks is a name
pub named : (n : ℕ) → n < 1000 → is_name (name_at n) ≡ true
named n l =
    let digits = IsAscii-decimal n (omega arith) in
    let ascii = IsAscii-append (codes "N") (decimal n) n_is_ascii digits in
    let short = length-decimal-le 3 n (omega arith) (omega arith) (omega arith) in
    name_of_text (name_at n) (omega arith) (omega (arith, short))
    (IsUtf8-from_ascii (name_at n) ascii)
    ∙ ap (list_all may_stand_in_name) (chars-IsAscii (name_at n) ascii)
    ∙ all_stand (decimal n) (decimal_is_IsNumeral n (omega arith)).0.1

-- the name of a bank that was made
name_of_made : (seed n j : ℕ) (net : Net) → net.banks ≡ banks_made seed n → j < n
    → name_of net j ≡ name_at j
name_of_made seed n j net e l =
    ap (λ bs. option_map_or (λ b. b.name) (slice_get bs j) []) e
    ∙ ap (λ o. option_map_or (λ b. b.name) o [])
    (slice_get-get_or (banks_made seed n) j (bank_at seed 0)
    (omega (arith, l, length-map-range_with_len (bank_at seed) 0 n)))
    ∙ ap (λ b. b.name)
    (get_or-map-range_with_len (bank_at seed) 0 n j j (bank_at seed 0) l (omega arith))

-- what follows the first byte
tail_of : List ℕ → List ℕ
tail_of [] = []
tail_of (b ∷ bs) = bs

-- no bank that was made has the name of the next one
pub new_name_at : (seed n j : ℕ) (net : Net) → net.banks ≡ banks_made seed n → n < 1000 → j < n
    → name_of net j ≢ name_at n
unfolding tail_of
new_name_at seed n j net e s l same =
    let alike = ap tail_of (sym (name_of_made seed n j net e l) ∙ same) in
    let equal : j ≡ n = decimal_injective j n (omega arith) (omega arith) alike in
    absurd (omega (arith, equal, l))

-- the bank n, by its parts
pub bank_made : (seed n : ℕ) (name : List ℕ) (cash : ℕ) (rule : RuleKind)
    → name ≡ name_at n → cash ≡ word seed (2 * n) % 2000
    → rule ≡ rule_numbered (word seed (2 * n + 1) % 6)
    → record { name = name; cash = cash; rule = rule; outside = 0 } ≡ bank_at seed n
bank_made seed n name cash rule e f g = rw (e, f, g) refl
