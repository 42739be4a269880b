-- Fields that a file keeps as they are: without quotes, and with no space or tab at their ends.
use Rattle.std.proofs.Common.{◌≡◌, ◌∙◌, ◌<◌, ◌≤◌, ◌+◌, ◌-◌, ◌*◌, ◌%◌, ◌^◌, ◌==◌, ℕ, Bool, true, false, List, [], ◌∷◌, ◌++◌, length, get_or, reverse, Some, refl, sym, ap, arith}
use Rattle.std.specs.List.{list_all, list_any}
use Rattle.std.specs.Char.{is_ascii_digit}
use Rattle.std.specs.Fmt.{decimal}
use Rattle.std.specs.Str.{is_utf8, chars}
use Rattle.std.proofs.lemmas.Bool.{and_parts, le-leb}
use Rattle.std.proofs.lemmas.Fmt.{decimal_by_steps_wide, decimal_digit, length-decimal-le_wide}
use Rattle.std.proofs.lemmas.List.{length-append}
use Rattle.std.proofs.lemmas.List.Folds.{list_all-append, list_any-append, list_any_none}
use Rattle.std.proofs.lemmas.List.Sums.{AllPass-from_list_all}
use Rattle.std.proofs.lemmas.Str.{IsUtf8-from_is_utf8, chars-encodes}
use lib.Utf8.{encode, encodes}
use Rattle.csv.specs.Writing.{default_writer, needs_byte}
use Rattle.clr_net.specs.Name.{is_name, may_stand_in_name}
use Rattle.clr_net.specs.declared.TheConstants.{MAX_CLASS, MAX_NAME_BYTES}
use Rattle.net_check.specs.Field.{is_space_or_tab, trimmed_start, trimmed_field, number_after, number_in, class_in}
use Rattle.net_check.specs.declared.TheConstants.{MAX_DIGITS}
use Rattle.net_check.proofs.Fields.{trimmed_start-stops, trimmed_end-stops}

-- no byte from 128 on calls for quotes
high_byte : (b : ℕ) → 128 ≤ b → needs_byte default_writer b ≡ false
high_byte b high = grind arith

-- a field with no byte that calls for quotes
pub record IsPlain (field : List ℕ) : Type 0 where
  pub unquoted : list_any (needs_byte default_writer) field ≡ false

-- a character that may stand in a name
plain_char : (c : ℕ) → may_stand_in_name c ≡ true → list_any (needs_byte default_writer) (encode c) ≡ false
unfolding encode
plain_char c may = grind (arith, high_byte)

-- no character that may stand in a name calls for quotes, nor do several
plain_chars : (cs : List ℕ) → list_all may_stand_in_name cs ≡ true → list_any (needs_byte default_writer) (encodes cs) ≡ false
plain_chars [] h = refl
plain_chars (c ∷ cs) h =
    let parts = and_parts (may_stand_in_name c) (list_all may_stand_in_name cs) h in
    rw (list_any-append (needs_byte default_writer) (encode c) (encodes cs), plain_char c parts.0, plain_chars cs parts.1) refl

-- a name calls for no quotes
plain_name : (name : List ℕ) → is_name name ≡ true → IsPlain name
plain_name name h =
    let text : is_utf8 name ≡ true = grind arith in
    let characters : list_all may_stand_in_name (chars name) ≡ true = grind arith in
    let utf8 = IsUtf8-from_is_utf8 name text in
    let spelt : chars name ≡ utf8.0 = ap chars (sym utf8.1.1) ∙ chars-encodes utf8.0 utf8.1.0 in
    record { unquoted = rw utf8.1.1 at (plain_chars utf8.0 (rw spelt at characters)) }

-- a name has a byte
pub name_has_byte : (name : List ℕ) → is_name name ≡ true → (length name == 0) ≡ false
name_has_byte name h = grind arith

-- and no more than a name may have
pub name_is_short : (name : List ℕ) → is_name name ≡ true → length name ≤ MAX_NAME_BYTES
name_is_short name h = grind arith

-- digits call for no quotes
plain_digit : (b : ℕ) → is_ascii_digit b ≡ true → (needs_byte default_writer b ≡ false) × (is_space_or_tab b ≡ false)
plain_digit b h = (grind arith, grind arith)

-- neither quotes nor trimming touch a field of digits
plain_digits : (ds : List ℕ) → list_all is_ascii_digit ds ≡ true → IsPlain ds
plain_digits ds h = record {
  unquoted = list_any_none (needs_byte default_writer) ds
      (λ k d l. (plain_digit (get_or ds k d) (AllPass-from_list_all is_ascii_digit ds h k d l)).0);
}

-- the last of some elements that pass
last_of : (p : ℕ → Bool) (x : ℕ) (xs : List ℕ) → list_all p (x ∷ xs) ≡ true
    → (front : List ℕ) × (last : ℕ) × (x ∷ xs ≡ front ++ last ∷ []) × (p last ≡ true)
last_of p x [] h = ([], x, refl, (and_parts (p x) true h).0)
last_of p x (y ∷ ys) h =
    let found = last_of p y ys (and_parts (p x) (list_all p (y ∷ ys)) h).1 in
    (x ∷ found.0, found.1, ap (λ t. x ∷ t) found.2, found.3)

-- digits have no space or tab to be dropped
trimmed_digits : (ds : List ℕ) → list_all is_ascii_digit ds ≡ true → trimmed_field ds ≡ ds
unfolding trimmed_start
trimmed_digits [] h = refl
trimmed_digits (b ∷ rest) h =
    let first = (and_parts (is_ascii_digit b) (list_all is_ascii_digit rest) h).0 in
    let found = last_of is_ascii_digit b rest h in
    let start : trimmed_start (b ∷ rest) ≡ b ∷ rest = trimmed_start-stops (b ∷ rest) rest b refl (plain_digit b first).1 in
    ap (λ t. reverse (trimmed_start (reverse t))) start
    ∙ trimmed_end-stops (b ∷ rest) found.0 found.1 found.2 (plain_digit found.1 found.3).1

-- one digit more
number_after-push : (k : ℕ) (ds : List ℕ) (d : ℕ) → number_after k (ds ++ d ∷ []) ≡ 10 * number_after k ds + (d - 48)
unfolding number_after
number_after-push k [] d = refl
number_after-push k (x ∷ xs) d = number_after-push (10 * k + (x - 48)) xs d

-- the digits of a number spell it
abbrev Spells : ℕ → List ℕ → Type 0
Spells n ds = (list_all is_ascii_digit ds ≡ true) × (number_after 0 ds ≡ n)

-- the code of 0 and a number below 10 come to the code of a digit
digit : (n : ℕ) → n < 10 → is_ascii_digit (48 + n) ≡ true
digit n small = grind arith

-- a number below 10 to the most digits that are read is spelled by its decimal digits
decimal_spells : (n : ℕ) → n < 10 ^ MAX_DIGITS → Spells n (decimal n)
unfolding number_after
decimal_spells n small = decimal_by_steps_wide Spells
    (λ m low. (rw (digit m low) refl, omega arith))
    (λ m ds high so_far. (
      rw (list_all-append is_ascii_digit ds ((48 + m % 10) ∷ []), so_far.0, digit (m % 10) (omega arith)) refl,
      number_after-push 0 ds (48 + m % 10) ∙ (let before = so_far.1 in omega arith),
    )) n (omega arith)

-- a number has a digit
decimal_has_digit : (n : ℕ) → n < 10 ^ MAX_DIGITS → 1 ≤ length (decimal n)
decimal_has_digit n small = decimal_by_steps_wide (λ m ds. 1 ≤ length ds) (λ m low. omega arith)
    (λ m ds high some. omega (arith, length-append ds ((48 + m % 10) ∷ []))) n (omega arith)

-- a field that calls for no quotes and has nothing to be trimmed
pub record IsKeptField (field : List ℕ) : Type 0 where
  pub plain : IsPlain field
  pub trimmed : trimmed_field field ≡ field

-- a word that is such, by two tests
pub kept_word : (word : List ℕ) → list_any (needs_byte default_writer) word ≡ false → trimmed_field word ≡ word → IsKeptField word
kept_word word plain trimmed = record { plain = record { unquoted = plain }; trimmed = trimmed }

-- the digits of a number that a file can have are such
pub kept_decimal : (n : ℕ) → n < 10 ^ MAX_DIGITS → IsKeptField (decimal n)
kept_decimal n small =
    let digits = (decimal_spells n small).0 in
    record { plain = plain_digits (decimal n) digits; trimmed = trimmed_digits (decimal n) digits }

-- and so is a name that a file keeps
pub kept_name : (name : List ℕ) → is_name name ≡ true → trimmed_field name ≡ name → IsKeptField name
kept_name name named trimmed = record { plain = plain_name name named; trimmed = trimmed }

-- such a number is read back
pub number_in-decimal : (n : ℕ) → n < 10 ^ MAX_DIGITS → number_in (decimal n) ≡ Some n
number_in-decimal n small =
    let spells = decimal_spells n small in
    let some = decimal_has_digit n small in
    let few = length-decimal-le_wide MAX_DIGITS n (omega arith) small (omega arith) in
    rw (le-leb 1 (length (decimal n)) some, le-leb (length (decimal n)) MAX_DIGITS few, spells.0) (ap Some spells.1)

-- the digit of a class is read back as the class
pub class_back : (c : ℕ) → 1 ≤ c → c ≤ MAX_CLASS → class_in (decimal c) ≡ Some c
class_back c low high =
    rw (decimal_digit c (omega arith), le-leb 49 (48 + c) (omega arith), le-leb (48 + c) (48 + MAX_CLASS) (omega arith))
    (ap Some (omega arith))
