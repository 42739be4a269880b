-- A text of lines, one for each number or place.
use Rattle.std.proofs.Common.{◌≡◌, ℕ, ◌+◌, ◌<◌, List, [], ◌∷◌, ◌++◌, get_or, length, map, take, refl, sym, ap, ◌∙◌, append_assoc, arith}
use Rattle.std.specs.List.{flat_map, join_with_byte, range_with_len}
use Rattle.std.specs.Option.{option_map_or}
use Rattle.std.proofs.lemmas.List.{flat_map_more, map_push, take_more}
use Rattle.std.proofs.lemmas.List.FromFn.{map-range_with_len_more}
use Rattle.std.proofs.Common.{Result, OnOk}
use Rattle.std.proofs.lemmas.Option.{slice_get-get_or}
use Rattle.std.proofs.lemmas.Result.{on_ok_weaker}
use Rattle.clr_net.specs.Lines.{line}
use Rattle.clear_report.specs.Words.{at_place, with_commas}
use Rattle.clear_report.proofs.Pieces.{all_of}

-- one line more, of the number k
pub lines_more : (header text more : List ℕ) (line_of : ℕ → List ℕ) (a n k : ℕ)
    → k ≡ a + n → text ≡ header ++ flat_map line_of (range_with_len a n) → more ≡ text ++ line_of k
    → more ≡ header ++ flat_map line_of (range_with_len a (n + 1))
lines_more header text more line_of a n k next e m =
    m ∙ ap (λ t. t ++ line_of k) e ∙ flat_map_more line_of header (range_with_len a n) k
    ∙ ap (λ ls. header ++ ls) (all_of line_of line_of (range_with_len a n ++ k ∷ []) _
    (map_push line_of (range_with_len a n) k ∙ sym (map-range_with_len_more line_of a n k (sym next))))

-- one field more, with a comma after it
pub next_field : {X : Type 0} (header text more : List ℕ) (bytes_of : X → List ℕ) (xs : List X) (i : ℕ) (d x : X)
    → i < length xs → x ≡ get_or xs i d → text ≡ header ++ with_commas (map bytes_of (take i xs)) → more ≡ text ++ (bytes_of x ++ 44 ∷ [])
    → more ≡ header ++ with_commas (map bytes_of (take (i + 1) xs))
next_field header text more bytes_of xs i d x within at e m =
    m ∙ ap (λ t. t ++ (bytes_of x ++ 44 ∷ [])) e
    ∙ flat_map_more (λ (field : List ℕ). field ++ 44 ∷ []) header (map bytes_of (take i xs)) (bytes_of x)
    ∙ ap (λ fields. header ++ with_commas fields) (sym (map_push bytes_of (take i xs) x)
    ∙ ap (map bytes_of) (ap (λ y. take i xs ++ y ∷ []) at ∙ sym (take_more xs i d within)))

-- one line more, of what stands in a place
pub line_at : {X : Type 0} (line_of : X → List ℕ) (text more : List ℕ) (xs : List X) (i : ℕ)
    (d : X) {n : ℕ} → length xs ≡ n → i < n → more ≡ text ++ line_of (get_or xs i d)
    → more ≡ text ++ at_place line_of xs i
line_at line_of text more xs i d as_many within is =
    is
    ∙ ap (λ o. text ++ option_map_or line_of o [])
    (sym (slice_get-get_or xs i d (omega (arith, as_many, within))))

-- fields, each with a comma after it, and a last one
pub line_ends : (fields : List (List ℕ)) (last : List ℕ)
    → with_commas fields ++ (last ++ 10 ∷ []) ≡ line (fields ++ last ∷ [])
line_ends [] last = refl
line_ends (first ∷ []) last = simp append_assoc
line_ends (first ∷ (next ∷ fields)) last =
    let rest = simp append_assoc at (line_ends (next ∷ fields) last) in simp (append_assoc, rest)

-- a field before the others of a line
pub line_more : (field next : List ℕ) (others : List (List ℕ)) → field ++ 44 ∷ line (next ∷ others) ≡ line (field ∷ next ∷ others)
line_more field next others = sym (append_assoc field (44 ∷ join_with_byte 44 (next ∷ others)) (10 ∷ []))

-- fields, each with a comma after it, and a line of others
line_begins : (fields : List (List ℕ)) (next : List ℕ) (others : List (List ℕ))
    → with_commas fields ++ line (next ∷ others) ≡ line (fields ++ next ∷ others)
line_begins [] next others = refl
line_begins (first ∷ []) next others = simp append_assoc
line_begins (first ∷ (second ∷ fields)) next others =
    let rest = simp append_assoc at (line_begins (second ∷ fields) next others) in simp (append_assoc, rest)

-- a call that appends fields before a line appends the line of all
pub line_put : {T E : Type 0} (result : Result T E) (new text room : List ℕ) (fields : List (List ℕ)) (next : List ℕ) (others : List (List ℕ))
    → room ≡ line (next ∷ others) → OnOk result (new ≡ text ++ (with_commas fields ++ room))
    → OnOk result (new ≡ text ++ line (fields ++ next ∷ others))
line_put result new text room fields next others is =
    on_ok_weaker result (λ e. e ∙ ap (λ l. text ++ l) (ap (λ l. with_commas fields ++ l) is ∙ line_begins fields next others))
