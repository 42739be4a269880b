-- What the code reads in a document is what the definitions say of its data.
use Rattle.std.proofs.Common.{◌≡◌, ℕ, zero, suc, ◌+◌, ◌<◌, ◌≤◌, ◌&&◌, List, [], ◌∷◌, length, get_or, drop, Option, None, string_bytes, refl, sym, ap, ◌∙◌, arith}
use Rattle.std.specs.List.{list_all, list_any}
use Rattle.std.specs.Map.{keys_of}
use Rattle.std.specs.Str.{bytes_eq, is_utf8, IsUtf8}
use Rattle.std.proofs.lemmas.Bool.{false_from_ne_true}
use Rattle.std.proofs.lemmas.Str.{IsUtf8-from_is_utf8, is_utf8-from_IsUtf8}
use Rattle.toml.proofs.Views.{Entry, items_view-drop}
use Rattle.toml.specs.Data.{Members, no_items, item}
use Rattle.toml.specs.Parse.{parse_document}
use Rattle.toml.specs.View.{view, items_view, members_view}
use Rattle.toml.specs.declared.value.Value.{Value}
use Rattle.stress.specs.Reading.{document_of}
use Rattle.stress.specs.Shape.{has_only}

-- a table has no key but some words where each of its keys is one of them
pub has_only-keys : (words : List (List ℕ)) (es : List Entry)
    → has_only words (members_view es)
    ≡ list_all (λ key. list_any (λ word. bytes_eq word (string_bytes key)) words) (keys_of es)
has_only-keys words [] = refl
has_only-keys words (e ∷ es) =
    ap (λ b. list_any (λ word. bytes_eq word (string_bytes e.0)) words && b)
    (has_only-keys words es)

-- bytes that are no UTF-8 are no document
pub no_document : (bytes : List ℕ) → (IsUtf8 bytes → ⊥) → document_of bytes ≡ None
no_document bytes never =
    rw (false_from_ne_true (is_utf8 bytes) (λ e. never (IsUtf8-from_is_utf8 bytes e))) refl

-- others are what toml says of their text
pub document_is : (bytes text : List ℕ) (m : Option Members) → text ≡ bytes → IsUtf8 bytes
    → parse_document text ≡ m → document_of bytes ≡ m
document_is bytes text m same utf8 e =
    rw (is_utf8-from_IsUtf8 bytes utf8) (ap parse_document (sym same) ∙ e)

-- the value that a loop comes to is the first of those that are left
pub value_first : (vs : List Value) (i : ℕ) (x : Value) → i < length vs → x ≡ get_or vs i x
    → items_view (drop i vs) ≡ item (view x) (items_view (drop (i + 1) vs))
value_first vs i x l e =
    items_view-drop vs i x l ∙ ap (λ v. item (view v) (items_view (drop (i + 1) vs))) (sym e)

-- and at its end none is left
pub no_more : (vs : List Value) (i : ℕ) → length vs ≤ i → items_view (drop i vs) ≡ no_items
no_more [] zero l = refl
no_more [] (suc i) l = refl
no_more (v ∷ vs) zero l = absurd (omega arith)
no_more (v ∷ vs) (suc i) l = no_more vs i (omega arith)
