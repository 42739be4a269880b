-- When some bytes are a name.
use Rattle.std.proofs.Common.{◌≡◌, ℕ, ◌≤◌, true, false, List, length, refl, ⊎_elim}
use Rattle.std.specs.List.{list_all}
use Rattle.std.specs.Str.{IsUtf8, is_utf8, chars}
use Rattle.std.proofs.lemmas.Bool.{cases_Bool, and_left, and_right, le-leb}
use Rattle.std.proofs.lemmas.Str.{IsUtf8-from_is_utf8, is_utf8-from_IsUtf8}
use Rattle.clr_net.specs.Name.{is_name, may_stand_in_name}
use Rattle.clr_net.specs.declared.TheConstants.{MAX_NAME_BYTES}

-- of a text of the right length its characters decide
pub name_of_text : (text : List ℕ) → 1 ≤ length text → length text ≤ MAX_NAME_BYTES → IsUtf8 text
    → is_name text ≡ list_all may_stand_in_name (chars text)
name_of_text text l m u =
    rw (le-leb 1 (length text) l, le-leb (length text) MAX_NAME_BYTES m, is_utf8-from_IsUtf8 text u) refl

-- what is no UTF-8 is no name
pub no_name_of_bytes : (text : List ℕ) → (IsUtf8 text → ⊥) → is_name text ≡ false
no_name_of_bytes text none =
    let not_utf8 : is_utf8 text ≡ false = ⊎_elim (λ (e : is_utf8 text ≡ true). absurd (none (IsUtf8-from_is_utf8 text e))) (λ (e : is_utf8 text ≡ false). e) (cases_Bool (is_utf8 text)) in
    and_left _ _ (and_right _ _ not_utf8)
