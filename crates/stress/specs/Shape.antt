-- The shape of a scenarios document: which keys its tables have, and what stands at them.
use Rattle.std.specs.Prelude.{ℕ, ◌&&◌, nat_le, Bool, true, ℤ, pos, negsuc, if◌then◌else◌}
use Rattle.std.specs.Prelude.{List, [], ◌∷◌, codes, Option, Some, None, is_some, option_map}
use Rattle.std.specs.Prelude.{option_and_then}
use Rattle.std.specs.List.{list_any}
use Rattle.std.specs.Str.{bytes_eq}
use Rattle.toml.specs.Data.{Data, Items, no_items, item, Members, no_members, member, as_str}
use Rattle.toml.specs.Data.{as_integer, as_array, as_table, get_member}

-- a table has no key but these words
abbrev pub has_only : List (List ℕ) → Members → Bool
has_only words no_members = true
has_only words (member key value rest) =
    list_any (λ word. bytes_eq word key) words && has_only words rest

-- the text at a key
abbrev pub text_at : List ℕ → Members → Option (List ℕ)
text_at key table = option_and_then as_str (get_member key table)

-- the whole number at a key
abbrev pub integer_at : List ℕ → Members → Option ℤ
integer_at key table = option_and_then as_integer (get_member key table)

-- a number from 0 to the limit
abbrev pub up_to : ℕ → ℤ → Option ℕ
up_to limit (pos n) = if nat_le n limit then Some n else None
up_to limit (negsuc n) = None

-- the name of the bank and the amount of a loss: its table has these two alone
abbrev pub loss_in_table : Members → Option (List ℕ × ℤ)
loss_in_table table =
    if has_only (codes "bank" ∷ codes "amount" ∷ []) table
    then option_and_then (λ bank. option_map (λ amount. (bank, amount))
    (integer_at (codes "amount") table)) (text_at (codes "bank") table)
    else None

-- the same of a value, if it is such a table
abbrev pub as_loss : Data → Option (List ℕ × ℤ)
as_loss value = option_and_then loss_in_table (as_table value)

-- each of these values is such a table
abbrev pub are_losses : Items → Bool
are_losses no_items = true
are_losses (item value rest) = is_some (as_loss value) && are_losses rest

-- what the table of a scenario has: its name, its cut and its losses
pub record Parts : Type 0 where
  pub name : List ℕ
  pub cut : ℤ
  pub losses : Items

-- a cut, which is 0 where none is given
abbrev pub cut_or_0 : Option Data → Option ℤ
cut_or_0 None = Some (pos 0)
cut_or_0 (Some value) = as_integer value

-- the cut of a table
abbrev pub cut_in : Members → Option ℤ
cut_in table = cut_or_0 (get_member (codes "cut") table)

-- the values of an array, which has none where it is not given
abbrev pub array_or_none : Option Data → Option Items
array_or_none None = Some no_items
array_or_none (Some value) = as_array value

-- the losses of a table
abbrev pub losses_in : Members → Option Items
losses_in table = array_or_none (get_member (codes "loss") table)

-- the parts at the keys of a scenario's table
abbrev pub parts_at : Members → Option Parts
parts_at table = option_and_then (λ name. option_and_then (λ cut. option_and_then (λ losses.
    if are_losses losses then Some (record { name = name; cut = cut; losses = losses }) else None)
    (losses_in table)) (cut_in table)) (text_at (codes "name") table)

-- the parts of the table of a scenario, which has no other key
abbrev pub parts_in : Members → Option Parts
parts_in table =
    if has_only (codes "name" ∷ codes "cut" ∷ codes "loss" ∷ []) table
    then parts_at table
    else None

-- the same of a value, if it is such a table
abbrev pub as_parts : Data → Option Parts
as_parts value = option_and_then parts_in (as_table value)
