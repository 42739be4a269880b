-- The bank that has a name: its place among the banks is the place of the name in the index of names.
use Rattle.std.proofs.Common.{◌≡◌, ℕ, ◌<◌, Bool, false, cond, List, [], ◌∷◌, ◌++◌, length, get_or, map, Vec, Global, position, Some, None, refl, sym, ap, ◌∙◌, arith}
use Rattle.std.specs.List.{position_or_len}
use Rattle.std.specs.Str.{bytes_eq}
use Rattle.std.proofs.lemmas.List.{length-map, map_push, get_or-map}
use Rattle.std.proofs.lemmas.List.Folds.{list_any_none}
use Rattle.std.proofs.lemmas.List.Quantifiers.{position-Some}
use Rattle.std.proofs.lemmas.List.Sums.{fails_before_first}
use Rattle.std.proofs.lemmas.Bool.{false_from_ne_true, ltb-false, true≢false}
use Rattle.std.proofs.lemmas.Bool.Decides.{same_from_decides}
use Rattle.std.proofs.lemmas.Slice.Eq.{bytes_eq-Decides}
use Rattle.std.proofs.lemmas.Option.{none-some}
use lib.Dec.{ltb}
use Rattle.indexmap.specs.IndexSet.{insert_key}
use Rattle.clr_net.specs.Kept.{net_within, IsKept}
use Rattle.clr_net.specs.declared.network.Network.TheInside.{Inside}
use Rattle.clr_net.specs.Limits.{IsNewName}
use Rattle.clr_net.specs.Net.{Net, has_name, name_of}
use Rattle.clr_net.proofs.Lists.{get_or-map_read}

-- the place where a test first passes is the same where it reads each element through f
position_or_len_through : {X Y : Type 0} (f : X → Y) (p : X → Bool) (q : Y → Bool) → ((x : X) → p x ≡ q (f x)) → (xs : List X)
    → position_or_len p xs ≡ position_or_len q (map f xs)
position_or_len_through f p q same [] = refl
position_or_len_through f p q same (x ∷ xs) = rw (same x, position_or_len_through f p q same xs) refl

-- the first place that passes a test is that of the images under an equal test
position_through : {X Y : Type 0} (f : X → Y) (p : X → Bool) (q : Y → Bool) → ((x : X) → p x ≡ q (f x)) → (xs : List X)
    → position p xs ≡ position q (map f xs)
position_through f p q same xs = rw (position_or_len_through f p q same xs, length-map xs f) refl

-- where a test has no place, no element passes
none_passes : {X : Type 0} (p : X → Bool) (xs : List X) (i : ℕ) (d : X) → i < length xs
    → position p xs ≡ None → p (get_or xs i d) ≡ false
none_passes p xs i d l none =
    let past = false_from_ne_true (ltb (position_or_len p xs) (length xs))
    (λ t. none-some (position_or_len p xs)
    (sym none ∙ ap (λ b. cond b (Some (position_or_len p xs)) None) t)) in
    fails_before_first p xs i d (omega (arith, ltb-false (position_or_len p xs) (length xs) past))

module _ (net : Net) (name : List ℕ) where
  -- the first bank of a name stands where the name first stands among the names
  by_names : position (has_name name) net.banks ≡ position (bytes_eq name) (map (λ b. b.name) net.banks)
  by_names = position_through (λ b. b.name) (has_name name) (bytes_eq name) (λ b.
      let there = bytes_eq-Decides b.name name in
      let back = bytes_eq-Decides name b.name in
      same_from_decides _ _ there (λ e. sym (back.0 e), λ e. back.1 (sym e))) net.banks

  -- the name in a place is that of the bank there
  name_at : (i : ℕ) → get_or (map (λ b. b.name) net.banks) i [] ≡ name_of net i
  name_at i = get_or-map_read (λ b. b.name) net.banks i []

  -- the bank in the place of a name has that name
  pub named_there : (i : ℕ) → position (has_name name) net.banks ≡ Some i → (i < length net.banks) × (name_of net i ≡ name)
  named_there i e =
      let there =
      position-Some (bytes_eq name) (map (λ b. b.name) net.banks) i [] (sym by_names ∙ e) in (
        omega (arith, there.0, length-map net.banks (λ b. b.name)),
        sym (name_at i)
            ∙ sym ((bytes_eq-Decides name _).0 there.1),
      )

  -- a name that has no place is new
  pub new_without_place : position (has_name name) net.banks ≡ None → IsNewName net name
  new_without_place none i l e = true≢false (sym ((bytes_eq-Decides name _).1 (sym (name_at i ∙ e)))
      ∙ none_passes (bytes_eq name) (map (λ b. b.name) net.banks) i []
      (omega (arith, length-map net.banks (λ b. b.name))) (sym by_names ∙ none))

  -- the place of a name in the index is its bank's
  pub place_of_name : (a : Inside) → net_within a ≡ net → IsKept a
      → position (λ k. bytes_eq name k.items) a.names.keys ≡ position (has_name name) net.banks
  place_of_name a e kept =
      position_through (λ k. k.items) (λ k. bytes_eq name k.items) (bytes_eq name) (λ k. refl)
      a.names.keys
      ∙ ap (position (bytes_eq name)) (kept.names ∙ ap (λ n. map (λ b. b.name) n.banks) e)
      ∙ sym by_names

-- a new name goes to the end of the index
pub names_grow : (net : Net) (ks : List (Vec ℕ Global)) (v : Vec ℕ Global) → map (λ k. k.items) ks ≡ map (λ b. b.name) net.banks → IsNewName net v.items
    → map (λ k. k.items) (insert_key (λ x y. bytes_eq x.items y.items) ks v) ≡ map (λ k. k.items) ks ++ v.items ∷ []
names_grow net ks v named new =
    rw (list_any_none (λ k. bytes_eq v.items k.items) ks (λ i k l. false_from_ne_true _ (λ e.
    new i (omega (
      arith,
      ap length named,
      length-map ks (λ k. k.items),
      length-map net.banks
          (λ b. b.name),
    ))
    (sym (get_or-map_read (λ b. b.name) net.banks i []) ∙ ap (λ ns. get_or ns i []) (sym named)
    ∙ get_or-map (λ k. k.items) ks i k [] l
    ∙ sym ((bytes_eq-Decides v.items _).0 e))))) (map_push (λ k. k.items) ks v)
