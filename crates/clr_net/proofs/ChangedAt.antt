-- Lists with the item in one place changed.
use Rattle.std.proofs.Common.{◌≡◌, ℕ, zero, suc, ◌==◌, cond, List, [], ◌∷◌, ◌<◌, length, get_or, set, map, slice_get, Option, Some, None, refl, sym, ap, ◌∙◌}
use Rattle.std.specs.Option.{option_map}
use Rattle.std.proofs.lemmas.List.{map-set}
use Rattle.std.proofs.lemmas.Option.{slice_get-map, slice_get_read}
use lib.Dec.{eqb-zero-suc, eqb-suc-zero, eqb-suc-suc}
use Rattle.clr_net.specs.Net.{changed_at}

-- a change of an item is a write of the changed item
pub changed_at-set : {A : Type 0} (f : A → A) (xs : List A) (i : ℕ) (x : A)
    → slice_get xs i ≡ Some x → changed_at f xs i ≡ set xs i (f x)
changed_at-set f [] i x at = absurd (cc)
changed_at-set f (y ∷ xs) zero x at = let same : y ≡ x = cc in cc
changed_at-set f (y ∷ xs) (suc i) x at = ap (λ rest. y ∷ rest) (changed_at-set f xs i x at)

-- what is written in the place of u shows as f of what u shows: in all, the place is changed by f
pub map-set_changed : {A B : Type 0} (g : A → B) (f : B → B) (xs : List A) (i : ℕ) (u v : A)
    → i < length xs → u ≡ get_or xs i u → g v ≡ f (g u)
    → map g (set xs i v) ≡ changed_at f (map g xs) i
map-set_changed g f xs i u v l read e =
    map-set g xs i v ∙ ap (set (map g xs) i) e ∙ sym (changed_at-set f (map g xs) i (g u)
    (slice_get-map g xs i ∙ ap (option_map g) (slice_get_read xs (length xs) i u refl l read)))

-- any place after a change in the place i
pub slice_get-changed_at : {A : Type 0} (f : A → A) (xs : List A) (i k : ℕ)
    → slice_get (changed_at f xs i) k ≡ option_map (λ x. cond (i == k) (f x) x) (slice_get xs k)
slice_get-changed_at f [] i k = refl
slice_get-changed_at f (x ∷ xs) zero zero = refl
slice_get-changed_at f (x ∷ xs) zero (suc k) = rw (eqb-zero-suc k) (by (slice_get xs k))
  where
    by : {A : Type 0} (o : Option A) → o ≡ option_map (λ x. x) o
    by None = refl
    by (Some x) = refl
slice_get-changed_at f (x ∷ xs) (suc i) zero = rw (eqb-suc-zero i) refl
slice_get-changed_at f (x ∷ xs) (suc i) (suc k) =
    rw (eqb-suc-suc i k) (slice_get-changed_at f xs i k)

-- a change that g does not see
pub map-changed_at : {A B : Type 0} (g : A → B) (f : A → A) → ((x : A) → g (f x) ≡ g x) → (xs : List A) (i : ℕ)
    → map g (changed_at f xs i) ≡ map g xs
map-changed_at g f unseen [] i = refl
map-changed_at g f unseen (x ∷ xs) zero = ap (λ y. y ∷ map g xs) (unseen x)
map-changed_at g f unseen (x ∷ xs) (suc i) = ap (λ rest. g x ∷ rest) (map-changed_at g f unseen xs i)
