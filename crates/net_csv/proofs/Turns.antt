-- The fields of a record, one after the other.
use Rattle.std.proofs.Common.{Bor, ◌≡◌, ◌+◌, ◌&&◌, ℕ, zero, suc, Bool, List, [], ◌∷◌, length, drop, map, Option, Some, None, refl, sym, ap, add-one, arith, subst}
use Rattle.std.specs.Prelude.{◌<◌, IfSome, IsSome, option_map}
use Rattle.csv.proofs.RecordFacts.{field-there}
use Rattle.std.specs.List.{list_all, zip}
use Rattle.std.proofs.lemmas.Iterator.{YieldsList}
use Rattle.std.proofs.lemmas.Iterator.Consumers.{YieldsList-from_shown}
use lib.Pointwise.{pointwise}
use Rattle.csv.specs.Records.{field_at, fields_of}
use Rattle.csv.specs.declared.record.ByteRecordIter.{ByteRecordIter}

-- what one turn does
abbrev pub turns : ByteRecordIter → Option (Bor (List ℕ)) → ByteRecordIter → Type 0
turns a r b = (b.row ≡ a.row) × (option_map (λ s. s.now) r ≡ field_at (fields_of a.row.now) a.at) × IfSome r (λ _. b.at ≡ a.at + 1)

-- the fields from the iterator's place on
abbrev fields_left : ByteRecordIter → List (List ℕ)
fields_left s = drop s.at (fields_of s.row.now)

-- where there is no field at a place, none is left from there on
none-left : (fields : List (List ℕ)) (i : ℕ) → None ≡ field_at fields i → length (drop i fields) ≡ 0
unfolding field_at
none-left [] zero e = refl
none-left [] (suc i) e = refl
none-left (f ∷ fs) zero e = absurd (cc e)
none-left (f ∷ fs) (suc i) e = none-left fs i e

-- a field at a place is the first of those that are left from there on
one-left : (fields : List (List ℕ)) (i : ℕ) (field : List ℕ) → Some field ≡ field_at fields i → drop i fields ≡ field ∷ drop (suc i) fields
unfolding field_at
one-left [] i field e = absurd (cc e)
one-left (f ∷ fs) zero field e = let same : field ≡ f = cc in rw same refl
one-left (f ∷ fs) (suc i) field e = one-left fs i field e

-- the iterator yields the fields that are left, in their order
pub fields_in_turn : (s : ByteRecordIter) → YieldsList turns (λ x. x.now) s (fields_left s)
fields_in_turn s =
    YieldsList-from_shown turns (λ x. x.now) fields_left
    (λ a b h. none-left (fields_of a.row.now) a.at h.1)
    (λ a x b h. rw (h.0, h.2, add-one a.at) (one-left (fields_of a.row.now) a.at x.now h.1)) s

-- from the first on
pub all_in_turn : (s : ByteRecordIter) (fields : List (List ℕ)) → fields_of s.row.now ≡ fields → s.at ≡ 0 → YieldsList turns (λ x. x.now) s fields
all_in_turn s fields e first =
    let all : fields_left s ≡ fields = rw (first, e) refl in
    subst (YieldsList turns (λ x. x.now) s) all (fields_in_turn s)

-- two lists as long as each other, compared pair by pair
pub pairs-pointwise : {A B C D : Type 0} (E : A → C → Bool) (f : B → C) (g : D → A) (words : List D) (fields : List B) → length fields ≡ length words
    → list_all (λ p. E (g p.1) (f p.0)) (zip fields words) ≡ pointwise E (map g words) (map f fields)
pairs-pointwise E f g [] [] e = refl
pairs-pointwise E f g (x ∷ xs) (y ∷ ys) e = ap (λ (b : Bool). E (g x) (f y) && b) (pairs-pointwise E f g xs ys (omega (arith, e)))
pairs-pointwise E f g xs ys e = absurd (omega (arith, e))

-- a record has these fields from a place on
abbrev pub HasFields : List (List ℕ) → ℕ → List (List ℕ) → Type 0
HasFields fields k [] = Unit {0}
HasFields fields k (w ∷ ws) = (field_at fields k ≡ Some w) × HasFields fields (suc k) ws

-- what a record has from the second field on, the record without its first has from the start
has_rest : (x : List ℕ) (fields ws : List (List ℕ)) (k : ℕ) → HasFields (x ∷ fields) (suc k) ws → HasFields fields k ws
unfolding field_at
has_rest x fields [] k h = tt
has_rest x fields (w ∷ ws) k h = (h.0, has_rest x fields ws (suc k) h.1)

-- a record is the fields that it has
pub fields_are : (fields ws : List (List ℕ)) → length fields ≡ length ws → HasFields fields 0 ws → fields ≡ ws
unfolding field_at
fields_are [] [] e h = refl
fields_are (x ∷ fields) (w ∷ ws) e h =
    let rest : fields ≡ ws = fields_are fields ws (omega (arith, e)) (has_rest x fields ws 0 h.1) in cc h.0
fields_are fields ws e h = absurd (omega (arith, e))

-- a field at a place below the number of fields is there
pub field_is_there : (fields : List (List ℕ)) (i : ℕ) (o : Option (Bor (List ℕ))) → i < length fields → option_map (λ s. s.now) o ≡ field_at fields i → IsSome o
field_is_there fields i None h e = absurd (field-there fields i h (sym e))
field_is_there fields i (Some x) h e = refl
