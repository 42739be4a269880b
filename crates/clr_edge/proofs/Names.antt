-- Look-ups of files by name.
use Rattle.std.proofs.Common.{◌≡◌, inl, inr, ℕ, zero, suc, ◌<◌, ◌≤◌, Bool, true, false, cond, List, [], ◌∷◌, ◌++◌, length, get_or, set, Option, Some, None, bytes_eq, refl, ◌∙◌, ap, subst, arith}
use Rattle.std.proofs.lemmas.Bool.{cond-true, cond-false, cases_Bool, ltb-false}
use Rattle.std.proofs.lemmas.List.Quantifiers.{position-Some}
use Rattle.std.proofs.lemmas.List.Sums.{fails_before_first}
use Rattle.std.proofs.lemmas.Slice.Eq.{bytes_eq-Decides}
use Rattle.std.specs.List.{position, position_or_len}
use Rattle.std.specs.Map.{lookup}

-- the entry of a place
abbrev pub entry_at : List (List ℕ × List ℕ) → ℕ → List ℕ × List ℕ
entry_at entries place = get_or entries place ([], [])

-- an entry has this name
abbrev pub is_named : List ℕ → List ℕ × List ℕ → Bool
is_named name entry = bytes_eq entry.0 name

-- what the first entry of a name has
abbrev pub bytes_of : List (List ℕ × List ℕ) → List ℕ → Option (List ℕ)
bytes_of entries name = lookup (λ other. bytes_eq other name) entries

-- this is the first entry of this name
pub record IsFirst (name : List ℕ) (entries : List (List ℕ × List ℕ)) (place : ℕ) : Type 0 where
  pub within : place < length entries
  pub named : is_named name (entry_at entries place) ≡ true
  pub earlier : (k : ℕ) → k < place → is_named name (entry_at entries k) ≡ false

-- no entry has this name
abbrev pub IsMissing : List ℕ → List (List ℕ × List ℕ) → Type 0
IsMissing name entries = (k : ℕ) → k < length entries → is_named name (entry_at entries k) ≡ false

-- the first entry of a name stands where a search finds it
pub first_from_position : (name : List ℕ) (entries : List (List ℕ × List ℕ)) (place : ℕ) → position (is_named name) entries ≡ Some place → IsFirst name entries place
first_from_position name entries place e =
    let found = position-Some (is_named name) entries place ([], []) e in
    record { within = found.0; named = found.1; earlier = found.2 }

-- a choice that gives nothing failed its test
not_chosen : (b : Bool) (n : ℕ) → cond b (Some n) None ≡ None → b ≡ false
not_chosen true n e = cc
not_chosen false n e = refl

-- where a search finds none no entry has the name
pub missing_from_position : (name : List ℕ) (entries : List (List ℕ × List ℕ)) → position (is_named name) entries ≡ None → IsMissing name entries
missing_from_position name entries e k lt =
    let first = position_or_len (is_named name) entries in
    let all : length entries ≤ first = ltb-false first (length entries) (not_chosen _ first e) in
    fails_before_first (is_named name) entries k ([], []) (omega arith)

-- with an entry less in front the first stands one place earlier
later : (name : List ℕ) (e : List ℕ × List ℕ) (es : List (List ℕ × List ℕ)) (place : ℕ) → IsFirst name (e ∷ es) (suc place) → IsFirst name es place
later name e es place first = record {
  within = let within = first.within in omega arith;
  named = first.named;
  earlier = λ k lt. first.earlier (suc k) (omega arith);
}

-- the look-up of a name gives the bytes of its first entry
pub bytes_of-first : (name : List ℕ) (entries : List (List ℕ × List ℕ)) (place : ℕ) → IsFirst name entries place → bytes_of entries name ≡ Some (entry_at entries place).1
bytes_of-first name [] place first = absurd (let within = first.within in omega arith)
bytes_of-first name (e ∷ es) zero first = cond-true _ _ _ first.named
bytes_of-first name (e ∷ es) (suc place) first =
    cond-false _ _ _ (first.earlier 0 (omega arith)) ∙ bytes_of-first name es place (later name e es place first)

-- nothing where no entry has the name
pub bytes_of-missing : (name : List ℕ) (entries : List (List ℕ × List ℕ)) → IsMissing name entries → bytes_of entries name ≡ None
bytes_of-missing name [] missing = refl
bytes_of-missing name (e ∷ es) missing =
    cond-false _ _ _ (missing 0 (omega arith)) ∙ bytes_of-missing name es (λ k lt. missing (suc k) (omega arith))

-- an entry of another name may be looked at first
passed_over : (name bytes other : List ℕ) (e : List ℕ × List ℕ) (found : Option (List ℕ)) → is_named name e ≡ false
    → cond (bytes_eq e.0 other) (Some e.1) (cond (bytes_eq name other) (Some bytes) found)
    ≡ cond (bytes_eq name other) (Some bytes) (cond (bytes_eq e.0 other) (Some e.1) found)
passed_over name bytes other e found apart = elim (cases_Bool (bytes_eq name other)) [
  | inl same ↦
      let is : name ≡ other = (bytes_eq-Decides name other).0 same in
      let differs : bytes_eq e.0 other ≡ false = subst (λ (n : List ℕ). bytes_eq e.0 n ≡ false) is apart in
      rw (same, differs) refl
  | inr differs ↦ rw differs refl
]

-- a file that is put behind the others is found at its name, and each other as before
pub bytes_of-push : (name bytes other : List ℕ) (entries : List (List ℕ × List ℕ)) → IsMissing name entries
    → bytes_of (entries ++ (name, bytes) ∷ []) other ≡ cond (bytes_eq name other) (Some bytes) (bytes_of entries other)
bytes_of-push name bytes other [] missing = refl
bytes_of-push name bytes other (e ∷ es) missing =
    ap (λ (found : Option (List ℕ)). cond (bytes_eq e.0 other) (Some e.1) found) (bytes_of-push name bytes other es (λ k lt. missing (suc k) (omega arith)))
    ∙ passed_over name bytes other e (bytes_of es other) (missing 0 (omega arith))

-- it stands for what was there under its name
replaced : (own name bytes other was : List ℕ) (found : Option (List ℕ)) → own ≡ name
    → cond (bytes_eq own other) (Some bytes) found ≡ cond (bytes_eq name other) (Some bytes) (cond (bytes_eq own other) (Some was) found)
replaced own name bytes other was found is = rw is (hidden (bytes_eq name other) (Some bytes) (Some was) found)
  where
    hidden : (b : Bool) (x y z : Option (List ℕ)) → cond b x z ≡ cond b x (cond b y z)
    hidden true x y z = refl
    hidden false x y z = refl

-- so is one that is put in the place of the first of its name
pub bytes_of-set : (name bytes other : List ℕ) (entries : List (List ℕ × List ℕ)) (place : ℕ) → IsFirst name entries place
    → bytes_of (set entries place ((entry_at entries place).0, bytes)) other ≡ cond (bytes_eq name other) (Some bytes) (bytes_of entries other)
bytes_of-set name bytes other [] place first = absurd (let within = first.within in omega arith)
bytes_of-set name bytes other (e ∷ es) zero first =
    let is : e.0 ≡ name = (bytes_eq-Decides e.0 name).0 first.named in
    replaced e.0 name bytes other e.1 (bytes_of es other) is
bytes_of-set name bytes other (e ∷ es) (suc place) first =
    ap (λ (found : Option (List ℕ)). cond (bytes_eq e.0 other) (Some e.1) found) (bytes_of-set name bytes other es place (later name e es place first))
    ∙ passed_over name bytes other e (bytes_of es other) (first.earlier 0 (omega arith))

-- at each name, after is before with these bytes for this name
abbrev pub IsAdded : List ℕ → List ℕ → List (List ℕ × List ℕ) → List (List ℕ × List ℕ) → Type 0
IsAdded name bytes before after =
    (other : List ℕ) → bytes_of after other ≡ cond (bytes_eq name other) (Some bytes) (bytes_of before other)

-- the two ways in which a file is added to the entries
module _ (name bytes : List ℕ) (before after : List (List ℕ × List ℕ)) (entries : List (List ℕ × List ℕ)) (copy : List ℕ)
    (entries_are : entries ≡ before) (copy_is : copy ≡ bytes) where
  -- the entry of this name has the new bytes
  pub added_in_place : (place : ℕ) → position (is_named name) entries ≡ Some place
      → after ≡ set entries place ((entry_at entries place).0, copy) → IsAdded name bytes before after
  added_in_place place found is other =
      ap (λ (es : List (List ℕ × List ℕ)). bytes_of es other) is
      ∙ bytes_of-set name copy other entries place (first_from_position name entries place found)
      ∙ (λ i. cond (bytes_eq name other) (Some (copy_is i)) (bytes_of (entries_are i) other))

  -- a new entry stands behind the others
  pub added_behind : position (is_named name) entries ≡ None → after ≡ entries ++ (name, copy) ∷ [] → IsAdded name bytes before after
  added_behind none is other =
      ap (λ (es : List (List ℕ × List ℕ)). bytes_of es other) is
      ∙ bytes_of-push name copy other entries (missing_from_position name entries none)
      ∙ (λ i. cond (bytes_eq name other) (Some (copy_is i)) (bytes_of (entries_are i) other))
