-- Fields that were trimmed have nothing to be trimmed.
use Rattle.std.proofs.Common.{◌≡◌, ◌∙◌, ◌+◌, ℕ, true, false, not, List, [], ◌∷◌, ◌++◌, length, map, reverse, Ok, refl, sym, ap, arith, subst, ⊎_elim}
use Rattle.std.specs.List.{AllByRecursion}
use Rattle.std.proofs.lemmas.Bool.{cases_Bool, cond_both}
use Rattle.std.proofs.lemmas.List.{length-append, reverse-append, reverse-reverse}
use Rattle.net_check.specs.Checks.{and_then}
use Rattle.net_check.specs.Field.{is_space_or_tab, trimmed_start, trimmed_field, are_words}
use Rattle.net_check.specs.Record.{fault_at}
use Rattle.net_check.specs.declared.fault.FileKind.{FileKind}
use Rattle.net_check.specs.declared.fault.FaultKind.TheVariants as fault
use Rattle.net_check.proofs.Fields.{trimmed_start-stops}
use Rattle.net_check.proofs.Passed.{and_then-ok, fault_unless-ok}
use Rattle.net_csv.specs.Reading.{Fields, trimmed_fields, is_blank, rows_from, below_header}

-- trimming once more changes nothing
start-twice : (x : List ℕ) → trimmed_start (trimmed_start x) ≡ trimmed_start x
unfolding trimmed_start
start-twice [] = refl
start-twice (b ∷ rest) =
    cond_both (is_space_or_tab b) (trimmed_start rest) (b ∷ rest) (λ t. trimmed_start t ≡ t)
    (λ _. start-twice rest) (λ other. rw other refl)

-- what trimming takes off the start
start-split : (x : List ℕ) → (front : List ℕ) × (x ≡ front ++ trimmed_start x)
unfolding trimmed_start
start-split [] = ([], refl)
start-split (b ∷ rest) =
    let more = start-split rest in
    cond_both (is_space_or_tab b) (trimmed_start rest) (b ∷ rest)
    (λ t. (front : List ℕ) × (b ∷ rest ≡ front ++ t))
    (λ _. (b ∷ more.0, ap (λ t. b ∷ t) more.1)) (λ _. ([], refl))

-- the front of a list with nothing to trim at its start has nothing either
front-kept : (y w : List ℕ) → trimmed_start (y ++ w) ≡ y ++ w → trimmed_start y ≡ y
unfolding trimmed_start
front-kept [] w e = refl
front-kept (b ∷ y) w e = ⊎_elim
    (λ (blank : is_space_or_tab b ≡ true).
    let split = start-split (y ++ w) in
    let size = ap length (rw blank at e) in
    let sizes = ap length split.1 in
    absurd (omega (arith, length-append split.0 (trimmed_start (y ++ w)))))
    (λ (other : is_space_or_tab b ≡ false). trimmed_start-stops (b ∷ y) y b refl other)
    (cases_Bool (is_space_or_tab b))

-- trimming a trimmed field changes nothing
field-twice : (x : List ℕ) → trimmed_field (trimmed_field x) ≡ trimmed_field x
field-twice x =
    let s = trimmed_start x in
    let t = trimmed_start (reverse s) in
    let y = reverse t in
    let split = start-split (reverse s) in
    let parts : s ≡ y ++ reverse split.0 = sym (reverse-reverse s) ∙ ap reverse split.1 ∙ reverse-append split.0 t in
    let whole : trimmed_start (y ++ reverse split.0) ≡ y ++ reverse split.0 = ap trimmed_start (sym parts) ∙ start-twice x ∙ parts in
    ap (λ l. reverse (trimmed_start (reverse l))) (front-kept y (reverse split.0) whole)
    ∙ ap (λ l. reverse (trimmed_start l)) (reverse-reverse t) ∙ ap reverse (start-twice (reverse s))

-- nor does trimming a record of trimmed fields
fields-twice : (fields : Fields) → trimmed_fields (trimmed_fields fields) ≡ trimmed_fields fields
fields-twice [] = refl
fields-twice (x ∷ rest) = rw (field-twice x, fields-twice rest) refl

-- rows whose fields have nothing to be trimmed
abbrev pub AreTrimmed : List (ℕ × Fields) → Type 0
AreTrimmed rows = AllByRecursion (λ r. trimmed_fields r.1 ≡ r.1) rows

-- each row that is numbered after trimming is trimmed
rows_trimmed : (raw : List Fields) (row : ℕ) → AreTrimmed (rows_from row (map trimmed_fields raw))
rows_trimmed [] row = tt
rows_trimmed (fields ∷ rest) row =
    let more = rows_trimmed rest (row + 1) in
    cond_both (not (is_blank (trimmed_fields fields))) _ _ AreTrimmed
    (λ _. (fields-twice fields, more)) (λ _. more)

-- the rows of a file have nothing to be trimmed
pub file_rows : (kind : FileKind) (header : Fields) (raw : List Fields) (rows : List (ℕ × Fields))
    → and_then (below_header kind header (map trimmed_fields raw)) (λ below. Ok (rows_from 1 below)) ≡ Ok rows → AreTrimmed rows
file_rows kind header [] rows h = cc
file_rows kind header (fields ∷ rest) rows h =
    let below = and_then-ok (below_header kind header (map trimmed_fields (fields ∷ rest)))
    (λ below. Ok (rows_from 1 below)) rows h in
    let passed = fault_unless-ok (are_words header (trimmed_fields fields))
    (fault_at kind 0 fault.Header) (Ok (map trimmed_fields rest)) below.0 below.1 in
    let same : rows_from 1 (map trimmed_fields rest) ≡ rows = cc in
    subst AreTrimmed same (rows_trimmed rest 1)
