-- What one read takes from the records that are left.
use Rattle.std.proofs.Common.{◌≡◌, ◌≤◌, ◌<◌, ◌+◌, ℕ, zero, suc, Bool, true, false, List, [], ◌∷◌, ◌++◌, length, Option, Some, None, refl, sym, ap, ◌∙◌, inl, ⊎_elim, true≢false, arith, add-one}
use Rattle.std.proofs.lemmas.Bool.{cases_Bool, cond_both}
use Rattle.std.proofs.lemmas.Option.{cond_some, same_Some}
use Rattle.csv.specs.Machine.{Read, step, is_end, ends_at_end, next_record}
use Rattle.std.specs.Borrow.{Bor}
use Rattle.csv.specs.Reading.{NextIs, ReadsNext, ReadRecord, records, records_from, records_next, default_config, strip_bom, is_bom, pending_of, took_first, is_flexible}
use Rattle.csv.specs.declared.reader.Reader.{Reader}
use Rattle.csv.specs.declared.parser.State.{State}
use Rattle.csv.specs.declared.parser.State.TheVariants as st
use Rattle.net_csv.specs.Left.{IsReading, text_left, records_after, records_left}

-- an action that ends a record leaves the machine between two records
step-between : (s : State) (c : ℕ) → is_end (step default_config s c).1 ≡ true
    → ends_at_end (step default_config s c).0 ≡ false
step-between s c e = grind arith

-- a record ends between two records, and takes no byte that comes after it, and one byte at least where it begins between two
record Leaves (s : State) (xs : List ℕ) (p : Read) : Type 0 where
  between : ends_at_end p.1 ≡ false
  no_more : length p.2 ≤ length xs
  fewer : ends_at_end s ≡ false → length p.2 < length xs

-- where a record is found, the bytes after it are what is left, and fewer than before
next_record-leaves : (s : State) (fields : List (List ℕ)) (field xs : List ℕ) (p : Read)
    → next_record default_config s fields field xs ≡ Some p → Leaves s xs p
unfolding next_record
next_record-leaves s fields field [] p e =
    let h = cond_some (ends_at_end s) (fields ++ (field ∷ []), st.StartRecord, []) p e in
    let never = λ (f : ends_at_end s ≡ false). true≢false (sym h.0 ∙ f) in
    rw (← h.1) (search (arith, never))
next_record-leaves s fields field (c ∷ rest) p e = ⊎_elim
    (λ (end : is_end (step default_config s c).1 ≡ true).
    let same = same_Some _ p (rw end at e) in
    let between = step-between s c end in
    rw (← same) (search arith))
    (λ (on : is_end (step default_config s c).1 ≡ false).
    let more = next_record-leaves (step default_config s c).0 _ _ rest p (rw on at e) in
    search (arith, more.no_more))
    (cases_Bool (is_end (step default_config s c).1))

-- more turns than there are bytes change nothing
records-enough : (n m : ℕ) (s : State) (xs : List ℕ) → ends_at_end s ≡ false → length xs < n → length xs < m
    → records_from default_config n s xs ≡ records_from default_config m s xs
unfolding records_from
records-enough zero m s xs between few more = absurd (omega arith)
records-enough (suc n) zero s xs between few more = absurd (omega arith)
records-enough (suc n) (suc m) s xs between few more =
    by (next_record default_config s [] [] xs) (next_record-leaves s [] [] xs) (records-enough n m)
  where
    by : (o : Option Read) → ((p : Read) → o ≡ Some p → Leaves s xs p)
        → ((t : State) (ys : List ℕ) → ends_at_end t ≡ false → length ys < n → length ys < m
        → records_from default_config n t ys ≡ records_from default_config m t ys)
        → records_next (records_from default_config n) o
        ≡ records_next (records_from default_config m) o
    by None leaves again = refl
    by (Some p) leaves again =
        let l = leaves p refl in
        let shorter = l.fewer between in
        ap (λ rest. p.0 ∷ rest) (again p.1 p.2 l.between (omega arith) (omega arith))

-- a record that is read is the first of those that were left
pub records-some : (s : State) (xs : List ℕ) (p : Read) → ends_at_end s ≡ false → next_record default_config s [] [] xs ≡ Some p
    → records_after s (Some xs) ≡ p.0 ∷ records_after p.1 (Some p.2)
unfolding records_from
records-some s xs p between e =
    let l = next_record-leaves s [] [] xs p e in
    rw (add-one (length xs), e) (ap (λ (rest : List (List (List ℕ))). p.0 ∷ rest)
    (records-enough (length xs) (length p.2 + 1) p.1 p.2 l.between (l.fewer between) (omega arith)))

-- where no record is read, none was left
pub records-none : (s : State) (xs : List ℕ) → next_record default_config s [] [] xs ≡ None → records_after s (Some xs) ≡ []
unfolding records_from
records-none s xs e = rw (add-one (length xs), e) refl

-- what a read that found a record tells
pub record ReadsOne (s : State) (xs : List ℕ) (left : Option (List ℕ)) (fields : List (List ℕ)) (t : State) : Type 0 where
  pub text : List ℕ
  pub text_is : left ≡ Some text
  pub between : ends_at_end t ≡ false
  pub first : records_after s (Some xs) ≡ fields ∷ records_after t left

-- what a read tells
told : (s : State) (xs : List ℕ) (left : Option (List ℕ)) (found : Bool) (fields : List (List ℕ))
    (t : State) → ends_at_end s ≡ false
    → ReadsNext default_config s (Some xs) left found fields t
    → (found ≡ true → ReadsOne s xs left fields t)
    × (found ≡ false → records_after s (Some xs) ≡ [])
told s xs None found fields t between h = absurd h
told s xs (Some ys) found fields t between h = by (next_record default_config s [] [] xs) refl h
  where
    by : (o : Option Read) → next_record default_config s [] [] xs ≡ o → NextIs o found fields t ys
        → (found ≡ true → ReadsOne s xs (Some ys) fields t)
        × (found ≡ false → records_after s (Some xs) ≡ [])
    by None e n = (λ f. absurd (cc), λ f. records-none s xs e)
    by (Some p) e n = (
      λ f. record {
        text = ys;
        text_is = refl;
        between = rw n.2 (next_record-leaves s [] [] xs p e).between;
        first = rw (n.1, n.2, n.3) (records-some s xs p between e);
      },
      λ f. absurd (cc n.0),
    )

-- the same of a reader
pub found_is_first : (old new : Reader (Bor (List ℕ))) (found : Bool) (fields : List (List ℕ)) → IsReading old
    → ReadRecord (λ text. Some text.now) old new found fields → took_first new ≡ true → is_flexible new ≡ is_flexible old → found ≡ true
    → IsReading new × (records_left old ≡ fields ∷ records_left new)
found_is_first old new found fields reading read first bends e =
    let next = rw (reading.by_default, reading.text_is) at read.0 in
    let one = (told old.state reading.text (pending_of (Some new.rdr.now) new) found fields
    new.state reading.between next).0 e in
    let same : pending_of (Some new.rdr.now) new ≡ text_left new = rw read.1 refl in (
      record {
        by_default = read.2 ∙ reading.by_default;
        untrimmed = read.3 ∙ reading.untrimmed;
        flexible = bends ∙ reading.flexible;
        ready = inl first;
        between = one.between;
        text = one.text;
        text_is = sym same ∙ one.text_is;
      },
      rw (reading.text_is, ← same) one.first,
    )

-- a reader that finds no record has none left
pub none_is_left : (old new : Reader (Bor (List ℕ))) (found : Bool) (fields : List (List ℕ)) → IsReading old
    → ReadRecord (λ text. Some text.now) old new found fields → found ≡ false → records_left old ≡ []
none_is_left old new found fields reading read e =
    let next = rw (reading.by_default, reading.text_is) at read.0 in
    rw reading.text_is ((told old.state reading.text (pending_of (Some new.rdr.now) new) found
    fields new.state reading.between next).1 e)

-- a text has no more records than the turns that they take
length-records_from : (n : ℕ) (s : State) (xs : List ℕ) → length (records_from default_config n s xs) ≤ n
unfolding records_from
length-records_from zero s xs = omega arith
length-records_from (suc n) s xs = by (next_record default_config s [] [] xs) (length-records_from n)
  where
    by : (o : Option Read) → ((t : State) (ys : List ℕ) → length (records_from default_config n t ys) ≤ n)
        → length (records_next (records_from default_config n) o) ≤ suc n
    by None more = omega arith
    by (Some p) more = let few = more p.1 p.2 in omega arith

-- without the mark at its start a text is no longer than before
length-strip_bom : (xs : List ℕ) → length (strip_bom xs) ≤ length xs
unfolding strip_bom
length-strip_bom (a ∷ b ∷ c ∷ rest) =
    cond_both (is_bom a b c) rest (a ∷ b ∷ c ∷ rest) (λ t. length t ≤ length (a ∷ b ∷ c ∷ rest))
    (λ _. omega arith) (λ _. omega arith)
length-strip_bom xs = omega arith

-- a file has no more records than bytes, and one
pub length-records : (bytes : List ℕ) → length (records default_config (strip_bom bytes)) ≤ length bytes + 1
length-records bytes =
    let few = length-records_from (length (strip_bom bytes) + 1) st.StartRecord (strip_bom bytes) in
    let shorter = length-strip_bom bytes in
    omega arith
