-- Bytes that pass a room: some and then others.
use Rattle.std.proofs.Common.{◌≡◌, ℕ, ◌+◌, ◌<◌, ◌≤◌, List, [], ◌∷◌, ◌++◌, Option, drop, get_or, length, take}
use Rattle.std.proofs.Common.{refl, sym, ap, ap₂, subst, ◌∙◌, append_assoc, append-nil, arith, take-append-drop}
use Rattle.std.specs.List.{flat_map, zip}
use Rattle.std.proofs.Common.{Result, Ok, Err}
use Rattle.std.proofs.lemmas.List.{take_more}
use Rattle.std.proofs.lemmas.List.Concat.{flat_map-append}
use Rattle.std.proofs.lemmas.Slice.Zip.{get_or-zip, length-zip}
use Rattle.std.specs.Result.{OnErr}
use Rattle.std.proofs.lemmas.Result.{on_ok_weaker, on_err_weaker}
use Rattle.clr_edge.specs.Faults.{HasRisen}
use Rattle.clr_edge.specs.Sink.{WritesPart}
use Rattle.clr_edge.specs.Taking.{Passes, PassesOn, SinkCall, TakesPart, TakesWhole, sink_call}
use Rattle.clr_edge.proofs.Pieces.{part_in_front, whole_then_part, whole_then_whole, with_nothing}

-- two facts of an error
pub on_err_both : {T E : Type 0} (r : Result T E) (P Q : Type 0) → OnErr r P → OnErr r Q → OnErr r (P × Q)
on_err_both (Ok x) P Q p q = tt
on_err_both (Err e) P Q p q = (p, q)

-- nothing passes, and nothing is put
pub nothing_passes : (old : Option (List ℕ)) (room : List ℕ) → Passes (sink_call old old 0 0) room room []
nothing_passes old room = ([], with_nothing old, append-nil room)

-- where the bytes in the front are those that waited, and the others wait now
regrouped : (r x y front s : List ℕ) → r ++ x ≡ front ++ s → r ++ (x ++ y) ≡ front ++ (s ++ y)
regrouped r x y front s e = sym (append_assoc r x y) ∙ ap (λ l. l ++ y) e ∙ append_assoc front s y

-- at a sink before some bytes, between them and others, and after these
module _ (old : Option (List ℕ)) {mid new : Option (List ℕ)} (r : List ℕ) {s : List ℕ} (x y : List ℕ) where
  -- if both pass, all of them do
  pub pass_then_pass : {t : List ℕ} → Passes (sink_call old mid 0 0) r s x → Passes (sink_call mid new 0 0) s t y
      → Passes (sink_call old new 0 0) r t (x ++ y)
  pass_then_pass {t} (front, put, e) (more, put_more, e_more) = (
    front ++ more,
    whole_then_whole old front more put put_more,
    regrouped r x y front s e ∙ ap (λ l. front ++ l) e_more ∙ sym (append_assoc front more t),
  )

  -- if the others are taken in part, so are all
  pub pass_then_part : {a b c : ℕ} → Passes (sink_call old mid 0 0) r s x → a ≤ b → TakesPart (sink_call mid new b c) (s ++ y)
      → TakesPart (sink_call old new a c) (r ++ (x ++ y))
  pass_then_part (front, put, e) no_fall part =
      rw (regrouped r x y front s e) (whole_then_part old front (s ++ y) put no_fall part)

-- a part of the bytes in front is a part of all
pub pass_part_in_front : {old new : Option (List ℕ)} {a c : ℕ} (r x y : List ℕ) → TakesPart (sink_call old new a c) (r ++ x)
    → TakesPart (sink_call old new a c) (r ++ (x ++ y))
pass_part_in_front r x y part = rw (← append_assoc r x y) (part_in_front y part)

-- these bytes have passed
abbrev pub HavePassed : Type 0 → SinkCall → List ℕ → List ℕ → List ℕ → Type 0
HavePassed alone sink before after bytes = PassesOn {T = Unit {0}} {E = Unit {0}} alone sink before after bytes (Ok tt)

-- what passes does so in any call that does not fail
pub passed_so : {T E U D : Type 0} {alone : Type 0} {sink : SinkCall} {before after bytes : List ℕ} {p : T} {q : U}
    → PassesOn {T = U} {E = D} alone sink before after bytes (Ok q)
    → PassesOn {T = T} {E = E} alone sink before after bytes (Ok p)
passed_so passed = record { passed = passed.passed; part = tt; faults = passed.faults; well = passed.well }

-- they have passed, where the call did not fail
pub have_passed : {U D : Type 0} {alone : Type 0} {sink : SinkCall} {before after bytes : List ℕ} {q : U}
    → PassesOn {T = U} {E = D} alone sink before after bytes (Ok q) → HavePassed alone sink before after bytes
have_passed passed = passed_so passed

-- nothing has passed yet
pub none_yet : {alone : Type 0} (old : Option (List ℕ)) (faults : ℕ) (room : List ℕ)
    → HavePassed alone (sink_call old old faults faults) room room []
none_yet old faults room = record {
  passed = nothing_passes old room;
  part = tt;
  faults = omega arith;
  well = λ holds. refl;
}

module _ {T E U D : Type 0} {alone : Type 0} {old mid new : Option (List ℕ)} {a b c : ℕ} {r s t x y : List ℕ} {q : U} where
  -- some bytes have passed, and others are passed on then
  pub then_pass : (result : Result T E) → PassesOn {T = U} {E = D} alone (sink_call old mid a b) r s x (Ok q)
      → PassesOn alone (sink_call mid new b c) s t y result → PassesOn alone (sink_call old new a c) r t (x ++ y) result
  then_pass result first rest = record {
    passed = on_ok_weaker result (λ last. pass_then_pass old r x y first.passed last) rest.passed;
    part = on_err_weaker result (λ last. pass_then_part old r x y first.passed first.faults last) rest.part;
    faults = omega (arith, first.faults, rest.faults);
    well = λ holds. on_ok_weaker result (λ last. last ∙ first.well holds) (rest.well holds);
  }

-- a call that fails at the bytes in front fails at all
pub front_stops : {T E U D : Type 0} {alone : Type 0} {old new : Option (List ℕ)} {a c : ℕ} {r s t x : List ℕ} {e : D} {why : E}
    (result : Result T E) (y : List ℕ) → result ≡ Err why
    → PassesOn {T = U} {E = D} alone (sink_call old new a c) r s x (Err e)
    → PassesOn alone (sink_call old new a c) r t (x ++ y) result
front_stops {r = r} {x = x} result y fails stops = rw fails (record {
  passed = tt;
  part = pass_part_in_front r x y stops.part;
  faults = stops.faults;
  well = λ holds. tt;
})

-- a sink that fails at what waited takes a part of it, and so of it and the bytes
pub wait_stops : {T E : Type 0} {alone : Type 0} {old new : Option (List ℕ)} {a c : ℕ} {waited put after : List ℕ} {why : E}
    (result : Result T E) (bytes : List ℕ) → result ≡ Err why → put ≡ waited → WritesPart old new put → HasRisen a c → a ≤ c
    → PassesOn alone (sink_call old new a c) waited after bytes result
wait_stops {old = old} {new = new} result bytes fails is part rose no_fall = rw fails (record {
  passed = tt;
  part = part_in_front bytes (subst (WritesPart old new) is part, rose);
  faults = no_fall;
  well = λ holds. tt;
})

-- bytes that pass an empty room, and what waits in it then
module _ (old : Option (List ℕ)) {mid new : Option (List ℕ)} {s : List ℕ} (x : List ℕ) where
  -- if that is taken whole, so are all
  pub pass_then_whole : Passes (sink_call old mid 0 0) [] s x → TakesWhole (sink_call mid new 0 0) s
      → TakesWhole (sink_call old new 0 0) x
  pass_then_whole (front, put, e) out = rw e (whole_then_whole old front s put out)

  -- if it is taken in part, so are all
  pub pass_then_rest : {a b c : ℕ} → Passes (sink_call old mid 0 0) [] s x → a ≤ b → TakesPart (sink_call mid new b c) s
      → TakesPart (sink_call old new a c) x
  pass_then_rest (front, put, e) no_fall part = rw e (whole_then_part old front s put no_fall part)

-- texts of which this is the one in the place i
module _ {A : Type 0} (f : A → List ℕ) (xs : List A) (i : ℕ) (d y : A) (l : i < length xs) (at : y ≡ get_or xs i d) where
  -- up to the next one they are those before and this one
  pub one_more : flat_map f (take (i + 1) xs) ≡ flat_map f (take i xs) ++ f y
  one_more =
      ap (flat_map f) (take_more xs i d l) ∙ flat_map-append f (take i xs) (get_or xs i d ∷ [])
      ∙ ap (λ t. flat_map f (take i xs) ++ t) (append-nil (f (get_or xs i d)) ∙ ap f (sym at))

  -- and then come the others
  pub with_rest : flat_map f xs ≡ (flat_map f (take i xs) ++ f y) ++ flat_map f (drop (i + 1) xs)
  with_rest =
      ap (flat_map f) (sym (take-append-drop (i + 1) xs)) ∙ flat_map-append f (take (i + 1) xs) (drop (i + 1) xs)
      ∙ ap (λ t. t ++ flat_map f (drop (i + 1) xs)) one_more

-- two lists in step
module _ {A : Type 0} (hs : List A) (ps : List ℕ) (i : ℕ) (lh : i < length hs) (lp : i < length ps) where
  -- they have a place of each
  pub both_there : i < length (zip hs ps)
  both_there = omega (arith, length-zip hs ps, lh, lp)

  -- in which stand the items of both
  pub both_at : (h : A) (p : ℕ) → h ≡ get_or hs i h → p ≡ get_or ps i p → (h, p) ≡ get_or (zip hs ps) i (h, p)
  both_at h p at_h at_p = ap₂ (λ v n. (v, n)) at_h at_p ∙ sym (get_or-zip hs ps i (h, p) lh lp)
