-- What a fetch from a shelf in memory finds, and what it leaves.
use Rattle.std.proofs.Common.{◌≡◌, ◌≢◌, ◌≤◌, ◌==◌, ℕ, ◌+◌, cond, List, ◌∷◌, [], ◌++◌, take, Option, Some, None, IfOk, Result, Ok, Err, Vec, Global}
use Rattle.std.proofs.Common.{refl, sym, ap, ◌∙◌, arith, true, false, Bool, bytes_eq}
use Rattle.std.specs.List.{list_any}
use Rattle.std.specs.Map.{lookup}
use Rattle.std.specs.Option.{option_map}
use Rattle.std.specs.Result.{MatchResult, OnOk}
use Rattle.clr_edge.specs.Faults.{HasRisen, counted}
use Rattle.clr_edge.specs.MemShelf.{ShelfState, fault_count, file_at, next_file, with_call, with_fault}
use Rattle.clr_edge.specs.Shelf.{IsFetched}
use Rattle.clr_edge.specs.declared.shelf.FetchFault.{FetchFault}
use Rattle.clr_edge.specs.declared.shelf.FetchFault.TheVariants as fault
use Rattle.clr_edge.proofs.Rises.{count_of-push, risen_at_name, same_elsewhere}

-- what a fetch of this number finds among these files: nothing if it is one that is to fail
abbrev pub found_in : ℕ → List ℕ → List (List ℕ × List ℕ) → List ℕ → Option (List ℕ)
found_in call to_fail files name =
    cond (list_any (λ other. other == call) to_fail) None (lookup (λ other. bytes_eq other name) files)

-- the shelf's next fetch is such a one
pub found_next : (old : ShelfState) (call : ℕ) (to_fail : List ℕ) (files : List (List ℕ × List ℕ)) (name : List ℕ)
    → call ≡ counted old.calls → to_fail ≡ old.to_fail → files ≡ old.entries → found_in call to_fail files name ≡ next_file old name
found_next old call to_fail files name p q r = λ i. found_in (p i) (q i) (r i) name

-- what is chosen where there is something stood behind the test
chosen : (b : Bool) (x : Option (List ℕ)) (file : List ℕ) → cond b None x ≡ Some file → x ≡ Some file
chosen true x file e = cc
chosen false x file e = e

-- a fetch that found this file gave its front, or had no memory for it
abbrev pub GaveFront : Result (Vec ℕ Global) FetchFault → List ℕ → ℕ → Type 0
GaveFront result file limit = MatchResult result (λ front. front.items ≡ take (limit + 1) file) (λ why. why ≡ fault.Mem)

-- it gave that of what the next fetch finds
pub front_found : (old : ShelfState) (name file : List ℕ) (limit : ℕ) → next_file old name ≡ Some file
    → (result : Result (Vec ℕ Global) FetchFault) → GaveFront result file limit
    → IfOk result (λ bytes. option_map (take (limit + 1)) (next_file old name) ≡ Some bytes.items)
front_found old name file limit found (Ok front) gave = ap (option_map (take (limit + 1))) found ∙ ap Some (sym gave)
front_found old name file limit found (Err why) gave = tt

-- and so of the file of that name
pub front_of_file : (old : ShelfState) (name file : List ℕ) (limit : ℕ) → next_file old name ≡ Some file
    → (result : Result (Vec ℕ Global) FetchFault) → GaveFront result file limit
    → IfOk result (λ bytes. IsFetched (Some (file_at old)) name limit bytes.items)
front_of_file old name file limit found (Ok front) gave =
    rw (chosen (list_any (λ call. call == counted old.calls) old.to_fail) (file_at old name) file found) gave
front_of_file old name file limit found (Err why) gave = tt

-- it did not fail
pub front_never_fails : (P : Type 0) (file : List ℕ) (limit : ℕ) (result : Result (Vec ℕ Global) FetchFault)
    → GaveFront result file limit → result ≡ Err fault.Failed → P
front_never_fails P file limit (Ok front) gave e = absurd (cc)
front_never_fails P file limit (Err why) gave e = absurd (cc)

-- what holds in any case holds where there is an answer
pub on_ok : {T E P : Type 0} (r : Result T E) → P → OnOk r P
on_ok (Ok x) p = p
on_ok (Err e) p = tt

-- what is seen of a shelf once it has counted a fetch
pub counted_after : (seen old : ShelfState) (calls : ℕ) → seen ≡ old → calls ≡ counted seen.calls → record seen { calls = calls } ≡ with_call old
counted_after seen old calls e p = ap (λ (n : ℕ). record seen { calls = n }) p ∙ ap with_call e

-- and noted a name
pub noted_after : (seen old : ShelfState) (name : List ℕ) (calls : ℕ) (noted : List (List ℕ)) → seen ≡ old → calls ≡ counted seen.calls
    → noted ≡ seen.noted ++ name ∷ [] → record seen { noted = noted; calls = calls } ≡ with_fault old name
noted_after seen old name calls noted e p q =
    (λ i. record seen { noted = q i; calls = p i }) ∙ ap (λ (s : ShelfState). with_fault s name) e

-- or had no room for it
pub unnoted_after : (seen old : ShelfState) (calls : ℕ) (noted : List (List ℕ)) → seen ≡ old → calls ≡ counted seen.calls
    → noted ≡ seen.noted → record seen { noted = noted; calls = calls } ≡ with_call old
unnoted_after seen old calls noted e p q = (λ i. record seen { noted = q i; calls = p i }) ∙ ap with_call e

-- a shelf that only counted one fetch more
module _ (old new : ShelfState) (is : new ≡ with_call old) where
  -- has the same files
  pub counted_files : Some (file_at new) ≡ Some (file_at old)
  counted_files = ap (λ (s : ShelfState). Some (file_at s)) is

  -- and has failed as often at each name
  pub counted_same : (name : List ℕ) → fault_count new name ≡ fault_count old name
  counted_same name = ap (λ (s : ShelfState). fault_count s name) is

  -- so no count falls
  pub counted_keeps : (name : List ℕ) → fault_count old name ≤ fault_count new name
  counted_keeps name = omega (arith, counted_same name)

-- what a fetch leaves that fails for this reason: its name is noted, unless memory was wanting
pub record IsNoted (old new : ShelfState) (name : List ℕ) (why : FetchFault) : Type 0 where
  pub failed : why ≡ fault.Failed → new ≡ with_fault old name
  pub mem : why ≡ fault.Mem → new ≡ with_call old

-- the shelf has the same files
pub noted_files : (old new : ShelfState) (name : List ℕ) (why : FetchFault) → IsNoted old new name why → Some (file_at new) ≡ Some (file_at old)
noted_files old new name fault.Failed h = ap (λ (s : ShelfState). Some (file_at s)) (h.failed refl)
noted_files old new name fault.Mem h = counted_files old new (h.mem refl)

-- no count falls
pub noted_keeps : (old new : ShelfState) (name : List ℕ) (why : FetchFault) → IsNoted old new name why
    → (other : List ℕ) → fault_count old other ≤ fault_count new other
noted_keeps old new name fault.Failed h other =
    omega (arith, ap (λ (s : ShelfState). fault_count s other) (h.failed refl), count_of-push old.noted name other)
noted_keeps old new name fault.Mem h other = counted_keeps old new (h.mem refl) other

-- and none changes at another name
pub noted_elsewhere : (old new : ShelfState) (name : List ℕ) (why : FetchFault) → IsNoted old new name why
    → (other : List ℕ) → other ≢ name → fault_count new other ≡ fault_count old other
noted_elsewhere old new name fault.Failed h other differs =
    same_elsewhere old.noted new.noted name (ap (λ (s : ShelfState). s.noted) (h.failed refl)) other differs
noted_elsewhere old new name fault.Mem h other differs = counted_same old new (h.mem refl) other

-- at the name it has risen where the fetch failed
pub noted_rises : (old new : ShelfState) (name : List ℕ) (why : FetchFault) → IsNoted old new name why
    → why ≡ fault.Failed → HasRisen (fault_count old name) (fault_count new name)
noted_rises old new name why h e = risen_at_name old.noted new.noted name (ap (λ (s : ShelfState). s.noted) (h.failed e))
