-- What is known once checks have passed.
use Rattle.std.proofs.Common.{◌≡◌, ◌≢◌, ℕ, zero, suc, ◌+◌, ◌-◌, ◌<◌, ◌≤◌, ◌&&◌, nat_le, Bool, true, false, List, [], ◌∷◌, length, slice_get, Option, Some, None, Result, Ok, Err, sym, refl, ap, ◌∙◌, ◌↔◌, subst, arith}
use Rattle.std.specs.List.{list_any, position}
use Rattle.std.specs.Option.{ok_or, option_map_or}
use Rattle.std.specs.Result.{IsErrOf}
use Rattle.std.proofs.lemmas.Bool.{and_parts, or_parts, leb-true, true≢false}
use Rattle.std.proofs.lemmas.Option.{cond_some}
use Rattle.std.proofs.lemmas.Slice.Eq.{bytes_eq-Decides}
use Rattle.clr_net.specs.declared.TheConstants.{MAX_CLASS, MAX_OUTSIDE}
use Rattle.clr_net.specs.Name.{is_name}
use Rattle.clr_net.specs.Net.{Net, has_name}
use Rattle.clr_net.proofs.BankNames.{named_there}
use Rattle.clr_net.specs.declared.bank.Bank.{Bank}
use Rattle.net_check.specs.Checks.{and_then, fault_unless}
use Rattle.net_check.specs.Field.{number_in, class_in}
use Rattle.net_check.specs.Record.{number_up_to, outside_in, bank_in, fault_at, in_row}
use Rattle.net_check.specs.declared.fault.Fault.{Fault}
use Rattle.net_check.specs.declared.fault.FileKind.{FileKind}
use Rattle.net_check.specs.declared.fault.FaultKind.{FaultKind}
use Rattle.net_check.specs.declared.fault.FaultKind.TheVariants as fault
use Rattle.net_check.specs.declared.fault.ReadNet.{ReadNet}
use Rattle.net_check.specs.declared.fault.ReadNet.TheVariants as read_net

-- a test that did not end in its fault held, and what follows it gave the answer
pub fault_unless-ok : {A E : Type 0} (test : Bool) (e : E) (rest : Result A E) (a : A) → fault_unless test e rest ≡ Ok a
    → (test ≡ true) × (rest ≡ Ok a)
fault_unless-ok true e rest a h = (refl, h)
fault_unless-ok false e rest a h = cc

-- of two checks in a row that passed, the first gave something, and the second passed on it
pub and_then-ok : {A B E : Type 0} (r : Result A E) (f : A → Result B E) (b : B) → and_then r f ≡ Ok b
    → (a : A) × (r ≡ Ok a) × (f a ≡ Ok b)
and_then-ok (Ok a) f b h = (a, refl, h)
and_then-ok (Err e) f b h = cc

-- where a missing value would be a fault and there is none, the value is there
pub ok_or-ok : {A E : Type 0} (o : Option A) (e : E) (a : A) → ok_or o e ≡ Ok a → o ≡ Some a
ok_or-ok (Some x) e a h = cc
ok_or-ok None e a h = cc

-- a number that is read is within its limit
pub number_up_to-ok : (limit : ℕ) (field : List ℕ) (n : ℕ) → number_up_to limit field ≡ Ok n → n ≤ limit
number_up_to-ok limit field n h =
    let number = and_then-ok (ok_or (number_in field) fault.Number) (λ n. fault_unless (nat_le n limit) fault.Limit (Ok n)) n h in
    let small = fault_unless-ok (nat_le number.0 limit) fault.Limit (Ok number.0) n number.2 in
    let same : number.0 ≡ n = cc in
    subst (λ n. n ≤ limit) same (leb-true number.0 limit small.0)

-- what is read as owed outside is within its limit
pub outside_in-ok : (field : Option (List ℕ)) (n : ℕ) → outside_in field ≡ Ok n → n ≤ MAX_OUTSIDE
outside_in-ok None n h = let none : 0 ≡ n = cc in omega arith
outside_in-ok (Some field) n h = number_up_to-ok MAX_OUTSIDE field n h

-- a field that names a bank gives the number of a bank
pub bank_in-ok : (net : Net) (field : List ℕ) (i : ℕ) → bank_in net field ≡ Ok i → i < length net.banks
bank_in-ok net field i h =
    let named = fault_unless-ok (is_name field) fault.Name (ok_or (position (has_name field) net.banks) fault.UnknownBank) i h in
    (named_there net field i (ok_or-ok (position (has_name field) net.banks) fault.UnknownBank i named.1)).0

-- a row that gives something has no fault
pub in_row-ok : {A : Type 0} (f : FileKind) (row : ℕ) (r : Result A FaultKind) (a : A) → in_row f row r ≡ Ok a → r ≡ Ok a
in_row-ok f row (Ok x) a h = cc
in_row-ok f row (Err k) a h = cc

-- an answer that tells no fault is right where a row gives something
pub no_fault_told : {A B : Type 0} (f : FileKind) (row : ℕ) (r : Result A FaultKind) (a : A) (told : Result B ReadNet)
    → r ≡ Ok a → ((x : Fault) → told ≡ Err (read_net.Refused x) → x ≢ x)
    → (x : Fault) → IsErrOf told (read_net.Refused x) ↔ (in_row f row r ≡ Err x)
no_fault_told f row r a told e none x = (
  (λ t. absurd (none x t refl)),
  λ t. let is : in_row f row r ≡ Ok a = ap (in_row f row) e in absurd (cc),
)

-- and one that tells a fault where a row has it
pub fault_told : {A B : Type 0} (f : FileKind) (row : ℕ) (r : Result A FaultKind) (k : FaultKind) → r ≡ Err k
    → (x : Fault) → IsErrOf {T = B} (Err (read_net.Refused (fault_at f row k))) (read_net.Refused x) ↔ (in_row f row r ≡ Err x)
fault_told f row r k e x = (
  (λ t. let is : in_row f row r ≡ Err (fault_at f row k) = ap (in_row f row) e in cc),
  λ t. let is : in_row f row r ≡ Err (fault_at f row k) = ap (in_row f row) e in cc,
)

-- a class is in its limits
pub class_in-some : (field : List ℕ) (c : ℕ) → class_in field ≡ Some c → (1 ≤ c) × (c ≤ MAX_CLASS)
class_in-some (digit ∷ []) c h =
    let (test, same) = cond_some (nat_le 49 digit && nat_le digit (48 + MAX_CLASS)) (digit - 48) c h in
    let both = and_parts (nat_le 49 digit) (nat_le digit (48 + MAX_CLASS)) test in
    (omega (arith, leb-true 49 digit both.0), omega (arith, leb-true digit (48 + MAX_CLASS) both.1))
class_in-some field c h = cc

-- no bank read so far has the name
pub new_name : (name : List ℕ) (banks : List Bank) → list_any (has_name name) banks ≡ false → (j : ℕ) → j < length banks
    → option_map_or (λ b. b.name) (slice_get banks j) [] ≢ name
new_name name [] h j l = absurd (omega arith)
new_name name (b ∷ banks) h zero l =
    λ same. true≢false (sym ((bytes_eq-Decides b.name name).1 same) ∙ (or_parts (has_name name b) (list_any (has_name name) banks) h).0)
new_name name (b ∷ banks) h (suc j) l =
    new_name name banks (or_parts (has_name name b) (list_any (has_name name) banks) h).1 j (omega arith)
