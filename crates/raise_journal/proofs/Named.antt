-- The debt of a debtor, a creditor and a class, by its number.
use Rattle.std.proofs.lemmas.Bool.Decides.{nat_tests}
use Rattle.std.proofs.Common.{◌≡◌, ℕ, ◌<◌, true, List, length, get_or, slice_get, Some, None, refl, sym, ◌∙◌, arith}
use Rattle.std.specs.Prelude.{position, Option, IfNone, IfSome, false}
use Rattle.std.specs.List.{list_any}
use Rattle.std.specs.Option.{option_map}
use Rattle.std.proofs.lemmas.Bool.{lt-ltb, le-ltb, false_from_ne_true}
use Rattle.std.proofs.lemmas.List.Sums.{position_or_len_is}
use Rattle.std.proofs.lemmas.Option.{get_or_from_slice_get, slice_get-get_or}
use Rattle.clr_net.specs.Limits.{IsNetwork, IsOfKind, IsNewKind}
use Rattle.clr_net.specs.Net.{Net, is_debt_of, is_of_kind}
use Rattle.clr_net.specs.declared.debt.Debt.{Debt}
use Rattle.clr_net.specs.declared.debt.DebtId.{DebtId}
use Rattle.clr_net.proofs.OfKind.{new_kind}

-- a debt of a kind passes the test of the kind, and back
kind-passes : (net : Net) (a b c k : ℕ) (d : Debt) → slice_get net.debts k ≡ Some d → IsOfKind net k a b c → is_debt_of a b c d ≡ true
kind-passes net a b c k d at kind = grind (arith, nat_tests, at, kind)

-- a debt that passes is of the kind
pub passes-kind : (net : Net) (a b c k : ℕ) (d : Debt) → slice_get net.debts k ≡ Some d → is_debt_of a b c d ≡ true → IsOfKind net k a b c
passes-kind net a b c k d at h = grind (arith, nat_tests, at, h)

-- in a network the debt of a kind is the first of its kind
pub kind_found : (net : Net) (a b c x : ℕ) (d : Debt) → IsNetwork net → x < length net.debts → slice_get net.debts x ≡ Some d → IsOfKind net x a b c
    → position (is_debt_of a b c) net.debts ≡ Some x
kind_found net a b c x d network below at kind =
    let p = is_debt_of a b c in
    let first = position_or_len_is p net.debts x d (omega arith)
    (λ k l. false_from_ne_true (p (get_or net.debts k d)) (λ h.
    let other = passes-kind net a b c k (get_or net.debts k d) (slice_get-get_or net.debts k d (omega arith)) h in
    (network.each_debt x below).only_of_its_kind k l (other.0 ∙ sym kind.0, other.1 ∙ sym kind.1, other.2 ∙ sym kind.2)))
    (λ l. rw (get_or_from_slice_get net.debts x d d at) (kind-passes net a b c x d at kind)) in
    rw (first, lt-ltb x (length net.debts) below) refl

-- and where no debt is of the kind, none is found
kind_not_found : (net : Net) (a b c : ℕ) → IsNewKind net a b c → position (is_debt_of a b c) net.debts ≡ None
kind_not_found net a b c none =
    let p = is_debt_of a b c in
    let d : Debt = record { debtor = record { 0 = 0 }; creditor = record { 0 = 0 }; class = 0; claim = 0 } in
    let n = length net.debts in
    let last = position_or_len_is p net.debts n d (omega arith)
    (λ k l. false_from_ne_true (p (get_or net.debts k d)) (λ h.
    none k l (passes-kind net a b c k (get_or net.debts k d) (slice_get-get_or net.debts k d l) h)))
    (λ l. absurd (omega arith)) in
    rw (last, le-ltb n n (omega arith)) refl

-- what is found among debts that tell of all, or that none is, is the place of the kind
pub place_is : (net : Net) (a b c : ℕ) (ns : List ℕ) (o : Option DebtId) → IsNetwork net
    → list_any (is_of_kind net a b c) ns ≡ list_any (is_debt_of a b c) net.debts
    → IfSome o (λ id. IsOfKind net id.0 a b c × (id.0 < length net.debts))
    → IfNone o (list_any (is_of_kind net a b c) ns ≡ false)
    → option_map (λ id. id.0) o ≡ position (is_debt_of a b c) net.debts
place_is net a b c ns None network tell some none =
    sym (kind_not_found net a b c (new_kind net a b c false (sym (sym tell ∙ none))))
place_is net a b c ns (Some id) network tell some none =
    let d : Debt = record { debtor = record { 0 = 0 }; creditor = record { 0 = 0 }; class = 0; claim = 0 } in
    sym (kind_found net a b c id.0 (get_or net.debts id.0 d) network some.1 (slice_get-get_or net.debts id.0 d some.1) some.0)
