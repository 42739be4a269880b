-- What the looks of a visit loaded.
use Rattle.std.proofs.Common.{◌≡◌, ℕ, List, [], ◌∷◌, ◌++◌, map, sum_by, refl, arith}
use Rattle.std.proofs.lemmas.List.Sums.{sum_by-append, sum_by-cons}
use Rattle.clear_core.specs.declared.event.Raise.{Raise}
use Rattle.clr_net.specs.Net.{Net}
use Rattle.bank_desk.specs.Desks.{BankView}
use Rattle.pay_words.specs.declared.payment.Payment.{Payment}
use Rattle.pay_words.specs.declared.view.Act.{Act}
use Rattle.pay_words.specs.Views.{look_at, raise_of, ring_of}
use Rattle.bank_worker.specs.Looks.{loaded, loaded_in, looks_at}
use Rattle.bank_worker.specs.Raises.{debts_of}
use Rattle.bank_worker.specs.Rings.{called_by}
use Rattle.bank_worker.specs.Visits.{acts_of}

-- what is no look loads nothing
loads_nothing : {A : Type 0} (f : A → Act) (xs : List A) → ((x : A) → loaded (f x) ≡ 0) → loaded_in (map f xs) ≡ 0
loads_nothing f [] none = refl
loads_nothing f (x ∷ xs) none = omega (arith, sum_by-cons loaded (f x) (map f xs), none x, loads_nothing f xs none)

-- looks load what they found
looks_load : (found : ℕ → Payment) (xs : List ℕ) → loaded_in (looks_at found xs) ≡ sum_by (λ x. (found x).value) xs
looks_load found [] = refl
looks_load found (x ∷ xs) = omega (
  arith,
  sum_by-cons loaded (look_at x (found x)) (looks_at found xs),
  sum_by-cons (λ y. (found y).value) x xs,
  looks_load found xs,
)

-- so a visit loads what its looks found
pub visit_loads : (net : Net) (desk : BankView) (found : ℕ → Payment) (made : List Raise)
    → loaded_in (acts_of net desk found made) ≡ sum_by (λ x. (found x).value) desk.debts_in
visit_loads net desk found made =
    let looks = looks_at found desk.debts_in in
    let raises = map raise_of (debts_of made) in
    omega (
      arith,
      sum_by-append loaded (looks ++ raises) (map ring_of (called_by net made)),
      sum_by-append loaded looks raises,
      looks_load found desk.debts_in,
      loads_nothing raise_of (debts_of made) (λ x. refl),
      loads_nothing ring_of (called_by net made) (λ b. refl),
    )
