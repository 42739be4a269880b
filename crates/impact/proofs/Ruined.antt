-- Networks without the cash of some banks: how a clearing goes on, and which network is one.
use Rattle.std.proofs.Common.{◌≡◌, ℕ, ◌+◌, ◌<◌, ◌≤◌, Bool, cond, length, refl, sym, ◌∙◌, ⊎_elim, arith}
use Rattle.std.proofs.lemmas.Bool.{cases_eq}
use Rattle.std.proofs.lemmas.Bool.Decides.{nat_tests}
use Rattle.clr_net.specs.Net.{Net, cash_of}
use Rattle.cascade.specs.MoreCash.{GoesOn}
use Rattle.cascade.specs.Ruin.{hit}
use Rattle.cascade.proofs.CashAt.{cash_is_set, cash_stays}
use Rattle.cascade.proofs.GoingOn.{goes_on}
use Rattle.cascade.proofs.OtherCash.{alike_set}
use Rattle.descent.specs.Cashes.{AreFloors}
use Rattle.descent.proofs.Cashes.{is_with_cashes, more_with_cashes}
use Rattle.impact.specs.Ruined.{IsPartOf, between, cash_left, least_left, ruined}

-- where fewer banks have lost theirs no bank has less
fewer_have_more : (net : Net) (lost still : ℕ → Bool) → IsPartOf still lost
    → (i : ℕ) → cash_left net lost i ≤ cash_left net still i
fewer_have_more net lost still part i = grind (arith, part i)

-- so a clearing goes on
pub goes_on_where_fewer_are_ruined : (net : Net) (lost still : ℕ → Bool) → IsPartOf still lost
    → GoesOn (ruined net lost) (ruined net still)
goes_on_where_fewer_are_ruined net lost still part =
    goes_on (ruined net lost) (ruined net still)
    (more_with_cashes net (cash_left net lost) (cash_left net still)
    (fewer_have_more net lost still part))

-- of two shares, the one within the other is a part of it
part_of_share : (a b c d : ℕ) → c ≤ a → b ≤ d → IsPartOf (between a b) (between c d)
part_of_share a b c d l m i e = grind (arith, nat_tests)

-- so no bank has less by a share within another
pub shares_have_floors : (net : Net) → AreFloors (least_left net)
shares_have_floors net low high a b i l some h =
    fewer_have_more net (between low high) (between a b) (part_of_share a b low high l h) i

-- the network without the cash of one bank alone
pub one_ruined : (net : Net) (j : ℕ) → j < length net.banks
    → hit net j ≡ ruined net (between j (j + 1))
one_ruined net j bank =
    is_with_cashes net (hit net j) (cash_left net (between j (j + 1)))
    (alike_set net net j 0 (refl, refl)) (λ i l. ⊎_elim
    (λ (e : i ≡ j). rw e (cash_is_set net j 0 bank ∙ sym (own j)))
    (λ (ne : i ≡ j → ⊥). cash_stays net j 0 i ne ∙ sym (other i ne))
    (cases_eq i j))
  where
    own : (j : ℕ) → cond (between j (j + 1) j) 0 (cash_of net j) ≡ 0
    own j = grind (arith, nat_tests)

    other : (i : ℕ) → (i ≡ j → ⊥) → cond (between j (j + 1) i) 0 (cash_of net i) ≡ cash_of net i
    other i ne = grind (arith, nat_tests)
