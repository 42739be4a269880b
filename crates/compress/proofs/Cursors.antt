-- What stands before the cursors of the columns is passed, and stays so.
use Rattle.std.proofs.Common.{◌≡◌, ◌≢◌, ℕ, ◌<◌, ◌≤◌, List, length, get_or, set, sym, ap, subst, ⊎_elim, arith}
use Rattle.std.proofs.lemmas.Bool.{cases_eq}
use Rattle.std.proofs.lemmas.List.{get_or-set_same, get_or-set_other}
use Rattle.clr_net.specs.Net.{Net, debtor_of, column}
use Rattle.compress.specs.declared.mark.Mark.{Mark}
use Rattle.compress.specs.Walk.{IsPassed, ArePassed, IsKept, IsReady, mark_of}
use Rattle.compress.specs.Compression.{IsLive}
use Rattle.compress.specs.declared.mark.Mark.TheVariants.{Done}
use Rattle.compress.proofs.Cycles.{in_column, live_class, live_claim, live_with}

-- claims only fall and what is done stays done, so what is passed stays passed
pub passed_kept : {net : Net} {c : ℕ} {C D : List ℕ} {before after : List Mark} (K : List ℕ)
    → IsKept net c C D before after → ArePassed net c C before K → ArePassed net c D after K
passed_kept {net = net} {c = c} {C = C} K kept passed b k l live =
    let x = get_or (column net b) k 0 in
    kept.stays (debtor_of net x)
    (passed b k l (live_with net C c x live.debt (live_class live)
    (omega (arith, live_claim live, kept.falls x))))

-- a cursor is moved over places that are passed
pub passed_moved : (net : Net) (c b : ℕ) (C : List ℕ) (marks : List Mark) (K : List ℕ) (v : ℕ)
    → b < length K → ArePassed net c C marks K → ((k : ℕ) → k < v → IsPassed net c C marks b k)
    → ArePassed net c C marks (set K b v)
passed_moved net c b C marks K v l passed more j k m = ⊎_elim
    (λ (e : j ≡ b). subst (λ j. IsPassed net c C marks j k) (sym e)
    (more k (omega (arith, m, ap (λ j. get_or (set K b v) j 0) e, get_or-set_same K b v 0 l))))
    (λ (ne : j ≢ b). passed j k (omega (arith, m, get_or-set_other K b j v 0 ne)))
    (cases_eq j b)

-- a bank with its whole column passed is ready
pub ready_when_passed : (net : Net) (c b : ℕ) (C : List ℕ) (marks : List Mark) (n : ℕ)
    → length (column net b) ≤ n → ((k : ℕ) → k < n → IsPassed net c C marks b k)
    → IsReady net c b C marks
ready_when_passed net c b C marks n end passed x live owed =
    let place = rw owed at (in_column net x live.debt) in
    subst (λ y. IsLive net C c y → mark_of marks (debtor_of net y) ≡ Done) place.2
    (passed place.0 (omega (arith, place.1, end))) live
