-- The bank that the verdict on a journal names is a bank of the network.
use Rattle.std.proofs.Common.{ℕ, ◌+◌, nat_lt, Bool, true, false, List, [], ◌∷◌, length, set, find, Option, Some, None, if◌then◌else◌, not}
use Rattle.std.specs.List.{range_with_len}
use Rattle.clr_net.specs.Net.{Net}
use Rattle.clr_net.proofs.Ranges.{Found, found}
use Rattle.clear_core.specs.declared.event.Raise.{Raise}
use Rattle.raise_journal.specs.Verdicts.{Judged, at_end, is_quiet_at, is_unlawful, judged, judged_from}
use Rattle.clear_report.specs.Journals.{NamesBankOf}

-- the first bank that is not quiet is a bank
names_at_end : (net : Net) (p : ℕ → Bool) (first : Option ℕ) → Found p (length net.banks) first
    → NamesBankOf net (at_end first)
names_at_end net p None none = tt
names_at_end net p (Some i) some = some.0

-- one of two that name banks
names_either : (net : Net) (b : Bool) (v w : Judged)
    → NamesBankOf net v.verdict → NamesBankOf net w.verdict
    → NamesBankOf net (if b then v else w).verdict
names_either net true v w first second = first
names_either net false v w first second = second

-- whatever was judged before
names_from : (net : Net) (entry last : ℕ) (P : List ℕ) (rs : List Raise)
    → NamesBankOf net (judged_from net entry last P rs).verdict
unfolding judged_from
names_from net entry last P [] =
    let p = λ (i : ℕ). not (is_quiet_at net P i) in
    names_at_end net p (find p (range_with_len 0 (length net.banks))) (found p (length net.banks))
names_from net entry last P (r ∷ rs) =
    names_either net (nat_lt r.stamp last) _ _ tt
    (names_either net (is_unlawful net P r) _ _ tt
    (names_from net (entry + 1) r.stamp (set P r.debt.0 r.to) rs))

-- so the bank that any verdict names is one of the network
pub verdict_names_bank : (net : Net) (rs : List Raise) → NamesBankOf net (judged net rs).verdict
verdict_names_bank net rs = names_from net 1 0 _ rs
