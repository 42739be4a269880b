-- A journal is lawful where it stands and leaves all banks quiet, and it pays the least clearing payments then.
use Rattle.std.proofs.Common.{◌≡◌, ◌↔◌, ℕ, List, length, ap, sym, ◌∙◌}
use Rattle.clr_net.specs.Limits.{IsNetwork}
use Rattle.clr_net.specs.Net.{Net}
use Rattle.clear_core.specs.declared.event.Raise.{Raise}
use Rattle.clear_core.specs.Clearing.{zeros, Clears, least}
use Rattle.clear_core.specs.History.{replayed, Stands}
use Rattle.clear_core.proofs.Journals.{replayed_le_least}
use Rattle.clear_core.proofs.Lawful.{length-replayed}
use Rattle.clear_core.proofs.Least.{clears_only_at_least}
use Rattle.clear_core.proofs.QuietBanks.{quiet_from_clears, clears_from_quiet}
use Rattle.raise_journal.specs.declared.verdict.Verdict.{Verdict}
use Rattle.raise_journal.specs.declared.verdict.Verdict.TheVariants as verdict
use Rattle.raise_journal.specs.Verdicts.{IsVerdict, Judged, at_end, judged}
use Rattle.raise_journal.proofs.Judged.{judged-stands, judged-lawful, none_unquiet}

-- what stands is paid as it replays
stands_paid : (net : Net) (rs : List Raise) → Stands net rs → (judged net rs).paid ≡ replayed net rs
stands_paid net rs s = ap (λ (j : Judged). j.paid) (judged-stands net 1 0 (zeros net) rs s)

-- lawful is what stands and clears
pub lawful_is : (net : Net) (rs : List Raise) → IsNetwork net
    → ((judged net rs).verdict ≡ verdict.Lawful) ↔ (Stands net rs × Clears net (replayed net rs))
lawful_is net rs network = (
  λ e.
      let both = judged-lawful net 1 0 (zeros net) rs e in
      (both.0, clears_from_quiet net (replayed net rs) network (length-replayed net rs) both.1),
  λ h.
      ap (λ (j : Judged). j.verdict) (judged-stands net 1 0 (zeros net) rs h.0)
      ∙ ap at_end (none_unquiet net (replayed net rs) (quiet_from_clears net (replayed net rs) h.1)),
)

-- and it pays the least clearing payments
pub lawful_pays_least : (net : Net) (rs : List Raise) → IsNetwork net
    → (judged net rs).verdict ≡ verdict.Lawful → (judged net rs).paid ≡ least net
lawful_pays_least net rs network e =
    let both = (lawful_is net rs network).0 e in
    stands_paid net rs both.0
    ∙ clears_only_at_least net (replayed net rs) (replayed_le_least net rs both.0) both.1

-- what a journal comes to is a verdict on it
pub verdict_is : (net : Net) (rs : List Raise) (v : Verdict) (P : List ℕ) → IsNetwork net
    → length P ≡ length net.debts → record { verdict = v; paid = P } ≡ judged net rs
    → IsVerdict net rs v P
verdict_is net rs v P network over is =
    let told = ap (λ (j : Judged). j.verdict) is in
    let paid = ap (λ (j : Judged). j.paid) is in
    record {
      told = told;
      paid = paid;
      lawful = rw told (lawful_is net rs network);
      least_paid = λ e. paid ∙ lawful_pays_least net rs network (sym told ∙ e);
      stands = λ s. paid ∙ stands_paid net rs s;
      over = over;
    }
