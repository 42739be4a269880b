-- Raises that are lawful by debt are a history, and a replay leaves what each debt ended with.
use Rattle.std.proofs.lemmas.Bool.{cond_both}
use Rattle.std.proofs.lemmas.Bool.Decides.{nat_tests}
use Rattle.std.proofs.lemmas.Grind.{get_or-set_at}
use Rattle.std.proofs.Common.{◌≡◌, ℕ, suc, ◌<◌, ◌==◌, List, [], ◌∷◌, length, set, map, slice_get, Some, inl, inr, refl, sym, ap, ◌∙◌, subst, arith, length-set, get_or-set_other, All, get_or, ◌≤◌}
use Rattle.std.specs.Prelude.{slice_index, sum}
use Rattle.std.proofs.lemmas.Bool.{eq-eqb}
use Rattle.std.proofs.lemmas.List.{length-replicate, ext_get_or, get_or_default}
use mathlib.Core.Logic.{dite}
use native.Mathlib.Decide.{ℕ_discrete, dec_lt}
use Rattle.clr_net.specs.Net.{Net, debtor_of}
use Rattle.clr_net.proofs.Lists.{zeros_at}
use Rattle.clear_core.specs.Clearing.{zeros, part}
use Rattle.clear_core.specs.History.{IsHistory, replayed_from, replayed, raised_before, paid_before}
use Rattle.clear_core.specs.declared.event.Raise.{Raise}
use Rattle.clear_core.proofs.Pay.{pay_at}
use Rattle.pay_words.specs.declared.payment.Payment.{Payment}
use Rattle.pay_words.specs.Words.{unpaid}
use Rattle.pay_words.specs.Traces.{Traces, AreLawfulTraces, Rise, ending, ending_from, raises_of, last_payment, start_of, paid_to, total}
use Rattle.pay_words.proofs.Tables.{tabled_at, length-tabled, tabled_agree}
use Rattle.pay_words.proofs.Marks.{column_agree}
use Rattle.pay_words.proofs.Traces.{among_raises_of, raises_of-none, rise_rest}
use Rattle.pay_words.proofs.Pasts.{before_of, Differ}
use Rattle.std.specs.List.{AllPairs, Contains}
use Rattle.std.proofs.lemmas.List.Kept.{AllPairs-cons}
use Rattle.std.proofs.lemmas.List.Elements.{All-contains}
use Rattle.std.proofs.lemmas.Option.{slice_get_within, get_or_from_slice_get}
use Rattle.clr_net.specs.declared.debt.DebtId.{DebtId}

-- raises that agree at each debt of the network
pub lawful_agree : (net : Net) (t u : Traces) → AreLawfulTraces net t → ((x : ℕ) → x < length net.debts → u x ≡ t x) → AreLawfulTraces net u
lawful_agree net t u h same = record {
  rise = λ x lt. subst Rise (sym (same x lt)) (h.rise x lt);
  each = λ x lt. subst (All (λ r. (0 < r.to) × (r.debt.0 ≡ x))) (sym (same x lt)) (h.each x lt);
  within = λ x lt. subst (All (λ r. r.to ≤ part net x (paid_to net u r.stamp x))) (sym (same x lt)) (λ k d l.
      let stamp = (get_or (t x) k d).stamp in
      let paid = column_agree net (λ y. raised_before stamp (t y) y) (λ y. raised_before stamp (u y) y) (debtor_of net x)
      (λ y m. ap (λ (rs : List Raise). raised_before stamp rs y) (sym (same y m))) in
      omega (arith, h.within x lt k d l, ap (part net x) paid));
  most = λ x lt. omega (arith, h.most x lt, ap (λ (rs : List Raise). (ending rs).value) (same x lt));
  low = λ x lt. omega (arith, h.low x lt, ap (λ (rs : List Raise). (ending rs).stamp) (same x lt), all);
}
  where
    all : total net u ≡ total net t
    all = ap sum (tabled_agree 0 (length net.debts) (λ y. (ending (u y)).value) (λ y. (ending (t y)).value) (λ y l. ap (λ (rs : List Raise). (ending rs).value) (same y l)))

-- where the raises of a debt rise, so they do without the first raise of all
rise_tail : (x : ℕ) (a : Raise) (rs : List Raise) → Rise (raises_of x (a ∷ rs)) → Rise (raises_of x rs)
rise_tail x a rs = cond_both (a.debt.0 == x) (a ∷ raises_of x rs) (raises_of x rs)
    (λ l. Rise l → Rise (raises_of x rs)) (λ _. rise_rest a (raises_of x rs)) (λ _ h. h)

-- raises that rise by debt differ
differ : (rs : List Raise) → ((x : ℕ) → Rise (raises_of x rs)) → AllPairs Differ rs
differ [] rise = λ i j d lt l. absurd (omega (arith, l))
differ (c ∷ rs) rise = AllPairs-cons Differ c rs
    (λ k d l.
    let b = get_or rs k d in
    dite (ℕ_discrete b.debt.0 c.debt.0)
    (λ is.
    let all : Rise (c ∷ raises_of c.debt.0 rs) = rw (eq-eqb c.debt.0 c.debt.0 refl) at (rise c.debt.0) in
    let i : Contains (raises_of c.debt.0 rs) b = subst (λ (x : ℕ). Contains (raises_of x rs) b) is (among_raises_of rs k d l) in
    let up = All-contains (λ s. c.stamp < s.stamp) (raises_of c.debt.0 rs) b
    (λ m e n. (all 0 (suc m) e (omega arith) (omega (arith, n))).0) i in
    inl (λ s. absurd (omega (arith, up, s))))
    (λ ne. inr (λ s. ne (sym (ap (λ (z : DebtId). z.0) s)))))
    (differ rs (λ x. rise_tail x c rs (rise x)))

-- of two raises that rise, the one of the greater stamp has the greater amount
rise_pair : (rs : List Raise) → Rise rs → (a b : Raise) → Contains rs a → Contains rs b → a.stamp < b.stamp → a.to < b.to
rise_pair rs h a b p q lt =
    let there : get_or rs q.0 a ≡ b = get_or_default rs q.0 a b q.1 ∙ q.2 in
    grind (arith, there, p.2, p.1, q.1, h p.0 q.0 a, h q.0 p.0 a)

-- raises that are lawful by debt are a history
module _ (net : Net) (rs : List Raise) (h : AreLawfulTraces net (λ x. raises_of x rs)) (known : All (λ r. r.debt.0 < length net.debts) rs)
  where
    rise : (x : ℕ) → Rise (raises_of x rs)
    rise x = dite (dec_lt x (length net.debts)) (h.rise x)
        (λ ge. subst Rise (sym (raises_of-none x rs (λ k d l e. absurd (omega (arith, known k d l, e, ge)))))
        (λ i j d lt l. absurd (omega (arith, l))))

    at : (i : ℕ) (r : Raise) → slice_get rs i ≡ Some r → Contains (raises_of r.debt.0 rs) r × (r.debt.0 < length net.debts)
    at i r e = All-contains (λ r. Contains (raises_of r.debt.0 rs) r × (r.debt.0 < length net.debts)) rs r
        (λ k d l. (among_raises_of rs k d l, known k d l)) (i, slice_get_within rs i r e, get_or_from_slice_get rs i r r e)

    pub history_of : IsHistory net rs
    history_of = record {
      traced = record {
        differ = λ i j a b lt e f. subst (λ (y : Raise × Raise). Differ y.0 y.1)
            (λ k. (get_or_from_slice_get rs i a a e k, get_or_from_slice_get rs j b a f k))
            (differ rs rise i j a lt (slice_get_within rs j b f));
        within = λ i r e.
            let x = r.debt.0 in
            let lt = (at i r e).1 in
            let most = All-contains (λ q. q.to ≤ part net x (paid_to net (λ y. raises_of y rs) q.stamp x)) (raises_of x rs) r
            (h.within x lt) (at i r e).0 in
            let paid = column_agree net (λ y. raised_before r.stamp (raises_of y rs) y) (slice_index (paid_before net r.stamp rs)) (debtor_of net x)
            (λ y l. before_of r.stamp y rs ∙ sym (tabled_at (length net.debts) (raised_before r.stamp rs) y 0 l)) in
            omega (arith, most, pay_at net (paid_before net r.stamp rs) x lt, ap (part net x) paid);
      };
      above_zero = λ i r e.
          (All-contains (λ q. (0 < q.to) × (q.debt.0 ≡ r.debt.0)) (raises_of r.debt.0 rs) r (h.each r.debt.0 (at i r e).1) (at i r e).0).0;
      rises = λ i j a b e f same lt. rise_pair (raises_of a.debt.0 rs) (rise a.debt.0) a b (at i a e).0
          (subst (λ (d : DebtId). Contains (raises_of d.0 rs) b) (sym same) (at j b f).0) lt;
    }

-- a replay keeps how many debts there are
length-replayed : (P : List ℕ) (rs : List Raise) → length (replayed_from P rs) ≡ length P
unfolding replayed_from
length-replayed P [] = refl
length-replayed P (r ∷ rs) = length-replayed (set P r.debt.0 r.to) rs ∙ length-set P r.debt.0 r.to

-- a replay leaves on each debt the amount of its last raise
replayed_at : (P : List ℕ) (rs : List Raise) (x stamp : ℕ) → x < length P → slice_index (replayed_from P rs) x ≡ (ending_from (record { value = slice_index P x; stamp = stamp }) (raises_of x rs)).value
unfolding replayed_from
replayed_at P [] x stamp lt = refl
replayed_at P (r ∷ rs) x stamp lt =
    grind (
      arith,
      nat_tests,
      get_or-set_at,
      get_or-set_other {A = ℕ},
      length-set {A = ℕ},
      replayed_at (set P r.debt.0 r.to) rs x r.stamp,
      replayed_at (set P r.debt.0 r.to) rs x stamp,
    )

-- what raises replay to are the values of what they leave
pub replayed_is : (net : Net) (rs : List Raise) → replayed net rs ≡ map (λ p. p.value) (start_of net rs)
replayed_is net rs =
    let n = length net.debts in
    ext_get_or 0 (replayed net rs) (map (λ p. p.value) (start_of net rs))
    (length-replayed (zeros net) rs ∙ length-replicate n 0 ∙ sym (Rattle.std.proofs.lemmas.List.length-map (start_of net rs) (λ (p : Payment). p.value) ∙ length-tabled n (λ x. last_payment x rs)))
    (λ x lt.
    let l : x < n = omega (arith, lt, length-replayed (zeros net) rs, length-replicate {A = ℕ} n 0) in
    replayed_at (zeros net) rs x 0 (omega (arith, l, length-replicate {A = ℕ} n 0))
    ∙ ap (λ (m : ℕ). (ending_from (record { value = m; stamp = 0 }) (raises_of x rs)).value) (zeros_at n x)
    ∙ sym (Rattle.std.proofs.lemmas.List.get_or-map (λ (p : Payment). p.value) (start_of net rs) x unpaid 0 (omega (arith, l, length-tabled n (λ y. last_payment y rs))) ∙ ap (λ (p : Payment). p.value) (tabled_at n (λ y. last_payment y rs) x unpaid l)))
