-- The next called bank of a worker, and the creditors that are called.
use Rattle.std.proofs.Common.{◌≡◌, ℕ, ◌+◌, ◌/◌, ◌<◌, ◌≤◌, ◌++◌, Bool, true, false, true≢false, List, [], append_assoc, append-nil, drop, length, get_or, refl, sym, ap, ◌∙◌, subst, arith, eq-eqb, below_more, inl, inr}
use Rattle.std.specs.Prelude.{◌==◌, ◌||◌}
use Rattle.std.proofs.lemmas.List.{get_or_past, get_or_default}
use Rattle.std.proofs.Math.Seq.{drop-append_seam}
use Rattle.clear_core.specs.declared.event.Raise.{Raise}
use Rattle.std.proofs.lemmas.Bool.{cases_lt, false_from_ne_true, or_right}
use Rattle.clr_net.specs.Limits.{IsNetwork}
use Rattle.clr_net.specs.Net.{Net, creditor_of}
use Rattle.clr_net.specs.declared.TheConstants.{MAX_BANKS}
use Rattle.bank_desk.specs.Desks.{BankView}
use Rattle.pay_words.specs.declared.view.Shown.{Shown}
use Rattle.pay_words.specs.Views.{holds, is_marked}
use Rattle.bank_worker.specs.BankSets.{AreInPlace, HaveNoneInBoth, is_in}
use Rattle.bank_worker.specs.Called.{AreCalledOrAtRest, AreCalledTo, AreCreditorsIn, CallsOthers, KeepsOthers, StayIn}
use Rattle.bank_worker.specs.Raises.{debts_of}
use Rattle.bank_worker.specs.Rings.{creditors_of}
use Rattle.bank_worker.specs.Views.{WorkerView, desk_at, desks_held}
use Rattle.bank_worker.specs.Visits.{IsSameSeat, IsSameWorker, IsVisited, with_bell}
use Rattle.bank_worker.proofs.Manned.{desk_is}
use Rattle.bank_worker.proofs.PlacesOfBanks.{not_after}
use Rattle.bank_worker.proofs.Raising.{raised_in_either, length-debts_of}
use Rattle.bank_worker.proofs.Ringing.{creditor_noted, debt_of_raise, length-creditors_of}

-- a called bank of the set from one on stands in no earlier place, where none before it is in both sets: none that stands between
-- them is called, and the one that stands there is
pub next_place : (banks mine called : List ℕ) (workers from b : ℕ) → AreInPlace banks mine workers → from < length banks → get_or banks from 0 ≤ b → is_in mine b ≡ true
    → is_in called b ≡ true → HaveNoneInBoth mine called (get_or banks from 0) b
    → (from ≤ b / workers) × ((k : ℕ) → from ≤ k → k < b / workers → is_in called (get_or banks k 0) ≡ false)
    × (is_in called (get_or banks (b / workers) 0) ≡ true)
next_place banks mine called workers from b h lt ge e there none =
    let p = h.out.only b e in
    let place : b / workers ≡ p.0 = ap (λ n. n / workers) (sym p.2) ∙ (h.out.placed p.0 p.1).1 in (
      elim (cases_lt p.0 from) [ inl less ↦ absurd (omega (arith, p.2, h.rise p.0 from 0 less lt)) | inr le ↦ omega (arith, place) ],
      λ k le less.
          let l : k < p.0 = omega (arith, place) in
          let in_list : k < length banks = omega (arith, p.1) in
          none (get_or banks k 0) (not_after banks from k h.rise le in_list) (omega (arith, p.2, h.rise k p.0 0 l p.1)) (h.out.placed k in_list).0,
      ap (λ k. is_in called (get_or banks k 0)) place ∙ ap (λ n. is_in called n) p.2 ∙ there,
    )

-- where all banks are called, so are those of the desks
pub all_called : (s : Shown) (desks : List BankView) (called : List ℕ) → IsNetwork s.net → desks ≡ desks_held s
    → ((b : ℕ) → b < MAX_BANKS → is_in called b ≡ true) → AreCalledOrAtRest called s desks
all_called s desks called network are all k l out =
    let known = (desk_is s desks k are l).bank in
    absurd (true≢false (sym (all (desk_at desks k).bank (omega (arith, known, network.banks_in_limit))) ∙ out))

-- the creditors that are noted are banks that there may be
pub known_creditors : (net : Net) (noted : List ℕ) → IsNetwork net → noted ≡ creditors_of net → (x : ℕ) → get_or noted x 0 < MAX_BANKS
known_creditors net noted network are x = elim (cases_lt x (length noted)) [
  | inl lt ↦
      let known : x < length net.debts = omega (arith, lt, ap length are, length-creditors_of net) in
      omega (arith, creditor_noted net noted x are known, (network.each_debt x known).creditor_known, network.banks_in_limit)
  | inr ge ↦ omega (arith, get_or_past noted x 0 ge)
]

-- a set with more banks has those that it had
pub stay_in : (old new : List ℕ) (more : ℕ → Bool) → ((b : ℕ) → is_in new b ≡ (is_in old b || more b)) → StayIn old new
stay_in old new more e b h = e b ∙ ap (λ v. v || more b) h

-- what was in a set stays in it where the banks of another are added up to a word
pub stay_in_part : (old more new : List ℕ) (last : ℕ) → ((b : ℕ) → b / 64 ≤ last / 64 → is_in new b ≡ (is_in old b || is_in more b))
    → ((b : ℕ) → last / 64 < b / 64 → is_in new b ≡ is_in old b) → StayIn old new
stay_in_part old more new last added others b h = elim (cases_lt (last / 64) (b / 64)) [
  | inl l ↦ others b l ∙ h
  | inr g ↦ added b g ∙ ap (λ v. v || is_in more b) h
]

-- and those of the other are in it, up to the last bank
pub has_part : (old more new : List ℕ) (last : ℕ) → ((b : ℕ) → b / 64 ≤ last / 64 → is_in new b ≡ (is_in old b || is_in more b))
    → (b : ℕ) → b ≤ last → is_in more b ≡ true → is_in new b ≡ true
has_part old more new last added b le h = added b (omega (arith, le)) ∙ or_right (is_in old b) (is_in more b) h

-- and this one
pub now_in : (old new : List ℕ) (c : ℕ) → ((b : ℕ) → is_in new b ≡ (is_in old b || (b == c))) → is_in new c ≡ true
now_in old new c e = e c ∙ or_right (is_in old c) (c == c) (eq-eqb c c refl)

-- where more banks are called, those that are not are at rest still
pub called_still : (s : Shown) (desks : List BankView) (old new : List ℕ) → StayIn old new → AreCalledOrAtRest old s desks → AreCalledOrAtRest new s desks
called_still s desks old new stay h k l out =
    h k l (false_from_ne_true (is_in old (desk_at desks k).bank) (λ is. true≢false (sym (stay (desk_at desks k).bank is) ∙ out)))

-- the bank of one raise more
pub called_more : (noted old new : List ℕ) (rs : List Raise) (n : ℕ) (d : Raise) → n < length rs → AreCalledTo noted old rs n → StayIn old new
    → ((get_or rs n d).debt.0 < length noted → is_in new (get_or noted (get_or rs n d).debt.0 0) ≡ true) → AreCalledTo noted new rs (n + 1)
called_more noted old new rs n d lt h stay here x lx = below_more (λ j. get_or (debts_of rs) j 0 ≡ x → is_in new (get_or noted x 0) ≡ true) n
    (λ j l at. stay (get_or noted x 0) (h x lx j l at))
    (λ is. let e = sym (debt_of_raise rs n d lt) ∙ is in rw e at (here (rw e lx)))

-- where the list has the creditor of each debt, all creditors are called
pub creditors_called : (net : Net) (noted called : List ℕ) (rs : List Raise) → noted ≡ creditors_of net → AreCalledTo noted called rs (length rs) → AreCreditorsIn net called rs
creditors_called net noted called rs are h x lx raised =
    subst (λ b. is_in called b ≡ true) (creditor_noted net noted x are lx)
    (h x (omega (arith, lx, ap length are, length-creditors_of net)) raised.0 (omega (arith, raised.1, length-debts_of rs))
    (get_or_default (debts_of rs) raised.0 0 x raised.1 ∙ raised.2))

-- where nothing was raised there is nobody to call
pub calls_none : (w : WorkerView) (called : List ℕ) → CallsOthers w w called
calls_none w called = record { made = []; grew = sym (append-nil w.journal); rung = λ x lx o other. absurd (omega (arith, o.1)) }

-- banks of others stay called, and nothing is raised
pub calls_kept : (old cur new : WorkerView) (called now : List ℕ) → new.journal ≡ cur.journal → KeepsOthers old.seat.shows called now
    → CallsOthers old cur called → CallsOthers old new now
calls_kept old cur new called now same kept h = record {
  made = h.made;
  grew = same ∙ h.grew;
  rung = λ x lx o other. kept (creditor_of old.seat.shows.net x) other (h.rung x lx o other);
}

-- banks of others stay called, and more are raised, whose creditors are called
pub calls_more : (old cur new : WorkerView) (called now : List ℕ) → IsSameSeat old.seat.shows cur.seat.shows → KeepsOthers cur.seat.shows called now
    → CallsOthers old cur called → CallsOthers cur new now → CallsOthers old new now
calls_more old cur new called now same kept a b = record {
  made = a.made ++ b.made;
  grew = b.grew ∙ ap (λ rs. rs ++ b.made) a.grew ∙ append_assoc old.journal a.made b.made;
  rung = λ x lx o other.
      let theirs = creditor_of old.seat.shows.net x in
      let not_held : holds cur.seat.shows theirs ≡ false = rw same.banks other in
      elim (raised_in_either a.made b.made x o) [
        | inl first ↦ kept theirs not_held (a.rung x lx first other)
        | inr last ↦ rw same.net at (b.rung x (rw same.net lx) last (rw same.net not_held))
      ];
}

-- so it is from step to step, where more banks are called between them
pub calls_on : (old cur new : WorkerView) (first called more now : List ℕ) → IsSameSeat old.seat.shows cur.seat.shows → StayIn called more
    → KeepsOthers old.seat.shows first called × CallsOthers old cur called → KeepsOthers cur.seat.shows more now × CallsOthers cur new now
    → KeepsOthers old.seat.shows first now × CallsOthers old new now
calls_on old cur new first called more now same stay a b =
    let kept : KeepsOthers cur.seat.shows called now = λ c other is. b.0 c other (stay c is) in (
      (λ c other is. kept c (ap (λ bs. is_marked bs c) same.banks ∙ other) (a.0 c other is)),
      calls_more old cur new called now same kept a.1 b.1,
    )

-- the creditors of the debts that a visit raised are called
pub calls_visit : (cur taken new : WorkerView) (b from n : ℕ) (desk : BankView) (now : List ℕ) → taken ≡ with_bell cur b → IsSameWorker taken new
    → IsVisited desk n taken new → from ≡ length taken.journal → AreCreditorsIn new.seat.shows.net now (drop from new.journal) → CallsOthers cur new now
calls_visit cur taken new b from n desk now is same visited from_is h =
    let made = visited.seat.notes.made in
    let net : new.seat.shows.net ≡ cur.seat.shows.net = same.seat.net ∙ ap (λ (w : WorkerView). w.seat.shows.net) is in
    let noted : drop from new.journal ≡ made = rw (from_is, visited.journal) (drop-append_seam taken.journal made) in
    record {
      made = made;
      grew = visited.journal ∙ ap (λ (w : WorkerView). w.journal ++ made) is;
      rung = λ x lx o other. rw net at (h x (rw net lx) (rw noted o));
    }
