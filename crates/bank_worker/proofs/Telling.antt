-- What the acts of a seat tell of the visits of its worker.
use Rattle.std.proofs.Common.{◌≡◌, ℕ, ◌+◌, ◌<◌, false, List, [], ◌∷◌, ◌++◌, length, map, sym, ap, arith, append-nil, append_assoc, length-append, refl}
use Rattle.std.specs.Prelude.{cond, flat_map}
use Rattle.std.proofs.lemmas.List.Concat.{flat_map-cons}
use Rattle.std.proofs.lemmas.List.Elements.{All-push}
use Rattle.std.proofs.lemmas.List.Sums.{sum_by-append, sum_by-cons}
use Rattle.clr_net.specs.Net.{Net}
use Rattle.bank_desk.specs.Desks.{BankView}
use Rattle.pay_words.specs.declared.view.Act.{Act}
use Rattle.pay_words.specs.Views.{look_at, raise_of, ring_of, take_of}
use Rattle.bank_worker.specs.Looks.{last_seen, looks_at}
use Rattle.bank_worker.specs.Raises.{debts_of}
use Rattle.bank_worker.specs.Rings.{called_by}
use Rattle.bank_worker.specs.Told.{AreTold, RaisesWhatItLoaded, VisitMade, acts_with_take, is_take, takes_in}
use Rattle.bank_worker.specs.Views.{WorkerView, desk_at}
use Rattle.bank_worker.specs.Visits.{AreVisitsFrom, IsAllVisits, IsCalledVisit, IsSameWorker, acts_of}
use Rattle.bank_worker.proofs.Sweeping.{same_worker_then}
use Rattle.std.proofs.lemmas.Grind.{flat_map-append}

-- no visit
told_none : (w : WorkerView) → AreTold w w
told_none w = record {
  visits = [];
  as_many = omega arith;
  known = λ k d lt. absurd (omega (arith, lt));
  divide = λ k d lt. absurd (omega (arith, lt));
  acts = sym (append-nil w.seat.shows.acts);
  raises = sym (append-nil w.seat.shows.raises);
  journal = sym (append-nil w.journal);
}

-- one visit more
told_more : (old cur new : WorkerView) (place n : ℕ) → IsSameWorker old cur → AreTold old cur → IsCalledVisit place n cur new → AreTold old new
told_more old cur new place n same h v =
    let notes = v.visited.seat.notes in
    let last : VisitMade = record { place = place; found = last_seen new.seat.shows; made = notes.made } in
    record {
      visits = h.visits ++ last ∷ [];
      as_many = omega (arith, v.counted, h.as_many, length-append h.visits (last ∷ []));
      known = All-push (λ (v : VisitMade). v.place < length old.desks) h.visits last h.known (rw same.desks at v.known);
      divide = All-push (RaisesWhatItLoaded old.seat.shows.net old.desks) h.visits last h.divide (rw (same.desks, same.seat.net) at notes.raised);
      acts = simp (notes.acts, h.acts, same.seat.net, same.desks, flat_map-append, append-nil, append_assoc);
      raises = simp (notes.grew, h.raises, flat_map-append, append-nil, append_assoc);
      journal = simp (v.visited.journal, h.journal, flat_map-append, append-nil, append_assoc);
    }

-- visits one by one leave the worker the same, and are told by what was done
told_from : (old new : WorkerView) (ns : List ℕ) → AreVisitsFrom old ns new → IsSameWorker old new × AreTold old new
told_from old new [] is = rw is (assumption (told_none old))
told_from old new (n ∷ ns) v =
    let h = told_from old v.0 ns v.2 in
    (same_worker_then old v.0 new h.0 v.3.same, told_more old v.0 new v.1 n h.0 h.1 v.3)

-- what all visits did is told by what was done with the seat
pub told : (n : ℕ) (old new : WorkerView) → IsAllVisits n old new → AreTold old new
told n old new h = (told_from old new h.units h.visits).1

-- the takes of two lists
takes_both : (xs ys : List Act) → takes_in (xs ++ ys) ≡ takes_in xs + takes_in ys
takes_both xs ys = sum_by-append (λ x. cond (is_take x) 1 0) xs ys

-- what is no take counts for none
takes_none : {A : Type 0} (f : A → Act) (xs : List A) → ((x : A) → is_take (f x) ≡ false) → takes_in (map f xs) ≡ 0
takes_none f [] none = refl
takes_none f (x ∷ xs) none = rw (sum_by-cons (λ a. cond {A = ℕ} (is_take a) 1 0) (f x) (map f xs), none x) (omega (arith, takes_none f xs none))

-- each visit begins with a take, and has no other
takes_each : (net : Net) (desks : List BankView) (vs : List VisitMade) → takes_in (flat_map (acts_with_take net desks) vs) ≡ length vs
takes_each net desks [] = refl
takes_each net desks (v ∷ vs) =
    let desk = desk_at desks v.place in
    let looks = looks_at v.found desk.debts_in in
    let raises = map raise_of (debts_of v.made) in
    omega (
      arith,
      ap takes_in (flat_map-cons (acts_with_take net desks) v vs),
      takes_both (acts_with_take net desks v) (flat_map (acts_with_take net desks) vs),
      sum_by-cons (λ a. cond (is_take a) 1 0) (take_of desk.bank) (acts_of net desk v.found v.made),
      takes_both (looks ++ raises) (map ring_of (called_by net v.made)),
      takes_both looks raises,
      takes_none (λ x. look_at x (v.found x)) desk.debts_in (λ x. refl),
      takes_none raise_of (debts_of v.made) (λ x. refl),
      takes_none ring_of (called_by net v.made) (λ b. refl),
      takes_each net desks vs,
    )

-- as many bells were found up as visits were counted
pub takes_counted : (n : ℕ) (old new : WorkerView) → IsAllVisits n old new → takes_in new.seat.shows.acts + old.visits ≡ takes_in old.seat.shows.acts + new.visits
takes_counted n old new h =
    let t = told n old new h in
    let each = flat_map (acts_with_take old.seat.shows.net old.desks) t.visits in
    omega (arith, ap takes_in t.acts, takes_both old.seat.shows.acts each, takes_each old.seat.shows.net old.desks t.visits, t.as_many)
