-- A sweep goes over the desks in file order, and a round is such sweeps.
use Rattle.std.proofs.Common.{◌≡◌, ℕ, ◌+◌, ◌<◌, ◌≤◌, List, [], ◌∷◌, ◌++◌, length, get_or, map, inl, inr, refl, sym, ap, ◌∙◌, subst, arith, append-nil, append_assoc, length-append, le_refl}
use Rattle.std.proofs.lemmas.Bool.{cases_lt}
use Rattle.std.proofs.lemmas.Grind.{flat_map-append}
use Rattle.std.proofs.lemmas.List.{get_or_append_left, get_or_default}
use Rattle.std.proofs.Math.Seq.{get_or-append_seam}
use Rattle.std.proofs.lemmas.List.Concat.{flat_map-cons}
use Rattle.std.proofs.lemmas.List.Elements.{All-append}
use Rattle.std.proofs.lemmas.List.Quantifiers.{all_pairs_push}
use Rattle.clr_net.specs.Net.{Net}
use Rattle.clear_core.specs.declared.event.Raise.{Raise}
use Rattle.bank_desk.specs.Desks.{BankView}
use Rattle.pay_words.specs.declared.view.Act.{Act}
use Rattle.pay_words.specs.Views.{look_at, raise_of, ring_of, take_of}
use Rattle.pay_words.specs.declared.payment.Payment.{Payment}
use Rattle.bank_worker.specs.Raises.{debts_of}
use Rattle.bank_worker.specs.Rings.{called_by}
use Rattle.bank_worker.specs.Rising.{Rises}
use Rattle.bank_worker.specs.Sweeps.{AreSweeps, bank_taken, banks_taken}
use Rattle.bank_worker.specs.Views.{WorkerView, desk_at, desks_held}
use Rattle.bank_worker.specs.Visits.{acts_of}
use Rattle.bank_worker.proofs.Manned.{banks_rise}

-- what is no take takes no bank
takes_nothing : {A : Type 0} (f : A → Act) (xs : List A) → ((x : A) → bank_taken (f x) ≡ []) → banks_taken (map f xs) ≡ []
takes_nothing f [] none = refl
takes_nothing f (x ∷ xs) none = flat_map-cons bank_taken (f x) (map f xs) ∙ rw (none x) (takes_nothing f xs none)

-- nor does what follows the take of a visit
pub visit_takes_nothing : (net : Net) (desk : BankView) (found : ℕ → Payment) (made : List Raise) → banks_taken (acts_of net desk found made) ≡ []
visit_takes_nothing net desk found made = simp (
  flat_map-append,
  takes_nothing (λ x. look_at x (found x)) desk.debts_in (λ x. refl),
  takes_nothing raise_of (debts_of made) (λ x. refl),
  takes_nothing ring_of (called_by net made) (λ b. refl),
)

-- what a sweep has done before the place k: the banks of the desks from there on stand after all that were taken
pub record HasSwept (old cur : WorkerView) (k : ℕ) : Type 0 where
  pub made : List Act
  pub acts : cur.seat.shows.acts ≡ old.seat.shows.acts ++ made
  pub rise : Rises (banks_taken made)
  pub before : (i : ℕ) → i < length (banks_taken made) → (j : ℕ) → k ≤ j → j < length cur.desks
      → get_or (banks_taken made) i 0 < (desk_at cur.desks j).bank

-- before its first visit a worker has swept nothing
pub order_start : (w : WorkerView) → HasSwept w w 0
order_start w = record {
  made = [];
  acts = sym (append-nil w.seat.shows.acts);
  rise = λ i j d lt l. absurd (omega (arith, l));
  before = λ i l. absurd (omega (arith, l));
}

-- desks are passed
pub order_past : (old cur : WorkerView) (from k : ℕ) → from ≤ k → HasSwept old cur from → HasSwept old cur k
order_past old cur from k le h = record { made = h.made; acts = h.acts; rise = h.rise; before = λ i l j lj. h.before i l j (omega (arith, le, lj)) }

-- a list that rises, and one number more that is above all of it
rises_more : (xs : List ℕ) (y : ℕ) → Rises xs → ((i : ℕ) → i < length xs → get_or xs i 0 < y) → Rises (xs ++ y ∷ [])
rises_more xs y rise above = all_pairs_push (λ a b. a < b) xs y rise (λ k d l. omega (arith, get_or_default xs k d 0 l, above k l))

-- the bell of the desk at the place k was taken, and then no other
pub order_take : (old cur new : WorkerView) (k : ℕ) (rest : List Act) → k < length cur.desks → cur.desks ≡ desks_held cur.seat.shows → new.desks ≡ cur.desks
    → banks_taken rest ≡ [] → new.seat.shows.acts ≡ cur.seat.shows.acts ++ (take_of (desk_at cur.desks k).bank ∷ rest)
    → HasSwept old cur k → HasSwept old new (k + 1)
order_take old cur new k rest lk held same none acts h =
    let b = (desk_at cur.desks k).bank in
    let xs = banks_taken h.made in
    let taken : banks_taken (h.made ++ (take_of b ∷ rest)) ≡ xs ++ b ∷ [] =
    flat_map-append bank_taken h.made (take_of b ∷ rest)
    ∙ ap (λ (ys : List ℕ). xs ++ ys) (flat_map-cons bank_taken (take_of b) rest ∙ ap (λ (ys : List ℕ). b ∷ ys) none) in
    record {
      made = h.made ++ (take_of b ∷ rest);
      acts = acts ∙ ap (λ (zs : List Act). zs ++ (take_of b ∷ rest)) h.acts ∙ append_assoc old.seat.shows.acts h.made (take_of b ∷ rest);
      rise = subst Rises (sym taken) (rises_more xs b h.rise (λ i l. h.before i l k (le_refl k) lk));
      before = rw (taken, same) (λ i l j lj here. elim (cases_lt i (length xs)) [
        | inl lt ↦ omega (arith, get_or_append_left xs (b ∷ []) 0 i lt, h.before i lt j (omega (arith, lj)) here)
        | inr ge ↦
            let last : i ≡ length xs = omega (arith, ge, l, length-append xs (b ∷ [])) in
            omega (arith, ap (λ (n : ℕ). get_or (xs ++ b ∷ []) n 0) last, get_or-append_seam xs b [] 0, banks_rise cur.seat.shows cur.desks k j held (omega (arith, lj)) here)
      ]);
    }

-- so a sweep is one
pub order_swept : (old cur : WorkerView) (k : ℕ) → HasSwept old cur k → AreSweeps 1 old cur
order_swept old cur k h = record {
  parts = h.made ∷ [];
  few = omega arith;
  in_file_order = λ i d l. let e : i ≡ 0 = omega (arith, l) in rw e h.rise;
  acts = h.acts ∙ ap (λ (zs : List Act). old.seat.shows.acts ++ zs) (sym (append-nil h.made));
}

-- no sweep, some after others, and fewer than so many
pub sweeps_none : (w : WorkerView) → AreSweeps 0 w w
sweeps_none w = record { parts = []; few = omega arith; in_file_order = λ i d l. absurd (omega (arith, l)); acts = sym (append-nil w.seat.shows.acts) }

-- some sweeps and then others are as many as both
pub sweeps_then : (a b c : WorkerView) (k m n : ℕ) → k + m ≤ n → AreSweeps k a b → AreSweeps m b c → AreSweeps n a c
sweeps_then a b c k m n le g h = record {
  parts = g.parts ++ h.parts;
  few = omega (arith, le, g.few, h.few, length-append g.parts h.parts);
  in_file_order = All-append (λ acts. Rises (banks_taken acts)) g.parts h.parts g.in_file_order h.in_file_order;
  acts = simp (h.acts, g.acts, flat_map-append, append_assoc);
}

-- at most k sweeps are at most n, where k is at most n
pub sweeps_within : (old new : WorkerView) (k n : ℕ) → k ≤ n → AreSweeps k old new → AreSweeps n old new
sweeps_within old new k n le h = record { parts = h.parts; few = omega (arith, le, h.few); in_file_order = h.in_file_order; acts = h.acts }
