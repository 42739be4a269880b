-- What seats show: the master of a new board, then the master and a new seat when it is handed
-- out, and the master when it takes a seat back.
use Rattle.std.specs.Prelude.{ℕ, ◌+◌, ◌&&◌, ◌||◌, not, max, map, replicate, ◌++◌, true, false, List}
use Rattle.std.specs.Prelude.{[], ◌∷◌, length}
use Rattle.clr_net.specs.Net.{Net, debtor_of, creditor_of}
use Rattle.pay_words.specs.declared.payment.Payment.{Payment}
use Rattle.pay_words.specs.declared.view.Shown.{Shown}
use Rattle.pay_words.specs.Tables.{tabled, chosen}
use Rattle.pay_words.specs.Holding.{holds, is_of_worker}

-- the greatest of some numbers, or 0
abbrev pub greatest : List ℕ → ℕ
greatest [] = 0
greatest (n ∷ ns) = max n (greatest ns)

-- what the master shows of a new board on which these payments stand: it holds all banks, and has
-- seen all payments. Each bell is up and was never taken, and no ring is due
abbrev pub opening : Net → List Payment → Shown
opening net start = record {
  net = net;
  master = true;
  banks = replicate (length net.banks) true;
  sights = map (λ p. p.value) start;
  sight_stamps = map (λ p. p.stamp) start;
  looks = replicate (length net.debts) 0;
  paid = map (λ p. p.value) start;
  paid_stamps = map (λ p. p.stamp) start;
  floor = map (λ p. p.value) start;
  clock = greatest (map (λ p. p.stamp) start);
  raises = [];
  seats = 0;
  pending = replicate (length net.debts) false;
  owes_ring = replicate (length net.debts) false;
  fresh = replicate (length net.banks) true;
  taken = 0;
  acts = [];
}

-- the new seat of the worker i: it has the worker's banks, and nothing was done with it yet
abbrev pub handed : ℕ → ℕ → Shown → Shown
handed workers i s = record s {
  master = false;
  banks = tabled (length s.net.banks) (is_of_worker workers i);
  raises = [];
  seats = 0;
  taken = 0;
  acts = [];
}

-- the master without the banks of the worker i
abbrev pub without : ℕ → ℕ → Shown → Shown
without workers i s = record s {
  banks = tabled (length s.net.banks) (λ b. holds s b && not (is_of_worker workers i b));
  seats = s.seats + 1;
}

-- the master s with all that the seat t shows of its banks, over the network net: of the debts to
-- them what it saw, and of the debts that they owe what it paid, which becomes the floor
abbrev pub rejoined_over : Net → Shown → Shown → Shown
rejoined_over net s t =
    let owes = λ (x : ℕ). holds t (debtor_of net x) in
    let gets = λ (x : ℕ). holds t (creditor_of net x) in
    record s {
      banks = tabled (length net.banks) (λ b. holds s b || holds t b);
      sights = chosen 0 (length net.debts) gets s.sights t.sights;
      sight_stamps = chosen 0 (length net.debts) gets s.sight_stamps t.sight_stamps;
      looks = chosen 0 (length net.debts) gets s.looks t.looks;
      paid = chosen 0 (length net.debts) owes s.paid t.paid;
      paid_stamps = chosen 0 (length net.debts) owes s.paid_stamps t.paid_stamps;
      floor = chosen 0 (length net.debts) owes s.floor t.paid;
      clock = max s.clock t.clock;
      raises = s.raises ++ t.raises;
      pending = chosen false (length net.debts) gets s.pending t.pending;
      owes_ring = chosen false (length net.debts) owes s.owes_ring t.owes_ring;
      fresh = chosen false (length net.banks) (holds t) s.fresh t.fresh;
      taken = s.taken + t.taken;
    }

-- the master s with all that the seat t shows of its banks
abbrev pub rejoined : Shown → Shown → Shown
rejoined s t = rejoined_over s.net s t
