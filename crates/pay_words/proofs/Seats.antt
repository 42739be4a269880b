-- What a seat has in memory after each of its steps.
use Rattle.pay_words.specs.Holding.{holds}
use Rattle.pay_words.specs.Positions.{position_of}
use Rattle.clear_core.specs.Clearing.{receipts}
use Rattle.std.proofs.lemmas.Bool.{cond_both}
use Rattle.pay_words.proofs.Splits.{goes_from, stays_if, sound_fewer}
use Rattle.pay_words.proofs.Tables.{length-tabled}
use Rattle.std.proofs.Common.{◌≡◌, ℕ, ◌+◌, ◌<◌, ◌≤◌, max, [], length, set, true, false, true≢false, refl, sym, ap, ◌∙◌, subst, arith}
use Rattle.std.specs.Prelude.{Bool, not, slice_index_or, ◌==◌}
use Rattle.std.proofs.lemmas.Bool.{false_from_ne_true, true_from_ne_false, eqb-true, eqb-false}
use Rattle.clr_net.specs.declared.TheConstants.{MAX_CLAIM, MAX_OWED}
use Rattle.clr_net.specs.Limits.{IsNetwork}
use Rattle.clr_net.specs.Net.{Net, debtor_of}
use Rattle.clear_core.proofs.Pay.{part_within}
use Rattle.clear_core.proofs.Rows.{claim_in_limit}
use Rattle.pay_words.specs.declared.payment.Payment.{Payment}
use Rattle.pay_words.specs.declared.view.View.{View}
use Rattle.pay_words.specs.Steps.{after_take, showing, part_of, rest_of, both_of}
use Rattle.pay_words.specs.Memory.{HasAll, HasOwn, IsInMemory, SeatMemory, Tells, seat_memory}
use Rattle.pay_words.specs.Holding.{HoldsAllOf}
use Rattle.pay_words.specs.Sound.{IsSound}
use Rattle.pay_words.specs.Paying.{MayRaise, looked, raised}
use Rattle.pay_words.specs.Ringing.{rung, took}
use Rattle.pay_words.specs.Views.{BoardView, Place, SeatView}
use Rattle.pay_words.proofs.Rings.{sound_rung, sound_took}
use Rattle.pay_words.proofs.Splits.{MayHand}
use Rattle.pay_words.proofs.Joins.{sound_both}
use Rattle.pay_words.proofs.SeatMemories.{all_back, all_without, own_handed, own_raised}

module _ (v : View) (p : SeatMemory) (clock seats : ℕ) (h : IsInMemory v p clock seats) where
  -- the clock is at most the most units of all claims
  pub clock_in_limit : clock ≤ MAX_OWED
  clock_in_limit = omega (arith, h.clock_is, h.sound.clock_below, h.sound.network.owed_in_limit)

  -- a look changes the clock alone of what a seat has in memory
  pub kept_look : (x : ℕ) (q : Payment) (now : ℕ) → now ≡ max clock q.stamp → IsSound (looked v.shown x q) → IsInMemory (showing v (looked v.shown x q)) p now seats
  kept_look x q now e sound = assumption (e ∙ ap (λ (n : ℕ). max n q.stamp) h.clock_is)

  -- after a raise its own list has the new amount, and its clock is one more
  pub kept_raise : (x to : ℕ) → x < length v.shown.net.debts → v.shown.master ≡ false → IsSound (raised v.shown x to) → IsInMemory (showing v (raised v.shown x to)) (record p { own = set p.own x to }) (clock + 1) seats
  kept_raise x to lt plain sound =
      let clock = ap (λ (n : ℕ). n + 1) h.clock_is in
      let own = λ (e : v.shown.master ≡ false). own_raised v.shown.net v.shown.banks v.shown.paid p x to
      (omega (arith, lt, h.sound.over.paid)) (h.at_worker e) in
      let none : v.shown.master ≡ true → HasAll v.shown.net v.shown.banks (set v.shown.paid x to)
      (record p { own = set p.own x to }) = λ e. absurd (true≢false (sym e ∙ plain)) in
      assumption (sound, clock, own, none, h)

  -- of a debt that the seat may raise, its own list has what is paid
  pub own_there : (x to : ℕ) → MayRaise v.shown.net v.shown x to → Tells p.own v.shown.paid x
  own_there x to may = (h.at_worker may.not_the_master).tells x may.debt may.debtor

  -- a seat is the master where the number of its lists is not 0
  pub master_by_lists : (n : ℕ) → n ≡ length p.lists → not (n == 0) ≡ v.shown.master
  master_by_lists n f = by_test (n == 0) refl
    where
      by_test : (none : Bool) → (n == 0) ≡ none → not none ≡ v.shown.master
      by_test true e = sym (false_from_ne_true v.shown.master
          (λ m. let all = h.at_master m in omega (arith, eqb-true n 0 e, f, all.lists, h.some_workers)))
      by_test false e = sym (true_from_ne_false v.shown.master (λ m. eqb-false n 0 e (f ∙ ap length (h.at_worker m).no_lists)))

-- a seat is over the network of its board, seen from within
pub net_within : (s t : SeatView) (b c : BoardView) → s ≡ t → b ≡ c → t.shows.net ≡ c.net → s.shows.net ≡ b.net
net_within s t b c e f same = ap (λ (x : SeatView). x.shows.net) e ∙ same ∙ sym (ap (λ (x : BoardView). x.net) f)

-- what a seat of a board may raise, seen from within
pub may_within : (net : Net) (s t : SeatView) (x to : ℕ) → IsNetwork s.shows.net → s ≡ t → t.shows.net ≡ net
    → MayRaise net t.shows x to → MayRaise s.shows.net s.shows x to × (to ≤ MAX_CLAIM)
may_within net s t x to network e f may =
    let here : MayRaise s.shows.net s.shows x to =
    subst (λ (y : SeatView). MayRaise y.shows.net y.shows x to) (sym e) (subst (λ (n : Net). MayRaise n t.shows x to) (sym f) may) in (
      here,
      omega (arith, here.within, part_within s.shows.net x (receipts s.shows.net s.shows.sights (debtor_of s.shows.net x)) here.debt, claim_in_limit s.shows.net x network),
    )

-- what is asked of a debt of a seat, seen from within
pub debt_within : (s t : SeatView) (x : ℕ) → s ≡ t → x < length t.shows.net.debts → holds t.shows (debtor_of t.shows.net x) ≡ true
    → (x < length s.shows.net.debts) × (holds s.shows (debtor_of s.shows.net x) ≡ true)
debt_within s t x e lt held =
    subst (λ (y : SeatView). (x < length y.shows.net.debts) × (holds y.shows (debtor_of y.shows.net x) ≡ true)) (sym e) (lt, held)

-- what the master has in memory, by its lists
pub at_master : (v : View) (p : SeatMemory) (clock seats : ℕ) → v.shown.master ≡ true → v.live ≡ true → IsSound v.shown
    → clock ≡ v.shown.clock → seats ≡ v.shown.seats → 0 < p.workers
    → HasAll v.shown.net v.shown.banks v.shown.paid p → IsInMemory v p clock seats
at_master v p clock seats chief on sound time many some' all =
    let none : v.shown.master ≡ false → HasOwn v.shown.net v.shown.banks v.shown.paid p = λ e. absurd (true≢false (sym chief ∙ e)) in
    assumption

-- what the seats have in memory after a seat was handed out
module _ (i : ℕ) (v : View) (p : SeatMemory) (clock seats : ℕ) (h : IsInMemory v p clock seats) (chief : v.shown.master ≡ true) where
  -- the new seat has the list of its worker, and the clock of the master
  pub kept_handed : i < p.workers → HoldsAllOf p.workers i v.shown → IsInMemory (part_of p.workers i v) (seat_memory (slice_index_or p.lists i []) [] [] p.workers i) clock 0
  kept_handed low all =
      let own = own_handed v.shown.net v.shown.banks v.shown.paid p (h.at_master chief) i low all in
      let none : false ≡ true → HasAll v.shown.net (part_of p.workers i v).shown.banks v.shown.paid
      (seat_memory (slice_index_or p.lists i []) [] [] p.workers i) = λ e. absurd (true≢false (sym e)) in
      let sound : IsSound (part_of p.workers i v).shown =
      sound_fewer v _ _ _ _ _ _ (goes_from p.workers i v.shown all) (length-tabled _ _) h.sound in
      assumption (own, none, sound, h)

  -- the master has no list for that worker then, and counts a seat more
  pub kept_without : IsInMemory (rest_of p.workers i v) (record p { lists = set p.lists i [] }) clock (seats + 1)
  kept_without = at_master (rest_of p.workers i v) _ _ _ chief h.live
      (sound_fewer v _ _ _ _ _ _ (λ b e. (stays_if p.workers i v.shown b e).0) (length-tabled _ _) h.sound)
      h.clock_is (ap (λ (n : ℕ). n + 1) h.seats_are)
      h.some_workers (all_without v.shown.net v.shown.banks v.shown.paid p (h.at_master chief) i)

-- and after one was taken back
module _ (v w : View) (p q : SeatMemory) (clock their_clock seats their_seats : ℕ) (f : IsInMemory v p clock seats) (g : IsInMemory w q their_clock their_seats)
    (same : w.shown.net ≡ v.shown.net) (chief : v.shown.master ≡ true) (plain : w.shown.master ≡ false) (workers : q.workers ≡ p.workers) where
  -- the master has the list of the seat again, and the later of both clocks
  pub kept_both : (now : ℕ) → now ≡ max clock their_clock → IsInMemory (both_of v w) (record p { lists = set p.lists q.worker q.own }) now seats
  kept_both now e = at_master (both_of v w) _ _ _ chief f.live (sound_both v.shown w.shown same f.sound g.sound)
      (e ∙ (λ i. max (f.clock_is i) (g.clock_is i))) f.seats_are f.some_workers
      (all_back v.shown.net v.shown.banks w.shown.banks v.shown.paid w.shown.paid p q f.sound.network
      (f.at_master chief) (rw same at (g.at_worker plain)) workers)

  -- the master has a list for the seat's worker
  pub list_there : q.worker < length p.lists
  list_there = omega (arith, (g.at_worker plain).worker, workers, (f.at_master chief).lists)

-- a seat has as many workers as the board
pub as_many : (s t : SeatView) (place : Place) → s ≡ t → t.table ≡ place → s.table.workers ≡ place.workers
as_many s t place e g = ap (λ (x : SeatView). x.table.workers) e ∙ ap (λ (x : Place). x.workers) g

-- so seats of one board have as many
pub same_workers : (s t u v : SeatView) (place : Place) → s ≡ t → u ≡ v → t.table ≡ place → v.table ≡ place → u.table.workers ≡ s.table.workers
same_workers s t u v place e f g h = as_many u v place f h ∙ sym (as_many s t place e g)

-- the master once it has left a number in the roll word
pub kept_rolled : (v : View) (p : SeatMemory) (clock seats n : ℕ) → IsInMemory v p clock seats → IsInMemory (record v { rolled = n }) p clock seats
kept_rolled v p clock seats n h = assumption

-- a master that left a number two above that of its seats may hand out the banks of a worker
pub may_hand : (v : View) (n workers i : ℕ) → v.live ≡ true → v.shown.master ≡ true → HoldsAllOf workers i v.shown → v.shown.seats + 2 ≤ n → MayHand workers i (record v { rolled = n })
may_hand v n workers i on chief all room = record { live = on; chief = chief; all = all; room = room }

-- that a seat holds all banks of a worker, seen from within
pub holds_within : (s t : SeatView) (ws vs i j : ℕ) → s ≡ t → ws ≡ vs → i ≡ j → HoldsAllOf vs j t.shows → HoldsAllOf ws i s.shows
holds_within s t ws vs i j e f g all = subst (λ (y : ℕ × ℕ × SeatView). HoldsAllOf y.0 y.1 y.2.shows) (λ k. (sym f k, sym g k, sym e k)) all

-- what a seat has in memory does not depend on bells
pub kept_rung : (v : View) (p : SeatMemory) (clock seats b : ℕ) → IsInMemory v p clock seats → IsInMemory (showing v (rung v.shown b)) p clock seats
kept_rung v p clock seats b h = assumption (sound_rung v.shown b h.sound, h)

-- nor does it depend on a bell that was taken
pub kept_take : (v : View) (p : SeatMemory) (clock seats b n : ℕ) → IsInMemory v p clock seats → IsInMemory (showing v (after_take v.shown b n)) p clock seats
kept_take v p clock seats b n h = cond_both (n == 0) v.shown (took v.shown b) (λ s. IsInMemory (showing v s) p clock seats) (λ _. h)
    (λ _. assumption (sound_took v.shown b h.sound, h))

-- the place of a bell, seen from within
pub bell_at : (s t : SeatView) (b c : BoardView) (place k : ℕ) → s ≡ t → b ≡ c → t.shows.net ≡ c.net
    → place ≡ length c.net.debts + 1 + k → place ≡ length s.shows.net.debts + 1 + k
bell_at s t b c place k e f same d =
    omega (arith, d, ap (λ (n : Net). length n.debts) (ap (λ (x : SeatView). x.shows.net) e ∙ same))

-- where the word of a debt stands is the same within
pub position_at : (s t : SeatView) (b c : BoardView) (i x : ℕ) → s ≡ t → b ≡ c → t.shows.net ≡ c.net → i ≡ position_of c.net x → i ≡ position_of s.shows.net x
position_at s t b c i x e f same is = is ∙ ap (λ (n : Net). position_of n x) (sym (net_within s t b c e f same ∙ ap (λ (y : BoardView). y.net) f))
