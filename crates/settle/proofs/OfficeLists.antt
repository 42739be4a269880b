-- Offices that are taken up by seats, the first worker's first, and left again, the last worker's first.
use Rattle.std.proofs.Common.{◌≡◌, ℕ, ◌+◌, ◌-◌, ◌<◌, false, IfOk, Ok, Result, List, [], ◌∷◌, ◌++◌, append_assoc, get_or, length, map, sym, ap, ◌∙◌, subst, arith, length-append, inl, inr}
use Rattle.std.proofs.lemmas.List.{get_or-map, length-map, map_push}
use Rattle.std.proofs.Math.ListN.{get_or-append}
use Rattle.std.proofs.Math.Seq.{get_or-append_seam}
use Rattle.std.proofs.lemmas.Bool.{cases_lt}
use Rattle.clr_net.specs.Net.{Net}
use Rattle.pay_words.specs.declared.view.Shown.{Shown}
use Rattle.pay_words.specs.Views.{BoardView, holds, is_marked, is_of_worker}
use Rattle.pay_words.proofs.Tables.{tabled_at}
use Rattle.bank_worker.specs.Offices.{IsOfficeFor, OfficeView}
use Rattle.bank_worker.specs.Views.{WorkerView, banks_held}
use Rattle.bank_worker.proofs.Rooms.{banks_of_seat}
use Rattle.settle.specs.Between.{IsOfBoard}
use Rattle.settle.specs.Offices.{AreOffices, Serves, no_office, office_at}

-- where there is none, they are those of no worker
pub no_office_yet : (net : Net) (workers n : ℕ) (os : List OfficeView) → n ≡ 0 → os ≡ [] → AreOffices net workers n os
no_office_yet net workers n os none e = record { as_many = omega (arith, none, ap length e); each = λ k l. absurd (omega (arith, l, none)) }

-- one office more, that of the worker before
pub office_more : (net : Net) (workers n i : ℕ) (os : List OfficeView) (o : OfficeView) → AreOffices net workers n os
    → workers - 1 - n ≡ i → Serves net workers i o → AreOffices net workers (n + 1) (os ++ o ∷ [])
office_more net workers n i os o are e serves = record {
  as_many = omega (arith, length-append os (o ∷ []), are.as_many);
  each = λ k l. elim (cases_lt k n) [
    | inl lt ↦ rw (get_or-append os (o ∷ []) no_office k (omega (arith, are.as_many))) (are.each k lt)
    | inr ge ↦
        let last : k ≡ length os = omega (arith, are.as_many) in
        let worker : workers - 1 - k ≡ i = omega (arith, are.as_many, e) in
        rw (worker, last, get_or-append_seam os o [] no_office) serves
  ];
}

-- the last office is that of the first worker that has none to do yet, and the others stay
pub office_taken : (net : Net) (workers n i : ℕ) (os rest : List OfficeView) (o : OfficeView) → AreOffices net workers (n + 1) os
    → os ≡ rest ++ o ∷ [] → workers - 1 - n ≡ i → AreOffices net workers n rest × Serves net workers i o
office_taken net workers n i os rest o are e worker =
    let size : length rest ≡ n = omega (arith, ap length e, length-append rest (o ∷ []), are.as_many) in
    let there : office_at os n ≡ o = ap (λ xs. office_at xs n) e ∙ ap (office_at (rest ++ o ∷ [])) (sym size) ∙ get_or-append_seam rest o [] no_office in (
      record {
        as_many = size;
        each = λ k l.
            rw (e, get_or-append rest (o ∷ []) no_office k (omega arith)) at (are.each k (omega arith));
      },
      rw (there, worker) at (are.each n (omega arith)),
    )

-- an office serves the seat that holds its worker's banks, and a seat's office its worker
pub serves_seat : (net : Net) (s : Shown) (workers i : ℕ) (o : OfficeView) → net ≡ s.net
    → ((b : ℕ) → b < length net.banks → holds s b ≡ is_of_worker workers i b) → Serves net workers i o → IsOfficeFor s.net (banks_held s) o
serves_seat net s workers i o here held serves = rw (← banks_of_seat net s workers i here held, ← here) serves.office

-- and an office that is for the seat of a worker serves it
pub seat_serves : (net : Net) (s : Shown) (workers i : ℕ) (o : OfficeView) → net ≡ s.net
    → ((b : ℕ) → b < length net.banks → holds s b ≡ is_of_worker workers i b) → IsOfficeFor s.net (banks_held s) o → o.worker ≡ i
    → Serves net workers i o
seat_serves net s workers i o here held office worker = record { office = rw (banks_of_seat net s workers i here held, here) office; worker = worker }

-- a worker of the board holds its banks
pub held_by : (board : BoardView) (i : ℕ) (w : WorkerView) → IsOfBoard board i w → (b : ℕ) → b < length board.net.banks
    → holds w.seat.shows b ≡ is_of_worker board.table.workers i b
held_by board i w own b lt =
    ap (λ bs. is_marked bs b) own.banks ∙ tabled_at (length board.net.banks) (is_of_worker board.table.workers i) b false lt

-- what was made goes over to another list, one after another
pub gone_over : {X E : Type 0} (done now : List X) (x : X) (r : Result X E) (rest all : List (Result X E))
    → map Ok done ++ r ∷ rest ≡ all → r ≡ Ok x → now ≡ done ++ x ∷ [] → map Ok now ++ rest ≡ all
gone_over done now x r rest all whole is grown =
    ap (λ xs. map Ok xs ++ rest) grown ∙ ap (λ rs. rs ++ rest) (map_push Ok done x) ∙ append_assoc (map Ok done) (Ok x ∷ []) rest
    ∙ ap (λ q. map Ok done ++ q ∷ rest) (sym is) ∙ whole

-- offices that were each made by its place, the last worker's first
pub made_each : {E : Type 0} (net : Net) (workers : ℕ) (made : List (Result OfficeView E)) (os : List OfficeView)
    → length made ≡ workers → made ≡ map Ok os
    → ((k : ℕ) → k < workers → IfOk (get_or made k (Ok no_office)) (Serves net workers (workers - 1 - k)))
    → AreOffices net workers workers os
made_each net workers made os size is each =
    let as_many : length os ≡ workers = sym (length-map os Ok) ∙ sym (ap length is) ∙ size in
    record {
      as_many = as_many;
      each = λ k l.
          subst (λ r. IfOk r (Serves net workers (workers - 1 - k)))
          (ap (λ rs. get_or rs k (Ok no_office)) is ∙ get_or-map Ok os k no_office (Ok no_office) (omega (arith, l, as_many)))
          (each k l);
    }
