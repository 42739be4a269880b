use Rattle.std.proofs.Common.{◌≡◌, length, filter, ap, sym, ◌∙◌, arith, eq-eqb, ne_eqb}
use Rattle.std.specs.List.{range_with_len}
use Rattle.std.specs.Prelude.{◌%◌}
use Rattle.std.proofs.lemmas.List.{map_push}
use Rattle.bank_desk.specs.Desks.{BankView, desk_of}
use Rattle.pay_words.specs.Views.{is_of_worker}
use Rattle.bank_worker.specs.Offices.{banks_of_worker}
use Rattle.bank_worker.specs.Rings.{is_among}
use Rattle.bank_worker.specs.Views.{banks_of}
use Rattle.bank_worker.proofs.Filtered.{filter_rises}
use Rattle.bank_worker.proofs.PlacesOfBanks.{banks_of_desks, known_banks, set_out}
use Rattle.bank_worker.proofs.Rooms.{desks_with, desks_without}
use Rattle.bank_worker.proofs.desks.Desks.of.Goals as goal
use Rattle.bank_worker.proofs.desks.Desks.of.Goals.{After-as_slice, then-number-workers+in_ok-of+in_ok-push+in_ok-push-2, else-number-workers}

pub loop-number-preserved : goal.loop-number-preserved
loop-number-preserved c =
    let net = c.args.net.now in
    let n = c.loop-number.number in
    let p = is_of_worker c.args.workers c.args.worker in
    let inv = c.loop-number.invariant in
    elim c.if-number-workers.branch [
      | then-number-workers+in_ok-of+in_ok-push+in_ok-push-2 w ↦ rw (w.desks-is, w.banks-is, w.in_ok-push.ensures.items, w.in_ok-of.ensures) (record {
        desks = rw inv.desks (desks_with net p n (eq-eqb (n % c.args.workers) c.args.worker w.if-number-workers.true));
        banks = rw (w.in_ok-push-2.ensures.items, inv.banks) (sym (map_push (λ (d : BankView). d.bank) c.loop-number.desks.items (desk_of net n)));
      })
      | else-number-workers w ↦ rw (w.desks-is, w.banks-is) (record {
        desks = inv.desks ∙ desks_without net p n (ne_eqb (n % c.args.workers) c.args.worker w.if-number-workers.false);
        banks = inv.banks;
      })
    ]

-- the banks of the desks are those of the worker
its : (c : After-as_slice) → c.loop-number.banks.items ≡ banks_of_worker c.args.net.now c.args.workers c.args.worker
its c =
    let net = c.args.net.now in
    let all : c.loop-number.number ≡ length net.banks = omega (arith, c.loop-number-test.false, c.loop-number.auto.number-end, c.banks-number-end.ensures.banks) in
    c.loop-number.invariant.banks ∙ ap banks_of c.loop-number.invariant.desks
    ∙ banks_of_desks net (filter (is_of_worker c.args.workers c.args.worker) (range_with_len 0 c.loop-number.number))
    ∙ ap (λ n. filter (is_of_worker c.args.workers c.args.worker) (range_with_len 0 n)) all

pub set_of-set-requires : goal.set_of-set-requires
set_of-set-requires c =
    rw c.as_slice.ensures.value (known_banks c.args.net.now c.loop-number.banks.items c.args.workers c.args.worker c.banks-number-end.ensures.network (its (goal.at.set_of-set-requires c).After-as_slice))

pub invariant_of-result : goal.invariant_of-result
invariant_of-result c =
    let net = c.args.net.now in
    let w = c.args.workers in
    let i = c.args.worker in
    let are = its (goal.at.invariant_of-result c).After-as_slice in (
      c.loop-number.invariant.banks,
      record {
        rise = rw are (filter_rises (is_of_worker w i) 0 (length net.banks));
        known = known_banks net c.loop-number.banks.items w i c.banks-number-end.ensures.network are;
        out = rw (are, c.in_ok-set.ensures.ok) (set_out net c.set_of-set.result w i c.requires.workers
            (λ b. c.set_of-set.ensures b ∙ ap (λ bs. is_among bs b) (c.as_slice.ensures.value ∙ are)));
      },
    )
