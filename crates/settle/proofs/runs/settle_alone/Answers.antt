use Rattle.std.proofs.Common.{◌≡◌, [], refl, ap, map, sym, subst, ◌∙◌, length, arith}
use Rattle.std.proofs.lemmas.List.{length-map}
use Rattle.pay_words.proofs.Pasts.{belongs_at_first}
use Rattle.bank_worker.proofs.Recashed.{written_over}
use Rattle.settle.specs.Drives.{IsDriven}
use Rattle.settle.specs.Offices.{AreAllOffices, AreOfficesButCash, with_cash_of}
use Rattle.settle.proofs.OtherCash.{all_know_banks, are_offices_again}
use Rattle.settle.proofs.runs.settle_alone.Goals as goal

pub move_offices-requires : goal.move_offices-requires
move_offices-requires g c =
    all_know_banks c.args.net c.args.engine.now.plan.workers _
    (subst (AreOfficesButCash c.args.net c.args.engine.now.plan.workers) (sym c.as_mut_slice.ensures.value) c.requires.offices)

pub open-requires-clause-past : goal.open-requires-clause-past
open-requires-clause-past g c = belongs_at_first c.args.net _ refl

-- the board has just been opened, and each office has the cash of the network now
pub drive_in_turn-requires : goal.drive_in_turn-requires
drive_in_turn-requires g c =
    let net = c.args.net in
    let old = c.args.offices.now in
    let new = c.move_offices.new.offices in
    let made : new ≡ map (with_cash_of net) old.items = c.move_offices.ensures.offices ∙ ap (map (with_cash_of net)) c.as_mut_slice.ensures.value in
    let size : old.len ≡ length new = omega (arith, ap length made, length-map old.items (with_cash_of net), old.ok.0) in
    record {
      begin = record {
        table_is = c.in_ok-opened.ensures.table_is;
        opened = c.in_ok-opened.ensures.shows;
        offices_are =
            subst (AreAllOffices net c.args.engine.now.plan.workers) (sym (written_over old.len new old.items size ∙ made))
            (are_offices_again net c.args.engine.now.plan.workers old.items c.move_offices.ensures.network c.requires.offices);
      };
    }

pub close_run-requires-clause-past : goal.close_run-requires-clause-past
close_run-requires-clause-past g c = belongs_at_first c.args.net _ refl

pub close_run-requires-clause-ended : goal.close_run-requires-clause-ended
close_run-requires-clause-ended g c =
    let opened = c.in_ok-opened.ensures in
    record {
      payments_are = opened.payments_are;
      net_is = opened.net_is;
      past_is = opened.past_is;
      workers_are = opened.workers_are;
      table_is = c.drive_in_turn.ensures.table ∙ opened.table_is;
      driven = subst (λ s. IsDriven c.args.net [] c.args.engine.now.plan s c.drive_in_turn.new.master.shows c.in_ok-driven.driven) opened.shows c.in_ok-driven.ensures.driven;
    }
