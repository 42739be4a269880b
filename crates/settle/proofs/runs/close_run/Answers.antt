use Rattle.std.proofs.Common.{◌≡◌, ◌≤◌, ◌++◌, All, length, sum, sym, ap, ◌∙◌, subst, arith}
use Rattle.clr_net.specs.Net.{Net}
use Rattle.clear_core.specs.Clearing.{Clears, least}
use Rattle.clear_core.specs.History.{ordered, replayed}
use Rattle.clear_core.proofs.Least.{least_clears}
use Rattle.clear_core.proofs.Ordered.{length-ordered, ordered_after_all}
use Rattle.clear_core.proofs.Pay.{length-pay}
use Rattle.pay_words.specs.Belongs.{Belongs}
use Rattle.pay_words.specs.Ends.{AreAfter, values}
use Rattle.pay_words.specs.Sealed.{Sealed}
use Rattle.pay_words.specs.Traces.{last_payment}
use Rattle.pay_words.proofs.Histories.{replayed_is}
use Rattle.pay_words.proofs.Starts.{values_shown}
use Rattle.pay_words.proofs.Tables.{length-tabled}
use Rattle.raise_journal.proofs.Lawful.{lawful_is}
use Rattle.settle.proofs.Limits.{within_limits}
use Rattle.bank_worker.proofs.Recashed.{written_over}
use Rattle.settle.proofs.Finished.{length-payments_of}
use Rattle.settle.proofs.runs.close_run.Goals as goal

pub seal-sealed-requires-clause-into : goal.seal-sealed-requires-clause-into
seal-sealed-requires-clause-into g c =
    let net = c.args.net in
    let ended = c.requires.ended in
    omega (arith, ap length c.as_mut_slice.ensures.value, ap length ended.payments_are, length-tabled (length net.debts) (λ x. last_payment x c.args.past.now), ap (λ (m : Net). length m.debts) ended.net_is)

pub returns : goal.returns
returns g c =
    let net = c.args.net in
    let past = c.args.past.now in
    let t = c.args.ended.master.shows in
    let d = c.requires.ended.driven in
    let into = c.seal-sealed.new.into in
    let was = c.args.ended in
    let paid = c.in_ok-paid.paid in
    let board_is = c.requires.ended in
    let rs = was.board.past ++ t.raises in
    let seal = c.seal-sealed.ensures.ends in
    let record_of = c.seal-sealed.ensures.record_of in
    let journal = c.seal-sealed.result.journal in
    let network = c.banks.ensures.network in
    let debts : length t.net.debts ≡ length net.debts = ap (λ (m : Net). length m.debts) d.settled.idle.net_is in
    let noted : journal ≡ ordered rs = ap (λ (r : Sealed). r.journal) record_of in
    let belongs : Belongs net into journal = rw noted (rw (board_is.net_is) at seal.lawful) in
    let p = was.payments in
    let many : p.len ≡ length into = omega (arith, p.ok.0, ap length board_is.payments_are, length-tabled (length net.debts) (λ x. last_payment x past), ap length seal.payments_are, length-payments_of t, debts) in
    let written : paid ≡ values into = c.in_ok-paid.ensures ∙ ap values (c.as_slice.ensures.value ∙ written_over p.len into p.items many) in
    let over : length t.paid ≡ length t.net.debts = omega (arith, ap length d.settled.paid, ap length (least_clears net), length-pay net (least net), debts) in
    let least_paid : paid ≡ least net = written ∙ ap values seal.payments_are ∙ values_shown t over ∙ d.settled.paid in
    let replays : replayed net journal ≡ paid = replayed_is net journal ∙ ap values (sym belongs.start_is) ∙ sym written in
    let low_stamps : All (λ r. r.stamp ≤ sum paid) journal = rw (noted, written) seal.low_in_order in
    let made : c.seal-sealed.result.made ≡ length t.raises = ap (λ (r : Sealed). r.made) record_of in
    record {
      settled = record {
        paid = least_paid;
        verdict = (lawful_is net journal network).1 (belongs.stands, subst (Clears net) (sym (replays ∙ least_paid)) (least_clears net));
        lawful = (belongs.stands, belongs.traced);
        replays = replays;
        in_order = belongs.in_order;
        low_stamps = low_stamps;
        within_limits = within_limits net journal paid network belongs.stands replays least_paid low_stamps;
        can_go_on = subst (λ ps. Belongs net ps journal) belongs.start_is belongs;
        record_is = record {
          net_is = ap (λ (r : Sealed). r.net) record_of ∙ board_is.net_is;
          raises = ordered t.raises;
          journal_is = noted ∙ ap (λ ps. ordered (ps ++ t.raises)) board_is.past_is
              ∙ ordered_after_all past t.raises (subst (λ ps. AreAfter ps t.raises) board_is.past_is seal.after_past) ∙ ap (λ ps. ps ++ ordered t.raises) c.requires.past.in_order;
          made = made ∙ sym (length-ordered t.raises);
          workers = ap (λ (r : Sealed). r.workers) record_of ∙ board_is.workers_are;
          seats = ap (λ (r : Sealed). r.seats) record_of ∙ d.seats;
        };
        bounds = record {
          rounds_in_bounds = d.bounds;
          visits_by_sweeps = d.visits_by_sweeps;
          visits_by_bells = omega (arith, d.visits, seal.few_bells, ap (λ (m : Net). length m.banks) board_is.net_is, made);
          rounds_by_raises = omega (arith, d.rounds_by_raises, made);
        };
        at_rest = record {
          master = t;
          rounds_are = d.at_rest;
          visits_are = omega (arith, d.visits);
          paid_is = d.settled.paid ∙ sym least_paid;
          journal_is = noted ∙ ap (λ ps. ordered (ps ++ t.raises)) board_is.past_is;
        };
      };
    }
