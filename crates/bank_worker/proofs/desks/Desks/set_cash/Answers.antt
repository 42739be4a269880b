use Rattle.std.proofs.Common.{◌≡◌, ap, sym, ◌∙◌, length, map, arith}
use Rattle.std.proofs.lemmas.List.{length-map}
use Rattle.bank_desk.specs.Desks.{with_cash_in}
use Rattle.bank_worker.specs.Views.{banks_of}
use Rattle.bank_worker.proofs.Recashed.{same_banks, written_over}
use Rattle.bank_worker.proofs.desks.Desks.set_cash.Goals as goal

pub invariant_of-self : goal.invariant_of-self
invariant_of-self c =
    let net = c.args.net.now in
    let old = c.self.inside.desks in
    let new = c.set_cash_of.new.desks in
    let made = c.set_cash_of.ensures ∙ ap (λ ds. map (with_cash_in net) ds) c.as_mut_slice.ensures.value in
    let size : old.len ≡ length new = omega (arith, ap length made, length-map old.items (with_cash_in net), old.ok.0) in
    (c.self.invariant.0 ∙ sym (same_banks net old.items) ∙ ap banks_of (sym made ∙ sym (written_over old.len new old.items size)), c.self.invariant.1)
