-- What a text of payments asks for holds of a run, and a journal stands below it.
use Rattle.std.proofs.Common.{◌≡◌, List, ◌++◌, Some, IfOk, length, append_assoc, sym, ◌∙◌, ap, subst}
use Rattle.std.specs.List.{flat_map}
use Rattle.std.proofs.lemmas.Result.{IfOk-weaker}
use Rattle.clr_net.specs.Lines.{line}
use Rattle.clear_core.specs.declared.event.Raise.{Raise}
use Rattle.clear_report.specs.Text.{payments_text}
use Rattle.clear_report.specs.Words.{empty_line}
use Rattle.clear_top.specs.Reports.{clear_text}
use Rattle.clear_top.specs.Outcome.{with_journal}
use Rattle.clear_words.specs.declared.show.Show.TheVariants as show
use Rattle.raise_journal.specs.Texts.{journal_header, raise_line, rounds_line}
use Rattle.clear_stress.proofs.Places.{least_places}
use Rattle.clear_top.proofs.reports.cleared.Goals as goal

pub pay_text-requires : goal.pay_text-requires
pay_text-requires c = ap length c.requires ∙ least_places c.args.net.now

pub pay_text-requires-in-Both : goal.pay_text-requires-in-Both
pay_text-requires-in-Both c = ap length c.requires ∙ least_places c.args.net.now

-- payments with a journal below an empty line
pub returns-in_ok-add_line-in-Both : goal.returns-in_ok-add_line-in-Both
returns-in_ok-add_line-in-Both c =
    let net = c.args.net.now in
    let text = c.add_line.new.self in
    let head = line journal_header in
    let closing = rounds_line c.args.rounds in
    let paid = c.in_ok-add_line-in-Both.ensures ∙ ap (λ p. p ++ empty_line)
    (c.in_ok-text-in-Both.ensures ∙ c.in_ok-pay_text-in-Both.ensures ∙ ap (payments_text net) c.requires) in
    let r = c.above_journal-in-Both.result in
    subst (λ s. IfOk r (λ t. (journal : List Raise) → with_journal net journal t.text t.closing ≡ clear_text s net journal c.args.rounds)) (sym c.in-Both.is)
    (IfOk-weaker r (λ s. s ≡ record { text = text ++ head; closing = Some closing })
    (λ s. (journal : List Raise) → with_journal net journal s.text s.closing ≡ clear_text show.Both net journal c.args.rounds)
    (λ s is journal. ap (λ t. with_journal net journal t.text t.closing) is
    ∙ ap (λ l. l ++ closing) (append_assoc text head (flat_map (raise_line net) journal))
    ∙ append_assoc text (head ++ flat_map (raise_line net) journal) closing
    ∙ ap (λ t. t ++ ((head ++ flat_map (raise_line net) journal) ++ closing)) paid)
    c.above_journal-in-Both.ensures)
