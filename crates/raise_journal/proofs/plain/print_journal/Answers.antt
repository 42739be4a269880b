use Rattle.std.proofs.Common.{◌≡◌, ◌∙◌, ◌++◌, refl, ap, arith}
use Rattle.std.specs.List.{flat_map}
use Rattle.std.proofs.lemmas.List.{take_all}
use Rattle.std.proofs.lemmas.Result.{IfOk-from_err}
use Rattle.clr_net.specs.Lines.{line}
use Rattle.raise_journal.specs.Texts.{journal_header, journal_text, raise_line, rounds_line}
use Rattle.raise_journal.specs.ReadJournal.{journal_within}
use Rattle.raise_journal.proofs.ReadBacks.{journal_back, closed_journal_back}
use Rattle.raise_journal.proofs.Taken.{taken_more}
use Rattle.raise_journal.proofs.plain.print_journal.Goals as goal
use Rattle.raise_journal.proofs.plain.print_journal.Goals.{After-loop-entry}

-- the text is that of the whole journal
whole : (c : After-loop-entry) → c.loop-entry.text.items ≡ journal_text c.args.net.now c.args.journal.now
whole c =
    c.loop-entry.invariant
    ∙ ap (λ rs. line journal_header ++ flat_map (raise_line c.args.net.now) rs) (take_all c.loop-entry.entry-index c.args.journal.now (omega arith))

pub returns-clause-read_back : goal.returns-clause-read_back
returns-clause-read_back c = λ by keeps within.
    ap (journal_within by c.args.net.now) (whole c)
    ∙ journal_back by c.args.net.now c.args.journal.now c.banks.ensures.network keeps within

pub returns-clause-read_closed : goal.returns-clause-read_closed
returns-clause-read_closed c = λ by rounds keeps within low.
    ap (λ t. journal_within by c.args.net.now (t ++ rounds_line rounds)) (whole c)
    ∙ closed_journal_back by c.args.net.now c.args.journal.now rounds c.banks.ensures.network
    keeps within low

pub returns-in_err-bytes-clause-text : goal.returns-in_err-bytes-clause-text
returns-in_err-bytes-clause-text c = IfOk-from_err c.from_residual.result _ c.from_residual.ensures.0

pub returns-in_err-bytes-clause-read_back : goal.returns-in_err-bytes-clause-read_back
returns-in_err-bytes-clause-read_back c = λ by keeps within. IfOk-from_err c.from_residual.result _ c.from_residual.ensures.0

pub returns-in_err-bytes-clause-read_closed : goal.returns-in_err-bytes-clause-read_closed
returns-in_err-bytes-clause-read_closed c = λ by rounds keeps within low. IfOk-from_err c.from_residual.result _ c.from_residual.ensures.0

pub returns-in_err-text-clause-text : goal.returns-in_err-text-clause-text
returns-in_err-text-clause-text c = IfOk-from_err c.from_residual-in_err-text.result _ c.from_residual-in_err-text.ensures.0

pub returns-in_err-text-clause-read_back : goal.returns-in_err-text-clause-read_back
returns-in_err-text-clause-read_back c = λ by keeps within. IfOk-from_err c.from_residual-in_err-text.result _ c.from_residual-in_err-text.ensures.0

pub returns-in_err-text-clause-read_closed : goal.returns-in_err-text-clause-read_closed
returns-in_err-text-clause-read_closed c = λ by rounds keeps within low. IfOk-from_err c.from_residual-in_err-text.result _ c.from_residual-in_err-text.ensures.0

pub returns-in_err-extend_from_slice-clause-text : goal.returns-in_err-extend_from_slice-clause-text
returns-in_err-extend_from_slice-clause-text c = IfOk-from_err c.from_residual-in_err-extend_from_slice.result _ c.from_residual-in_err-extend_from_slice.ensures.0

pub returns-in_err-extend_from_slice-clause-read_back : goal.returns-in_err-extend_from_slice-clause-read_back
returns-in_err-extend_from_slice-clause-read_back c = λ by keeps within. IfOk-from_err c.from_residual-in_err-extend_from_slice.result _ c.from_residual-in_err-extend_from_slice.ensures.0

pub returns-in_err-extend_from_slice-clause-read_closed : goal.returns-in_err-extend_from_slice-clause-read_closed
returns-in_err-extend_from_slice-clause-read_closed c = λ by rounds keeps within low. IfOk-from_err c.from_residual-in_err-extend_from_slice.result _ c.from_residual-in_err-extend_from_slice.ensures.0

pub returns-in_err-extend_from_slice-2-clause-text : goal.returns-in_err-extend_from_slice-2-clause-text
returns-in_err-extend_from_slice-2-clause-text c = IfOk-from_err c.from_residual-in_err-extend_from_slice-2.result _ c.from_residual-in_err-extend_from_slice-2.ensures.0

pub returns-in_err-extend_from_slice-2-clause-read_back : goal.returns-in_err-extend_from_slice-2-clause-read_back
returns-in_err-extend_from_slice-2-clause-read_back c = λ by keeps within. IfOk-from_err c.from_residual-in_err-extend_from_slice-2.result _ c.from_residual-in_err-extend_from_slice-2.ensures.0

pub returns-in_err-extend_from_slice-2-clause-read_closed : goal.returns-in_err-extend_from_slice-2-clause-read_closed
returns-in_err-extend_from_slice-2-clause-read_closed c = λ by rounds keeps within low. IfOk-from_err c.from_residual-in_err-extend_from_slice-2.result _ c.from_residual-in_err-extend_from_slice-2.ensures.0

pub returns-clause-text : goal.returns-clause-text
returns-clause-text c = whole c

pub loop-entry-preserved : goal.loop-entry-preserved
loop-entry-preserved c =
    taken_more (raise_line c.args.net.now) (line journal_header) c.loop-entry.text.items c.extend_from_slice-in-loop-entry.new.self.items
    c.args.journal.now c.loop-entry.entry-index _ _ c.loop-entry-test.true refl c.loop-entry.invariant
    (c.in_ok-extend_from_slice-2.ensures.items ∙ ap (λ l. c.loop-entry.text.items ++ l) (c.bytes.ensures ∙ c.lay_raise.ensures.line))
