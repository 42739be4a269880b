use Rattle.std.proofs.Common.{◌≡◌, ℕ, ◌+◌, ◌-◌, ◌++◌, ◌∙◌, List, length, ap, arith}
use Rattle.std.proofs.lemmas.List.{length-append}
use Rattle.clear_core.proofs.Ordered.{length-ordered}
use Rattle.clear_core.specs.History.{ordered}
use Rattle.clear_core.specs.declared.event.Raise.{Raise}
use Rattle.pay_words.specs.Views.{BoardView, SeatView}
use Rattle.pay_words.proofs.board.Board.seal.Goals as goal

-- how long the journal is
counted : (journal past raises : List Raise) (n : ℕ) → journal ≡ ordered (past ++ raises) → n ≡ length past → length journal ≡ n + length raises
counted journal past raises n e f = omega (arith, ap length e, length-ordered (past ++ raises), length-append past raises, f)

pub overflow_sub-made : goal.overflow_sub-made
overflow_sub-made c =
    let past : c.self.inside.past ≡ length c.args.self.past = c.self.invariant.1 ∙ ap (λ (p : BoardView). length p.past) c.self.view_is in
    omega (arith, counted _ _ _ _ (c.as_slice.ensures ∙ c.requires.journal) past)

pub returns-clause-record_of : goal.returns-clause-record_of
returns-clause-record_of c =
    let past : c.self.inside.past ≡ length c.args.self.past = c.self.invariant.1 ∙ ap (λ (p : BoardView). length p.past) c.self.view_is in
    let made : length c.as_slice.result.now - c.self.inside.past ≡ length c.args.master.shows.raises = omega (arith, counted _ _ _ _ (c.as_slice.ensures ∙ c.requires.journal) past) in
    let workers = ap (λ (p : BoardView). p.table.workers) c.self.view_is in
    let seats = c.master.invariant.1.seats_are ∙ ap (λ (s : SeatView). s.shows.seats) c.master.view_is in
    λ i. record { net = c.requires.net i; journal = c.requires.journal i; made = made i; workers = workers i; seats = seats i }
