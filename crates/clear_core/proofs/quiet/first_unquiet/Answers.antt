use Rattle.std.proofs.Common.{sym, ap, ◌∙◌, arith, rules}
use Rattle.std.proofs.lemmas.Bool.{true≢false}
use Rattle.clear_core.specs.Clearing.{division}
use Rattle.clear_core.proofs.QuietBanks.{quiet_from_clears, clears_from_quiet}
use Rattle.clear_core.proofs.quiet.first_unquiet.Goals as goal

pub returns-then-not-gives-clause-clears : goal.returns-then-not-gives-clause-clears
returns-then-not-gives-clause-clears c =
    let net = c.args.net.now in
    let i = c.loop-number.number in (
      λ e. absurd (cc),
      λ clears.
          let same = quiet_from_clears net c.args.paid.now clears i (omega arith) ∙ ap (division net i) (sym c.receipts_of-receipts.ensures.receipts) in
          absurd (true≢false (sym (c.gives.ensures.same.1 same) ∙ c.if-not-gives.true)),
    )

pub returns-clause-clears : goal.returns-clause-clears
returns-clause-clears c =
    let net = c.args.net.now in (
      λ e. clears_from_quiet net c.args.paid.now c.banks-number-end.ensures.network c.requires.over
          (λ i l. c.loop-number.invariant.before i (omega arith)),
      λ clears. search rules,
    )
