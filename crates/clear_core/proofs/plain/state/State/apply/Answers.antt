use Rattle.std.proofs.Common.{◌≡◌, ℕ, List, length, get_or, ap, sym, ◌∙◌, rules, arith}
use Rattle.std.proofs.lemmas.List.{get_or_read}
use Rattle.clr_net.specs.Net.{debtor_of}
use Rattle.clear_core.specs.Clearing.{part, receipts}
use Rattle.clear_core.specs.Process.{Progress, allowed, debt_of}
use Rattle.clear_core.proofs.Applied.{allowed_in_limit, raise_in_range, raise_legal, sound_raised, below_applied}
use Rattle.clear_core.proofs.plain.state.State.apply.Goals as goal

pub invariant_of-self-then-to-allowed : goal.invariant_of-self-then-to-allowed
invariant_of-self-then-to-allowed c =
    let net = c.args.net.now in
    let debt = c.in-Raise.debt in
    let shown : Progress = record { paid = c.self.inside.paid.items; seen = c.as_slice.result.now } in
    let within = allowed_in_limit net shown debt.0 c.debts.ensures.network
    (raise_in_range net c.args.event debt c.in-Raise.to c.in-Raise.is c.requires.debt) in
    sound_raised c.self.inside.paid.items c.self.inside.seen.items debt.0 c.in-Raise.to c.self.invariant
    (omega (arith, within, c.allowed_of-allowed.ensures.allowed))

pub returns-then-to-allowed-clause-below : goal.returns-then-to-allowed-clause-below
returns-then-to-allowed-clause-below c =
    let net = c.args.net.now in
    let s = c.args.self.now in
    let debt = c.in-Raise.debt in
    let in_range = raise_in_range net c.args.event debt c.in-Raise.to c.in-Raise.is c.requires.debt in
    let paid_is : c.self.inside.paid.items ≡ s.paid = ap (λ (p : Progress). p.paid) c.self.view_is in
    let seen_is : c.self.inside.seen.items ≡ s.seen = ap (λ (p : Progress). p.seen) c.self.view_is in
    let had = get_or_read c.self.inside.paid.items debt.0 c.index-had.result.now
    (omega (arith, ap (λ (xs : List ℕ). length xs) paid_is, c.requires.over.paid)) c.index-had.ensures 0 in
    let most = ap (λ (seen : List ℕ). part net debt.0 (receipts net seen (debtor_of net debt.0))) (c.as_slice.ensures.value ∙ seen_is) in
    below_applied net s _ c.args.event (search rules)
    (raise_legal net s c.args.event debt c.in-Raise.to c.in-Raise.is c.requires.debt
    (omega (arith, had, ap (λ (xs : List ℕ). get_or xs debt.0 0) paid_is)) (omega (arith, most, c.allowed_of-allowed.ensures.allowed)))

pub returns-else-had-to-clause-allowed : goal.returns-else-had-to-clause-allowed
returns-else-had-to-clause-allowed c =
    let net = c.args.net.now in
    let s = c.args.self.now in
    let debt = c.in-Raise.debt in
    let seen_is : c.self.inside.seen.items ≡ s.seen = ap (λ (p : Progress). p.seen) c.self.view_is in
    c.allowed_of-allowed.ensures.allowed
    ∙ ap (λ (seen : List ℕ). part net debt.0 (receipts net seen (debtor_of net debt.0))) (c.as_slice.ensures.value ∙ seen_is)
    ∙ ap (λ e. allowed net s (debt_of e)) (sym c.in-Raise.is)
