use Rattle.std.proofs.Common.{length, sym, ap, ◌∙◌, arith}
use Rattle.std.specs.List.{list_any}
use Rattle.std.proofs.lemmas.List.{length-map, take_all}
use Rattle.clr_net.specs.Net.{numbers, is_of_kind}
use Rattle.clr_net.proofs.OfKind.{number_below, test_at, none_yet}
use Rattle.raise_journal.proofs.Named.{passes-kind}
use Rattle.raise_journal.proofs.reading.one_of_kind.Goals as goal

pub debt-requires : goal.debt-requires
debt-requires c =
    number_below c.args.ids.now (length c.args.net.now.debts) c.loop-id.id-index (record { 0 = 0 }) c.requires c.loop-id-test.true

pub returns-then-is_of-clause-some : goal.returns-then-is_of-clause-some
returns-then-is_of-clause-some c = (
  passes-kind c.args.net.now c.args.debtor.0 c.args.creditor.0 c.args.class _ c.debt.result c.debt.ensures (sym c.is_of.ensures ∙ c.if-is_of.true),
  number_below c.args.ids.now (length c.args.net.now.debts) c.loop-id.id-index (record { 0 = 0 }) c.requires c.loop-id-test.true,
)

pub loop-id-preserved : goal.loop-id-preserved
loop-id-preserved c =
    none_yet c.args.net.now c.args.debtor.0 c.args.creditor.0 c.args.class c.args.ids.now c.loop-id.id-index c.loop-id-test.true
    (test_at c.args.net.now c.args.debtor.0 c.args.creditor.0 c.args.class c.args.ids.now c.loop-id.id-index (record { 0 = 0 })
    c.debt.result c.is_of.result c.loop-id-test.true c.debt.ensures c.is_of.ensures ∙ c.if-is_of.false)
    c.loop-id.invariant

pub returns-clause-none : goal.returns-clause-none
returns-clause-none c =
    let ns = numbers c.args.ids.now in
    let test = is_of_kind c.args.net.now c.args.debtor.0 c.args.creditor.0 c.args.class in
    ap (list_any test) (sym (take_all c.loop-id.id-index ns (omega (arith, length-map c.args.ids.now (λ id. id.0))))) ∙ c.loop-id.invariant
