use Rattle.std.proofs.lemmas.List.{length-map}
use Rattle.std.proofs.Common.{◌≡◌, true, false, length, sym, ap, ◌∙◌, subst, ⊎_elim, below_more, arith}
use Rattle.std.proofs.lemmas.Bool.{true≢false}
use Rattle.clr_net.specs.Net.{debtor_of}
use Rattle.compress.specs.Compression.{IsLive}
use Rattle.compress.specs.declared.mark.Mark.TheVariants.{Done}
use Rattle.compress.specs.Walk.{mark_of, ArePassed, IsPassed}
use Rattle.compress.proofs.Searching.{stands_in_column}
use Rattle.compress.proofs.Cursors.{passed_moved, ready_when_passed}
use Rattle.compress.proofs.search.next_back.Goals as goal

pub debtor_of-debtor-requires : goal.debtor_of-debtor-requires
debtor_of-debtor-requires c =
    (stands_in_column c.args.net.now _ _ c.loop-place.place (record { 0 = 0 })
    c.column-column.ensures (omega arith)).in_range

pub bounds-marks-debtor : goal.bounds-marks-debtor
bounds-marks-debtor c =
    let stands = stands_in_column c.args.net.now _ _ c.loop-place.place (record { 0 = 0 })
    c.column-column.ensures (omega arith) in
    omega (arith, (c.banks.ensures.network.each_debt _ stands.in_range).debtor_known)

pub is_live-requires-clause-debt : goal.is_live-requires-clause-debt
is_live-requires-clause-debt c =
    (stands_in_column c.args.net.now _ _ c.loop-place.place (record { 0 = 0 })
    c.column-column.ensures (omega arith)).in_range

pub returns-then-not-done-clause-next : goal.returns-then-not-done-clause-next
returns-then-not-done-clause-next c =
    let stands = stands_in_column c.args.net.now _ _ c.loop-place.place (record { 0 = 0 })
    c.column-column.ensures (omega arith) in
    record {
      live = record { debt = stands.in_range; live = sym c.is_live.ensures ∙ c.if-is_live.true };
      owed = stands.owed;
      unfinished = λ e. true≢false (sym (c.is_done-done.ensures.1
          (ap (mark_of c.args.marks.now) c.debtor_of-debtor.ensures.debtor ∙ e))
          ∙ c.if-not-done.true);
    }

pub returns-then-not-done-clause-passed : goal.returns-then-not-done-clause-passed
returns-then-not-done-clause-passed c =
    passed_moved c.args.net.now c.args.class c.args.bank.0 c.args.claims.now c.args.marks.now
    c.loop-place.cursors c.loop-place.place
    (omega (arith, ap length c.loop-place.invariant.cursors, c.requires.cursors, c.requires.bank))
    (subst (ArePassed c.args.net.now c.args.class c.args.claims.now c.args.marks.now)
    (sym c.loop-place.invariant.cursors) c.requires.passed)
    c.loop-place.invariant.passed

pub loop-place-preserved : goal.loop-place-preserved
loop-place-preserved c =
    let net = c.args.net.now in
    let C = c.args.claims.now in
    let marks = c.args.marks.now in
    let stands = stands_in_column net _ _ c.loop-place.place (record { 0 = 0 })
    c.column-column.ensures (omega arith) in
    record {
      passed = below_more (IsPassed net c.args.class C marks c.args.bank.0) c.loop-place.place
          c.loop-place.invariant.passed
          (subst (λ y. IsLive net C c.args.class y → mark_of marks (debtor_of net y) ≡ Done)
          (sym stands.at) (λ live. ⊎_elim
          (λ (both : (c.is_live.result ≡ true) × (c.is_done-done.result ≡ true)).
          ap (mark_of marks) (sym c.debtor_of-debtor.ensures.debtor)
          ∙ c.is_done-done.ensures.0 both.1)
          (λ (not_live : c.is_live.result ≡ false). absurd (true≢false
          (sym live.live ∙ sym c.is_live.ensures ∙ not_live)))
          c.else-is_live.either));
      cursors = c.loop-place.invariant.cursors;
    }

pub returns-clause-next : goal.returns-clause-next
returns-clause-next c =
    ready_when_passed c.args.net.now c.args.class c.args.bank.0 c.args.claims.now c.args.marks.now
    c.loop-place.place (omega (
      arith,
      length-map c.column-column.result.now (λ id. id.0),
      ap length c.column-column.ensures,
    )) c.loop-place.invariant.passed

pub returns-clause-passed : goal.returns-clause-passed
returns-clause-passed c =
    passed_moved c.args.net.now c.args.class c.args.bank.0 c.args.claims.now c.args.marks.now
    c.loop-place.cursors _
    (omega (arith, ap length c.loop-place.invariant.cursors, c.requires.cursors, c.requires.bank))
    (subst (ArePassed c.args.net.now c.args.class c.args.claims.now c.args.marks.now)
    (sym c.loop-place.invariant.cursors) c.requires.passed)
    (λ k l. c.loop-place.invariant.passed k (omega arith))
