use Rattle.std.proofs.Common.{◌≡◌, ℕ, ◌<◌, ◌≤◌, Option, None, length, replicate, ◌∙◌, ap, ⊎_elim, arith, rules}
use Rattle.std.proofs.lemmas.Bool.{cases_lt}
use Rattle.std.proofs.lemmas.List.{length-replicate}
use Rattle.compress.specs.declared.mark.Mark.{Mark}
use Rattle.compress.specs.declared.mark.Mark.TheVariants.{New}
use Rattle.compress.specs.declared.step.Step.{Step}
use Rattle.compress.specs.Walk.{IsSizedFor, mark_of}
use Rattle.compress.proofs.Opening.{at_rest, kept_same}
use Rattle.compress.proofs.Steps.{kept_both}
use Rattle.compress.proofs.classes.cancel_cycles.Goals as goal

pub loop-number-init : goal.loop-number-init
loop-number-init c =
    let net = c.args.net.now in
    let w = c.args.walk.now in
    let sizes = c.requires.sizes in
    let many-marks : w.marks.len ≡ length net.banks = omega (arith, sizes.marks) in
    let marks = c.fill.ensures.items (λ y h. search (rules, h)) ∙ ap (λ (n : ℕ). replicate n New) many-marks in
    let many-cursors : w.cursors.len ≡ length net.banks = omega (arith, sizes.cursors) in
    let cursors = c.fill-2.ensures.items (λ y h. search (rules, h)) ∙ ap (λ (n : ℕ). replicate {A = ℕ} n 0) many-cursors in
    let many-heads : w.heads.len ≡ length net.banks = omega (arith, sizes.heads) in
    let heads = c.fill-3.ensures.items (λ y h. search (rules, h)) ∙ ap (λ (n : ℕ). replicate {A = Option Step} n None) many-heads in
    let many-ranks : w.ranks.len ≡ length net.banks = omega (arith, sizes.ranks) in
    let ranks = c.fill-4.ensures.items (λ y h. search (rules, h)) ∙ ap (λ (n : ℕ). replicate {A = ℕ} n 0) many-ranks in
    let wiped : IsSizedFor net (record w {
      marks = c.fill.new.self;
      cursors = c.fill-2.new.self;
      heads = c.fill-3.new.self;
      ranks = c.fill-4.new.self;
    }) = record {
      marks = ap length marks ∙ length-replicate {A = Mark} (length net.banks) New;
      cursors = ap length cursors ∙ length-replicate {A = ℕ} (length net.banks) 0;
      heads = ap length heads ∙ length-replicate {A = Option Step} (length net.banks) None;
      ranks = ap length ranks ∙ length-replicate {A = ℕ} (length net.banks) 0;
    } in
    record {
      rest = at_rest c.banks-number-end.ensures.network wiped c.requires.empty marks cursors heads ranks;
      kept = kept_same net c.args.class c.args.claims.now _ _ marks;
      all = λ b l. absurd (omega arith);
    }

pub walk_from-requires-clause-rest : goal.walk_from-requires-clause-rest
walk_from-requires-clause-rest c = c.loop-number.invariant.rest

pub returns-clause-kept : goal.returns-clause-kept
returns-clause-kept c = c.loop-number.invariant.kept

pub returns-clause-done : goal.returns-clause-done
returns-clause-done c = c.loop-number.invariant.rest.told.done

pub loop-number-preserved : goal.loop-number-preserved
loop-number-preserved c =
    let net = c.args.net.now in
    let old = c.loop-number.invariant in
    let said = c.in_ok-walk_from.ensures in
    let marks = c.walk_from.new.walk.marks.items in
    record {
      rest = said.rest;
      kept = kept_both old.kept said.kept;
      all = λ b l. ⊎_elim
          (λ (g : b < c.loop-number.number). said.kept.stays b (old.all b g))
          (λ (g : c.loop-number.number ≤ b).
          let same : b ≡ c.loop-number.number = omega arith in
          ap (mark_of marks) same ∙ said.start)
          (cases_lt b c.loop-number.number);
    }
