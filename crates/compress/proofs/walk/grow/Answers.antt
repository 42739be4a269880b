use Rattle.std.proofs.Common.{◌≡◌, ◌+◌, [], ◌∷◌, ◌++◌, length, length-set, refl, sym, ap, ◌∙◌, arith}
use Rattle.std.proofs.lemmas.List.{length-map, length_push, map-append}
use Rattle.std.proofs.lemmas.List.Elements.{All-push}
use Rattle.clr_net.specs.Net.{debtor_of}
use Rattle.compress.specs.declared.mark.Mark.{Mark}
use Rattle.compress.specs.declared.mark.Mark.TheVariants.{Walked}
use Rattle.compress.specs.declared.step.Step.{Step}
use Rattle.compress.specs.Walk.{IsStep, numbers}
use Rattle.compress.proofs.Cursors.{passed_kept}
use Rattle.compress.proofs.Dones.{done_marked}
use Rattle.compress.proofs.Steps.{kept_done, not_done_in_range}
use Rattle.compress.proofs.Telling.{grown_less}
use Rattle.compress.proofs.Walks.{walk_grows, walked_not_done}
use Rattle.compress.proofs.walk.grow.Goals as goal

pub index_mut-requires : goal.index_mut-requires
index_mut-requires c =
    let inside = not_done_in_range c.args.walk.now.marks.items (debtor_of c.args.net.now c.args.step.debt.0)
    c.requires.next.unfinished in
    omega (arith, c.requires.step, inside)

pub returns-clause-start : goal.returns-clause-start
returns-clause-start c = refl

pub returns-clause-kept : goal.returns-clause-kept
returns-clause-kept c =
    rw c.requires.step (kept_done c.args.net.now c.args.class c.args.claims.now c.args.walk.now.marks.items
    (debtor_of c.args.net.now c.args.step.debt.0) (Walked c.len.result) c.requires.next.unfinished)

pub returns-clause-less : goal.returns-clause-less
returns-clause-less c =
    rw c.requires.step (grown_less c.args.walk.now.marks.items
    (debtor_of c.args.net.now c.args.step.debt.0) c.len.result c.requires.new)

pub returns-clause-under_way : goal.returns-clause-under_way
returns-clause-under_way c =
    let net = c.args.net.now in
    let k = c.args.class in
    let C = c.args.claims.now in
    let w = c.args.walk.now in
    let old = c.requires.under_way in
    let s = w.start.0 in
    let W = numbers w.steps.items in
    let marks = w.marks.items in
    let x = c.args.step.debt.0 in
    let on = c.requires.next in
    let new = c.requires.new in
    let items = c.in_ok-push.ensures.items in
    let longer : numbers c.push.new.self.items ≡ W ++ x ∷ [] =
    ap numbers items ∙ map-append (λ (s : Step). s.debt.0) w.steps.items (c.args.step ∷ []) in
    let place : length W + 1 ≡ c.len.result =
    omega (
      arith,
      length-map w.steps.items (λ s. s.debt.0),
      ap length items,
      length_push w.steps.items c.args.step,
      c.len.ensures,
    ) in
    let read : debtor_of net x ≡ c.args.step.debtor.0 = sym c.requires.step in
    let in_range = not_done_in_range marks (debtor_of net x) on.unfinished in
    record {
      walk = rw (longer, ← read, ← place) (walk_grows net k s C W marks x old.walk on.live on.owed in_range new);
      steps = rw items (All-push (IsStep net) w.steps.items c.args.step old.steps c.requires.step);
      told = record {
        done = rw (← read, ← place) (done_marked (debtor_of net x) (Walked (length W + 1)) old.told.done in_range
            on.unfinished (walked_not_done (length W + 1)));
        passed = rw (← read, ← place) (passed_kept w.cursors.items
            (kept_done net k C marks (debtor_of net x) (Walked (length W + 1)) on.unfinished) old.told.passed);
        heads = old.told.heads;
        sizes = record {
          marks = omega (arith, length-set {A = Mark}, old.told.sizes.marks);
          cursors = old.told.sizes.cursors;
          heads = old.told.sizes.heads;
          ranks = old.told.sizes.ranks;
        };
      };
    }
