use Rattle.std.proofs.Common.{◌≡◌, List, None, IfSome, MatchOption, length, sym, ap, ◌∙◌, subst, arith}
use Rattle.std.proofs.lemmas.List.{get_or_read}
use Rattle.compress.specs.declared.mark.Mark.{Mark}
use Rattle.compress.specs.declared.step.Step.{Step}
use Rattle.compress.specs.declared.walk.Walk.{Walk}
use Rattle.compress.specs.Walk.{ArePassed, IsReady, IsStep, IsStepFrom, IsUnderWay, LeadsOn, mark_of}
use Rattle.compress.proofs.Cycles.{live_class, live_with}
use Rattle.compress.proofs.Steps.{end_in_range}
use Rattle.compress.proofs.Telling.{looked_on}
use Rattle.compress.proofs.walk.step_back.Goals.{After-as_mut_slice, After-as_slice, in-Some+else-is_open, in_default}
use Rattle.compress.proofs.walk.step_back.Goals as goal

-- the step that stands beside the bank is one from there
head : (c : After-as_slice) → IsStepFrom c.args.net.now c.args.class c.args.end.0 c.in-Some.step
head c =
    let told = c.requires.under_way.told in
    let w = c.requires.under_way.walk in
    told.heads c.args.end.0 c.in-Some.step
    (sym (get_or_read c.args.walk.now.heads.items c.args.end.0 c.index.result.now
    (omega (arith, c.requires.end, end_in_range _ _ _ _ _ _ w, told.sizes.heads, told.sizes.marks))
    c.index.ensures None) ∙ c.in-Some.is)

-- the look at the step changes nothing of the walk
unmoved : (c : After-as_mut_slice) → c.match-index.walk ≡ c.args.walk.now
unmoved c = elim c.match-index.branch [
  | in-Some+else-is_open w ↦ w.walk-is
  | in_default w ↦ w.walk-is
]

pub is_open-requires-clause-debt : goal.is_open-requires-clause-debt
is_open-requires-clause-debt c =
    let from = head (goal.at.is_open-requires-clause-debt c).After-as_slice in
    omega (arith, from.debt, c.requires.claims)

pub is_open-requires-clause-debtor : goal.is_open-requires-clause-debtor
is_open-requires-clause-debtor c =
    let from = head (goal.at.is_open-requires-clause-debtor c).After-as_slice in
    omega (
      arith,
      from.debtor,
      (c.requires.network.each_debt _ from.debt).debtor_known,
      c.requires.under_way.told.sizes.marks,
      ap length c.as_slice.ensures.value,
    )

pub returns-then-is_open-clause-next : goal.returns-then-is_open-clause-next
returns-then-is_open-clause-next c =
    let from = head (goal.at.returns-then-is_open-clause-next c).After-as_slice in
    record {
      live = live_with c.args.net.now c.args.claims.now c.args.class _ from.debt from.class
          c.if-is_open.ensures.claim;
      owed = from.owed;
      unfinished = λ e. c.if-is_open.ensures.debtor
          (ap (λ (m : List Mark). mark_of m c.in-Some.step.debtor.0) c.as_slice.ensures.value
          ∙ ap (mark_of c.args.walk.now.marks.items) from.debtor ∙ e);
    }

pub returns-then-is_open-clause-step : goal.returns-then-is_open-clause-step
returns-then-is_open-clause-step c =
    (head (goal.at.returns-then-is_open-clause-step c).After-as_slice).debtor

pub index-requires : goal.index-requires
index-requires c =
    let told = c.requires.under_way.told in
    omega (
      arith,
      c.requires.end,
      end_in_range _ _ _ _ _ _ c.requires.under_way.walk,
      told.sizes.heads,
      told.sizes.marks,
    )

pub next_back-found-requires-clause-bank : goal.next_back-found-requires-clause-bank
next_back-found-requires-clause-bank c =
    omega (
      arith,
      c.requires.end,
      end_in_range _ _ _ _ _ _ c.requires.under_way.walk,
      c.requires.under_way.told.sizes.marks,
    )

pub next_back-found-requires-clause-claims : goal.next_back-found-requires-clause-claims
next_back-found-requires-clause-claims c = c.requires.claims

pub next_back-found-requires-clause-marks : goal.next_back-found-requires-clause-marks
next_back-found-requires-clause-marks c =
    ap length c.as_slice-marks.ensures.value ∙ ap (λ (w : Walk). length w.marks.items) (unmoved c)
    ∙ c.requires.under_way.told.sizes.marks

pub next_back-found-requires-clause-cursors : goal.next_back-found-requires-clause-cursors
next_back-found-requires-clause-cursors c =
    ap length c.as_mut_slice.ensures.value ∙ ap (λ (w : Walk). length w.cursors.items) (unmoved c)
    ∙ c.requires.under_way.told.sizes.cursors

pub next_back-found-requires-clause-passed : goal.next_back-found-requires-clause-passed
next_back-found-requires-clause-passed c =
    rw (c.as_slice-marks.ensures.value, c.as_mut_slice.ensures.value, (unmoved c)) c.requires.under_way.told.passed

pub returns-clause-start : goal.returns-clause-start
returns-clause-start c =
    ap (λ (w : Walk). w.start) (unmoved (goal.at.returns-clause-start c).After-as_mut_slice)

pub returns-clause-steps : goal.returns-clause-steps
returns-clause-steps c =
    ap (λ (w : Walk). w.steps) (unmoved (goal.at.returns-clause-steps c).After-as_mut_slice)

pub returns-clause-marks : goal.returns-clause-marks
returns-clause-marks c =
    ap (λ (w : Walk). w.marks) (unmoved (goal.at.returns-clause-marks c).After-as_mut_slice)

pub returns-clause-next : goal.returns-clause-next
returns-clause-next c =
    subst (λ (m : List Mark). MatchOption c.next_back-found.result
    (IsReady c.args.net.now c.args.class c.args.end.0 c.args.claims.now m)
    (λ (t : Step). LeadsOn c.args.net.now c.args.class c.args.end.0 c.args.claims.now m t.debt.0))
    (c.as_slice-marks.ensures.value ∙ ap (λ (w : Walk). w.marks.items) (unmoved (goal.at.returns-clause-next c).After-as_mut_slice)) c.next_back-found.ensures.next

pub returns-clause-step : goal.returns-clause-step
returns-clause-step c = c.next_back-found.ensures.step

pub returns-clause-under_way : goal.returns-clause-under_way
returns-clause-under_way c =
    let net = c.args.net.now in
    let C = c.args.claims.now in
    let old = subst (IsUnderWay net c.args.class C) (sym (unmoved (goal.at.returns-clause-under_way c).After-as_mut_slice)) c.requires.under_way in
    let w = c.requires.under_way.walk in
    let look = c.next_back-found in
    looked_on look.new.cursors c.args.end.0 look.result old
    (omega (
      arith,
      c.requires.end,
      end_in_range _ _ _ _ _ _ w,
      c.requires.under_way.told.sizes.marks,
    ))
    (look.ensures.cursors ∙ ap length c.as_mut_slice.ensures.value)
    (subst (λ m. ArePassed net c.args.class C m look.new.cursors)
    c.as_slice-marks.ensures.value look.ensures.passed)
    (λ s e.
    let next = subst (λ o. MatchOption o
    (IsReady net c.args.class c.args.end.0 C c.as_slice-marks.result.now)
    (λ (t : Step). LeadsOn net c.args.class c.args.end.0 C c.as_slice-marks.result.now t.debt.0))
    e look.ensures.next in
    record {
      debt = next.live.debt;
      class = live_class next.live;
      owed = next.owed;
      debtor = subst (λ o. IfSome o (IsStep net)) e look.ensures.step;
    })
