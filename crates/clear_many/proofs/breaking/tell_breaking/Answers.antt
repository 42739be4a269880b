use Rattle.std.proofs.Common.{◌+◌, Ok, length, sym, ap, ◌∙◌, subst, ℕ}
use Rattle.shares.specs.Made.{AreInOrder}
use Rattle.stress.proofs.Descent.{told_by_all}
use Rattle.stress.specs.declared.TheConstants.{MAX_CUT}
use Rattle.clear_many.specs.Blocks.{IsTold}
use Rattle.clear_many.proofs.Broken.{as_many_broken}
use Rattle.clear_many.proofs.breaking.tell_breaking.Goals as goal

pub all_joined-requires-clause-in_order : goal.all_joined-requires-clause-in_order
all_joined-requires-clause-in_order g c =
    subst (AreInOrder (IsTold c.args.net.now) 0) (sym c.as_slice.ensures.value) c.in_ok-pieces.ensures.in_order

pub breaking_text-requires : goal.breaking_text-requires
breaking_text-requires g c =
    ap length (c.as_slice-2.ensures.value ∙ c.in_ok-all.ensures) ∙ as_many_broken c.args.net.now 0 (MAX_CUT + 1)

pub returns : goal.returns
returns g c =
    let told = told_by_all {E = ℕ} c.args.net.now (Ok c.in_ok-all.all) c.in_ok-all.ensures in
    rw (c.as_slice-2.ensures.value, told) at c.breaking_text.ensures
