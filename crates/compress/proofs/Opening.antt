-- What holds before a class is gone over: no bank is done, and no step stands beside one.
use Rattle.std.proofs.Common.{◌≡◌, ◌≢◌, ℕ, zero, suc, ◌<◌, ◌≤◌, List, [], Option, Some, None, length, get_or, replicate, sum_by, refl, sym, ap, ◌∙◌, subst, ⊎_elim, arith}
use Rattle.std.proofs.lemmas.Bool.{cases_lt}
use Rattle.std.proofs.lemmas.List.{get_or-replicate, get_or_past, length-replicate}
use Rattle.std.proofs.lemmas.List.Sums.{sum_by-cons}
use Rattle.clr_net.specs.Limits.{IsNetwork}
use Rattle.clr_net.specs.Net.{Net, creditor_of}
use Rattle.clr_net.proofs.Lists.{zeros_at}
use Rattle.compress.specs.declared.mark.Mark.{Mark}
use Rattle.compress.specs.declared.mark.Mark.TheVariants.{Done, New, Walked}
use Rattle.compress.specs.declared.step.Step.{Step}
use Rattle.compress.specs.declared.walk.Walk.{Walk}
use Rattle.compress.specs.Walk.{mark_of, undone, AreDone, AreHeads, HasNoWalk, IsAtRest, IsKept, IsSizedFor}

-- where no step stands beside any bank, none is wrong
pub no_heads : (net : Net) (c n : ℕ) → AreHeads net c (replicate n None)
no_heads net c n b s e = absurd (no_step s (sym (⊎_elim
    (λ (l : b < n). get_or-replicate n b None None l)
    (λ (g : n ≤ b). get_or_past (replicate n None) b None
    (omega (arith, length-replicate {A = Option Step} n None)))
    (cases_lt b n)) ∙ e))
  where
    no_step : (s : Step) → None ≢ Some s
    no_step s f = absurd (cc)

-- a bank that is new is not done
still_new : (n b : ℕ) → b < n → mark_of (replicate n New) b ≢ Done
still_new n b l e = new_not_done (sym (get_or-replicate n b New Done l) ∙ e)
  where
    new_not_done : New ≢ Done
    new_not_done f = absurd (cc)

-- and none is on a walk
none_walked : (n : ℕ) → HasNoWalk (replicate n New)
none_walked n b p e = ⊎_elim
    (λ (l : b < n). new_not_walked (sym (get_or-replicate n b New Done l) ∙ e))
    (λ (g : n ≤ b). done_not_walked (sym (get_or_past (replicate n New) b Done
    (omega (arith, length-replicate {A = Mark} n New))) ∙ e))
    (cases_lt b n)
  where
    new_not_walked : New ≢ Walked p
    new_not_walked f = absurd (cc)

    done_not_walked : Done ≢ Walked p
    done_not_walked f = absurd (cc)

-- so all banks are yet to be done
all_undone : (n : ℕ) → sum_by undone (replicate n New) ≡ n
all_undone zero = refl
all_undone (suc n) = omega (arith, sum_by-cons undone New (replicate n New), all_undone n)

-- what is told of the banks holds where all are new and have no number
none_done : (net : Net) (c : ℕ) (C : List ℕ) → IsNetwork net
    → AreDone net c C (replicate (length net.banks) 0) (replicate (length net.banks) New)
none_done net c C network = record {
  debtors = λ x live e.
      absurd (still_new (length net.banks) (creditor_of net x) (network.each_debt x live.debt).creditor_known e);
  ranks = λ b l e. absurd (still_new (length net.banks) b l e);
  low = λ b. omega (arith, zeros_at (length net.banks) b, all_undone (length net.banks));
}

-- what is known of a walk is wiped, and no walk is under way
pub at_rest : {net : Net} {c : ℕ} {C : List ℕ} {w : Walk} → IsNetwork net → IsSizedFor net w
    → w.steps.items ≡ [] → w.marks.items ≡ replicate (length net.banks) New
    → w.cursors.items ≡ replicate (length net.banks) 0 → w.heads.items ≡ replicate (length net.banks) None
    → w.ranks.items ≡ replicate (length net.banks) 0 → IsAtRest net c C w
at_rest {net = net} {c = c} {C = C} {w = w} network sizes empty marks cursors heads ranks = record {
  empty = empty;
  no_walk = subst HasNoWalk (sym marks) (none_walked (length net.banks));
  told = record {
    done = rw (marks, ranks) (none_done net c C network);
    passed = λ b k l. absurd (omega (arith, ap (λ (K : List ℕ). get_or K b 0) cursors, zeros_at (length net.banks) b, l));
    heads = rw heads (no_heads net c (length net.banks));
    sizes = sizes;
  };
}

-- where nothing is done, what every step keeps is kept
pub kept_same : (net : Net) (c : ℕ) (C : List ℕ) (before after : List Mark) → after ≡ before
    → IsKept net c C C before after
kept_same net c C before after same = record {
  as_many = refl;
  falls = λ k. omega arith;
  others = λ x ne. refl;
  balances = λ k b was. was;
  banks = ap length same;
  stays = λ b e. ap (λ (m : List Mark). mark_of m b) same ∙ e;
}
