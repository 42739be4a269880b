-- Raises that are noted: in a journal, or among those that wait to be added to it.
use Rattle.std.proofs.Common.{◌≡◌, ◌≤◌, ℕ, List, [], ◌∷◌, ◌++◌, append-nil, append_assoc, arith, drop, take, length, length-append, refl, sym, ap, ◌∙◌, subst}
use Rattle.std.proofs.lemmas.List.{flat_map_more, take-append-drop}
use Rattle.std.proofs.lemmas.List.Sorted.{IsPermutation-append_left, IsPermutation-append_right, IsPermutation-refl, IsPermutation-trans}
use Rattle.std.specs.List.Sorted.{IsPermutation}
use Rattle.clear_core.specs.History.{Kept, ordered}
use Rattle.clear_core.specs.declared.event.Raise.{Raise}
use Rattle.raise_journal.specs.Gathered.{HasGrownBy, HasMerged, raises_of_all}
use Rattle.raise_journal.proofs.Merged.{grown_at_end, grown_merged, grown_ordered, grown_then}
use Rattle.settle.specs.Between.{HaveGrownAlike, noted_in}

-- what is added to a list at its end, in some order, is added from any place of it on
pub merged_at_end : (old new rs : List Raise) (from : ℕ) → HasGrownBy old new rs → HasMerged old new from rs
merged_at_end old new rs from h =
    grown_then (take from old) old new (drop from old) rs
    (subst (λ (m : List Raise). HasGrownBy (take from old) m (drop from old)) (take-append-drop from old) (grown_at_end (take from old) (drop from old))) h

-- raises added at the end are merged from any place on
pub added_at_end : (old new rs : List Raise) (from : ℕ) → new ≡ old ++ rs → HasMerged old new from rs
added_at_end old new rs from e = merged_at_end old new rs from (subst (λ (m : List Raise). HasGrownBy old m rs) (sym e) (grown_at_end old rs))

-- one worker's raises more wait
pub one_more_waits : (journal : List Raise) (waiting now : List Kept) (k : Kept) → now ≡ waiting ++ k ∷ [] → noted_in journal now ≡ noted_in journal waiting ++ k.raises
one_more_waits journal waiting now k e = ap (noted_in journal) e ∙ sym (flat_map_more (λ (j : Kept). j.raises) journal waiting k)

-- the raises of one worker more, of those that waited, are merged
pub one_more_added : (old mid new : List Raise) (done : List Kept) (k : Kept) → HasGrownBy old mid (raises_of_all done) → HasMerged mid new (length old) k.raises
    → HasGrownBy old new (raises_of_all (done ++ k ∷ []))
one_more_added old mid new done k h merged =
    subst (λ (rs : List Raise). HasGrownBy old new rs) (flat_map_more (λ (j : Kept). j.raises) [] done k) (grown_merged old mid new (raises_of_all done) k.raises h merged)

-- where none waits, the journal is not shorter than it was
pub not_shorter : (old journal rs : List Raise) (waiting : List Kept) → HasGrownBy old (noted_in journal waiting) rs → waiting ≡ []
    → length old ≤ length journal
not_shorter old journal rs waiting h e = omega (
  arith,
  ap length h.is,
  length-append old h.added,
  length-append journal (raises_of_all waiting),
  ap (λ (w : List Kept). length (raises_of_all w)) e,
)

-- nothing is noted yet where none waits
pub noted_first : (old from : List Raise) (waiting : List Kept) → waiting ≡ [] → HaveGrownAlike old [] (noted_in old waiting) from from
noted_first old from waiting e =
    ([], subst (λ (w : List Kept). HasGrownBy old (noted_in old w) []) (sym e) (grown_at_end old []), sym (append-nil from))

-- what waited is added, and then more is noted
pub noted_after : (old mid new from to : List Raise) (waiting : List Kept) → HasGrownBy old mid (raises_of_all waiting) → HaveGrownAlike mid [] new from to
    → HaveGrownAlike old waiting new from to
noted_after old mid new from to waiting h g = (g.0, grown_then old mid new (raises_of_all waiting) g.0 h g.1, g.2)

-- raises of a journal and of those that wait, and more beside what waits
pub noted_then : (old new ps rs : List Raise) (waiting : List Kept) → HasGrownBy [] (noted_in old waiting) ps
    → HasGrownBy old new (raises_of_all waiting ++ rs) → HasGrownBy [] new (ps ++ rs)
noted_then old new ps rs waiting h g =
    let all = raises_of_all waiting in
    let there : h.added ++ rs ≡ old ++ (all ++ rs) = ap (λ (xs : List Raise). xs ++ rs) (sym h.is) ∙ append_assoc old all rs in
    let moved = IsPermutation-trans (old ++ (all ++ rs)) (old ++ g.added) new
    (IsPermutation-append_right old (all ++ rs) g.added g.moved)
    (subst (λ (m : List Raise). IsPermutation (old ++ g.added) m) (sym g.is) (IsPermutation-refl (old ++ g.added))) in
    record {
      added = new;
      is = refl;
      moved = IsPermutation-trans (ps ++ rs) (h.added ++ rs) new (IsPermutation-append_left rs ps h.added h.moved)
          (subst (λ (m : List Raise). IsPermutation m new) (sym there) moved);
    }

-- what is in order once those that wait are added
pub ordered_waiting : (journal now : List Raise) (waiting : List Kept) → HasGrownBy journal now (raises_of_all waiting) → ordered now ≡ ordered (noted_in journal waiting)
ordered_waiting journal now waiting h = grown_ordered journal now (raises_of_all waiting) h
