-- A compression is made class by class.
use Rattle.std.proofs.Common.{◌≡◌, ℕ, ◌+◌, ◌-◌, ◌*◌, ◌<◌, ◌≤◌, List, length, get_or, sum, refl, sym, ◌∙◌, subst, ⊎_elim, arith}
use Rattle.std.proofs.Math.Nat.{add-mul}
use Rattle.std.proofs.lemmas.Bool.{cases_lt}
use Rattle.std.proofs.lemmas.Nat.{mul-le}
use Rattle.std.proofs.lemmas.List.Sums.{sum-map}
use Rattle.clr_net.specs.declared.TheConstants.{MAX_CLASS}
use Rattle.clr_net.specs.Limits.{IsNetwork}
use Rattle.clr_net.specs.Net.{Net, debtor_of, units_owed}
use Rattle.clr_net.proofs.Lists.{sum-le}
use Rattle.clr_net.specs.Claims.{all_claims}
use Rattle.compress.specs.Compression.{rank_of, rank_above, Compression}
use Rattle.compress.specs.declared.mark.Mark.{Mark}
use Rattle.compress.specs.declared.mark.Mark.TheVariants.{Done}
use Rattle.compress.specs.Walk.{mark_of, AreDone, IsKept}
use Rattle.compress.specs.Progress.{IsCompressedTo, IsWrittenAt}
use Rattle.compress.proofs.Dones.{rank_same}

-- the numbers of a class stand before those of the next
place_before : (k c i n : ℕ) → 1 ≤ k → k < c → i < n → (k - 1) * n + i < (c - 1) * n
place_before k c i n g l m =
    let rows : (k - 1 + 1) * n ≤ (c - 1) * n = mul-le (k - 1 + 1) n (c - 1) n (omega arith)
    (omega arith) in
    omega (arith, rows, add-mul (k - 1) 1 n)

-- once each bank of a class is done, the classes up to it are compressed
pub compressed_more : (net : Net) (c : ℕ) (C D R T H : List ℕ) (before marks : List Mark)
    → IsNetwork net → 1 ≤ c
    → IsCompressedTo net c C R → IsKept net c C D before marks → AreDone net c D H marks
    → ((b : ℕ) → b < length net.banks → mark_of marks b ≡ Done) → length H ≡ length net.banks
    → IsWrittenAt ((c - 1) * length net.banks) H R T
    → IsCompressedTo net (c + 1) D T
compressed_more net c C D R T H before marks network pos made kept done all l put = record {
  as_many = kept.as_many ∙ made.as_many;
  within = λ k. omega (arith, kept.falls k, made.within k);
  balances = λ k b. kept.balances k b (made.balances k b);
  places = put.as_many ∙ made.places;
  ranks = λ k i g h m. ⊎_elim
      (λ (b : k < c). earlier k i g b m)
      (λ (e : c ≤ k). let same : k ≡ c = omega arith in
      subst (λ k. rank_of net T k i ≡ rank_above net D (rank_of net T k) k i) (sym same) (here i m))
      (cases_lt k c);
}
  where
    old : (k i : ℕ) → 1 ≤ k → k < c → i < length net.banks → rank_of net T k i ≡ rank_of net R k i
    old k i g b m = put.others ((k - 1) * length net.banks + i)
        (place_before k c i (length net.banks) g b m)

    new : (i : ℕ) → i < length net.banks → rank_of net T c i ≡ get_or H i 0
    new i m = put.written i (omega arith)

    earlier : (k i : ℕ) → 1 ≤ k → k < c → i < length net.banks
        → rank_of net T k i ≡ rank_above net D (rank_of net T k) k i
    earlier k i g b m =
        old k i g b m ∙ made.ranks k i g b m
        ∙ rank_same net C D (rank_of net R k) (rank_of net T k) k i
        (λ x class owed. sym (kept.others x (λ e. omega (arith, e, class))))
        (λ x live owed. sym (old k (debtor_of net x) g b
        (network.each_debt x live.debt).debtor_known))

    here : (i : ℕ) → i < length net.banks → rank_of net T c i
        ≡ rank_above net D (rank_of net T c) c i
    here i m =
        new i m ∙ done.ranks i m (all i m)
        ∙ rank_same net D D (λ j. get_or H j 0) (rank_of net T c) c i (λ x class owed. refl)
        (λ x live owed. sym (new (debtor_of net x) (network.each_debt x live.debt).debtor_known))

-- classes that are compressed leave no more units than were owed
pub left_le : {net : Net} {c : ℕ} {C R : List ℕ} → IsCompressedTo net c C R → sum C ≤ units_owed net
left_le {net = net} {C = C} made = omega (
  arith,
  sum-le C (all_claims net) made.within,
  sum-map (λ d. d.claim) net.debts,
)

-- with the last class this is a compression, which took off what was owed less what is left
pub compressed_all : {net : Net} {C R : List ℕ} (n : ℕ) → IsCompressedTo net (MAX_CLASS + 1) C R
    → n ≡ units_owed net - sum C → Compression net C R n
compressed_all n made e = record {
  as_many = made.as_many;
  within = made.within;
  balances = made.balances;
  places = made.places;
  ranks = λ k i g l m. made.ranks k i g (omega arith) m;
  cancelled = omega (arith, left_le made, e);
}
