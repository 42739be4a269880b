-- What is known between two rounds, and what the last one tells.
use Rattle.std.proofs.Common.{◌≡◌, ◌≢◌, ℕ, ◌+◌, ◌<◌, ◌≤◌, List, length, get_or, replicate, sum, sym, ap, ◌∙◌, subst, arith}
use Rattle.std.proofs.lemmas.List.{ext_get_or, get_or-replicate, length-replicate}
use Rattle.clr_net.specs.declared.debt.BankId.{BankId}
use Rattle.clr_net.specs.Limits.{IsNetwork}
use Rattle.clr_net.specs.Net.{Net, column, creditor_of, debtor_of}
use Rattle.clr_net.proofs.Lists.{sums_agree, zeros_at}
use Rattle.clr_net.proofs.RowsAndColumns.{column_place}
use Rattle.clear_core.specs.Clearing.{NeverFalls, pay_by, part_by, receipts, estate}
use Rattle.cascade.specs.Standings.{due}
use Rattle.clear_core.proofs.Pay.{pay_by_at}
use Rattle.clr_net.specs.Claims.{all_claims}
use Rattle.upper.specs.Greatest.{falling_by, greatest_by}
use Rattle.upper.specs.Waves.{waves_in}
use Rattle.upper.specs.Descent.{AreCurrent, HaveEnough, AreMarked, AreNoted, AreWavesTo}
use Rattle.upper.specs.Falls.{bank_at, AreHit}
use Rattle.upper.proofs.Descents.{IsDown, down_first, down_more, down_ends, waves_none, waves_more, waves_end}
use Rattle.upper.proofs.Hits.{listed_place}

-- where a bank's receipts did not fall, they are the same
receipts_same : (net : Net) (P Q f g : List ℕ) (i : ℕ) → AreNoted net P Q f g → get_or g i 0 ≡ 0
    → receipts net Q i ≡ receipts net P i
receipts_same net P Q f g i noted e =
    sums_agree 0 (λ x. get_or Q x 0) (λ x. get_or P x 0) (column net i) (λ k l.
    noted.told (get_or (column net i) k 0)
    (ap (λ i. get_or g i 0) (column_place net i k l).1 ∙ e))

-- and so is what it pays
pay_same : (net : Net) (s : ℕ → ℕ → ℕ) (P Q f g : List ℕ) (x : ℕ) → AreNoted net P Q f g
    → x < length net.debts → get_or g (debtor_of net x) 0 ≡ 0
    → get_or (pay_by net s Q) x 0 ≡ get_or (pay_by net s P) x 0
pay_same net s P Q f g x noted l e =
    pay_by_at net s Q x l
    ∙ ap (part_by net s x) (receipts_same net P Q f g (debtor_of net x) noted e)
    ∙ sym (pay_by_at net s P x l)

-- after n rounds, where banks divide by s
pub record IsReached (net : Net) (s : ℕ → ℕ → ℕ) (n : ℕ) (P Q last falls ws : List ℕ) : Type 0
  where
    pub down : IsDown net s n P
    pub waves : AreWavesTo net (falling_by net s) n ws
    pub same : Q ≡ P
    pub banks : length last ≡ length net.banks
    pub spared : falls ≡ replicate (length net.banks) 0
    pub current : AreCurrent net s last P P
    pub enough : HaveEnough net last P ws

-- where each bank has yet to divide, none pays already what it will
one_each : (net : Net) (last : List ℕ) (i : ℕ) → last ≡ replicate (length net.banks) 1
    → i < length net.banks → get_or last i 0 ≡ 1
one_each net last i ones l = ap (λ (f : List ℕ). get_or f i 0) ones
    ∙ get_or-replicate (length net.banks) i 1 0 l

-- so at first what is known of all banks is current
pub all_current : (net : Net) (s : ℕ → ℕ → ℕ) (last P Q : List ℕ) → IsNetwork net
    → last ≡ replicate (length net.banks) 1 → AreCurrent net s last P Q
all_current net s last P Q network ones x l e =
    let known = (network.each_debt x l).debtor_known in
    absurd (omega (arith, one_each net last (debtor_of net x) ones known))

-- nor is known to have enough
pub all_enough : (net : Net) (last P ws : List ℕ) → last ≡ replicate (length net.banks) 1
    → HaveEnough net last P ws
all_enough net last P ws ones i l e = absurd (omega (arith, one_each net last i ones l, e))

-- before the first round, so it is
pub reached_first : (net : Net) (s : ℕ → ℕ → ℕ) (P next last falls ws : List ℕ) → IsNetwork net
    → NeverFalls s → P ≡ all_claims net → next ≡ P
    → last ≡ replicate (length net.banks) 1 → falls ≡ replicate (length net.banks) 0
    → ws ≡ replicate (length net.banks) 0
    → IsReached net s 0 P next last falls ws
reached_first net s P next last falls ws network never claims same ones zeros none = record {
  down = down_first net s P never claims;
  waves = subst (AreWavesTo net (falling_by net s) 0) (sym none)
      (waves_none net (falling_by net s));
  same = same;
  banks = ap length ones ∙ length-replicate (length net.banks) 1;
  spared = zeros;
  current = all_current net s last P P network ones;
  enough = all_enough net last P ws ones;
}

-- a round in which some bank's receipts fell
module _ {net : Net} {s : ℕ → ℕ → ℕ} {n : ℕ} {P Q next last f g ws marked : List ℕ} {banks : List BankId}
    (old : IsReached net s n P next last f ws) (marks : AreMarked net P (n + 1) ws marked)
    (paid : Q ≡ pay_by net s P) (noted : AreNoted net P Q f g) (hit : AreHit g banks) where
  -- took off a unit
  pub reached_less : length banks ≢ 0 → sum Q < sum P
  reached_less some =
      let i = bank_at banks 0 in
      let none = ap (λ (f : List ℕ). get_or f i 0) old.spared in
      omega (arith, hit.fell 0 (omega arith), noted.units i, zeros_at (length net.banks) i)

  -- and leads on
  pub reached_more : length banks ≢ 0 → (R zeros : List ℕ) → R ≡ Q
      → zeros ≡ replicate (length last) 0
      → IsReached net s (n + 1) Q R g zeros marked
  reached_more some R zeros same wiped = record {
    down = down_more old.down Q paid
        (λ same. absurd (omega (arith, reached_less some, ap sum same)));
    waves = waves_more net (falling_by net s) n P ws marked old.down.at old.waves marks;
    same = same;
    banks = noted.banks ∙ ap length old.spared ∙ length-replicate (length net.banks) 0;
    spared = wiped ∙ ap (λ k. replicate k 0) old.banks;
    current = λ x l e. ap (λ (R : List ℕ). get_or R x 0) paid
        ∙ sym (pay_same net s P Q f g x noted l e);
    enough = λ i l e none.
        omega (arith, receipts_same net P Q f g i noted e, has_enough i l none);
  }
    where
      has_enough : (i : ℕ) → i < length net.banks → get_or marked i 0 ≡ 0
          → due net i ≤ estate net P i
      has_enough i l none = grind (arith, marks.short i l, marks.had i)

  -- where no bank's fell, nothing changed, and all is known
  pub reached_ends : length banks ≡ 0
      → (Q ≡ greatest_by net s) × (marked ≡ waves_in net (falling_by net s))
  reached_ends none =
      let same : Q ≡ P = ext_get_or 0 Q P noted.payments
      (λ x l. noted.told x (spared (creditor_of net x))) in
      let clears : pay_by net s P ≡ P = sym paid ∙ same in (
        same ∙ down_ends old.down clears,
        waves_end marked old.down clears
            (waves_more net (falling_by net s) n P ws marked old.down.at old.waves marks),
      )
    where
      spared : (i : ℕ) → get_or g i 0 ≡ 0
      spared i = grind (arith, hit.listed i, listed_place banks i)
