-- A block that waits is that of its scenario: its lines are those of the payments.
use Rattle.std.proofs.Common.{◌≡◌, ℕ, zero, suc, ◌<◌, List, [], ◌∷◌, ◌++◌, Vec, Global, get_or, length, map, slice_index}
use Rattle.std.proofs.Common.{refl, sym, ap, ◌∙◌, append_assoc, append-nil, arith}
use Rattle.std.specs.Fmt.{decimal}
use Rattle.std.specs.List.{flat_map, zip}
use Rattle.std.proofs.lemmas.Grind.{get_or_default_zero}
use Rattle.std.proofs.lemmas.List.{ext_get_or, get_or-map, length-map}
use Rattle.std.proofs.lemmas.List.FromFn.{get_or-map-range_with_len, length-map-range_with_len}
use Rattle.std.proofs.lemmas.Slice.Zip.{length-zip}
use Rattle.clr_net.specs.Lines.{line}
use Rattle.clr_net.specs.Net.{Net, claim_of, debt_numbers}
use Rattle.clear_report.specs.Blocks.{scenario_block, scenario_line}
use Rattle.clear_report.specs.Text.{AreHeadsOf, debt_fields, head_of, payment_line, payments_header, payments_text}
use Rattle.clear_report.proofs.Begun.{as_many_heads, head_at}
use Rattle.clear_report.proofs.Lines.{line_ends}
use Rattle.clear_report.proofs.Pieces.{all_of}
use Rattle.clear_stress.specs.Waiting.{paid_line, paid_lines, waiting_text}
use Rattle.clear_stress.specs.declared.blocks.UnwrittenBlock.{UnwrittenBlock}
use Rattle.clr_edge.proofs.Passed.{both_at, both_there}

-- what stands in a place of a list
place_of : {A : Type 0} (xs : List A) (i : ℕ) → i < length xs → (x : A) × (x ≡ get_or xs i x)
place_of [] i l = absurd (omega (arith, l))
place_of (x ∷ xs) zero l = (x, refl)
place_of (x ∷ xs) (suc i) l = place_of xs i (omega (arith, l))

-- the parts of a block, put together otherwise
regrouped : (name header lines below : List ℕ) → (name ++ header ++ []) ++ (lines ++ below) ≡ name ++ (header ++ lines) ++ below
regrouped name header lines below = simp (append_assoc, append-nil)

module _ (net : Net) (heads : List (Vec ℕ Global)) (P : List ℕ) (are : AreHeadsOf net heads)
    (over : length P ≡ length net.debts) where
  -- the line of the debt x
  same_line : (x : ℕ) (h : Vec ℕ Global) → x < length net.debts → h ≡ get_or heads x h
      → paid_line (h, get_or P x 0) ≡ payment_line net P x
  same_line x h l at =
      ap (λ b. b ++ line (decimal (slice_index P x) ∷ []))
      (head_at (head_of net) heads (length net.debts) are x h l at)
      ∙ line_ends (debt_fields net x ++ decimal (claim_of net x) ∷ []) (decimal (slice_index P x))

  -- there is a beginning for each debt
  as_many : length heads ≡ length net.debts
  as_many = as_many_heads (head_of net) heads (length net.debts) are

  -- one line after another
  each_line : (x : ℕ) → x < length net.debts
      → get_or (map paid_line (zip heads P)) x [] ≡ get_or (map (payment_line net P) (debt_numbers net)) x []
  each_line x l =
      let lh : x < length heads = omega (arith, l, as_many) in
      let lp : x < length P = omega (arith, l, over) in
      let p = get_or P x 0 in
      let found = place_of heads x lh in
      get_or-map paid_line (zip heads P) x (found.0, p) [] (both_there heads P x lh lp)
      ∙ ap paid_line (sym (both_at heads P x lh lp found.0 p found.1 (sym (get_or_default_zero P x p lp))))
      ∙ same_line x found.0 l found.1
      ∙ sym (get_or-map-range_with_len (payment_line net P) 0 (length net.debts) x x [] l (omega arith))

  -- so the lines made of beginnings and payments are those of the payments
  same_lines : map paid_line (zip heads P) ≡ map (payment_line net P) (debt_numbers net)
  same_lines =
      let long : length (map paid_line (zip heads P)) ≡ length net.debts =
      length-map (zip heads P) paid_line ∙ length-zip heads P ∙ omega (arith, as_many, over) in
      let wide = length-map-range_with_len (payment_line net P) 0 (length net.debts) in
      ext_get_or [] (map paid_line (zip heads P)) (map (payment_line net P) (debt_numbers net)) (long ∙ sym wide)
      (λ x l. each_line x (omega (arith, l, long)))

  -- all lines are those of the payments
  lines_are : paid_lines heads P ≡ flat_map (payment_line net P) (debt_numbers net)
  lines_are = all_of paid_line (payment_line net P) (zip heads P) (debt_numbers net) same_lines

  -- and the block is that of the scenario
  pub block_waits : (name defaults : List ℕ) (w : UnwrittenBlock) → w.above.items ≡ scenario_block name payments_header []
      → w.paid.items ≡ P → w.below.items ≡ defaults
      → waiting_text heads w ≡ scenario_block name (payments_text net P) defaults
  block_waits name defaults w above paid below =
      rw (above, paid, below, lines_are)
      (regrouped (scenario_line name) payments_header (flat_map (payment_line net P) (debt_numbers net)) defaults)
