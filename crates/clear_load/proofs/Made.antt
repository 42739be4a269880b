-- A generated network is a network, and is read back as it is printed.
use Rattle.std.proofs.Common.{◌≡◌, ℕ, zero, suc, ◌<◌, ◌≤◌, Bool, true, false, List}
use Rattle.std.proofs.Common.{[], ◌∷◌, ◌++◌, length, reverse, slice_get, refl, sym, ap, ◌∙◌, subst}
use Rattle.std.proofs.Common.{if◌then◌else◌, arith}
use Rattle.std.specs.Fmt.{decimal}
use Rattle.std.specs.Option.{option_map_or}
use Rattle.std.specs.Str.Parse.{AllDigits}
use Rattle.std.proofs.lemmas.Bool.{ne_eqb}
use Rattle.std.proofs.lemmas.Fmt.{decimal_is_IsNumeral}
use Rattle.std.proofs.lemmas.List.FromFn.{get_or-map-range_with_len, length-map-range_with_len}
use Rattle.std.proofs.lemmas.Option.{slice_get-get_or}
use Rattle.std.proofs.lemmas.Str.Parse.{digit_from_value}
use Rattle.clr_net.specs.Net.{Net, name_of, with_debt}
use Rattle.clr_net.specs.declared.debt.Debt.{Debt}
use Rattle.net_check.proofs.Fields.{trimmed_end-stops, trimmed_start-stops}
use Rattle.net_check.specs.Field.{is_space_or_tab, trimmed_field, trimmed_start}
use Rattle.net_check.proofs.Within.{standard_is_within}
use Rattle.net_check.specs.Within.{IsWithin}
use Rattle.net_check.specs.declared.limits.Limits.{Limits}
use Rattle.net_check.specs.declared.limits.Limits.TheVariants as limits
use Rattle.net_csv.proofs.ReadBack.{printed_is_read_back}
use Rattle.net_csv.specs.Printing.{KeepsNames}
use Rattle.net_gen.proofs.Lawful.{tries_network}
use Rattle.net_gen.proofs.Tries.{small_after}
use Rattle.net_gen.specs.declared.TheConstants.{MOST_BANKS, MOST_TRIES}
use Rattle.net_gen.specs.Generated.{after_tries, bank_at, banks_made, debt_at, generated}
use Rattle.net_gen.specs.Generated.{is_dropped, name_at}
use Rattle.clear_load.specs.Reading.{IsReadBack}

-- a try leaves the banks
tried_banks : (net : Net) (d : Debt) (b : Bool)
    → (if b then net else with_debt net d).banks ≡ net.banks
tried_banks net d true = refl
tried_banks net d false = refl

-- so do all
tries_banks : (seed size t : ℕ) → (after_tries seed size t).banks ≡ banks_made seed size
unfolding after_tries
tries_banks seed size zero = refl
tries_banks seed size (suc t) =
    let net = after_tries seed size t in
    let d = debt_at seed size t in
    tried_banks net d (is_dropped net d) ∙ tries_banks seed size t

-- the name of a bank that was made
made_name : (seed n i : ℕ) → i < n
    → option_map_or (λ b. b.name) (slice_get (banks_made seed n) i) [] ≡ name_at i
made_name seed n i l =
    ap (λ o. option_map_or (λ b. b.name) o [])
    (slice_get-get_or (banks_made seed n) i (bank_at seed 0)
    (omega (arith, l, length-map-range_with_len (bank_at seed) 0 n)))
    ∙ ap (λ b. b.name)
    (get_or-map-range_with_len (bank_at seed) 0 n i i (bank_at seed 0) l (omega arith))

-- the last of a byte that is no space and of digits is no space
last_of : (b : ℕ) (ds : List ℕ) → is_space_or_tab b ≡ false → AllDigits 10 ds
    → (front : List ℕ) × (last : ℕ) × (b ∷ ds ≡ front ++ last ∷ []) × (is_space_or_tab last ≡ false)
last_of b [] other digits = ([], b, refl, other)
last_of b (d ∷ ds) other digits =
    let range = digit_from_value d digits.0 in
    let no_space : is_space_or_tab d ≡ false =
    rw (ne_eqb d 32 (λ e. omega (arith, range)), ne_eqb d 9 (λ e. omega (arith, range))) refl in
    let found = last_of d ds no_space digits.1 in
    (b ∷ found.0, found.1, ap (λ t. b ∷ t) found.2, found.3)

-- the name of a number begins and ends with no space
name_kept : (i : ℕ) → i < MOST_BANKS → trimmed_field (name_at i) ≡ name_at i
name_kept i l =
    let digits = (decimal_is_IsNumeral i (omega arith)).0.1 in
    let found = last_of 78 (decimal i) refl digits in
    ap (λ t. reverse (trimmed_start (reverse t)))
    (trimmed_start-stops (name_at i) (decimal i) 78 refl refl)
    ∙ trimmed_end-stops (name_at i) found.0 found.1 found.2 found.3

module _ (seed size tries : ℕ) (some : 1 ≤ size) (few : size ≤ MOST_BANKS) (few_tries : tries ≤ MOST_TRIES)
  where
    -- no name of a generated network begins or ends with a space
    generated_keeps_names : KeepsNames (generated seed size tries)
    generated_keeps_names i l =
        let banks = tries_banks seed size tries in
        let many = length-map-range_with_len (bank_at seed) 0 size in
        let below : i < size = omega (arith, ap length banks, many, l) in
        let name : name_of (generated seed size tries) i ≡ name_at i =
        ap (λ bs. option_map_or (λ b. b.name) (slice_get bs i) []) banks
        ∙ made_name seed size i below in
        subst (λ n. trimmed_field n ≡ n) (sym name) (name_kept i (omega (arith, below, few)))

    -- it is within the standard limits
    generated_is_within : IsWithin limits.Standard (generated seed size tries)
    generated_is_within =
        let small = small_after seed size tries in record {
          banks = omega (arith, small.banks, few);
          debts = omega (arith, small.debts, few_tries);
          owed = omega (arith, small.owed, few_tries);
        }

    -- and what is printed of it is read back
    generated_is_read_back : (by : Limits) → IsReadBack by (generated seed size tries)
    generated_is_read_back by =
        printed_is_read_back by (generated seed size tries)
        (tries_network seed size tries some few few_tries)
        (standard_is_within by (generated seed size tries) generated_is_within)
        generated_keeps_names

-- what is printed of a generated network is read back by either limits
pub generated_back : (by : Limits) (seed size tries : ℕ) → 1 ≤ size → size ≤ MOST_BANKS → tries ≤ MOST_TRIES
    → IsReadBack by (generated seed size tries)
generated_back by seed size tries some few few_tries =
    generated_is_read_back seed size tries some few few_tries by
