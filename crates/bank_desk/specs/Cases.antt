-- Worked cases of what a desk knows and would pay.
use Rattle.std.specs.Prelude.{◌≡◌, ℕ, [], ◌∷◌, refl}
use Rattle.clr_net.specs.declared.rule.RuleKind.TheVariants as kind
use Rattle.rule_unit.specs.Units.{awards_after}
use Rattle.clr_net.specs.Division.{share_by_from}
use Rattle.clr_net.specs.Samples.{chain}
use Rattle.bank_desk.specs.Desks.{BankView, desk_of, target}

-- three claims of 3 on cash of 5, by the equal rule, with so much owed outside
abbrev pub three_claims_with : ℕ → BankView
three_claims_with n = record {
  bank = 0;
  cash = 5;
  outside = n;
  rule = kind.Equal;
  debts_out = 0 ∷ 1 ∷ 2 ∷ [];
  claims = 3 ∷ 3 ∷ 3 ∷ [];
  classes = 1 ∷ 1 ∷ 1 ∷ [];
  debts_in = [];
}

pub three_claims_of_cash : target (three_claims_with 0) 0 ≡ 2 ∷ 2 ∷ 1 ∷ []
unfolding awards_after share_by_from
three_claims_of_cash = refl

pub three_claims_of_cash_and_receipts : target (three_claims_with 0) 4 ≡ 3 ∷ 3 ∷ 3 ∷ []
unfolding awards_after share_by_from
three_claims_of_cash_and_receipts = refl

-- with 2 owed outside, 3 of the cash are left for them
pub three_claims_after_outside : target (three_claims_with 2) 0 ≡ 1 ∷ 1 ∷ 1 ∷ []
unfolding awards_after share_by_from
three_claims_after_outside = refl

-- and nothing where it is more than there is
pub three_claims_and_more_outside : target (three_claims_with 9) 4 ≡ 0 ∷ 0 ∷ 0 ∷ []
unfolding awards_after share_by_from
three_claims_and_more_outside = refl

-- the bank in the midst of a chain owes the debt 1, and is owed the debt 0
pub desk_in_chain : desk_of chain 1
    ≡ record {
      bank = 1;
      cash = 1;
      outside = 0;
      rule = kind.Order;
      debts_out = 1 ∷ [];
      claims = 9 ∷ [];
      classes = 1 ∷ [];
      debts_in = 0 ∷ [];
    }
desk_in_chain = refl
