use Rattle.std.proofs.Common.{◌≡◌, true, nat_lt, length, arith}
use Rattle.std.proofs.lemmas.Bool.{lt-ltb}
use Rattle.net_check.specs.Within.{most_banks}
use Rattle.net_csv.proofs.banks.bank_of.Goals as goal

pub returns-in-Some-clause-refused : goal.returns-in-Some-clause-refused
returns-in-Some-clause-refused c =
    let banks = c.args.net.now.banks in
    let most = most_banks c.args.by in
    let room : nat_lt (length banks) most ≡ true = lt-ltb (length banks) most (omega arith) in
    λ f. rw (c.in-One.is, room, c.in-Some.ensures) (c.check_bank.ensures.refused f)

pub returns-in-Some-four_fields-clause-refused : goal.returns-in-Some-four_fields-clause-refused
returns-in-Some-four_fields-clause-refused c =
    let banks = c.args.net.now.banks in
    let most = most_banks c.args.by in
    let room : nat_lt (length banks) most ≡ true = lt-ltb (length banks) most (omega arith) in
    λ f. rw (c.in-Two.is, room, c.in-Some-four_fields.ensures) (c.check_bank-in-Some-four_fields.ensures.refused f)
