use Rattle.std.proofs.Common.{◌≡◌, Ok, Err, rules}
use Rattle.std.specs.Option.{option_map}
use Rattle.net_check.specs.Field.{trimmed_field}
use Rattle.net_check.specs.Record.{new_bank}
use Rattle.net_check.specs.declared.fault.FileKind.TheVariants as file
use Rattle.net_check.proofs.Additions.{new_bank-ok}
use Rattle.net_check.proofs.Passed.{fault_told, no_fault_told}
use Rattle.net_check.proofs.bank.check_bank.Goals as goal

pub returns-in-Ok-of-clause-refused : goal.returns-in-Ok-of-clause-refused
returns-in-Ok-of-clause-refused c =
    let told : new_bank c.args.net.now (trimmed_field c.args.name.now) (trimmed_field c.args.cash.now) (trimmed_field c.args.rule.now)
    (option_map (λ f. trimmed_field f.now) c.args.outside)
    ≡ Ok (record { name = c.in-Ok-of.name; cash = c.in-Ok.cash; rule = c.in-Ok.rule; outside = c.in-Ok.outside }) = search rules in
    no_fault_told file.Banks c.args.row _ _ _ told (λ x t. absurd (cc))

pub returns-in-Ok-of-clause-new : goal.returns-in-Ok-of-clause-new
returns-in-Ok-of-clause-new c =
    new_bank-ok c.args.net.now (trimmed_field c.args.name.now) (trimmed_field c.args.cash.now) (trimmed_field c.args.rule.now)
    (option_map (λ f. trimmed_field f.now) c.args.outside)
    (record { name = c.in-Ok-of.name; cash = c.in-Ok.cash; rule = c.in-Ok.rule; outside = c.in-Ok.outside }) (search rules) c.requires

pub returns-in-Err-of-clause-refused : goal.returns-in-Err-of-clause-refused
returns-in-Err-of-clause-refused c =
    let told : new_bank c.args.net.now (trimmed_field c.args.name.now) (trimmed_field c.args.cash.now) (trimmed_field c.args.rule.now)
    (option_map (λ f. trimmed_field f.now) c.args.outside)
    ≡ Ok (record { name = trimmed_field c.args.name.now; cash = c.in-Ok.cash; rule = c.in-Ok.rule; outside = c.in-Ok.outside }) = search rules in
    no_fault_told file.Banks c.args.row _ _ _ told (λ x t. absurd (cc))

pub returns-in-Err-clause-refused : goal.returns-in-Err-clause-refused
returns-in-Err-clause-refused c =
    let told : new_bank c.args.net.now (trimmed_field c.args.name.now) (trimmed_field c.args.cash.now) (trimmed_field c.args.rule.now)
    (option_map (λ f. trimmed_field f.now) c.args.outside) ≡ Err c.in-Err.kind = search rules in
    fault_told file.Banks c.args.row _ c.in-Err.kind told
