use Rattle.std.proofs.Common.{codes, sym, ap, ◌∙◌, Ok, Err}
use Rattle.toml.proofs.Views.{table_get}
use Rattle.stress.specs.Reading.{read_all}
use Rattle.stress.proofs.read.read_document.Goals as goal

pub returns-in-Some-as_array-clause-read : goal.returns-in-Some-as_array-clause-read
returns-in-Some-as_array-clause-read c =
    let only = sym c.has_only.ensures ∙ c.if-not-has_only.false in
    let found = table_get c.get.result (codes "scenario") c.args.document.now.entries c.get.ensures.value in
    rw (only, ← found, c.in-Some.is, ← c.in-Some-as_array.ensures, ← c.as_slice.ensures.value)
    c.read_all.ensures.read

pub returns-in-Some-as_array-clause-refused : goal.returns-in-Some-as_array-clause-refused
returns-in-Some-as_array-clause-refused c =
    let only = sym c.has_only.ensures ∙ c.if-not-has_only.false in
    let found = table_get c.get.result (codes "scenario") c.args.document.now.entries c.get.ensures.value in
    rw (only, ← found, c.in-Some.is, ← c.in-Some-as_array.ensures, ← c.as_slice.ensures.value)
    c.read_all.ensures.refused

pub returns-in-None-as_array-clause-refused : goal.returns-in-None-as_array-clause-refused
returns-in-None-as_array-clause-refused c = λ f e.
    let only = sym c.has_only.ensures ∙ c.if-not-has_only.false in
    let found = table_get c.get.result (codes "scenario") c.args.document.now.entries c.get.ensures.value in
    rw (only, ← found, c.in-Some.is, ← c.in-None-as_array.ensures)
    (ap Err (sym c.fault-in-None-as_array.ensures ∙ (cc e)))

pub returns-in-None-clause-read : goal.returns-in-None-clause-read
unfolding read_all
returns-in-None-clause-read c =
    let only = sym c.has_only.ensures ∙ c.if-not-has_only.false in
    let found = table_get c.get.result (codes "scenario") c.args.document.now.entries c.get.ensures.value in
    rw (only, ← found, c.in-None.is) (ap Ok (sym c.new.ensures.items))
