use Rattle.std.proofs.Common.{sym, ◌∙◌}
use Rattle.stress.proofs.Found.{no_document, document_is}
use Rattle.stress.proofs.document.document_of.Goals as goal

pub returns-in_default-clause-refused : goal.returns-in_default-clause-refused
returns-in_default-clause-refused c = λ f e.
    (sym c.fault.ensures ∙ (cc e), no_document c.args.bytes.now c.in_default.ensures.cases.0)

pub returns-in-Ok-table_from_str-clause-ok : goal.returns-in-Ok-table_from_str-clause-ok
returns-in-Ok-table_from_str-clause-ok c =
    let utf8 = c.in-Ok.ensures.cases in
    document_is c.args.bytes.now c.in-Ok.text.now _ utf8.0 utf8.1
    c.in-Ok-table_from_str.ensures.ok
