use Rattle.std.proofs.lemmas.Result.{IfOk-weaker}
use Rattle.toml.specs.View.{table_view}
use Rattle.stress.proofs.Lawful.{document_is}
use Rattle.stress.proofs.read.read_scenarios.Goals as goal

pub returns-clause-lawful : goal.returns-clause-lawful
returns-clause-lawful c =
    IfOk-weaker c.read_document.result _ _ (λ all are k d l. (are.read k d l).0)
    (document_is c.args.net.now (table_view c.in_ok-document.document) _ c.read_document.ensures.read)

pub returns-clause-in_limit : goal.returns-clause-in_limit
returns-clause-in_limit c =
    IfOk-weaker c.read_document.result _ _ (λ all are k d l. (are.read k d l).1)
    (document_is c.args.net.now (table_view c.in_ok-document.document) _ c.read_document.ensures.read)

pub returns-clause-scenarios_in_limit : goal.returns-clause-scenarios_in_limit
returns-clause-scenarios_in_limit c =
    IfOk-weaker c.read_document.result _ _ (λ all are. are.few)
    (document_is c.args.net.now (table_view c.in_ok-document.document) _ c.read_document.ensures.read)
