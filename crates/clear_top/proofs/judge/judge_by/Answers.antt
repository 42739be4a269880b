use Rattle.std.proofs.Common.{sym, subst}
use Rattle.clear_report.proofs.Verdicts.{verdict_names_bank}
use Rattle.clear_report.specs.Journals.{NamesBankOf}
use Rattle.clear_top.proofs.judge.judge_by.Goals as goal

pub lawful_text-requires : goal.lawful_text-requires
lawful_text-requires c = c.replay_with-verdict.ensures.verdict.over

pub reject-requires : goal.reject-requires
reject-requires c =
    subst (NamesBankOf c.args.net.now) (sym c.replay_with-verdict.ensures.verdict.told)
    (verdict_names_bank c.args.net.now c.args.journal.now)
