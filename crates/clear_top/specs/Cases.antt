-- Worked cases of messages, of what is shown of a run, and of what is answered of its journal.
use Rattle.std.specs.Prelude.{◌≡◌, List, [], ◌∷◌, ◌++◌, None, Some, codes, refl}
use Rattle.std.specs.Fmt.{digits}
use Rattle.clr_net.specs.Samples.{chain}
use Rattle.clear_core.specs.Clearing.{rounds}
use Rattle.clear_core.specs.declared.event.Raise.{Raise}
use Rattle.clear_words.specs.declared.show.Show.TheVariants as show
use Rattle.net_check.specs.Record.{fault_at}
use Rattle.net_check.specs.declared.fault.FileKind.TheVariants as file
use Rattle.net_check.specs.declared.fault.FaultKind.TheVariants as fault
use Rattle.pay_words.specs.Views.{a_raise}
use Rattle.raise_journal.specs.Cases.{verdict_on_literals}
use Rattle.raise_journal.specs.Verdicts.{judged}
use Rattle.clear_load.specs.Cases.{on_files}
use Rattle.clear_top.specs.Meaning.{answer_to}
use Rattle.clear_top.specs.Message.{message}
use Rattle.clear_top.specs.Reports.{clear_text}
use Rattle.clear_top.specs.declared.status.Status.TheVariants as status

pub unread_debts_are_named :
    message (status.ReadFault file.Debts) (Some on_files)
    ≡ codes "clearing: cannot read d.csv\n"
unread_debts_are_named = refl

pub fault_is_told :
    message (status.Refused (fault_at file.Debts 10 fault.DoubleDebt)) (Some on_files)
    ≡ codes "clearing: debts row 10: double debt (11)\n"
unfolding digits
fault_is_told = refl

-- a journal of the chain: A pays 7, and then B pays 8
abbrev chain_journal : List Raise
chain_journal = a_raise 1 0 7 ∷ a_raise 2 1 8 ∷ []

-- payments and journal of a run on the chain, after two rounds
pub chain_is_cleared :
    clear_text show.Both chain chain_journal 2
    ≡ codes "debtor,creditor,class,claim,paid\nA,B,1,10,7\nB,C,1,9,8\n\n"
    ++ codes "stamp,debtor,creditor,class,to\n1,A,B,1,7\n2,B,C,1,8\nrounds,2\n"
unfolding verdict_on_literals rounds
chain_is_cleared = refl

-- the answer to this journal: it is lawful, and comes to these payments
pub chain_journal_is_answered :
    answer_to chain chain_journal (judged chain chain_journal).verdict
    ≡ record {
      status = status.Done;
      sealed = None;
      text = codes "lawful,2\n\ndebtor,creditor,class,claim,paid\nA,B,1,10,7\nB,C,1,9,8\n";
    }
unfolding verdict_on_literals rounds
chain_journal_is_answered = refl
