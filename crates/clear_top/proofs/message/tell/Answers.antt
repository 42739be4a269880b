-- The line of each status is what was written.
use Rattle.clear_top.proofs.message.tell.Goals as goal

pub returns-in-Usage-clause-told : goal.returns-in-Usage-clause-told
returns-in-Usage-clause-told g c = rw c.in-Usage.is c.put_text.ensures

pub returns-in-ReadFault-clause-told : goal.returns-in-ReadFault-clause-told
returns-in-ReadFault-clause-told g c = rw (c.in-ReadFault.is, ← c.name_of.ensures) c.tell_name.ensures

pub returns-in-WriteFault-clause-told : goal.returns-in-WriteFault-clause-told
returns-in-WriteFault-clause-told g c = rw c.in-WriteFault.is c.put_text-in-WriteFault.ensures

pub returns-in-Mem-clause-told : goal.returns-in-Mem-clause-told
returns-in-Mem-clause-told g c = rw c.in-Mem.is c.put_text-in-Mem.ensures

pub returns-in-Unlawful-clause-told : goal.returns-in-Unlawful-clause-told
returns-in-Unlawful-clause-told g c = rw c.in-Unlawful.is c.put_text-in-Unlawful.ensures
