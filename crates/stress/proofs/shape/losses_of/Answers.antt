use Rattle.std.proofs.Common.{codes}
use Rattle.toml.proofs.Views.{table_get}
use Rattle.stress.proofs.shape.losses_of.Goals as goal

pub returns-in-Some-as_array : goal.returns-in-Some-as_array
returns-in-Some-as_array c =
    let found = table_get c.get.result (codes "loss") c.args.table.now.entries c.get.ensures.value in
    rw (← found, c.in-Some.is, c.as_slice.ensures.value) c.in-Some-as_array.ensures

pub returns-in-None-as_array : goal.returns-in-None-as_array
returns-in-None-as_array c =
    let found = table_get c.get.result (codes "loss") c.args.table.now.entries c.get.ensures.value in
    rw (← found, c.in-Some.is) c.in-None-as_array.ensures

pub returns-in-None : goal.returns-in-None
returns-in-None c =
    let found = table_get c.get.result (codes "loss") c.args.table.now.entries c.get.ensures.value in
    rw (← found, c.in-None.is)
