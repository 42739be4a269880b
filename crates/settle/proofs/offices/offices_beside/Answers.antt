use Rattle.std.proofs.Common.{◌≡◌, map, Ok, arith}
use Rattle.std.proofs.lemmas.Result.{IfOk-weaker}
use Rattle.settle.specs.Offices.{AreOffices, no_office}
use Rattle.settle.proofs.OfficeLists.{made_each}
use Rattle.settle.proofs.offices.offices_beside.Goals as goal

pub returns : goal.returns
returns g c =
    let net = c.args.net.now in
    let w = c.args.workers in
    let made = c.in_ok-made.made.items in
    IfOk-weaker c.all_made.result (λ os. made ≡ map Ok os.items) (λ os. AreOffices net w w os.items)
    (λ os is. made_each net w made os.items (omega (arith, c.in_ok-made.ensures.len, c.in_ok-made.made.ok)) is (λ k l. (c.in_ok-made.ensures.each k (Ok no_office) l).1.met)) c.all_made.ensures
