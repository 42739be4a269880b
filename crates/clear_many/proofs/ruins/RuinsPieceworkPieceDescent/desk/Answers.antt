use Rattle.std.proofs.Common.{length}
use Rattle.std.proofs.lemmas.Result.{IfOk-weaker}
use Rattle.impact.specs.Ruined.{IsDescentByRuins, least_left}
use Rattle.clear_many.proofs.ruins.RuinsPieceworkPieceDescent.desk.Goals as goal

pub returns : goal.returns
returns c =
    let net = c.args.self.now.net.now in
    IfOk-weaker c.of.result (IsDescentByRuins net) _ (λ descent is low. is)
    (c.of.ensures (length net.banks) (least_left net))
