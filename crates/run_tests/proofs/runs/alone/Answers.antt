use Rattle.std.proofs.Common.{ap, map}
use Rattle.clr_net.specs.Net.{of_cash}
use Rattle.run_tests.proofs.runs.alone.Goals as goal

-- the offices are of the network whose copy is cleared
pub settle_alone-requires : goal.settle_alone-requires
settle_alone-requires g c = record {
  offices = record {
    other = c.args.net.now;
    banks = ap (λ n. map (of_cash 0) n.banks) c.in_ok-copy.ensures;
    debts = ap (λ n. n.debts) c.in_ok-copy.ensures;
    offices = c.in_ok-offices.ensures;
  };
}
