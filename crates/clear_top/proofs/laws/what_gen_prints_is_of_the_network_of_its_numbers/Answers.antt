use Rattle.clear_top.proofs.Generating.{by_status}
use Rattle.clear_top.proofs.laws.what_gen_prints_is_of_the_network_of_its_numbers.Goals as goal

pub returns : goal.returns
returns c = λ shelf sink job e is_gen. by_status shelf sink job is_gen e.status e.sealed
