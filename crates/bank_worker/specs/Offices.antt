-- What a worker keeps from round to round.
use Rattle.std.specs.Prelude.{◌≡◌, ℕ, List, filter, length, map}
use Rattle.std.specs.List.{range_with_len}
use Rattle.clr_net.specs.Limits.{IsNetwork}
use Rattle.clr_net.specs.Net.{Net}
use Rattle.clear_core.specs.Buffers.{HasRoom}
use Rattle.bank_desk.specs.Desks.{BankView, desk_of}
use Rattle.pay_words.specs.Views.{is_of_worker}
use Rattle.bank_worker.specs.Rings.{creditors_of}

-- an office: its desks, the number of its worker, the creditor of each debt, how many banks it can
-- mark, and the longest row for which it has room
pub record OfficeView : Type 0 where
  pub desks : List BankView
  pub worker : ℕ
  pub creditors : List ℕ
  pub marks : ℕ
  pub room : ℕ

-- the banks of the worker i among so many, in file order
abbrev pub banks_of_worker : Net → ℕ → ℕ → List ℕ
banks_of_worker net workers i =
    filter (is_of_worker workers i) (range_with_len 0 (length net.banks))

-- the office serves these banks of the network
pub record IsOfficeFor (net : Net) (banks : List ℕ) (o : OfficeView) : Type 0 where
  pub network : IsNetwork net
  pub desks : o.desks ≡ map (desk_of net) banks
  pub creditors : o.creditors ≡ creditors_of net
  pub marks : o.marks ≡ length net.banks
  pub room : HasRoom net o.room
