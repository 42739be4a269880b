-- A sink in memory.
use Rattle.std.specs.Prelude.{ℕ, ◌-◌, min, List, [], ◌++◌, length, take, Bool, ◌||◌, ◌==◌, nat_le}
use Rattle.clr_edge.specs.Faults.{counted}

-- The bytes that were taken, the most that it holds and takes at one put, the number of the put
-- that fails (0 for none), how many puts there were and how many of them failed.
pub record SinkState : Type 0 where
  pub bytes : List ℕ
  pub room : ℕ
  pub most : ℕ
  pub fail_at : ℕ
  pub puts : ℕ
  pub faults : ℕ

-- nothing is written yet
abbrev pub empty_sink : ℕ → ℕ → ℕ → SinkState
empty_sink room most fail_at = record {
  bytes = [];
  room = room;
  most = most;
  fail_at = fail_at;
  puts = 0;
  faults = 0;
}

-- the next put fails: it is the one that is to, or the room is full
abbrev pub is_refused : SinkState → Bool
is_refused sink = (counted sink.puts == sink.fail_at) || nat_le sink.room (length sink.bytes)

-- how many bytes the next put takes of so many
abbrev pub taken_of : SinkState → ℕ → ℕ
taken_of sink count = min (min count sink.most) (sink.room - length sink.bytes)

-- after one more put, which took so many bytes of the piece
abbrev pub with_put : SinkState → List ℕ → ℕ → SinkState
with_put sink piece count =
    record sink { bytes = sink.bytes ++ take count piece; puts = counted sink.puts }

-- after one more put, which failed
abbrev pub with_fault : SinkState → SinkState
with_fault sink = record sink { puts = counted sink.puts; faults = counted sink.faults }
