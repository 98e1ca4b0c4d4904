-- What contracts see of a sink in memory.
use Rattle.std.specs.Prelude.{◌≡◌, ℕ, ◌-◌, ◌<◌, ◌⊎◌, List, length}
use Rattle.std.specs.List.{Contains}
use Rattle.ct_outside.specs.Counts.{raised}

pub record SinkState : Type 0 where
  -- the text that it took so far
  pub taken : List ℕ
  -- how many bytes it takes in all
  pub room : ℕ
  -- the numbers of the writes that fail, the first write being number 1
  pub failing : List ℕ
  -- how many writes there were
  pub writes : ℕ
  -- how many writes failed
  pub faults : ℕ

-- how many bytes it still takes
abbrev pub room_left : SinkState → ℕ
room_left sink = sink.room - length sink.taken

-- the next write fails: it is one of those that were named, or has a piece for a full sink
abbrev pub WriteFails : SinkState → List ℕ → Type 0
WriteFails sink piece = Contains sink.failing (raised sink.writes) ⊎ ((0 < length piece) × (room_left sink ≡ 0))
