-- The device calls of a disk.
use Rattle.std.specs.Prelude.{ℕ}

-- the calls of a disk that make its stream, after the one that asks its length: three writes, each with a sync
abbrev pub calls_to_make : ℕ
calls_to_make = 6

-- the calls of a disk that open its stream: its length, and those that make the stream
abbrev pub calls_to_open : ℕ
calls_to_open = 7
