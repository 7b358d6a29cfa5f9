-- What a source and a sink in memory show, and when their calls fail.
use Rattle.std.specs.Prelude.{◌≡◌, ◌⊎◌, ℕ, ◌+◌, ◌-◌, ◌^◌, min, Bool, true, false, List, drop, Result, OnOk, OnErr}
use Rattle.tau_disk.specs.Replay.{is_in}
use Rattle.tau_disk.specs.declared.streams.MemSource.{MemSource}
use Rattle.tau_disk.specs.declared.streams.MemSink.{MemSink}

-- what is left of the source
abbrev pub left_of : MemSource → List ℕ
left_of source = drop source.at source.bytes.items

-- how many reads the source has had
abbrev pub reads_of : MemSource → ℕ
reads_of source = source.number

-- whether the read with this number is to fail
abbrev pub fails_reading : MemSource → ℕ → Bool
fails_reading source k = is_in source.failing.items k

-- what the sink holds
abbrev pub held_by : MemSink → List ℕ
held_by sink = sink.bytes.items

-- how many writes the sink has had
abbrev pub writes_of : MemSink → ℕ
writes_of sink = sink.number

-- whether the write with this number is to fail
abbrev pub fails_writing : MemSink → ℕ → Bool
fails_writing sink k = is_in sink.failing.items k

-- whether a growth was refused to the sink
abbrev pub is_short_sink : MemSink → Bool
is_short_sink sink = sink.is_short

-- one call more, up to the last value of the counter
abbrev pub one_more : ℕ → ℕ
one_more number = min (number + 1) (2 ^ 64 - 1)

-- The read is counted, and fails exactly if it is to fail.
pub record ReadsAsPlanned {T E : Type 0} (old new : MemSource) (result : Result T E) : Type 0 where
  pub same : (k : ℕ) → fails_reading new k ≡ fails_reading old k
  pub counted : reads_of new ≡ one_more (reads_of old)
  pub ok : OnOk result (fails_reading old (reads_of new) ≡ false)
  pub failed : OnErr result (fails_reading old (reads_of new) ≡ true)

-- The write is counted. It fails if it is to fail, and else only if a growth was refused, which is told from then on.
pub record WritesAsPlanned {T E : Type 0} (old new : MemSink) (result : Result T E) : Type 0 where
  pub same : (k : ℕ) → fails_writing new k ≡ fails_writing old k
  pub counted : writes_of new ≡ one_more (writes_of old)
  pub ok : OnOk result ((fails_writing old (writes_of new) ≡ false) × (is_short_sink new ≡ is_short_sink old))
  pub failed : OnErr result (((fails_writing old (writes_of new) ≡ true) × (is_short_sink new ≡ is_short_sink old)) ⊎ ((fails_writing old (writes_of new) ≡ false) × (is_short_sink new ≡ true)))
