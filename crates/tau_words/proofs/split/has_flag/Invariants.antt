use Rattle.std.proofs.Common.{◌≡◌, drop, map}
use Rattle.std.specs.Prelude.{string_bytes}
use Rattle.tau_words.specs.Split.{has_flag}
use Rattle.tau_words.proofs.split.has_flag.Given as goal

abbrev pub invariant-loop-word : goal.invariant-loop-word
invariant-loop-word l = has_flag (map string_bytes (drop l.word-index l.words)) ≡ has_flag (map string_bytes l.words)
