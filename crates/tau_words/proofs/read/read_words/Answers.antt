use Rattle.std.proofs.Common.{map, sym, ◌∙◌, arith}
use Rattle.std.specs.Prelude.{string_bytes}
use Rattle.std.proofs.lemmas.List.{length-map}
use Rattle.tau_words.proofs.Flags.{no_command}
use Rattle.tau_words.proofs.Lengths.{too_long}
use Rattle.tau_words.proofs.read.read_words.Goals as goal
use Rattle.tau_words.proofs.read.read_words.Goals.{then-words-gt-MAX_WORDS-via-then-words-gt-MAX_WORDS, then-words-gt-MAX_WORDS-via-else-words-gt-MAX_WORDS+then-has_flag}

pub returns-then-words-gt-MAX_WORDS-clause-usage : goal.returns-then-words-gt-MAX_WORDS-clause-usage
returns-then-words-gt-MAX_WORDS-clause-usage c = λ e. elim c.then-words-gt-MAX_WORDS.branch [
  | then-words-gt-MAX_WORDS-via-then-words-gt-MAX_WORDS w ↦ too_long (map string_bytes c.args.words.now) (omega (arith, w.if-words-gt-MAX_WORDS.true, length-map c.args.words.now string_bytes))
  | then-words-gt-MAX_WORDS-via-else-words-gt-MAX_WORDS+then-has_flag w ↦ no_command (map string_bytes c.args.words.now) (sym w.has_flag.ensures ∙ w.if-has_flag.true)
]
