-- The text's reader of literals gives the text.
use Rattle.tau_inspect.proofs.ReadWords.{text_read}
use Rattle.tau_inspect.proofs.words.read_text.Goals as goal

pub returns-in-Ok-Text : goal.returns-in-Ok-Text
returns-in-Ok-Text c = text_read c.args.word.now c.in-Ok-Text.t (rw c.in-Ok-Text.field-0-is at c.in-Ok-Text.ensures)
