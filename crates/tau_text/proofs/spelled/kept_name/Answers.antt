use Rattle.tau_text.proofs.Names.{named_utf8}
use Rattle.tau_text.proofs.spelled.kept_name.Goals as goal

pub unreachable-requires : goal.unreachable-requires
unreachable-requires c = c.in_default.ensures.cases.0 (named_utf8 c.args.word.now c.requires.named)
