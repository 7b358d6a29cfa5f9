-- Three numbers, each at its place.
use Rattle.std.proofs.Common.{pos, ◌∙◌}
use Rattle.tau_base.specs.declared.value.Value.TheVariants.{Int}
use Rattle.tau_text.proofs.OnePass.{three_kept}
use Rattle.tau_text.proofs.quick.set_three.Goals as goal

pub returns : goal.returns
returns c = c.truncate.ensures.items ∙ three_kept (Int (pos c.args.table)) (Int (pos c.args.row)) (Int (pos c.args.number)) c.args.args.now.items c.keep.new.args.items c.keep-2.new.args.items c.keep-3.new.args.items c.keep.ensures.kept c.keep-2.ensures.kept c.keep-3.ensures.kept
