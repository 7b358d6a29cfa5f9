-- The reader is as it was.
use Rattle.std.proofs.Common.{refl, sym, ◌∙◌}
use Rattle.tau_follow.proofs.Longer.{front_taken, declared_none, read_undone}
use Rattle.tau_follow.proofs.reader.Reader.undo.Goals as goal

pub returns-then-at-eq0-clause-read : goal.returns-then-at-eq0-clause-read
returns-then-at-eq0-clause-read c = λ f n content r ps m g h.
    read_undone f n content r _ ps h m.rest m.at (c.truncate-2.ensures.items ∙ front_taken r.vectors.items c.args.self.now.vectors.items c.args.mark.vectors m.vectors g.vectors) m.last
    (declared_none f n content r ps c.none_declared.result h.going (sym m.at ∙ c.if-at-eq0.true) c.none_declared.ensures) refl
