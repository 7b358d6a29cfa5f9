use Rattle.std.proofs.Common.{[], ◌∷◌, ◌++◌, ◌<◌, List, map, reverse, length, sym, subst, ap, ◌∙◌, arith}
use Rattle.std.proofs.lemmas.List.{reverse-append}
use Rattle.std.proofs.lemmas.Result.{err_from_is_err_and}
use Rattle.tau_stream.specs.declared.writer.Writer.{Writer}
use Rattle.tau_stream.specs.Writer.{disk_of}
use Rattle.tau_open.specs.declared.start.StreamStart.{StreamStart}
use Rattle.tau_open.specs.Reopening.{RefusesStart}
use Rattle.tau_open.proofs.Starting.{next_start, next_read, starting_more, stopped}
use Rattle.tau_open.proofs.reopen.start_streams.Goals as goal

pub start_next-requires-clause-sound : goal.start_next-requires-clause-sound
start_next-requires-clause-sound g c =
    let is = ap (λ (xs : List StreamStart). reverse xs) c.in-Some.ensures.items ∙ reverse-append c.pop.new.self.items (c.in-Some.start ∷ []) in
    c.requires.sound c.loop-j.j c.in-Some.start (next_start g.D.Disk c.args.starts.items c.loop-j.j c.loop-j.left.items c.pop.new.self.items c.in-Some.start c.loop-j.invariant.1 is).0

pub start_next-requires-clause-read : goal.start_next-requires-clause-read
start_next-requires-clause-read g c tells =
    let is = ap (λ (xs : List StreamStart). reverse xs) c.in-Some.ensures.items ∙ reverse-append c.pop.new.self.items (c.in-Some.start ∷ []) in
    next_read g.D.Disk c.args.starts.items c.loop-j.j (reverse c.args.stack.now.items) (reverse c.loop-j.stack.items) c.loop-j.writers.items c.in-Some.start c.loop-j.invariant.0 (c.requires.read tells)
    (next_start g.D.Disk c.args.starts.items c.loop-j.j c.loop-j.left.items c.pop.new.self.items c.in-Some.start c.loop-j.invariant.1 is).0

pub returns-in_err-start_next-clause-refused : goal.returns-in_err-start_next-clause-refused
returns-in_err-start_next-clause-refused g c =
    let p = err_from_is_err_and c.from_residual.result c.from_residual.ensures.1 in
    let is = ap (λ (xs : List StreamStart). reverse xs) c.in-Some.ensures.items ∙ reverse-append c.pop.new.self.items (c.in-Some.start ∷ []) in
    let lt : c.loop-j.j < length c.args.starts.items = omega (arith, c.loop-j-test.true, c.len-count.ensures, c.args.starts.ok.0) in
    rw (p.1, p.2)
    (subst (λ (ws : List (Writer g.row.D.Denot g.D.Disk)). RefusesStart g.D.Disk c.args.starts.items (reverse c.args.stack.now.items) (map disk_of ws ++ reverse c.start_next.new.stack.items) c.in_err-start_next.field-0.0)
    (sym c.in_err-start_next.ensures.same)
    (stopped g.D.Disk c.args.starts.items c.loop-j.j (reverse c.args.stack.now.items) (reverse c.loop-j.stack.items) (reverse c.start_next.new.stack.items) c.loop-j.writers.items c.in-Some.start c.in_err-start_next.field-0.0 lt
    (next_start g.D.Disk c.args.starts.items c.loop-j.j c.loop-j.left.items c.pop.new.self.items c.in-Some.start c.loop-j.invariant.1 is).0 c.loop-j.invariant.0 c.in_err-start_next.ensures.refused))

pub loop-j-preserved : goal.loop-j-preserved
loop-j-preserved g c =
    let is = ap (λ (xs : List StreamStart). reverse xs) c.in-Some.ensures.items ∙ reverse-append c.pop.new.self.items (c.in-Some.start ∷ []) in
    let next = next_start g.D.Disk c.args.starts.items c.loop-j.j c.loop-j.left.items c.pop.new.self.items c.in-Some.start c.loop-j.invariant.1 is in (
      starting_more g.D.Disk c.args.starts.items c.loop-j.j (reverse c.args.stack.now.items) (reverse c.loop-j.stack.items) (reverse c.start_next.new.stack.items) c.loop-j.writers.items c.start_next.new.writers.items c.in-Some.start next.0 c.loop-j.invariant.0 c.in_ok-start_next.ensures.started,
      next.1,
      omega (arith, c.in_ok-start_next.ensures.more, c.loop-j.invariant.2),
      omega (arith, c.start_next.ensures.len, c.loop-j.invariant.3),
      omega (arith, c.start_next.ensures.capacity, c.loop-j.invariant.4),
      omega (arith, c.start_next.ensures.capacity_writers, c.loop-j.invariant.5),
      omega (arith, c.in-Some.ensures.len, c.loop-j.invariant.6),
    )
