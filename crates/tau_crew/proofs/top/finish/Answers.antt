use Rattle.std.proofs.Common.{◌∙◌, length, sym, ap, arith, inl}
use Rattle.std.proofs.lemmas.List.{length-map}
use Rattle.tau_crew.specs.EndJoins.{writer_in}
use Rattle.tau_crew.proofs.EndLeft.{back_on}
use Rattle.tau_crew.proofs.top.finish.Goals as goal

pub returns-then-short-clause-ran : goal.returns-then-short-clause-ran
returns-then-short-clause-ran g c = λ bases ws held faults up b. inl (c.end_short.ensures.short bases ws held faults c.args.short b)

pub do_left-requires-clause-ran : goal.do_left-requires-clause-ran
do_left-requires-clause-ran g c = let (bases, ws, held, faults, b) = c.requires.back in b.run c.if-short.false

pub end_well-requires-clause-managers : goal.end_well-requires-clause-managers
end_well-requires-clause-managers g c = let (bases, ws, held, faults, b) = c.requires.back in (bases, ws, c.do_left.ensures.goes.managers bases ws b.managers)

pub end_well-requires-clause-memory : goal.end_well-requires-clause-memory
end_well-requires-clause-memory g c = (c.do_left.ensures.done c.if-do_left.true).telling_memory

pub end_well-requires-clause-room : goal.end_well-requires-clause-room
end_well-requires-clause-room g c =
    let (bases, ws, held, faults, b) = c.requires.back in
    let was = b.managers.count in
    let is = (c.do_left.ensures.goes.managers bases ws b.managers).count in
    let room = c.requires.room in
    let before = c.args.jobs.ok in
    let after = c.do_left.new.jobs.ok in
    omega (arith, was, is, room, before, after)

pub returns-then-do_left-clause-ran : goal.returns-then-do_left-clause-ran
returns-then-do_left-clause-ran g c = λ bases ws held faults up b.
    c.end_well.ensures.ran bases ws held faults _ (back_on _ _ _ bases ws held _ _ faults _ _ _ _ _ _ _ _ c.args.short up b c.do_left.ensures.head c.do_left.ensures.goes) (c.do_left.ensures.done c.if-do_left.true)

pub returns-then-do_left-clause-count : goal.returns-then-do_left-clause-count
returns-then-do_left-clause-count g c =
    let (bases, ws, held, faults, b) = c.requires.back in
    ap length c.end_well.ensures.writers ∙ length-map c.do_left.new.jobs.items writer_in ∙ (c.do_left.ensures.goes.managers bases ws b.managers).count ∙ sym b.managers.count

pub end_short-requires-2-clause-managers : goal.end_short-requires-2-clause-managers
end_short-requires-2-clause-managers g c = let (bases, ws, held, faults, b) = c.requires.back in (bases, ws, c.do_left.ensures.goes.managers bases ws b.managers)

pub end_short-requires-2-clause-room : goal.end_short-requires-2-clause-room
end_short-requires-2-clause-room g c =
    let (bases, ws, held, faults, b) = c.requires.back in
    let was = b.managers.count in
    let is = (c.do_left.ensures.goes.managers bases ws b.managers).count in
    let room = c.requires.room in
    let before = c.args.jobs.ok in
    let after = c.do_left.new.jobs.ok in
    omega (arith, was, is, room, before, after)

pub returns-clause-ran : goal.returns-clause-ran
returns-clause-ran g c = λ bases ws held faults up b.
    inl (c.end_short-2.ensures.short bases ws held faults _ (back_on _ _ _ bases ws held _ _ faults _ _ _ _ _ _ _ _ c.args.short up b c.do_left.ensures.head c.do_left.ensures.goes))

pub returns-clause-count : goal.returns-clause-count
returns-clause-count g c =
    let (bases, ws, held, faults, b) = c.requires.back in
    ap length c.end_short-2.ensures.writers ∙ length-map c.do_left.new.jobs.items writer_in ∙ (c.do_left.ensures.goes.managers bases ws b.managers).count ∙ sym b.managers.count
