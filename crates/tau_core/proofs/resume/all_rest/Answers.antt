use Rattle.std.proofs.Common.{◌≡◌, arith, below_more}
use Rattle.std.specs.Prelude.{false, true}
use Rattle.std.proofs.lemmas.Option.{slice_get_within}
use Rattle.tau_core.proofs.resume.all_rest.Goals as goal
use Rattle.tau_base.proofs.Lists.{some_at}

pub returns-then-not-rests-clause-other : goal.returns-then-not-rests-clause-other
returns-then-not-rests-clause-other c = λ e all.
    let found = some_at c.args.state.now.seats.items c.loop-worker.worker (let n = c.requires.sound.seats in omega arith) in
    let no : c.rests.result ≡ false = c.if-not-rests.true in
    c.rests.ensures.other no found.0 found.1 (all c.loop-worker.worker found.0 found.1)

pub loop-worker-preserved : goal.loop-worker-preserved
loop-worker-preserved c =
    let yes : c.rests.result ≡ true = c.if-not-rests.false in
    below_more _ _ c.loop-worker.invariant (c.rests.ensures.rest yes)

pub returns-clause-all : goal.returns-clause-all
returns-clause-all c = λ e w s is.
    let within = slice_get_within c.args.state.now.seats.items w s is in
    let n = c.requires.sound.seats in
    c.loop-worker.invariant w (omega arith) s is
