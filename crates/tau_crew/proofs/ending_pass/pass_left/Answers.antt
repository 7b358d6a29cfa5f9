use Rattle.std.proofs.Common.{◌∙◌, length, refl, subst, sym}
use Rattle.tau_desk.specs.Seats.{PlainHead}
use Rattle.tau_crew.specs.Ending.{IsHeadBack}
use Rattle.tau_crew.specs.EndDone.{durables}
use Rattle.tau_crew.specs.EndLeft.{AreTold, HaveGathered}
use Rattle.tau_crew.proofs.EndLeft.{goes_none, goes_on}
use Rattle.tau_crew.proofs.ending_pass.pass_left.Goals as goal

pub loop-init : goal.loop-init
loop-init g c = (refl, goes_none _ _ _ _ _ _ _ c.requires.clerk)

pub pass_once-requires-clause-managers : goal.pass_once-requires-clause-managers
pass_once-requires-clause-managers g c = let (bases, ws, m) = c.requires.managers in (bases, ws, c.loop.invariant.1.managers bases ws m)

pub pass_once-requires-clause-clerk : goal.pass_once-requires-clause-clerk
pass_once-requires-clause-clerk g c = c.loop.invariant.1.clerk

pub nothing_left-requires-clause-head : goal.nothing_left-requires-clause-head
nothing_left-requires-clause-head g c = subst (λ (h : PlainHead). IsHeadBack c.args.desk.now.table.shared.key.value c.args.desk.now.table.shared.table_id h) (sym c.loop.invariant.0) c.requires.head

pub nothing_left-requires-clause-managers : goal.nothing_left-requires-clause-managers
nothing_left-requires-clause-managers g c = let (bases, ws, m) = c.requires.managers in (bases, ws, c.pass_once.ensures.managers bases ws (c.loop.invariant.1.managers bases ws m))

pub loop-preserved : goal.loop-preserved
loop-preserved g c = (c.nothing_left.ensures.same ∙ c.loop.invariant.0, goes_on _ _ _ _ _ _ _ _ _ _ _ _ _ _ _ c.loop.invariant.1 c.pass_once.ensures)

pub returns-then-not-have_memory-clause-same : goal.returns-then-not-have_memory-clause-same
returns-then-not-have_memory-clause-same g c = c.loop.invariant.0

pub returns-then-not-have_memory-clause-goes : goal.returns-then-not-have_memory-clause-goes
returns-then-not-have_memory-clause-goes g c = goes_on _ _ _ _ _ _ _ _ _ _ _ _ _ _ _ c.loop.invariant.1 c.pass_once.ensures

pub returns-then-nothing_left-clause-same : goal.returns-then-nothing_left-clause-same
returns-then-nothing_left-clause-same g c = c.nothing_left.ensures.same ∙ c.loop.invariant.0

pub returns-then-nothing_left-clause-goes : goal.returns-then-nothing_left-clause-goes
returns-then-nothing_left-clause-goes g c = goes_on _ _ _ _ _ _ _ _ _ _ _ _ _ _ _ c.loop.invariant.1 c.pass_once.ensures

pub returns-then-nothing_left-clause-memory : goal.returns-then-nothing_left-clause-memory
returns-then-nothing_left-clause-memory g c = λ yes. c.have_memory.ensures.managers c.if-not-have_memory.false

pub returns-then-nothing_left-clause-clerk : goal.returns-then-nothing_left-clause-clerk
returns-then-nothing_left-clause-clerk g c = λ yes. c.have_memory.ensures.clerk c.if-not-have_memory.false

pub returns-then-nothing_left-clause-gathered : goal.returns-then-nothing_left-clause-gathered
returns-then-nothing_left-clause-gathered g c = λ yes. subst (λ (h : PlainHead). HaveGathered c.args.desk.now.table.shared.key.value h c.pass_once.new.jobs.items (length c.pass_once.new.jobs.items)) c.loop.invariant.0 (c.nothing_left.ensures.gathered c.if-nothing_left.true)

pub returns-then-nothing_left-clause-told : goal.returns-then-nothing_left-clause-told
returns-then-nothing_left-clause-told g c = λ yes. subst (λ (h : PlainHead). AreTold c.args.desk.now.load.workers (durables c.pass_once.new.jobs.items) h c.pass_once.new.clerk.told.acks c.args.desk.now.load.workers) c.loop.invariant.0 (c.nothing_left.ensures.told c.if-nothing_left.true)
