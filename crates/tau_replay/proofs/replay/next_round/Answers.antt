-- Nothing is in flight: a record is started, or all is done, or records wait for one another.
use Rattle.std.proofs.Common.{[], ◌∷◌, ◌++◌, ◌≡◌, sym, ap, subst, ◌∙◌, arith, Err, Bool, Result}
use Rattle.tau_scan.specs.declared.fault.ReplayRefusal.TheVariants.{Tangled}
use Rattle.tau_model.specs.Store.{database}
use Rattle.tau_scan.specs.declared.fault.ReplayRefusal.{ReplayRefusal}
use Rattle.tau_pool.specs.Pooled.{Pooled, IsDone, flying_in}
use Rattle.tau_replay.proofs.RecoveryGoesOn.{none_left}
use Rattle.tau_replay.proofs.Hands.{no_hand}
use Rattle.tau_replay.proofs.Following.{round_of_first}
use Rattle.tau_replay.proofs.replay.next_round.Goals as goal

pub start-requires : goal.start-requires
start-requires g c = (c.requires.1, no_hand c.args.replay.now.hands.items 0 (omega (arith, c.requires.1.hands.count, c.in_flight.ensures, c.if-in_flight-gt0.false)) (omega (arith, c.requires.1.sixteen)))

pub returns-in_ok-round-in-Taken-clause-followed : goal.returns-in_ok-round-in-Taken-clause-followed
returns-in_ok-round-in-Taken-clause-followed g c turns f e =
    let r = c.round-in-Taken.new.replay in
    round_of_first c.args.log.now g.course turns r.pools r.hands.items (database r.store) (c.in_ok-round-in-Taken.ensures.followed (turns ++ 0 ∷ []) (c.start.ensures.followed turns f))

pub returns-in-Done-clause-over : goal.returns-in-Done-clause-over
returns-in-Done-clause-over g c e =
    let done = c.start.ensures.done c.in-Done.is in
    let w = c.start.ensures.going in
    let idle : flying_in c.start.new.replay.pools.items ≡ 0 = ap (λ (p : Pooled). flying_in p.items) done.1 ∙ omega (arith, c.in_flight.ensures, c.if-in_flight-gt0.false) in
    record { way = w; none = none_left c.args.log.now g.course c.start.new.replay.pools (database c.start.new.replay.store) w.order w.going (subst (λ (p : Pooled). IsDone p) (sym done.1) done.2) idle }

abbrev failed : ReplayRefusal → Result Bool ReplayRefusal
failed a = Err a

refusal_is : (a b : ReplayRefusal) → failed a ≡ failed b → a ≡ b
refusal_is a b e = cc

pub returns-in-NotYet-clause-tangled : goal.returns-in-NotYet-clause-tangled
returns-in-NotYet-clause-tangled g c j at e = c.tangled.ensures j at (refusal_is c.tangled.result (Tangled j at) e)
