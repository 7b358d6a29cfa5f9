-- The refusal of a round is that of all.
use Rattle.std.proofs.Common.{◌≡◌, ◌++◌, true, false, ap, Ok, Err, Bool, Result}
use Rattle.tau_model.specs.Store.{database}
use Rattle.tau_replay.specs.Followed.{rounds}
use Rattle.tau_replay.proofs.Following.{rounds_go}
use Rattle.tau_scan.specs.declared.fault.ReplayRefusal.{ReplayRefusal}
use Rattle.tau_scan.specs.declared.fault.ReplayRefusal.TheVariants.{Tangled}
use Rattle.tau_replay.proofs.replay.run_out.Goals as goal

abbrev stopped : ReplayRefusal → Result (Unit {0}) ReplayRefusal
stopped a = Err a

refusal_is : (a b : ReplayRefusal) → stopped a ≡ stopped b → a ≡ b
refusal_is a b e = cc

abbrev failed : ReplayRefusal → Result Bool ReplayRefusal
failed a = Err a

pub returns-in-Err-clause-tangled : goal.returns-in-Err-clause-tangled
returns-in-Err-clause-tangled g c j at e = c.in-Err.ensures.tangled j at (ap failed (refusal_is c.in-Err.refusal (Tangled j at) e))

pub returns-in-Ok-true-clause-followed : goal.returns-in-Ok-true-clause-followed
returns-in-Ok-true-clause-followed g c turns f =
    let (more, h) = c.rounds.invariant.followed turns f in
    let is : c.next_round.result ≡ Ok true = cc in
    (more, c.next_round.ensures.ended (turns ++ rounds more) h is)

pub rounds-preserved : goal.rounds-preserved
rounds-preserved g c =
    let is : c.next_round.result ≡ Ok false = cc in
    record {
      going = c.in-Ok-false.ensures.going;
      followed = λ turns f. rounds_go c.args.log.now g.course turns c.rounds.replay.pools c.next_round.new.replay.pools c.rounds.replay.hands.items c.next_round.new.replay.hands.items (database c.rounds.replay.store) (database c.next_round.new.replay.store)
          (c.rounds.invariant.followed turns f) (λ ts h. c.next_round.ensures.followed ts h is);
    }
