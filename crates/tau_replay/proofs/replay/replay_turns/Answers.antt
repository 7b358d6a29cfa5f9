-- All turns named are followed.
use Rattle.std.proofs.Common.{ℕ, List, ◌≡◌, take, sym, subst, arith}
use Rattle.std.proofs.lemmas.List.{take_all, take_more}
use Rattle.tau_replay.specs.Followed.{Followed}
use Rattle.tau_replay.proofs.replay.replay_turns.Goals as goal

pub loop-worker-preserved : goal.loop-worker-preserved
loop-worker-preserved c =
    let turns = c.args.turns.now in
    let i = c.loop-worker.worker-index in
    let more = take_more turns i 0 (omega (arith, c.loop-worker-test.true)) in record {
      going = c.in_ok-turn_of.ensures.going;
      followed = subst (λ (ts : List ℕ). Followed c.args.log.now ts c.turn_of.new.replay) (sym more) (c.in_ok-turn_of.ensures.followed (take i turns) c.loop-worker.invariant.followed);
    }

pub returns-clause-followed : goal.returns-clause-followed
returns-clause-followed c =
    let turns = c.args.turns.now in
    let all : take c.loop-worker.worker-index turns ≡ turns = take_all c.loop-worker.worker-index turns (omega (arith, c.loop-worker-test.false)) in
    let f : Followed c.args.log.now turns c.loop-worker.replay = subst (λ (ts : List ℕ). Followed c.args.log.now ts c.loop-worker.replay) all c.loop-worker.invariant.followed in
    c.end.ensures.followed turns f
