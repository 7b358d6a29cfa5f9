use Rattle.std.proofs.Common.{ℕ, ◌+◌, ◌-◌, ◌*◌, ◌≡◌, refl, sym, ap, subst, ◌∙◌, arith}
use Rattle.std.specs.Prelude.{slice_index}
use Rattle.tau_core.specs.State.{plain}
use Rattle.tau_core.specs.Gather.{end_on}
use Rattle.tau_core.specs.declared.state.Load.{Load}
use Rattle.tau_core.proofs.GathersOn.{next_on, on_own, on_posted}
use Rattle.tau_core.proofs.GathersAll.{WaitsBelow, own_waits, posted_waits, turns_of, first_waits, rest_waits, all_wait}
use Rattle.tau_core.proofs.gather.gather_round.Goals as goal

pub loop-worker-init : goal.loop-worker-init
loop-worker-init c =
    let next = c.gather_own.ensures.next in
    record {
      gathers = on_own c.args.stream (plain c.args.state.now) (plain c.args.state.now) (plain c.gather_own.new.state) end_on c.gather_own.ensures.moves;
      next = next;
      streams = refl;
      workers = refl;
      turns = (0, omega arith);
      waits = λ e. first_waits c.args.stream c.args.stream (plain c.gather_own.new.state) next.there (omega arith)
          (own_waits (plain c.args.state.now) c.requires.stood c.args.stream c.requires.there c.requires.going c.requires.roomy (plain c.gather_own.new.state) c.gather_own.ensures.moves);
    }

pub gather_from-requires : goal.gather_from-requires
gather_from-requires c =
    let n = c.loop-worker.invariant.next in
    let s = c.loop-worker.invariant.streams in
    let turns = c.loop-worker.invariant.turns in
    record {
      stood = n.stood;
      there = n.there;
      worker = (let lt = c.loop-worker-test.true in let e = c.loop-worker.invariant.workers in omega arith);
      whose = turns_of c.loop-worker.state.load.streams c.args.stream turns.0 c.loop-worker.worker n.there (turns.1 ∙ ap (λ (m : ℕ). turns.0 * m + c.args.stream) s);
      going = n.going;
      roomy = n.roomy;
    }

pub loop-worker-preserved : goal.loop-worker-preserved
loop-worker-preserved c =
    let k = c.loop-worker.invariant in
    let before = k.next in
    let after = c.gather_from.ensures.next in
    let load : c.gather_from.new.state.load ≡ c.loop-worker.state.load = after.same in
    let whose = turns_of c.loop-worker.state.load.streams c.args.stream k.turns.0 c.loop-worker.worker before.there (k.turns.1 ∙ ap (λ (m : ℕ). k.turns.0 * m + c.args.stream) k.streams) in
    record {
      gathers = on_posted c.args.stream (plain c.args.state.now) (plain c.loop-worker.state) (plain c.gather_from.new.state) c.loop-worker.worker whose k.gathers c.gather_from.ensures.moves;
      next = next_on c.args.stream (plain c.args.state.now) (plain c.loop-worker.state) (plain c.gather_from.new.state) before after;
      streams = k.streams ∙ ap (λ (l : Load). l.streams) (sym load);
      workers = k.workers ∙ ap (λ (l : Load). l.workers) (sym load);
      turns = (k.turns.0 + 1, (let e = k.turns.1 in omega arith));
      waits = λ e.
          let up = before.up in
          let more = after.up in
          let first : slice_index c.loop-worker.state.gathered c.args.stream ≡ slice_index c.args.state.now.gathered c.args.stream = omega arith in
          let then : slice_index c.gather_from.new.state.gathered c.args.stream ≡ slice_index c.loop-worker.state.gathered c.args.stream = omega arith in
          let on = posted_waits (plain c.loop-worker.state) before.stood c.args.stream before.there before.going before.roomy c.loop-worker.worker (plain c.gather_from.new.state) c.gather_from.ensures.moves then (k.waits first) in
          let streams : c.gather_own.new.state.load.streams ≡ c.gather_from.new.state.load.streams = k.streams ∙ ap (λ (l : Load). l.streams) (sym load) in
          let there = after.there in
          subst (λ (n : ℕ). WaitsBelow c.args.stream n (plain c.gather_from.new.state)) (omega arith)
          (rest_waits c.args.stream c.loop-worker.worker k.turns.0 (c.gather_from.new.state.load.streams - 1) (plain c.gather_from.new.state) there
          (k.turns.1 ∙ ap (λ (m : ℕ). k.turns.0 * m + c.args.stream) streams) (omega arith) on);
    }

pub returns-clause-settles : goal.returns-clause-settles
returns-clause-settles c = λ e.
    let k = c.loop-worker.invariant in
    all_wait c.args.stream c.loop-worker.worker (plain c.loop-worker.state)
    (let few = k.next.stood.2.sound.seats in
    let same = k.workers in
    let past = c.loop-worker-test.false in
    omega arith)
    (k.waits e)
