use Rattle.std.proofs.Common.{◌≡◌, ℕ, [], List, Some, refl, subst, sym, ap, ◌∙◌}
use Rattle.std.specs.Option.{IsSome}
use Rattle.tau_base.specs.declared.value.Key.{Key}
use Rattle.tau_base.specs.Shards.{shard_number}
use Rattle.tau_shard.specs.Plain.{PlainShard}
use Rattle.tau_shard.specs.Read.{shard_of}
use Rattle.tau_machine.specs.Events.{Quit}
use Rattle.tau_machine.specs.Hands.{Hand}
use Rattle.tau_shard.specs.Shard.{Shard, entry_in}
use Rattle.tau_machine.specs.Worker.{Worker, hand_quit, settled}
use Rattle.tau_proc.specs.declared.proc.Proc.{Proc}
use Rattle.tau_txn.specs.declared.action.Action.TheVariants as action
use Rattle.tau_txn.specs.Next.{next_action, Quits}
use Rattle.tau_txn.specs.Txn.{RunsBy, hand_in, leaves_in, worker_of}
use Rattle.tau_core.specs.State.{Plain}
use Rattle.tau_rule.specs.Knows.{Knows}
use Rattle.tau_rule.specs.Steps.{Agrees, shard_in, told}
use Rattle.tau_desk.proofs.Freeing.{taken_held}
use Rattle.tau_desk.proofs.Quitting.{no_quit, quit_steps, was_holding}
use Rattle.tau_desk.proofs.work.quit.Goals as goal

pub quit-requires-clause-held : goal.quit-requires-clause-held
quit-requires-clause-held g c =
    let r = c.requires.ready in
    let held = c.take_shard-shard.ensures.held in
    let origin : Plain = c.args.desk.now.table.shared.key.value in
    let v : Knows = c.args.seat.now.me.0 in
    let k : ℕ = c.from-number.result in
    let key : Key = c.in-Some.key in
    let sh : Shard = shard_of c.deref_mut.result.now in
    let was : shard_in held.0 ≡ Some sh = held.2 ∙ ap (λ (s : PlainShard). Some (shard_of s)) (sym c.deref_mut.ensures.value) in
    let number : k ≡ shard_number key = c.from-number.ensures ∙ c.shard_of.ensures.same in
    let means : Quits origin.load.procs c.args.txn.now key = c.in-Some.ensures.means origin.load.procs r.runs in
    let begun = was_holding origin.load.streams r.worker means.hand key means.mode (r.agrees ∙ means.is) means.held in
    let agrees : Agrees origin v k held.0 = held.3 in
    let holds = taken_held origin c.args.seat.now.me c.args.txn.now c.args.worker k held.0 sh r means.hand key begun.0 agrees was number in
    let is : Some means.mode ≡ (entry_in sh key).holders c.args.worker = sym (holds ∙ means.held) in
    subst IsSome is refl

pub give_shard-requires-clause-event : goal.give_shard-requires-clause-event
give_shard-requires-clause-event g c =
    let r = c.requires.ready in
    let held = c.take_shard-shard.ensures.held in
    let origin : Plain = c.args.desk.now.table.shared.key.value in
    let k : ℕ = c.from-number.result in
    let key : Key = c.in-Some.key in
    let sh : Shard = shard_of c.deref_mut.result.now in
    let was : shard_in held.0 ≡ Some sh = held.2 ∙ ap (λ (s : PlainShard). Some (shard_of s)) (sym c.deref_mut.ensures.value) in
    let number : k ≡ shard_number key = c.from-number.ensures ∙ c.shard_of.ensures.same in
    let means : Quits origin.load.procs c.args.txn.now key = c.in-Some.ensures.means origin.load.procs r.runs in
    let next : next_action c.args.txn.now ≡ action.Quit key = c.in-Some.ensures.next in
    let begun = was_holding origin.load.streams r.worker means.hand key means.mode (r.agrees ∙ means.is) means.held in (
      Quit c.args.worker (leaves_in c.args.txn.now),
      c.args.worker,
      record {
        taken = held.0;
        role = r.role;
        worker = r.worker;
        before = sh;
        held = ap (λ m. m.0.hand) held.1;
        carried = ap (λ m. m.1) held.1;
        roles = ap (λ m. m.0.roles) held.1 ∙ r.seat.roles;
        share = r.share;
        was = was;
        there = r.there;
        none = tt;
        steps = quit_steps origin c.args.worker k r.worker sh (shard_of c.quit.new.self) c.args.txn.now c.went.new.self key means begun.0 begun.1 number r.width c.quit.ensures
            (λ x. subst (λ (p : List Proc). (wk : Worker) (h : Hand) (y : Key) → next_action c.args.txn.now ≡ action.Quit y → hand_in p c.args.txn.now ≡ Some h → worker_of p wk c.went.new.self ≡ settled c.args.txn.now.width wk (hand_quit h y (leaves_in c.args.txn.now))) c.requires.procs
            (λ wk h y. c.went.ensures.quit wk h y) x means.hand key next means.is);
      },
    )

pub returns-clause-step : goal.returns-clause-step
returns-clause-step g c =
    let r = c.requires.ready in
    let held = c.take_shard-shard.ensures.held in
    let origin : Plain = c.args.desk.now.table.shared.key.value in
    let v : Knows = c.args.seat.now.me.0 in
    let key : Key = c.in-Some.key in
    let means : Quits origin.load.procs c.args.txn.now key = c.in-Some.ensures.means origin.load.procs r.runs in
    let next : next_action c.args.txn.now ≡ action.Quit key = c.in-Some.ensures.next in (
      c.give_shard.ensures.given ∙ ap (λ m. (told origin.load m.0 c.went.new.self, [])) held.1,
      record {
        key = key;
        quits = means;
        settles = λ x. subst (λ (p : List Proc). (wk : Worker) (h : Hand) (y : Key) → next_action c.args.txn.now ≡ action.Quit y → hand_in p c.args.txn.now ≡ Some h → worker_of p wk c.went.new.self ≡ settled c.args.txn.now.width wk (hand_quit h y (leaves_in c.args.txn.now))) c.requires.procs
            (λ wk h y. c.went.ensures.quit wk h y) x means.hand key next means.is;
        worker = record { runs = subst (λ (p : List Proc). RunsBy p c.went.new.self) c.requires.procs c.went.ensures.runs; same = c.went.ensures.same; stays = c.went.ensures.stays };
      },
    )

pub returns-in_default-clause-other : goal.returns-in_default-clause-other
returns-in_default-clause-other g c = λ e. no_quit (next_action c.args.txn.now) c.quit_asked.result c.quit_asked.ensures.asked c.in_default.not-Some
