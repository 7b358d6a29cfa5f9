use Rattle.std.proofs.Common.{◌≡◌, ℕ, [], Some, subst, sym, ap, ◌∙◌, List, Option, refl, Bool}
use Rattle.std.specs.Option.{IsSome}
use Rattle.tau_base.specs.declared.value.Key.{Key}
use Rattle.tau_base.specs.declared.value.Value.{Value}
use Rattle.tau_base.specs.Shards.{shard_number}
use Rattle.tau_shard.specs.Plain.{PlainShard}
use Rattle.tau_shard.specs.Read.{shard_of}
use Rattle.tau_machine.specs.Hands.{Freeing}
use Rattle.tau_machine.specs.Events.{Free}
use Rattle.tau_shard.specs.Shard.{Shard, entry_in, shard_freed}
use Rattle.tau_machine.specs.Worker.{hand_freed, hand_joined}
use Rattle.tau_proc.specs.declared.proc.Proc.{Proc}
use Rattle.tau_txn.specs.declared.action.Action.TheVariants as action
use Rattle.tau_txn.specs.Narrow.{written_in}
use Rattle.tau_txn.specs.Next.{next_action, Frees, FreesBy}
use Rattle.tau_txn.specs.Txn.{RunsBy, hand_in, has_joined}
use Rattle.tau_core.specs.State.{Plain}
use Rattle.tau_rule.specs.Knows.{Knows}
use Rattle.tau_rule.specs.Steps.{Agrees, told, shard_in}
use Rattle.tau_desk.proofs.Freeing.{copied_some, no_free, was_begun, taken_held, taken_written, freed_steps, written_some}
use Rattle.tau_desk.proofs.work.free.Goals as goal

pub lv_ref-lv-requires : goal.lv_ref-lv-requires
lv_ref-lv-requires g c = c.in-Some.ensures.hand refl

pub free_by-requires-clause-held : goal.free_by-requires-clause-held
free_by-requires-clause-held g c =
    let r = c.requires.ready in
    let held = c.take_shard-shard.ensures.held in
    let origin : Plain = c.args.desk.now.table.shared.key.value in
    let v : Knows = c.args.seat.now.me.0 in
    let k : ℕ = c.from-number.result in
    let key : Key = c.in-Some.key in
    let sh : Shard = shard_of c.deref_mut.result.now in
    let was : shard_in held.0 ≡ Some sh = held.2 ∙ ap (λ (s : PlainShard). Some (shard_of s)) (sym c.deref_mut.ensures.value) in
    let number : k ≡ shard_number key = c.from-number.ensures ∙ c.shard_of.ensures.same in
    let means : Frees origin.load.procs c.args.txn.now key (written_in c.args.txn.now key) = c.in-Some.ensures.means origin.load.procs r.runs in
    let next : next_action c.args.txn.now ≡ action.Free key (written_in c.args.txn.now key) = c.in-Some.ensures.next in
    let phase : means.hand.phase ≡ Freeing means.act = subst (λ (b : Bool). FreesBy origin.load.procs b c.args.txn.now.worker means.hand means.act) c.requires.joined means.act_is in
    let begun = was_begun origin.load.streams r.worker means.hand means.act (r.agrees ∙ means.is) phase in
    let agrees : Agrees origin v k held.0 = held.3 in
    let holds = taken_held origin c.args.seat.now.me c.args.txn.now c.args.worker k held.0 sh r means.hand key begun.0 agrees was number in
    let is : Some means.mode ≡ (entry_in sh key).holders c.args.worker = sym (holds ∙ means.held) in
    subst IsSome is refl

pub free_by-requires-clause-writes : goal.free_by-requires-clause-writes
free_by-requires-clause-writes g c =
    let r = c.requires.ready in
    let held = c.take_shard-shard.ensures.held in
    let origin : Plain = c.args.desk.now.table.shared.key.value in
    let v : Knows = c.args.seat.now.me.0 in
    let k : ℕ = c.from-number.result in
    let key : Key = c.in-Some.key in
    let sh : Shard = shard_of c.deref_mut.result.now in
    let was : shard_in held.0 ≡ Some sh = held.2 ∙ ap (λ (s : PlainShard). Some (shard_of s)) (sym c.deref_mut.ensures.value) in
    let number : k ≡ shard_number key = c.from-number.ensures ∙ c.shard_of.ensures.same in
    let means : Frees origin.load.procs c.args.txn.now key (written_in c.args.txn.now key) = c.in-Some.ensures.means origin.load.procs r.runs in
    let next : next_action c.args.txn.now ≡ action.Free key (written_in c.args.txn.now key) = c.in-Some.ensures.next in
    let phase : means.hand.phase ≡ Freeing means.act = subst (λ (b : Bool). FreesBy origin.load.procs b c.args.txn.now.worker means.hand means.act) c.requires.joined means.act_is in
    let begun = was_begun origin.load.streams r.worker means.hand means.act (r.agrees ∙ means.is) phase in
    let agrees : Agrees origin v k held.0 = held.3 in
    let holds = taken_held origin c.args.seat.now.me c.args.txn.now c.args.worker k held.0 sh r means.hand key begun.0 agrees was number in
    λ some. let wrote = written_some (written_in c.args.txn.now key) (subst (λ (o : Option Value). IsSome o) c.written_at.ensures (copied_some c.written_at.result some)) in
    holds ∙ means.held ∙ ap Some (taken_written origin c.args.seat.now.me c.args.txn.now c.args.worker k held.0 r means.hand means.act key means.mode wrote.0 begun.0 phase agrees means.held (sym means.write_is ∙ wrote.1))

pub give_shard-requires-clause-event : goal.give_shard-requires-clause-event
give_shard-requires-clause-event g c =
    let r = c.requires.ready in
    let held = c.take_shard-shard.ensures.held in
    let origin : Plain = c.args.desk.now.table.shared.key.value in
    let v : Knows = c.args.seat.now.me.0 in
    let k : ℕ = c.from-number.result in
    let key : Key = c.in-Some.key in
    let sh : Shard = shard_of c.deref_mut.result.now in
    let was : shard_in held.0 ≡ Some sh = held.2 ∙ ap (λ (s : PlainShard). Some (shard_of s)) (sym c.deref_mut.ensures.value) in
    let number : k ≡ shard_number key = c.from-number.ensures ∙ c.shard_of.ensures.same in
    let means : Frees origin.load.procs c.args.txn.now key (written_in c.args.txn.now key) = c.in-Some.ensures.means origin.load.procs r.runs in
    let next : next_action c.args.txn.now ≡ action.Free key (written_in c.args.txn.now key) = c.in-Some.ensures.next in
    let phase : means.hand.phase ≡ Freeing means.act = subst (λ (b : Bool). FreesBy origin.load.procs b c.args.txn.now.worker means.hand means.act) c.requires.joined means.act_is in
    let begun = was_begun origin.load.streams r.worker means.hand means.act (r.agrees ∙ means.is) phase in
    let agrees : Agrees origin v k held.0 = held.3 in
    let holds = taken_held origin c.args.seat.now.me c.args.txn.now c.args.worker k held.0 sh r means.hand key begun.0 agrees was number in (
      Free c.args.worker,
      c.args.worker,
      record {
        taken = held.0;
        role = r.role;
        worker = r.worker;
        before = sh;
        held = ap (λ m. m.0.hand) held.1;
        carried = ap (λ m. m.1) held.1;
        roles = ap (λ m. m.0.roles) held.1 ∙ r.seat.roles;
        share = r.share;
        was = was;
        there = r.there;
        none = tt;
        steps = freed_steps origin c.args.worker k r.worker sh (shard_of c.free_by.new.self) c.args.txn.now c.went.new.self key means.mode means.act means.hand begun.0 begun.1 number phase means.held means.lowest
            (c.free_by.ensures ∙ (λ i. shard_freed sh c.args.worker key (c.lv_ref-lv.ensures.frees origin.load.procs means.hand means.act r.runs means.is means.act_is i) ((c.written_at.ensures ∙ means.write_is) i)))
            (subst (λ (p : List Proc). hand_in p c.args.txn.now ≡ Some means.hand → FreesBy p (has_joined c.args.txn.now) c.args.txn.now.worker means.hand means.act → hand_in p c.went.new.self ≡ Some (hand_freed (hand_joined means.hand (Freeing means.act) means.hand.dep) key)) c.requires.procs
            (λ is frees. c.went.ensures.freed means.hand means.act key (written_in c.args.txn.now key) next is frees) means.is means.act_is);
      },
    )

pub returns-clause-step : goal.returns-clause-step
returns-clause-step g c =
    let r = c.requires.ready in
    let held = c.take_shard-shard.ensures.held in
    let origin : Plain = c.args.desk.now.table.shared.key.value in
    let v : Knows = c.args.seat.now.me.0 in
    let k : ℕ = c.from-number.result in
    let key : Key = c.in-Some.key in
    let sh : Shard = shard_of c.deref_mut.result.now in
    let was : shard_in held.0 ≡ Some sh = held.2 ∙ ap (λ (s : PlainShard). Some (shard_of s)) (sym c.deref_mut.ensures.value) in
    let number : k ≡ shard_number key = c.from-number.ensures ∙ c.shard_of.ensures.same in
    let means : Frees origin.load.procs c.args.txn.now key (written_in c.args.txn.now key) = c.in-Some.ensures.means origin.load.procs r.runs in
    let next : next_action c.args.txn.now ≡ action.Free key (written_in c.args.txn.now key) = c.in-Some.ensures.next in
    let phase : means.hand.phase ≡ Freeing means.act = subst (λ (b : Bool). FreesBy origin.load.procs b c.args.txn.now.worker means.hand means.act) c.requires.joined means.act_is in
    let begun = was_begun origin.load.streams r.worker means.hand means.act (r.agrees ∙ means.is) phase in
    let agrees : Agrees origin v k held.0 = held.3 in
    let holds = taken_held origin c.args.seat.now.me c.args.txn.now c.args.worker k held.0 sh r means.hand key begun.0 agrees was number in (
      c.give_shard.ensures.given ∙ ap (λ m. (told origin.load m.0 c.went.new.self, [])) held.1,
      record {
        key = key;
        write = written_in c.args.txn.now key;
        frees = means;
        is = subst (λ (p : List Proc). hand_in p c.args.txn.now ≡ Some means.hand → FreesBy p (has_joined c.args.txn.now) c.args.txn.now.worker means.hand means.act → hand_in p c.went.new.self ≡ Some (hand_freed (hand_joined means.hand (Freeing means.act) means.hand.dep) key)) c.requires.procs
            (λ is frees. c.went.ensures.freed means.hand means.act key (written_in c.args.txn.now key) next is frees) means.is means.act_is;
        worker = record { runs = subst (λ (p : List Proc). RunsBy p c.went.new.self) c.requires.procs c.went.ensures.runs; same = c.went.ensures.same; stays = c.went.ensures.stays };
      },
    )

pub returns-in_default-clause-other : goal.returns-in_default-clause-other
returns-in_default-clause-other g c = λ e. no_free (next_action c.args.txn.now) c.free_asked.result c.free_asked.ensures.asked c.in_default.not-Some
