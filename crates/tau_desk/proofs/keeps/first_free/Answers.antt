use Rattle.std.proofs.Common.{◌≡◌, ◌++◌, ◌∷◌, ℕ, Bool, [], None, Some, List, Option, subst, sym, ap, ◌∙◌, refl}
use Rattle.std.specs.Option.{IsSome}
use Rattle.std.specs.Map.{lookup}
use Rattle.tau_base.specs.Database.{same_key}
use Rattle.tau_base.specs.declared.value.Key.{Key}
use Rattle.tau_base.specs.declared.value.Value.{Value}
use Rattle.tau_base.specs.Shards.{shard_number}
use Rattle.tau_model.specs.declared.committed.Committed.{Committed}
use Rattle.tau_model.specs.History.{Act}
use Rattle.tau_shard.specs.Plain.{PlainShard}
use Rattle.tau_shard.specs.Read.{shard_of}
use Rattle.tau_machine.specs.Hands.{Freeing, Txn, committed_of, lv_of}
use Rattle.tau_shard.specs.Shard.{Shard, entry_in, shard_freed}
use Rattle.tau_machine.specs.Worker.{hand_freed, hand_joined}
use Rattle.tau_proc.specs.declared.proc.Proc.{Proc}
use Rattle.tau_txn.specs.Narrow.{written_in}
use Rattle.tau_txn.specs.declared.action.Action.TheVariants as action
use Rattle.tau_txn.specs.Next.{next_action, Frees, FreesBy, Reads}
use Rattle.tau_txn.specs.Txn.{RunsBy, hand_in, has_joined}
use Rattle.tau_core.specs.State.{Plain}
use Rattle.tau_rule.specs.Knows.{Knows}
use Rattle.tau_rule.specs.Steps.{Agrees, StepsShard, shard_in}
use Rattle.tau_machine.specs.Events.{FirstFree}
use Rattle.tau_desk.specs.Works.{joined_worker, told_joined}
use Rattle.tau_desk.proofs.Freeing.{no_free, taken_held}
use Rattle.tau_desk.proofs.Lasts.{some_last}
use Rattle.tau_desk.proofs.Quitting.{was_holding}
use Rattle.tau_desk.proofs.Reading.{first_steps}
use Rattle.tau_desk.proofs.keeps.first_free.Goals as goal

pub lv_ref-requires : goal.lv_ref-requires
lv_ref-requires g c = c.in-Some.ensures.hand refl

pub free_by-requires-clause-held : goal.free_by-requires-clause-held
free_by-requires-clause-held g c =
    let r = c.requires.ready in
    let held = c.take_shard-shard.ensures.held in
    let origin : Plain = c.args.desk.now.table.shared.key.value in
    let v : Knows = c.args.seat.now.me.0 in
    let k : ℕ = c.from-number.result in
    let key : Key = c.in-Some.key in
    let sh : Shard = shard_of c.deref_mut.result.now in
    let was : shard_in held.0 ≡ Some sh = held.2 ∙ ap (λ (s : PlainShard). Some (shard_of s)) (sym c.deref_mut.ensures.value) in
    let number : k ≡ shard_number key = c.from-number.ensures ∙ c.shard_of.ensures.same in
    let means : Frees origin.load.procs c.args.txn.now key (written_in c.args.txn.now key) = c.in-Some.ensures.means origin.load.procs r.runs in
    let next : next_action c.args.txn.now ≡ action.Free key (written_in c.args.txn.now key) = c.in-Some.ensures.next in
    let begun = was_holding origin.load.streams r.worker means.hand key means.mode (r.agrees ∙ means.is) means.held in
    let agrees : Agrees origin v k held.0 = held.3 in
    let holds = taken_held origin c.args.seat.now.me c.args.txn.now c.args.worker k held.0 sh r means.hand key begun.0 agrees was number in
    let is : Some means.mode ≡ (entry_in sh key).holders c.args.worker = sym (holds ∙ means.held) in
    subst IsSome is refl

pub last_of-requires : goal.last_of-requires
last_of-requires g c =
    let r = c.requires.ready in
    let origin : Plain = c.args.desk.now.table.shared.key.value in
    let key : Key = c.in-Some.key in
    let means : Frees origin.load.procs c.args.txn.now key (written_in c.args.txn.now key) = c.in-Some.ensures.means origin.load.procs r.runs in
    let reads : Reads origin.load.procs c.args.txn.now.worker means.hand means.act = subst (λ (b : Bool). FreesBy origin.load.procs b c.args.txn.now.worker means.hand means.act) c.requires.unjoined means.act_is in
    record { some = some_last c.commit_into.new.out.items c.args.committed.now.items (committed_of means.act) (c.commit_into.ensures.reading origin.load.procs means.hand means.act r.runs means.is reads) }

pub give_first-requires-clause-event : goal.give_first-requires-clause-event
give_first-requires-clause-event g c =
    let r = c.requires.ready in
    let held = c.take_shard-shard.ensures.held in
    let origin : Plain = c.args.desk.now.table.shared.key.value in
    let v : Knows = c.args.seat.now.me.0 in
    let k : ℕ = c.from-number.result in
    let key : Key = c.in-Some.key in
    let sh : Shard = shard_of c.deref_mut.result.now in
    let was : shard_in held.0 ≡ Some sh = held.2 ∙ ap (λ (s : PlainShard). Some (shard_of s)) (sym c.deref_mut.ensures.value) in
    let number : k ≡ shard_number key = c.from-number.ensures ∙ c.shard_of.ensures.same in
    let means : Frees origin.load.procs c.args.txn.now key (written_in c.args.txn.now key) = c.in-Some.ensures.means origin.load.procs r.runs in
    let next : next_action c.args.txn.now ≡ action.Free key (written_in c.args.txn.now key) = c.in-Some.ensures.next in
    let begun = was_holding origin.load.streams r.worker means.hand key means.mode (r.agrees ∙ means.is) means.held in
    let reads : Reads origin.load.procs c.args.txn.now.worker means.hand means.act = subst (λ (b : Bool). FreesBy origin.load.procs b c.args.txn.now.worker means.hand means.act) c.requires.unjoined means.act_is in
    let items : c.commit_into.new.out.items ≡ c.args.committed.now.items ++ committed_of means.act ∷ [] = c.commit_into.ensures.reading origin.load.procs means.hand means.act r.runs means.is reads in
    let kept : c.last_of.result ≡ committed_of means.act = c.last_of.ensures.last c.args.committed.now.items (committed_of means.act) items in
    let shown : hand_in origin.load.procs c.went.new.self ≡ Some (hand_freed (hand_joined means.hand (Freeing means.act) means.hand.dep) key) =
    subst (λ (p : List Proc). hand_in p c.args.txn.now ≡ Some means.hand → FreesBy p (has_joined c.args.txn.now) c.args.txn.now.worker means.hand means.act → hand_in p c.went.new.self ≡ Some (hand_freed (hand_joined means.hand (Freeing means.act) means.hand.dep) key)) c.requires.procs
    (λ is frees. c.went.ensures.freed means.hand means.act key (written_in c.args.txn.now key) next is frees) means.is means.act_is in
    let none : ◌≡◌ {A = Option Value} None (lookup (same_key key) means.act.effect.writes) = sym (ap (lookup (same_key key)) (ap (λ (a : Act Txn). a.effect.writes) reads.is ∙ reads.no_write)) in
    let after : shard_of c.free_by.new.self ≡ shard_freed sh c.args.worker key (lv_of means.act) (lookup (same_key key) means.act.effect.writes) = c.free_by.ensures ∙ (λ i. shard_freed sh c.args.worker key (c.lv_ref.ensures.frees origin.load.procs means.hand means.act r.runs means.is means.act_is i) (none i)) in (
      c.args.worker,
      record {
        taken = held.0;
        role = r.role;
        worker = r.worker;
        before = sh;
        held = ap (λ m. m.0.hand) held.1;
        carried = ap (λ m. m.1) held.1;
        roles = ap (λ m. m.0.roles) held.1 ∙ r.seat.roles;
        share = r.share;
        was = was;
        there = r.there;
        steps = λ style. subst (λ (x : Committed). StepsShard origin style (FirstFree c.args.worker) c.args.worker r.worker (joined_worker origin.load r.worker c.went.new.self x) k sh (shard_of c.free_by.new.self)) (sym kept)
            (first_steps origin c.args.worker k r.worker sh (shard_of c.free_by.new.self) c.went.new.self key means.mode means.act means.hand begun.0 begun.1 number (subst (λ (n : ℕ). Reads origin.load.procs n means.hand means.act) r.number reads) means.held means.lowest after shown);
      },
    )

pub returns-clause-step : goal.returns-clause-step
returns-clause-step g c = λ e.
    let r = c.requires.ready in
    let held = c.take_shard-shard.ensures.held in
    let origin : Plain = c.args.desk.now.table.shared.key.value in
    let v : Knows = c.args.seat.now.me.0 in
    let k : ℕ = c.from-number.result in
    let key : Key = c.in-Some.key in
    let sh : Shard = shard_of c.deref_mut.result.now in
    let was : shard_in held.0 ≡ Some sh = held.2 ∙ ap (λ (s : PlainShard). Some (shard_of s)) (sym c.deref_mut.ensures.value) in
    let number : k ≡ shard_number key = c.from-number.ensures ∙ c.shard_of.ensures.same in
    let means : Frees origin.load.procs c.args.txn.now key (written_in c.args.txn.now key) = c.in-Some.ensures.means origin.load.procs r.runs in
    let next : next_action c.args.txn.now ≡ action.Free key (written_in c.args.txn.now key) = c.in-Some.ensures.next in
    let begun = was_holding origin.load.streams r.worker means.hand key means.mode (r.agrees ∙ means.is) means.held in
    let reads : Reads origin.load.procs c.args.txn.now.worker means.hand means.act = subst (λ (b : Bool). FreesBy origin.load.procs b c.args.txn.now.worker means.hand means.act) c.requires.unjoined means.act_is in
    let items : c.commit_into.new.out.items ≡ c.args.committed.now.items ++ committed_of means.act ∷ [] = c.commit_into.ensures.reading origin.load.procs means.hand means.act r.runs means.is reads in
    let kept : c.last_of.result ≡ committed_of means.act = c.last_of.ensures.last c.args.committed.now.items (committed_of means.act) items in
    let shown : hand_in origin.load.procs c.went.new.self ≡ Some (hand_freed (hand_joined means.hand (Freeing means.act) means.hand.dep) key) =
    subst (λ (p : List Proc). hand_in p c.args.txn.now ≡ Some means.hand → FreesBy p (has_joined c.args.txn.now) c.args.txn.now.worker means.hand means.act → hand_in p c.went.new.self ≡ Some (hand_freed (hand_joined means.hand (Freeing means.act) means.hand.dep) key)) c.requires.procs
    (λ is frees. c.went.ensures.freed means.hand means.act key (written_in c.args.txn.now key) next is frees) means.is means.act_is in (
      c.last_of.result,
      (
        c.give_first.ensures.given ∙ ap (λ m. (told_joined origin.load m.0 c.went.new.self c.last_of.result, [])) held.1,
        record {
          key = key;
          write = (written_in c.args.txn.now key);
          frees = means;
          kept_is = kept;
          is = shown;
          worker = record { runs = subst (λ (p : List Proc). RunsBy p c.went.new.self) c.requires.procs c.went.ensures.runs; same = c.went.ensures.same; stays = c.went.ensures.stays };
        },
      ),
      items ∙ ap (λ (x : Committed). c.args.committed.now.items ++ x ∷ []) (sym kept),
    )

pub returns-in_default-clause-other : goal.returns-in_default-clause-other
returns-in_default-clause-other g c = λ e. no_free (next_action c.args.txn.now) c.free_asked.result c.free_asked.ensures.asked c.in_default.not-Some
