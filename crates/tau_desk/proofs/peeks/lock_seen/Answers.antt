use Rattle.std.proofs.Common.{◌≡◌, ℕ, [], false, Some, inl, inr, refl, subst, sym, ap, ◌∙◌, List, length}
use Rattle.tau_shard.specs.Blocks.{dep_locked}
use Rattle.tau_shard.specs.Read.{shard_of}
use Rattle.tau_machine.specs.Events.{Lock, Busy}
use Rattle.tau_machine.specs.Hands.{Hand}
use Rattle.tau_machine.specs.Worker.{Worker, settled, hand_busy}
use Rattle.tau_shard.specs.Shard.{Shard, entry_in}
use Rattle.tau_base.specs.Shards.{shard_number}
use Rattle.tau_shard.specs.Plain.{PlainShard}
use Rattle.tau_proc.specs.declared.proc.Proc.{Proc}
use Rattle.tau_txn.specs.declared.action.Action.TheVariants as action
use Rattle.tau_txn.specs.declared.action.Action.{Action}
use Rattle.tau_txn.specs.Next.{next_action, IsLock, Locks}
use Rattle.tau_txn.specs.Txn.{PlainTxn, RunsBy, dep_in, hand_in, leaves_in, worker_of}
use Rattle.tau_core.specs.State.{Plain}
use Rattle.tau_rule.specs.Knows.{Knows}
use Rattle.tau_rule.specs.Steps.{Agrees, told, shard_in}
use Rattle.tau_rule.proofs.Turns.{part_shard}
use Rattle.std.specs.Map.{lookup}
use Rattle.tau_base.specs.Database.{same_key}
use Rattle.tau_core.specs.View.{setting_of}
use Rattle.tau_machine.proofs.Conflicts.{no_conflict}
use Rattle.tau_desk.proofs.Peeking.{differs_steps, taken_shard}
use Rattle.tau_desk.proofs.Locking.{no_lock, granted_steps, busy_steps, refused_held, taken_wide}
use Rattle.tau_desk.proofs.peeks.lock_seen.Goals as goal

pub dep_ref-wide-requires : goal.dep_ref-wide-requires
dep_ref-wide-requires g c = c.in-Some.ensures.hand refl

pub lock_on-requires-clause-lock : goal.lock_on-requires-clause-lock
lock_on-requires-clause-lock g c = c.in-Some.ensures.next

pub busy-requires-clause-lock : goal.busy-requires-clause-lock
busy-requires-clause-lock g c = subst (λ (a : Action). IsLock a) (sym c.in-Some.ensures.next) tt

pub busy-requires-clause-run : goal.busy-requires-clause-run
busy-requires-clause-run g c = subst (λ (p : List Proc). RunsBy p c.args.txn.now) (sym c.requires.procs) c.requires.ready.runs

pub busy-requires-in-Err-Busy-clause-lock : goal.busy-requires-in-Err-Busy-clause-lock
busy-requires-in-Err-Busy-clause-lock g c =
    let before : IsLock (next_action c.args.txn.now) = subst (λ (a : Action). IsLock a) (sym c.in-Some.ensures.next) tt in
    subst (λ (t : PlainTxn). IsLock (next_action t)) (sym c.in-Err-Busy.ensures.as_before) before

pub busy-requires-in-Err-Busy-clause-run : goal.busy-requires-in-Err-Busy-clause-run
busy-requires-in-Err-Busy-clause-run g c = c.lock_on.ensures.runs c.args.procs.now (subst (λ (p : List Proc). RunsBy p c.args.txn.now) (sym c.requires.procs) c.requires.ready.runs)

pub returns-in_default-clause-other : goal.returns-in_default-clause-other
returns-in_default-clause-other g c = λ e. no_lock (next_action c.args.txn.now) c.lock_asked.result c.lock_asked.ensures.asked c.in_default.not-Some

pub lock_on-requires-clause-wide : goal.lock_on-requires-clause-wide
lock_on-requires-clause-wide g c =
    let r = c.requires.ready in
    let held = c.take_shard-shard.ensures.held in
    let origin : Plain = c.args.desk.now.table.shared.key.value in
    let v : Knows = c.args.seat.now.me.0 in
    let k : ℕ = c.from-number.result in
    let sh : Shard = shard_of c.deref_mut.result.now in
    let was : shard_in held.0 ≡ Some sh = held.2 ∙ ap (λ (s : PlainShard). Some (shard_of s)) (sym c.deref_mut.ensures.value) in
    let number : k ≡ shard_number c.in-Some.key = c.from-number.ensures ∙ c.shard_of.ensures.same in
    let means : Locks origin.load.procs c.args.txn.now c.in-Some.key c.in-Some.mode = c.in-Some.ensures.means origin.load.procs r.runs in
    let next : next_action c.args.txn.now ≡ action.Lock c.in-Some.key c.in-Some.mode = c.in-Some.ensures.next in
    let agrees : Agrees origin v k held.0 = held.3 in
    let dep : List ℕ = dep_in c.args.txn.now in
    let wide : length dep ≡ origin.load.streams = ap (length {A = ℕ}) (sym c.dep_ref-wide.ensures.dep) ∙ c.dep_ref-wide.ensures.wide ∙ r.width in
    taken_wide origin v k held.0 sh c.in-Some.key c.in-Some.mode dep agrees was wide ∙ sym r.width

pub give_back-requires-clause-same : goal.give_back-requires-clause-same
give_back-requires-clause-same g c =
    let r = c.requires.ready in
    let held = c.take_shard-shard.ensures.held in
    let origin : Plain = c.args.desk.now.table.shared.key.value in
    let v : Knows = c.args.seat.now.me.0 in
    let k : ℕ = c.from-number.result in
    let sh : Shard = shard_of c.deref_mut.result.now in
    let was : shard_in held.0 ≡ Some sh = held.2 ∙ ap (λ (s : PlainShard). Some (shard_of s)) (sym c.deref_mut.ensures.value) in
    let number : k ≡ shard_number c.in-Some.key = c.from-number.ensures ∙ c.shard_of.ensures.same in
    let means : Locks origin.load.procs c.args.txn.now c.in-Some.key c.in-Some.mode = c.in-Some.ensures.means origin.load.procs r.runs in
    let next : next_action c.args.txn.now ≡ action.Lock c.in-Some.key c.in-Some.mode = c.in-Some.ensures.next in
    record {
      taken = held.0;
      number = c.args.worker;
      role = r.role;
      held = ap (λ m. m.0.hand) held.1;
      carried = ap (λ m. m.1) held.1;
      roles = ap (λ m. m.0.roles) held.1 ∙ r.seat.roles;
      same = λ s part. let is = part_shard origin s k held.0 sh was part in (is.0, is.1 ∙ sym c.in-Err-NoMemory.ensures.unchanged);
    }

pub give_shard-requires-in-Ok-clause-event : goal.give_shard-requires-in-Ok-clause-event
give_shard-requires-in-Ok-clause-event g c =
    let r = c.requires.ready in
    let held = c.take_shard-shard.ensures.held in
    let origin : Plain = c.args.desk.now.table.shared.key.value in
    let v : Knows = c.args.seat.now.me.0 in
    let k : ℕ = c.from-number.result in
    let sh : Shard = shard_of c.deref_mut.result.now in
    let was : shard_in held.0 ≡ Some sh = held.2 ∙ ap (λ (s : PlainShard). Some (shard_of s)) (sym c.deref_mut.ensures.value) in
    let number : k ≡ shard_number c.in-Some.key = c.from-number.ensures ∙ c.shard_of.ensures.same in
    let means : Locks origin.load.procs c.args.txn.now c.in-Some.key c.in-Some.mode = c.in-Some.ensures.means origin.load.procs r.runs in
    let next : next_action c.args.txn.now ≡ action.Lock c.in-Some.key c.in-Some.mode = c.in-Some.ensures.next in (
      Lock c.args.worker,
      c.args.worker,
      record {
        taken = held.0;
        role = r.role;
        worker = r.worker;
        before = sh;
        held = ap (λ m. m.0.hand) held.1;
        carried = ap (λ m. m.1) held.1;
        roles = ap (λ m. m.0.roles) held.1 ∙ r.seat.roles;
        share = r.share;
        was = was;
        there = r.there;
        none = tt;
        steps = granted_steps origin c.args.worker k r.worker sh (shard_of c.lock_on.new.shard) c.args.txn.now c.lock_on.new.self c.in-Some.key c.in-Some.mode (sh.rows c.in-Some.key) (dep_in c.args.txn.now)
            (dep_locked c.in-Some.mode (dep_in c.args.txn.now) (entry_in sh c.in-Some.key)) means r.agrees number refl refl refl c.in-Ok.ensures.step.free c.in-Ok.ensures.step.locked
            (c.in-Ok.ensures.step.is origin.load.procs means.hand r.runs means.is);
      },
    )

pub give_shard-requires-in-Err-Busy-clause-event : goal.give_shard-requires-in-Err-Busy-clause-event
give_shard-requires-in-Err-Busy-clause-event g c =
    let r = c.requires.ready in
    let held = c.take_shard-shard.ensures.held in
    let origin : Plain = c.args.desk.now.table.shared.key.value in
    let v : Knows = c.args.seat.now.me.0 in
    let k : ℕ = c.from-number.result in
    let sh : Shard = shard_of c.deref_mut.result.now in
    let was : shard_in held.0 ≡ Some sh = held.2 ∙ ap (λ (s : PlainShard). Some (shard_of s)) (sym c.deref_mut.ensures.value) in
    let number : k ≡ shard_number c.in-Some.key = c.from-number.ensures ∙ c.shard_of.ensures.same in
    let means : Locks origin.load.procs c.args.txn.now c.in-Some.key c.in-Some.mode = c.in-Some.ensures.means origin.load.procs r.runs in
    let next : next_action c.args.txn.now ≡ action.Lock c.in-Some.key c.in-Some.mode = c.in-Some.ensures.next in (
      Busy c.args.worker,
      c.args.worker,
      record {
        taken = held.0;
        role = r.role;
        worker = r.worker;
        before = sh;
        held = ap (λ m. m.0.hand) held.1;
        carried = ap (λ m. m.1) held.1;
        roles = ap (λ m. m.0.roles) held.1 ∙ r.seat.roles;
        share = r.share;
        was = was;
        there = r.there;
        none = tt;
        steps = busy_steps origin c.args.worker k r.worker sh (shard_of c.lock_on.new.shard) c.args.txn.now c.busy-in-Err-Busy.new.self c.in-Some.key c.in-Some.mode means
            (refused_held origin sh c.args.worker c.in-Some.key c.in-Some.mode _ _ c.in-Err-Busy.field-0-is c.in-Err-Busy.ensures.refused) r.agrees number c.in-Err-Busy.ensures.unchanged r.width
            (subst (λ (t : PlainTxn). (x : Worker) (h : Hand) → hand_in origin.load.procs t ≡ Some h → worker_of origin.load.procs x c.busy-in-Err-Busy.new.self ≡ settled t.width x (hand_busy h)) c.in-Err-Busy.ensures.as_before
            (subst (λ (p : List Proc). (x : Worker) (h : Hand) → hand_in p c.lock_on.new.self ≡ Some h → worker_of p x c.busy-in-Err-Busy.new.self ≡ settled c.lock_on.new.self.width x (hand_busy h)) c.requires.procs c.busy-in-Err-Busy.ensures.busy));
      },
    )

pub returns-in-Ok-clause-step : goal.returns-in-Ok-clause-step
returns-in-Ok-clause-step g c =
    let r = c.requires.ready in
    let held = c.take_shard-shard.ensures.held in
    let origin : Plain = c.args.desk.now.table.shared.key.value in
    let v : Knows = c.args.seat.now.me.0 in
    let sh : Shard = shard_of c.deref_mut.result.now in
    let was : shard_in held.0 ≡ Some sh = held.2 ∙ ap (λ (s : PlainShard). Some (shard_of s)) (sym c.deref_mut.ensures.value) in
    let number : c.from-number.result ≡ shard_number c.in-Some.key = c.from-number.ensures ∙ c.shard_of.ensures.same in
    let means : Locks origin.load.procs c.args.txn.now c.in-Some.key c.in-Some.mode = c.in-Some.ensures.means origin.load.procs r.runs in
    let next : next_action c.args.txn.now ≡ action.Lock c.in-Some.key c.in-Some.mode = c.in-Some.ensures.next in (
      c.give_shard-in-Ok.ensures.given ∙ ap (λ m. (told origin.load m.0 c.lock_on.new.self, [])) held.1,
      record {
        key = c.in-Some.key;
        mode = c.in-Some.mode;
        row = sh.rows c.in-Some.key;
        dep = dep_locked c.in-Some.mode (dep_in c.args.txn.now) (entry_in sh c.in-Some.key);
        wanted = means;
        is = c.in-Ok.ensures.step.is origin.load.procs means.hand r.runs means.is;
        worker = record { runs = c.lock_on.ensures.runs origin.load.procs r.runs; same = c.lock_on.ensures.same; stays = c.lock_on.ensures.stays };
      },
      record {
        taken = taken_shard origin v (c.from-number.result) held.0 sh c.in-Some.key number was held.3;
        row_is = refl;
        free = no_conflict (setting_of origin.load) sh c.args.worker c.in-Some.key c.in-Some.mode c.in-Ok.ensures.step.free;
        read = λ reads. subst (λ (s : PlainShard). lookup (same_key c.in-Some.key) c.args.peeker.now.seen ≡ Some ((shard_of s).rows c.in-Some.key)) (c.deref.ensures ∙ sym c.deref_mut.ensures.value) (c.differs.ensures.not c.if-differs.false reads);
      },
    )

pub returns-in-Err-Busy-clause-step : goal.returns-in-Err-Busy-clause-step
returns-in-Err-Busy-clause-step g c =
    let r = c.requires.ready in
    let held = c.take_shard-shard.ensures.held in
    let origin : Plain = c.args.desk.now.table.shared.key.value in
    let v : Knows = c.args.seat.now.me.0 in
    let was : shard_in held.0 ≡ Some (shard_of c.deref_mut.result.now) = held.2 ∙ ap (λ (s : PlainShard). Some (shard_of s)) (sym c.deref_mut.ensures.value) in
    let number : c.from-number.result ≡ shard_number c.in-Some.key = c.from-number.ensures ∙ c.shard_of.ensures.same in
    let means : Locks origin.load.procs c.args.txn.now c.in-Some.key c.in-Some.mode = c.in-Some.ensures.means origin.load.procs r.runs in
    let next : next_action c.args.txn.now ≡ action.Lock c.in-Some.key c.in-Some.mode = c.in-Some.ensures.next in (
      c.give_shard-in-Err-Busy.ensures.given ∙ ap (λ m. (told origin.load m.0 c.busy-in-Err-Busy.new.self, [])) held.1,
      record {
        key = c.in-Some.key;
        mode = c.in-Some.mode;
        wanted = means;
        settles = λ wk. subst (λ (t : PlainTxn). (x : Worker) (h : Hand) → hand_in origin.load.procs t ≡ Some h → worker_of origin.load.procs x c.busy-in-Err-Busy.new.self ≡ settled t.width x (hand_busy h)) c.in-Err-Busy.ensures.as_before
            (subst (λ (p : List Proc). (x : Worker) (h : Hand) → hand_in p c.lock_on.new.self ≡ Some h → worker_of p x c.busy-in-Err-Busy.new.self ≡ settled c.lock_on.new.self.width x (hand_busy h)) c.requires.procs c.busy-in-Err-Busy.ensures.busy) wk means.hand means.is;
        worker = record { runs = subst (λ (p : List Proc). RunsBy p c.busy-in-Err-Busy.new.self) c.requires.procs c.busy-in-Err-Busy.ensures.runs; same = subst (λ (t : PlainTxn). c.busy-in-Err-Busy.new.self ≡ record t { hand = c.busy-in-Err-Busy.new.self.hand }) c.in-Err-Busy.ensures.as_before c.busy-in-Err-Busy.ensures.same; stays = subst (λ (t : PlainTxn). leaves_in t ≡ false → leaves_in c.busy-in-Err-Busy.new.self ≡ false) c.in-Err-Busy.ensures.as_before c.busy-in-Err-Busy.ensures.stays };
      },
      record {
        taken = taken_shard origin v (c.from-number.result) held.0 (shard_of c.deref_mut.result.now) c.in-Some.key number was held.3;
        cause = inl (refused_held origin (shard_of c.deref_mut.result.now) c.args.worker c.in-Some.key c.in-Some.mode _ _ c.in-Err-Busy.field-0-is c.in-Err-Busy.ensures.refused);
      },
    )

pub give_shard-requires-clause-event : goal.give_shard-requires-clause-event
give_shard-requires-clause-event g c =
    let r = c.requires.ready in
    let held = c.take_shard-shard.ensures.held in
    let origin : Plain = c.args.desk.now.table.shared.key.value in
    let k : ℕ = c.from-number.result in
    let sh : Shard = shard_of c.take_shard-shard.result.value in
    let number : k ≡ shard_number c.in-Some.key = c.from-number.ensures ∙ c.shard_of.ensures.same in
    let means : Locks origin.load.procs c.args.txn.now c.in-Some.key c.in-Some.mode = c.in-Some.ensures.means origin.load.procs r.runs in (
      Busy c.args.worker,
      c.args.worker,
      record {
        taken = held.0;
        role = r.role;
        worker = r.worker;
        before = sh;
        held = ap (λ m. m.0.hand) held.1;
        carried = ap (λ m. m.1) held.1;
        roles = ap (λ m. m.0.roles) held.1 ∙ r.seat.roles;
        share = r.share;
        was = held.2;
        there = r.there;
        none = tt;
        steps = differs_steps origin c.args.desk.now.table.shared.key.style c.args.worker k r.worker sh c.args.txn.now c.busy.new.self c.in-Some.key c.in-Some.mode means (sym c.args.desk.now.same_style ∙ c.requires.optimistic) (c.differs.ensures.so c.if-differs.true).0 r.agrees number r.width
            (subst (λ (p : List Proc). (x : Worker) (h : Hand) → hand_in p c.args.txn.now ≡ Some h → worker_of p x c.busy.new.self ≡ settled c.args.txn.now.width x (hand_busy h)) c.requires.procs c.busy.ensures.busy);
      },
    )

pub returns-then-differs-clause-step : goal.returns-then-differs-clause-step
returns-then-differs-clause-step g c =
    let r = c.requires.ready in
    let held = c.take_shard-shard.ensures.held in
    let origin : Plain = c.args.desk.now.table.shared.key.value in
    let v : Knows = c.args.seat.now.me.0 in
    let number : c.from-number.result ≡ shard_number c.in-Some.key = c.from-number.ensures ∙ c.shard_of.ensures.same in
    let means : Locks origin.load.procs c.args.txn.now c.in-Some.key c.in-Some.mode = c.in-Some.ensures.means origin.load.procs r.runs in
    let so = c.differs.ensures.so c.if-differs.true in (
      c.give_shard.ensures.given ∙ ap (λ m. (told origin.load m.0 c.busy.new.self, [])) held.1,
      record {
        key = c.in-Some.key;
        mode = c.in-Some.mode;
        wanted = means;
        settles = λ wk. (subst (λ (p : List Proc). (x : Worker) (h : Hand) → hand_in p c.args.txn.now ≡ Some h → worker_of p x c.busy.new.self ≡ settled c.args.txn.now.width x (hand_busy h)) c.requires.procs c.busy.ensures.busy) wk means.hand means.is;
        worker = record { runs = subst (λ (p : List Proc). RunsBy p c.busy.new.self) c.requires.procs c.busy.ensures.runs; same = c.busy.ensures.same; stays = c.busy.ensures.stays };
      },
      record {
        taken = taken_shard origin v c.from-number.result held.0 (shard_of c.take_shard-shard.result.value) c.in-Some.key number held.2 held.3;
        cause = inr (so.0, subst (λ (s : PlainShard). lookup (same_key c.in-Some.key) c.args.peeker.now.seen ≡ Some ((shard_of s).rows c.in-Some.key) → ⊥) c.deref.ensures so.1);
      },
    )
