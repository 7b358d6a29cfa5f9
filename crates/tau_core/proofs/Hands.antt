-- The call in a worker's hand, and the core's.
use Rattle.std.proofs.Common.{ℕ, ◌≡◌, ◌≤◌, true, false, List, length, refl, sym, ap, subst, ◌∙◌, Option, arith}
use Rattle.std.specs.Prelude.{Some, None, is_some}
use Rattle.tau_base.specs.Vectors.{join}
use Rattle.tau_base.specs.declared.value.Key.{Key}
use Rattle.tau_base.specs.declared.value.Value.{Value}
use Rattle.tau_base.specs.declared.value.Mode.{Mode}
use Rattle.tau_base.specs.declared.value.Mode.TheVariants.{Read, Write}
use Rattle.tau_base.proofs.Vectors.{join_wider}
use Rattle.tau_proc.specs.declared.proc.Proc.{Proc}
use Rattle.tau_model.specs.History.{Numbered}
use Rattle.tau_machine.specs.Hands.{Hand}
use Rattle.tau_machine.specs.Pieces.{placed_in, placed_of}
use Rattle.tau_machine.specs.Worker.{hand_locked}
use Rattle.tau_shard.specs.Shard.{Entry, Shard, entry_in, entry_or}
use Rattle.tau_machine.specs.Shapes.{ShardShape}
use Rattle.tau_shard.specs.Blocks.{dep_locked}
use Rattle.tau_outbox.specs.Pieces.{PlainOutbox}
use Rattle.tau_txn.specs.declared.standing.Standing.{Standing}
use Rattle.tau_txn.specs.declared.standing.Standing.TheVariants as standing
use Rattle.tau_txn.specs.Hand.{PlainHand}
use Rattle.tau_txn.specs.Read.{hand_of}
use Rattle.tau_txn.specs.Steps.{locked_with}
use Rattle.tau_txn.specs.Txn.{PlainTxn, shown, shown_of, hand_in, RunsBy, runs_in, dep_in, dep_by, leaves_in, leaves_by}
use Rattle.tau_ack.specs.Pending.{PlainPending}
use Rattle.tau_core.specs.declared.state.Load.{Load}
use Rattle.tau_core.specs.Plain.{PlainSeat}
use Rattle.tau_core.specs.View.{call_of, worker_of, setting_of}
use Rattle.tau_core.specs.Stands.{SoundSeat}

pub some_hand : (procs : List Proc) (t : PlainTxn) (h : Hand) → hand_in procs t ≡ Some h → is_some t.hand ≡ true
some_hand procs t h e = by_case t.hand e
  where
    by_case : (o : Option PlainHand) → shown_of procs t.worker o ≡ Some h → is_some o ≡ true
    by_case None f = cc
    by_case (Some x) f = refl

pub both_some : (procs : List Proc) (t : PlainTxn) (h : Hand) → hand_in procs t ≡ Some h → is_some t.hand ≡ is_some (hand_in procs t)
both_some procs t h e = some_hand procs t h e ∙ sym (ap is_some e)

-- the vector that is shown is that of the core's hand
pub shown_dep : (procs : List Proc) (t : PlainTxn) (h : Hand) → hand_in procs t ≡ Some h → dep_in t ≡ h.dep
shown_dep procs t h e = by_case t.hand e
  where
    at : (st : Standing) (x : PlainHand) → shown procs t.worker st x ≡ Some h → x.dep ≡ h.dep
    at standing.Running x f = (let g : hand_of procs t.worker x ≡ h = cc in ap (λ (y : Hand). y.dep) g)
    at standing.Quitting x f = (let g : hand_of procs t.worker x ≡ h = cc in ap (λ (y : Hand). y.dep) g)
    at standing.Placed x f = (let g : hand_of procs t.worker x ≡ h = cc in ap (λ (y : Hand). y.dep) g)
    at standing.Freeing x f = (let g : hand_of procs t.worker x ≡ h = cc in ap (λ (y : Hand). y.dep) g)
    at standing.LeftOver x f = cc

    by_case : (o : Option PlainHand) → shown_of procs t.worker o ≡ Some h → dep_by t.width o ≡ h.dep
    by_case None f = cc
    by_case (Some x) f = at x.standing x f

-- a lock as the shard gives it is that of the core
pub locked_alike : (h : Hand) (x : Key) (m : Mode) (row : Value) (dep : List ℕ) (e : Entry) → dep ≡ dep_locked m h.dep e → locked_with h x m row dep ≡ hand_locked h x m row e.write_lv e.read_lv
locked_alike h x Read row dep e is = ap (λ (d : List ℕ). locked_with h x Read row d) is
locked_alike h x Write row dep e is = ap (λ (d : List ℕ). locked_with h x Write row d) is

pub locked_wide : (m : Mode) (width : ℕ) (dep : List ℕ) (e : Entry) → length dep ≡ width → length e.write_lv ≤ width → length e.read_lv ≤ width → length (dep_locked m dep e) ≡ width
locked_wide Read width dep e d a b = let l = (join_wider dep e.write_lv).0 in let u = (join_wider dep e.write_lv).2 in omega arith
locked_wide Write width dep e d a b =
    let l = (join_wider dep e.write_lv).0 in let u = (join_wider dep e.write_lv).2 in
    let n = (join_wider (join dep e.write_lv) e.read_lv).0 in let o = (join_wider (join dep e.write_lv) e.read_lv).2 in
    omega arith

-- a worker's part with another call in hand, or its call further on
pub sound_on : (l : Load) (w : ℕ) (s new : PlainSeat) (h k : Hand) → SoundSeat l w s → hand_in l.procs s.txn ≡ Some h → new ≡ record s { txn = new.txn } → new.txn ≡ record s.txn { hand = new.txn.hand } →
    hand_in l.procs new.txn ≡ Some k → k.call ≡ h.call → RunsBy l.procs new.txn → leaves_in new.txn ≡ false → placed_of k.phase ≡ None → SoundSeat l w new
sound_on l w s new h k o is others same now call runs leaving unplaced =
    let had = some_hand l.procs s.txn h is in
    subst (λ (x : PlainSeat). SoundSeat l w x) (sym others) (record {
      txn = record {
        worker = ap (λ (t : PlainTxn). t.worker) same ∙ o.txn.worker;
        width = ap (λ (t : PlainTxn). t.width) same ∙ o.txn.width;
        mode = ap (λ (t : PlainTxn). t.mode) same ∙ o.txn.mode;
        runs = runs;
        stays = both_some l.procs new.txn k now;
        leaving = leaving;
        call = λ x e.
            let e' : k ≡ x = (let f : Some k ≡ Some x = sym now ∙ e in cc) in
            let c : x.call ≡ h.call = ap (λ (y : Hand). y.call) (sym e') ∙ call in
            subst (λ (n : Numbered). call_of l.calls n.number ≡ Some n.call) (sym c) (o.txn.call h is);
        whose = λ x e.
            let e' : k ≡ x = (let f : Some k ≡ Some x = sym now ∙ e in cc) in
            let c : x.call ≡ h.call = ap (λ (y : Hand). y.call) (sym e') ∙ call in
            ap (λ (n : Numbered). worker_of l.workers n.number) c ∙ o.txn.whose h is;
      };
      store = record {
        ends = λ e. o.store.ends had;
        leaves = λ e. o.store.leaves had;
        posts = λ t e. absurd (let bad : None ≡ Some t = sym (ap placed_in now ∙ unplaced) ∙ e in cc);
        low = o.store.low;
        high = o.store.high;
        again = o.store.again;
        left = o.store.left;
      };
    })

pub entry_narrow : (l : Load) (sh : Shard) (x : Key) → ShardShape (setting_of l) sh → (length (entry_in sh x).write_lv ≤ l.streams) × (length (entry_in sh x).read_lv ≤ l.streams)
entry_narrow l sh x q = by_case (sh.entries x) refl
  where
    by_case : (e : Option Entry) → sh.entries x ≡ e → (length (entry_or sh.floor e).write_lv ≤ l.streams) × (length (entry_or sh.floor e).read_lv ≤ l.streams)
    by_case None is = (q.floor, q.floor)
    by_case (Some e) is = q.entries x e is

pub sound_outbox : (l : Load) (w : ℕ) (s : PlainSeat) (outbox : PlainOutbox) → SoundSeat l w s → placed_in (hand_in l.procs s.txn) ≡ None → SoundSeat l w (record s { outbox = outbox })
sound_outbox l w s outbox o none = record {
  txn = o.txn;
  store = record {
    ends = o.store.ends;
    leaves = o.store.leaves;
    posts = λ t e. absurd (let bad : None ≡ Some t = sym none ∙ e in cc);
    low = o.store.low;
    high = o.store.high;
    again = o.store.again;
    left = o.store.left;
  };
}

pub hand_gone : (procs : List Proc) (t : PlainTxn) → t.hand ≡ None → hand_in procs t ≡ None
hand_gone procs t e = ap (shown_of procs t.worker) e

pub sound_gone : (l : Load) (w : ℕ) (s : PlainSeat) (t : PlainTxn) (pending : PlainPending) → SoundSeat l w s → t ≡ record s.txn { hand = t.hand } → t.hand ≡ None → SoundSeat l w (record s { txn = t; pending = pending })
sound_gone l w s t pending o same none =
    let gone = hand_gone l.procs t none in
    record {
      txn = record {
        worker = ap (λ (x : PlainTxn). x.worker) same ∙ o.txn.worker;
        width = ap (λ (x : PlainTxn). x.width) same ∙ o.txn.width;
        mode = ap (λ (x : PlainTxn). x.mode) same ∙ o.txn.mode;
        runs = subst (λ (x : Option PlainHand). runs_in l.procs x) (sym none) tt;
        stays = ap is_some none ∙ sym (ap is_some gone);
        leaving = ap leaves_by none;
        call = λ h e. absurd (let bad : None ≡ Some h = sym gone ∙ e in cc);
        whose = λ h e. absurd (let bad : None ≡ Some h = sym gone ∙ e in cc);
      };
      store = record {
        ends = λ e. absurd (let bad : false ≡ true = sym (ap is_some none) ∙ e in cc);
        leaves = λ e. absurd (let bad : false ≡ true = sym (ap is_some none) ∙ e in cc);
        posts = λ a e. absurd (let bad : None ≡ Some a = sym (ap placed_in gone) ∙ e in cc);
        low = o.store.low;
        high = o.store.high;
        again = o.store.again;
        left = o.store.left;
      };
    }

-- a call that has its place
pub sound_placed : (l : Load) (w : ℕ) (s new : PlainSeat) (h k : Hand) → SoundSeat l w s → hand_in l.procs s.txn ≡ Some h → new ≡ record s { txn = new.txn; start = new.start; outbox = new.outbox } →
    new.txn ≡ record s.txn { hand = new.txn.hand } → hand_in l.procs new.txn ≡ Some k → k.call ≡ h.call → RunsBy l.procs new.txn → leaves_in new.txn ≡ false → 1 ≤ new.outbox.room → SoundSeat l w new
sound_placed l w s new h k o is others same now call runs leaving room =
    let had = some_hand l.procs s.txn h is in
    subst (λ (x : PlainSeat). SoundSeat l w x) (sym others) (record {
      txn = record {
        worker = ap (λ (t : PlainTxn). t.worker) same ∙ o.txn.worker;
        width = ap (λ (t : PlainTxn). t.width) same ∙ o.txn.width;
        mode = ap (λ (t : PlainTxn). t.mode) same ∙ o.txn.mode;
        runs = runs;
        stays = both_some l.procs new.txn k now;
        leaving = leaving;
        call = λ x e.
            let e' : k ≡ x = (let f : Some k ≡ Some x = sym now ∙ e in cc) in
            let c : x.call ≡ h.call = ap (λ (y : Hand). y.call) (sym e') ∙ call in
            subst (λ (n : Numbered). call_of l.calls n.number ≡ Some n.call) (sym c) (o.txn.call h is);
        whose = λ x e.
            let e' : k ≡ x = (let f : Some k ≡ Some x = sym now ∙ e in cc) in
            let c : x.call ≡ h.call = ap (λ (y : Hand). y.call) (sym e') ∙ call in
            ap (λ (n : Numbered). worker_of l.workers n.number) c ∙ o.txn.whose h is;
      };
      store = record {
        ends = λ e. o.store.ends had;
        leaves = λ e. o.store.leaves had;
        posts = λ t e. room;
        low = o.store.low;
        high = o.store.high;
        again = o.store.again;
        left = o.store.left;
      };
    })
