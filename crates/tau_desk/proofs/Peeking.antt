-- A shard that an optimistic worker has taken.
use Rattle.std.proofs.Common.{ℕ, ◌≡◌, List, subst, sym, ap, ◌∙◌}
use Rattle.std.specs.Prelude.{Some, is_some, true}
use Rattle.tau_base.specs.Shards.{shard_number}
use Rattle.tau_base.specs.declared.value.Key.{Key}
use Rattle.tau_base.specs.declared.value.Value.{Value}
use Rattle.tau_base.specs.declared.value.Mode.{Mode}
use Rattle.tau_base.specs.declared.value.Mode.TheVariants.{Read}
use Rattle.tau_machine.specs.Events.{Busy}
use Rattle.tau_machine.specs.Hands.{Hand}
use Rattle.tau_shard.specs.Shard.{Shard}
use Rattle.tau_machine.specs.Worker.{Worker, begun, hand_busy, settled}
use Rattle.tau_occ.specs.declared.style.Style.{Style}
use Rattle.tau_occ.specs.declared.style.Style.TheVariants.{Optimistic}
use Rattle.tau_txn.specs.Next as txn
use Rattle.tau_txn.specs.Txn.{PlainTxn, hand_in, worker_of}
use Rattle.tau_core.specs.State.{Plain}
use Rattle.tau_rule.specs.Knows.{Knows}
use Rattle.tau_rule.specs.Steps.{Agrees, IsReady, Sat, StepsShard, next_worker, shard_in}
use Rattle.tau_rule.specs.declared.part.Part.{Part}
use Rattle.tau_rule.proofs.Workers.{refuses_read}
use Rattle.tau_desk.proofs.GoingOn.{begun_own, hand_there, seat_origin}
use Rattle.tau_desk.specs.Acts.{HasLocked, HasMetBusy}
use Rattle.tau_desk.specs.Peeks.{TakenShard, IsAsPeeked, BusyCause, LocksSeenOn}
use Rattle.tau_desk.specs.Seats.{IsWorkerSeat, PlainWorkerSeat}
use Rattle.tau_desk.specs.Shares.{PlainWork}
use Rattle.tau_desk.specs.Works.{GoesOn}
use Rattle.tau_desk.specs.declared.work.Acted.TheVariants.{Went, Busy as IsBusy}

-- the seat may take a part
pub seat_ready : (origin : Plain) (m : Sat) (w : ℕ) (o : PlainWork) (read : ℕ × List ℕ) (seen : List ℕ) → m.0.opened ≡ Some origin → IsWorkerSeat m w o read seen → is_some o.txn.hand ≡ true → IsReady origin w m o.txn
seat_ready origin m w o read seen opened s has =
    let there = hand_there s.origin.load w o s.work.fits has in
    subst (λ (p : Plain). IsReady p w m o.txn) (seat_origin origin m w o read seen opened s) (record {
      role = s.role;
      worker = s.work.worker;
      seat = s.seat;
      share = s.work.share;
      there = s.work.there;
      number = s.work.fits.worker;
      width = s.work.fits.width;
      runs = s.work.fits.runs;
      agrees = ap (λ (x : Worker). x.hand) (begun_own s.origin.load s.work.worker o there.0 there.1 s.work.shows);
    })

-- the same for the call in its box
pub ready_of : (origin : Plain) (m : Sat) (w : ℕ) (o : PlainWork) (read : ℕ × List ℕ) (seen : List ℕ) (t : PlainTxn) → m.0.opened ≡ Some origin → IsWorkerSeat m w o read seen → t ≡ o.txn → is_some t.hand ≡ true → IsReady origin w m t
ready_of origin m w o read seen t opened s same hand = subst (λ (x : PlainTxn). IsReady origin w m x) (sym same) (seat_ready origin m w o read seen opened s (ap (λ (x : PlainTxn). is_some x.hand) (sym same) ∙ hand))

abbrev pub taken_shard : (origin : Plain) (v : Knows) (k : ℕ) (p : Part) (sh : Shard) (key : Key) → k ≡ shard_number key → shard_in p ≡ Some sh → Agrees origin v k p → TakenShard origin v key
taken_shard origin v k p sh key number is agrees = record { part = p; shard = sh; is = is; agrees = subst (λ (i : ℕ). Agrees origin v i p) number agrees }

-- an optimistic worker may be Busy where it is to read
pub differs_steps : (origin : Plain) (style : Style) (w k : ℕ) (wk : Worker) (sh : Shard) (t t' : PlainTxn) (key : Key) (mode : Mode) (m : txn.Locks origin.load.procs t key mode) → style ≡ Optimistic → mode ≡ Read → (begun origin.load.streams wk).hand ≡ hand_in origin.load.procs t → k ≡ shard_number key → t.width ≡ origin.load.streams →
    ((x : Worker) (h : Hand) → hand_in origin.load.procs t ≡ Some h → worker_of origin.load.procs x t' ≡ settled t.width x (hand_busy h)) → StepsShard origin style (Busy w) w wk (next_worker origin.load wk t') k sh sh
differs_steps origin style w k wk sh t t' key mode m peeks reads agrees number width busy =
    subst (λ (s : Style). StepsShard origin s (Busy w) w wk (next_worker origin.load wk t') k sh sh) (sym peeks)
    (refuses_read origin w k wk sh m.hand key mode (agrees ∙ m.is) number m.phase m.next (next_worker origin.load wk t') reads (busy (begun origin.load.streams wk) m.hand m.is ∙ ap (λ (n : ℕ). settled n (begun origin.load.streams wk) (hand_busy m.hand)) width))

-- what comes of a lock, said of the seat
module _ (origin : Plain) (seen : List (Key × Value)) (s s' : PlainWorkerSeat) (t : PlainTxn) (goes : GoesOn origin.load s s' t) where
  pub went_on : (m : Sat) (w : ℕ) (o : PlainTxn) → m ≡ s.me → w ≡ s.worker → o ≡ s.work.txn → (l : HasLocked origin.load.procs o t) → IsAsPeeked origin m.0 w seen l.key l.mode l.row → LocksSeenOn origin seen s s' Went
  went_on m w o same_me same_worker same_txn l r = (t, moved.0, moved.1, goes)
    where
      moved : (k : HasLocked origin.load.procs s.work.txn t) × IsAsPeeked origin s.me.0 s.worker seen k.key k.mode k.row
      moved = subst (λ (x : Sat × ℕ × PlainTxn). (k : HasLocked origin.load.procs x.2 t) × IsAsPeeked origin x.0.0 x.1 seen k.key k.mode k.row) (λ i. (same_me i, same_worker i, same_txn i)) (l, r)

  pub busy_on : (m : Sat) (w : ℕ) (o : PlainTxn) → m ≡ s.me → w ≡ s.worker → o ≡ s.work.txn → (b : HasMetBusy origin.load.procs o t) → BusyCause origin m.0 w seen b.key b.mode → LocksSeenOn origin seen s s' IsBusy
  busy_on m w o same_me same_worker same_txn b r = (t, moved.0, moved.1, goes)
    where
      moved : (k : HasMetBusy origin.load.procs s.work.txn t) × BusyCause origin s.me.0 s.worker seen k.key k.mode
      moved = subst (λ (x : Sat × ℕ × PlainTxn). (k : HasMetBusy origin.load.procs x.2 t) × BusyCause origin x.0.0 x.1 seen k.key k.mode) (λ i. (same_me i, same_worker i, same_txn i)) (b, r)
