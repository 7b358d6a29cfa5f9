-- Room is made for a call, and it begins.
use Rattle.std.proofs.Common.{ℕ, zero, suc, ◌+◌, ◌-◌, ◌≤◌, ◌≡◌, Bool, true, false, inl, inr, List, [], ◌∷◌, ◌++◌, length, drop, refl, sym, ap, subst, ◌∙◌, Option, arith, length-set}
use Rattle.std.specs.Prelude.{Some, None, ◌==◌, if◌then◌else◌, slice_get, slice_set}
use Rattle.std.proofs.lemmas.Bool.{eq-eqb}
use Rattle.std.proofs.lemmas.Bool.Decides.{leb_tells}
use Rattle.tau_base.specs.declared.value.Call.{Call}
use Rattle.tau_model.specs.History.{Act, Numbered}
use Rattle.tau_machine.specs.Hands.{Txn, Hand}
use Rattle.tau_machine.specs.Worker.{Worker, fresh}
use Rattle.tau_machine.specs.Invariant.{Invariant}
use Rattle.tau_machine.specs.Pieces.{placed_in}
use Rattle.tau_machine.specs.State.{Core, Outbox, Record}
use Rattle.tau_machine.specs.Accounts.{in_calls, one}
use Rattle.tau_txn.specs.Txn.{PlainTxn, hand_in, bytes_in}
use Rattle.tau_core.specs.declared.state.Load.{Load}
use Rattle.tau_core.specs.Plain.{PlainSeat}
use Rattle.tau_core.specs.State.{Plain}
use Rattle.tau_core.specs.View.{setting_of, call_of, worker_of, numbered_by, numbered, every, from_on, again_in, Hidden, tickets, core_of}
use Rattle.tau_core.specs.Stands.{is_open, open_calls, Stands, SoundSeat, anchors_at}
use Rattle.tau_core.specs.Pieces.{IsPieceOf, Paired}
use Rattle.tau_core.proofs.CallsBegun.{waiting_in, Begins}
use Rattle.tau_core.specs.Begins.{number_by, next_number, next_behind, HasNext, RoomMade, IsRoomy, BeginsNext}
use Rattle.tau_core.proofs.Lists.{each_got}
use Rattle.tau_core.proofs.Hands.{both_some, hand_gone}
use Rattle.tau_core.proofs.Numbers.{numbers}
use Rattle.tau_core.proofs.Seats.{seat_core, worker_of_seat, same_worker, same_outbox, seat_inside, open_set}

-- no more calls are open than there are workers
pub open_most : (l : Load) (xs : List PlainSeat) → open_calls l xs ≤ length xs
open_most l [] = omega arith
open_most l (x ∷ xs) = let r = open_most l xs in let b = one_at_most (is_open (hand_in l.procs x.txn)) in omega arith
  where
    one_at_most : (b : Bool) → (if b then 1 else 0) ≤ 1
    one_at_most true = omega arith
    one_at_most false = omega arith

every_skip : (m i k : ℕ) (cs : List Call) → every m i k cs ≡ every m 0 (k + i) (drop i cs)
every_skip m zero k cs = (let e : k ≡ k + 0 = omega arith in ap (λ n. every m 0 n cs) e)
every_skip m (suc i) k [] = refl
every_skip m (suc i) k (c ∷ cs) = every_skip m i (k + 1) cs ∙ (let e : (k + 1) + i ≡ k + suc i = omega arith in ap (λ n. every m 0 n (drop i cs)) e)

dropped : (calls : List Call) (i : ℕ) (c : Call) → slice_get calls i ≡ Some c → drop i calls ≡ c ∷ drop (suc i) calls
dropped [] i c e = absurd (let bad : None ≡ Some c = e in cc)
dropped (x ∷ xs) zero c e = (let f : x ≡ c = cc in ap (λ y. y ∷ xs) f)
dropped (x ∷ xs) (suc i) c e = dropped xs i c e

drop_empty : (i : ℕ) → drop {A = Call} i [] ≡ []
drop_empty zero = refl
drop_empty (suc i) = refl

drop_drop : (i j : ℕ) (calls : List Call) → drop i (drop j calls) ≡ drop (j + i) calls
drop_drop i zero calls = (let e : i ≡ 0 + i = omega arith in ap (λ n. drop n calls) e)
drop_drop i (suc j) [] = drop_empty i ∙ sym (drop_empty (suc j + i))
drop_drop i (suc j) (c ∷ calls) = drop_drop i j calls ∙ (let e : suc (j + i) ≡ suc j + i = omega arith in ap (λ n. drop n (c ∷ calls)) e)

-- the calls of a worker from one of them on
pub from_next : (calls : List Call) (m n : ℕ) (c : Call) → 1 ≤ n → 1 ≤ m → slice_get calls (n - 1) ≡ Some c → from_on calls m n ≡ record { number = n; call = c } ∷ from_on calls m (n + m)
from_next calls m n c low many got =
    ap (every m 0 n) (dropped calls (n - 1) c got)
    ∙ ap (λ l. record { number = n; call = c } ∷ l)
    (every_skip m (m - 1) (n + 1) (drop (suc (n - 1)) calls)
    ∙ (λ i. every m 0 (place i) ((drop_drop (m - 1) (suc (n - 1)) calls ∙ ap (λ k. drop k calls) cut) i)))
  where
    place : (n + 1) + (m - 1) ≡ n + m
    place = omega arith

    cut : suc (n - 1) + (m - 1) ≡ (n + m) - 1
    cut = omega arith

-- the next call, and those after it
pub waiting_next : (l : Load) (w : ℕ) (s new : PlainSeat) (n : ℕ) (c : Call) → SoundSeat l w s → 1 ≤ l.workers → next_number (length l.calls) s ≡ Some n → call_of l.calls n ≡ Some c →
    new.next ≡ next_behind l.workers s.next s.again → new.again ≡ None → waiting_in l s ≡ record { number = n; call = c } ∷ waiting_in l new
waiting_next l w s new n c o many e is next again = by_again s.again refl e next
  where
    by_again : (a : Option ℕ) → s.again ≡ a → number_by (length l.calls) s.next a ≡ Some n → new.next ≡ next_behind l.workers s.next a → waiting_in l s ≡ record { number = n; call = c } ∷ waiting_in l new
    by_again (Some k) a_is f next_is =
        let k_is : k ≡ n = cc in
        (λ i. again_in l.calls (a_is i) ++ from_on l.calls l.workers s.next)
        ∙ ap (λ (x : ℕ). numbered l.calls x ++ from_on l.calls l.workers s.next) k_is
        ∙ ap (λ (x : Option Call). numbered_by n x ++ from_on l.calls l.workers s.next) is
        ∙ (λ i. record { number = n; call = c } ∷ again_in l.calls (sym again i) ++ from_on l.calls l.workers (sym next_is i))
    by_again None a_is f next_is = elim (leb_tells s.next (length l.calls)) [
      | inl le ↦
          let same : s.next ≡ n = (let h = rw le.0 at f in cc) in
          let number = numbers l n c is in
          (λ i. again_in l.calls (a_is i) ++ from_on l.calls l.workers (same i))
          ∙ from_next l.calls l.workers n c number.low many (number.got ∙ (let g : Some number.call ≡ Some c = sym number.is ∙ is in g))
          ∙ (λ i. record { number = n; call = c } ∷ again_in l.calls (sym again i) ++ from_on l.calls l.workers ((ap (λ k. k + l.workers) (sym same) ∙ sym next_is) i))
      | inr gt ↦ absurd (let h = rw gt.0 at f in cc)
    ]

-- the worker's own list has the number
counts_first : (n : ℕ) (c : Call) (cs : List Numbered) → 1 ≤ in_calls n (record { number = n; call = c } ∷ cs)
counts_first n c cs = let e : (n == n) ≡ true = eq-eqb n n refl in let f : one n n ≡ 1 = rw e refl in omega arith

-- the next call begins, where room was made
module _ (p p' : Plain) (K : List (Act Txn)) (h : Hidden) (g : Stands p K h) (w n : ℕ) (q : BeginsNext w n p p') (roomy : IsRoomy w p) (next : HasNext p w n)
    (rests : (s : PlainSeat) → slice_get p.seats w ≡ Some s → s.txn.hand ≡ None) where
  abbrev call_n : Numbered
  call_n = record { number = n; call = q.call }

  o : SoundSeat p.load w q.seat
  o = g.sound.seat w q.seat q.is

  waiting_is : waiting_in p.load q.seat ≡ call_n ∷ waiting_in p.load q.new
  waiting_is = waiting_next p.load w q.seat q.new n q.call o g.sound.workers_low (next q.seat q.is) q.call_is (ap (λ (x : PlainSeat). x.next) q.others) (ap (λ (x : PlainSeat). x.again) q.others)

  number_whose : worker_of p.load.workers n ≡ w
  number_whose =
      let account = g.inv.agrees.accounts w in
      let wk : ((core_of p h).workers w).waiting ≡ call_n ∷ waiting_in p.load q.new = ap (λ (x : Worker). x.waiting) (worker_of_seat p h w q.seat q.new q.is) ∙ waiting_is in
      let first = counts_first n q.call (waiting_in p.load q.new) in
      let many : 1 ≤ in_calls n ((core_of p h).workers w).waiting = subst (λ (l : List Numbered). 1 ≤ in_calls n l) (sym wk) first in
      account.whose n (omega arith)

  begun_is : hand_in p.load.procs q.new.txn ≡ Some (fresh p.load.streams call_n 0)
  begun_is = q.begun ∙ ap (λ (k : ℕ). Some (fresh k call_n 0)) o.txn.width

  next_high : (a : Option ℕ) → q.seat.again ≡ a → number_by (length p.load.calls) q.seat.next a ≡ Some n → next_behind p.load.workers q.seat.next a ≤ length p.load.calls + p.load.workers
  next_high (Some k) is e = o.store.high
  next_high None is e = elim (leb_tells q.seat.next (length p.load.calls)) [ inl le ↦ (let u = le.1 in omega arith) | inr gt ↦ absurd (let f = rw gt.0 at e in cc) ]

  next_low : (a : Option ℕ) → 1 ≤ next_behind p.load.workers q.seat.next a
  next_low (Some k) = o.store.low
  next_low None = let l = o.store.low in omega arith

  new_sound : SoundSeat p.load w q.new
  new_sound =
      let rooms = roomy.seat q.seat q.is in
      subst (λ (x : PlainSeat). SoundSeat p.load w x) (sym q.others) (record {
        txn = record {
          worker = ap (λ (t : PlainTxn). t.worker) q.same ∙ o.txn.worker;
          width = ap (λ (t : PlainTxn). t.width) q.same ∙ o.txn.width;
          mode = ap (λ (t : PlainTxn). t.mode) q.same ∙ o.txn.mode;
          runs = q.runs;
          stays = both_some p.load.procs q.new.txn (fresh p.load.streams call_n 0) begun_is;
          leaving = q.stays;
          call = λ x e.
              let same : fresh p.load.streams call_n 0 ≡ x = (let f : Some (fresh p.load.streams call_n 0) ≡ Some x = sym begun_is ∙ e in cc) in
              subst (λ (y : Hand). call_of p.load.calls y.call.number ≡ Some y.call.call) same q.call_is;
          whose = λ x e.
              let same : fresh p.load.streams call_n 0 ≡ x = (let f : Some (fresh p.load.streams call_n 0) ≡ Some x = sym begun_is ∙ e in cc) in
              subst (λ (y : Hand). worker_of p.load.workers y.call.number ≡ w) same number_whose;
        };
        store = record {
          ends = λ e. rooms.0;
          leaves = λ e. rooms.1;
          posts = λ t e. absurd (let bad : None ≡ Some t = sym (ap placed_in begun_is) ∙ e in cc);
          low = next_low q.seat.again;
          high = next_high q.seat.again refl (next q.seat q.is);
          again = λ k e. cc;
          left = o.store.left;
        };
      })

  pub begins_of : Begins w p p'
  begins_of = record {
    seat = q.seat;
    new = q.new;
    call = call_n;
    room = p.room;
    is = q.is;
    rests = hand_gone p.load.procs q.seat.txn (rests q.seat q.is);
    next = waiting_is;
    begun = begun_is;
    left = ap (λ (x : PlainSeat). x.left) q.others;
    pieces = ap (λ (x : PlainSeat). x.outbox) q.others;
    pending = ap (λ (x : PlainSeat). x.pending.calls) q.others;
    sound = new_sound;
    rooms = (let m = open_most p.load (slice_set p.seats w q.new) in let l = length-set p.seats w q.new in let s = g.sound.seats in let b = g.sound.workers_high in let r = roomy.committed in omega arith);
    after = q.after;
  }

-- room was made
module _ (p p' : Plain) (K : List (Act Txn)) (h : Hidden) (g : Stands p K h) (w : ℕ) (q : RoomMade w p p') where
  abbrev roomier : PlainSeat
  roomier = record q.seat { pending = q.pending; room = q.left }

  pub room_core : core_of p' h ≡ core_of p h
  room_core =
      ap (λ (x : Plain). core_of x h) q.after ∙ seat_core p h w q.seat roomier q.is
      ∙ ap (λ (x : (ℕ → Worker) × (ℕ → Outbox)). record (core_of p h) { workers = x.0; outboxes = x.1 })
      (λ i. (same_worker p h w q.seat roomier q.is refl i, same_outbox p h w q.seat roomier q.is (ap tickets q.calls) i))

  pub room_stands : Stands p' K h
  room_stands =
      let within = seat_inside p h w q.seat roomier q.is in
      let o = g.sound.seat w q.seat q.is in
      let opens = open_set p.load p.seats w q.seat roomier q.is in
      let inv : Invariant (setting_of p.load) K (core_of (record p { seats = slice_set p.seats w roomier; room = q.room }) h) =
      subst (λ (x : Plain). Invariant (setting_of p.load) K (core_of x h)) q.after (subst (λ (c : Core). Invariant (setting_of p.load) K c) (sym room_core) g.inv) in
      subst (λ (x : Plain). Stands x K h) (sym q.after) (record {
        sound = record {
          workers_low = g.sound.workers_low;
          workers_high = g.sound.workers_high;
          streams_low = g.sound.streams_low;
          streams_high = g.sound.streams_high;
          few = g.sound.few;
          takes = g.sound.takes;
          opened = g.sound.opened;
          shards = g.sound.shards;
          seats = length-set p.seats w roomier ∙ g.sound.seats;
          streams = g.sound.streams;
          ends = g.sound.ends;
          gathered = g.sound.gathered;
          plv = g.sound.plv;
          seat = each_got (SoundSeat p.load) p.seats w roomier within (record {
            txn = o.txn;
            store = record {
              ends = λ e. (let a = o.store.ends e in let b = q.pending_room in omega arith);
              leaves = λ e. (let a = o.store.leaves e in let b = q.left_room in omega arith);
              posts = o.store.posts;
              low = o.store.low;
              high = o.store.high;
              again = o.store.again;
              left = o.store.left;
            };
          }) g.sound.seat;
          wide = g.sound.wide;
          narrow = g.sound.narrow;
          room = (let r = g.sound.room in let m = q.rooms in omega arith);
        };
        inv = inv;
        order = g.order;
        posted = each_got (λ k (t : PlainSeat). Paired (IsPieceOf p.load (anchors_at p)) t.outbox.pieces (h.posted k)) p.seats w roomier within (g.posted w q.seat q.is) g.posted;
        own = g.own;
        placed = λ k x a e f. (each_got (λ l (y : PlainSeat). (b : Act Txn) → placed_in (hand_in p.load.procs y.txn) ≡ Some b → IsPieceOf p.load (anchors_at p) (record { start = y.start; bytes = bytes_in y.txn }) (Record b))
            p.seats w roomier within (λ b d. g.placed w q.seat b q.is d) (λ l y d b c. g.placed l y b d c)) k x e a f;
        gathered = g.gathered;
      })
