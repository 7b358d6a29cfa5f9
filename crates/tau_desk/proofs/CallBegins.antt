-- A worker begins its next call, and undoes that where the call has made no event.
use Rattle.std.proofs.Common.{ℕ, ◌≡◌, ◌≤◌, ◌+◌, ◌-◌, inl, inr, Bool, true, false, List, [], ◌∷◌, ◌++◌, length, refl, sym, ap, subst, ◌∙◌, Option, arith}
use Rattle.std.specs.Prelude.{Some, None, Result, Ok, Err, IfOk, is_some}
use Rattle.std.proofs.lemmas.Bool.Decides.{leb_tells}
use Rattle.tau_base.specs.declared.value.Call.{Call}
use Rattle.tau_base.specs.declared.value.NoMemory.{NoMemory}
use Rattle.tau_model.specs.History.{Numbered}
use Rattle.tau_machine.specs.Hands as theory
use Rattle.tau_machine.specs.Hands.{Hand, Placed}
use Rattle.tau_machine.specs.Worker.{Worker, begun, begun_by, fresh}
use Rattle.tau_txn.specs.declared.action.Action.TheVariants as action
use Rattle.tau_txn.specs.Next.{next_action}
use Rattle.tau_txn.specs.Txn.{PlainTxn, RunsBy, hand_in, shown_of}
use Rattle.tau_core.specs.declared.state.Load.{Load}
use Rattle.tau_core.specs.State.{Plain}
use Rattle.tau_core.specs.Begins.{next_behind, number_by}
use Rattle.tau_core.specs.View.{again_in, call_of, from_on, numbered, numbered_by}
use Rattle.tau_core.proofs.Hands.{some_hand}
use Rattle.tau_core.proofs.Numbers.{Numbers, numbers, called}
use Rattle.tau_core.proofs.Starts.{from_next}
use Rattle.tau_rule.specs.Steps.{Sat}
use Rattle.tau_desk.specs.declared.mark.Mark.{Mark}
use Rattle.tau_desk.specs.Seats.{IsWorkerSeat}
use Rattle.tau_desk.specs.Shares.{FitsWork, IsMark, IsWork, PlainWork, ShowsWorker, own_worker, unbegun}
use Rattle.tau_desk.specs.Works.{BeginsIn, BeginsNext, RoomMade}
use Rattle.tau_desk.proofs.GoingOn.{posts_placed, seat_origin, work_at}
use Rattle.tau_base.proofs.Lists.{some_at}

-- the calls that wait, after the next has begun
waiting_next : (l : Load) (o o' : PlainWork) (n : ℕ) (c : Call) → 1 ≤ l.workers → number_by (length l.calls) o.next o.again ≡ Some n → call_of l.calls n ≡ Some c →
    o'.next ≡ next_behind l.workers o.next o.again → o'.again ≡ None → (own_worker l o).waiting ≡ record { number = n; call = c } ∷ (own_worker l o').waiting
waiting_next l o o' n c many e is next again = by_again o.again refl e next
  where
    by_again : (a : Option ℕ) → o.again ≡ a → number_by (length l.calls) o.next a ≡ Some n → o'.next ≡ next_behind l.workers o.next a → (own_worker l o).waiting ≡ record { number = n; call = c } ∷ (own_worker l o').waiting
    by_again (Some k) a_is f next_is =
        let k_is : k ≡ n = cc in
        (λ i. again_in l.calls (a_is i) ++ from_on l.calls l.workers o.next)
        ∙ ap (λ (x : ℕ). numbered l.calls x ++ from_on l.calls l.workers o.next) k_is
        ∙ ap (λ (x : Option Call). numbered_by n x ++ from_on l.calls l.workers o.next) is
        ∙ (λ i. record { number = n; call = c } ∷ again_in l.calls (sym again i) ++ from_on l.calls l.workers (sym next_is i))
    by_again None a_is f next_is = elim (leb_tells o.next (length l.calls)) [
      | inl le ↦
          let same : o.next ≡ n = (let h = rw le.0 at f in cc) in
          let number = numbers l n c is in
          (λ i. again_in l.calls (a_is i) ++ from_on l.calls l.workers (same i))
          ∙ from_next l.calls l.workers n c number.low many (number.got ∙ (let g : Some number.call ≡ Some c = sym number.is ∙ is in g))
          ∙ (λ i. record { number = n; call = c } ∷ again_in l.calls (sym again i) ++ from_on l.calls l.workers ((ap (λ k. k + l.workers) (sym same) ∙ sym next_is) i))
      | inr gt ↦ absurd (let h = rw gt.0 at f in cc)
    ]

-- a worker with no call in hand is what it shows
pub rests_own : (l : Load) (wk : Worker) (o : PlainWork) → hand_in l.procs o.txn ≡ None → ShowsWorker l wk o o.mark → wk ≡ own_worker l o
rests_own l wk o e s = by_mark o.mark s
  where
    by_case : (h : Option Hand) (cs : List Numbered) → wk.hand ≡ h → wk.waiting ≡ cs → begun l.streams wk ≡ own_worker l o → wk ≡ own_worker l o
    by_case (Some x) cs a b f = sym (ap (λ (y : Option Hand). begun_by l.streams wk y wk.waiting) a) ∙ f
    by_case None [] a b f = sym (λ i. begun_by l.streams wk (a i) (b i)) ∙ f
    by_case None (c ∷ cs) a b f =
        let bad : Some (fresh l.streams c 0) ≡ None = sym (λ i. (begun_by l.streams wk (a i) (b i)).hand) ∙ ap (λ (y : Worker). y.hand) f ∙ e in cc

    by_mark : (k : Option Mark) → ShowsWorker l wk o k → wk ≡ own_worker l o
    by_mark None is = is
    by_mark (Some k) is = by_case wk.hand wk.waiting refl refl is.1

next_low : (workers next : ℕ) (a : Option ℕ) → 1 ≤ next → 1 ≤ next_behind workers next a
next_low workers next (Some k) low = low
next_low workers next None low = omega arith

next_high : (workers calls next n : ℕ) (a : Option ℕ) → number_by calls next a ≡ Some n → next ≤ calls + workers → next_behind workers next a ≤ calls + workers
next_high workers calls next n (Some k) e high = high
next_high workers calls next n None e high = elim (leb_tells next calls) [
  | inl le ↦ (let u = le.1 in omega (arith, u))
  | inr gt ↦ absurd (let f = rw gt.0 at e in cc)
]

module _ (origin : Plain) (m : Sat) (w : ℕ) (o : PlainWork) (read : ℕ × List ℕ) (seen : List ℕ) (opened : m.0.opened ≡ Some origin) (s : IsWorkerSeat m w o read seen) (many : 1 ≤ origin.load.workers) (rests : o.txn.hand ≡ None) (low : 1 ≤ o.spare.1)
    (n : ℕ) (c : Call) (next : number_by (length origin.load.calls) o.next o.again ≡ Some n) (is : call_of origin.load.calls n ≡ Some c)
    (t : PlainTxn) (begins : hand_in origin.load.procs t ≡ Some (fresh o.txn.width (record { number = n; call = c }) 0)) (same : t ≡ record o.txn { hand = t.hand }) (runs : RunsBy origin.load.procs t)
    (left committed : ℕ) (left_low : 1 ≤ left) (committed_low : 1 ≤ committed) where
  abbrev l : Load
  l = origin.load

  abbrev mark_of : Mark
  mark_of = record { next = o.next; again = o.again }

  abbrev new : PlainWork
  new = record o { left_room = left; committed_room = committed; txn = t; next = next_behind l.workers o.next o.again; again = None; mark = Some mark_of }

  abbrev first : Hand
  first = fresh o.txn.width (record { number = n; call = c }) 0

  work : IsWork l w s.role o
  work = work_at origin m w o read seen opened s

  gone : hand_in l.procs o.txn ≡ None
  gone = ap (shown_of l.procs o.txn.worker) rests

  was : work.worker ≡ own_worker l o
  was = rests_own l work.worker o gone work.shows

  unplaced : next_action t ≡ action.Post → ⊥
  unplaced e =
      let p = posts_placed l.procs t first begins e in
      let bad : theory.Running ≡ Placed p.0 = p.1 in cc

  before : own_worker l o ≡ own_worker l (unbegun new mark_of)
  before = λ i. record (own_worker l o) { hand = gone i }

  now : begun l.streams (own_worker l o) ≡ own_worker l new
  now =
      (λ i. begun_by l.streams (own_worker l o) (gone i) (waiting_next l o new n c many next is refl refl i))
      ∙ (λ i. record (own_worker l new) { hand = (ap (λ (k : ℕ). Some (fresh k (record { number = n; call = c }) 0)) (sym work.fits.width) ∙ sym begins) i })

  fits : FitsWork l w new
  fits = record {
    worker = ap (λ (x : PlainTxn). x.worker) same ∙ work.fits.worker;
    width = ap (λ (x : PlainTxn). x.width) same ∙ work.fits.width;
    mode = ap (λ (x : PlainTxn). x.mode) same ∙ work.fits.mode;
    runs = runs;
    stays = some_hand l.procs t first begins ∙ sym (ap is_some begins);
    call = λ x e.
        let it : first ≡ x = (let f : Some first ≡ Some x = sym begins ∙ e in cc) in
        subst (λ (y : Hand). call_of l.calls y.call.number ≡ Some y.call.call) it is;
    low = next_low l.workers o.next o.again work.fits.low;
    high = next_high l.workers (length l.calls) o.next n o.again next work.fits.high;
    again = λ k e. absurd (let bad : None ≡ Some k = e in cc);
    mark = λ k e. (let it : mark_of ≡ k = cc in subst (IsMark l) it (record { low = work.fits.low; high = work.fits.high; again = work.fits.again }));
    left = work.fits.left;
    leaves = λ e. left_low;
    ends = λ e. low;
    posts = λ e. absurd (unplaced e);
    commits = λ e f. committed_low;
  }

  pub begun_seat : IsWorkerSeat m w new read seen
  begun_seat =
      let origin_is = seat_origin origin m w o read seen opened s in
      record {
        origin = origin;
        role = s.role;
        seat = record { opened = opened; roles = s.seat.roles; idle = s.seat.idle; none = s.seat.none };
        work = record {
          worker = work.worker;
          share = work.share;
          there = work.there;
          shows = (was ∙ before, ap (begun l.streams) was ∙ now);
          fits = fits;
          spare = work.spare;
        };
        read_is = s.read_is;
        read_wide = subst (λ (p : Plain). length read.1 ≡ p.load.streams) origin_is s.read_wide;
        seen_is = s.seen_is;
        seen_wide = subst (λ (p : Plain). length seen ≡ p.load.streams) origin_is s.seen_wide;
        posts = λ e. absurd (unplaced e);
      }

pub seat_begun : (origin : Plain) (m : Sat) (w : ℕ) (o o' : PlainWork) (read : ℕ × List ℕ) (seen : List ℕ) → m.0.opened ≡ Some origin → IsWorkerSeat m w o read seen → 1 ≤ origin.load.workers → o.txn.hand ≡ None → 1 ≤ o.spare.1 → BeginsNext origin.load o o' →
    RunsBy origin.load.procs o'.txn → (1 ≤ o'.left_room) × (1 ≤ o'.committed_room) → IsWorkerSeat m w o' read seen
seat_begun origin m w o o' read seen opened s many rests low b runs rooms =
    let k : Mark = record { next = o.next; again = o.again } in
    let t : PlainTxn = o'.txn in
    let next : ℕ = next_behind origin.load.workers o.next o.again in
    let same : o' ≡ record o { left_room = b.roomy.left_room; committed_room = b.roomy.committed_room; txn = t; next = next; again = None; mark = Some k } =
    b.others ∙ ap (λ (y : PlainWork). record y { txn = t; next = next; again = None; mark = Some k }) b.made.others in
    let left = subst (λ (y : PlainWork). 1 ≤ y.left_room) same rooms.0 in
    let committed = subst (λ (y : PlainWork). 1 ≤ y.committed_room) same rooms.1 in
    subst (λ (y : PlainWork). IsWorkerSeat m w y read seen) (sym same)
    (begun_seat origin m w o read seen opened s many rests low b.number b.call b.next b.is t b.begun b.same runs b.roomy.left_room b.roomy.committed_room left committed)

-- only room was made
pub seat_roomy : (m : Sat) (w : ℕ) (o o' : PlainWork) (read : ℕ × List ℕ) (seen : List ℕ) → IsWorkerSeat m w o read seen → RoomMade o o' → o.txn.hand ≡ None → IsWorkerSeat m w o' read seen
seat_roomy m w o o' read seen s r rests =
    let f = s.work.fits in
    let none : is_some o.txn.hand ≡ false = ap is_some rests in
    let not : is_some o.txn.hand ≡ true → ⊥ = (λ (e : is_some o.txn.hand ≡ true). let bad : false ≡ true = sym none ∙ e in cc) in
    subst (λ (y : PlainWork). IsWorkerSeat m w y read seen) (sym r.others) (record {
      origin = s.origin;
      role = s.role;
      seat = s.seat;
      work = record {
        worker = s.work.worker;
        share = s.work.share;
        there = s.work.there;
        shows = by_mark o.mark s.work.shows;
        fits = record {
          worker = f.worker;
          width = f.width;
          mode = f.mode;
          runs = f.runs;
          stays = f.stays;
          call = f.call;
          low = f.low;
          high = f.high;
          again = f.again;
          mark = f.mark;
          left = f.left;
          leaves = λ e. absurd (not e);
          ends = f.ends;
          posts = f.posts;
          commits = λ e g. absurd (not e);
        };
        spare = s.work.spare;
      };
      read_is = s.read_is;
      read_wide = s.read_wide;
      seen_is = s.seen_is;
      seen_wide = s.seen_wide;
      posts = s.posts;
    })
  where
    by_mark : (k : Option Mark) → ShowsWorker s.origin.load s.work.worker o k → ShowsWorker s.origin.load s.work.worker (record o { left_room = o'.left_room; committed_room = o'.committed_room }) k
    by_mark None h = h
    by_mark (Some k) h = h

-- the next call is one of the run
pub next_is_that : (l : Load) (w : ℕ) (o : PlainWork) (n : ℕ) → FitsWork l w o → number_by (length l.calls) o.next o.again ≡ Some n → Numbers l n
next_is_that l w o n f e = by_again o.again refl e
  where
    by_again : (a : Option ℕ) → o.again ≡ a → number_by (length l.calls) o.next a ≡ Some n → Numbers l n
    by_again (Some k) is g = (let k_is : k ≡ n = cc in let q = f.again n (is ∙ ap Some k_is) in numbers l n q.0 q.1)
    by_again None is g = elim (leb_tells o.next (length l.calls)) [
      | inl le ↦
          let low = f.low in
          let found = some_at l.calls (o.next - 1) (let u = le.1 in omega arith) in
          let same : o.next ≡ n = (let h = rw le.0 at g in cc) in
          let is_call : call_of l.calls o.next ≡ Some found.0 = called l.calls o.next found.0 low found.1 in
          subst (λ (k : ℕ). Numbers l k) same (numbers l o.next found.0 is_call)
      | inr gt ↦ absurd (let h = rw gt.0 at g in cc)
    ]

-- whatever came of it
pub seat_begins : (origin : Plain) (m : Sat) (w : ℕ) (o o' : PlainWork) (read : ℕ × List ℕ) (seen : List ℕ) (r : Result Bool NoMemory) → m.0.opened ≡ Some origin → IsWorkerSeat m w o read seen → 1 ≤ origin.load.workers → o.txn.hand ≡ None → 1 ≤ o.spare.1 → BeginsIn origin.load o o' r →
    IfOk r (λ b. b ≡ true → (1 ≤ o'.left_room) × (1 ≤ o'.committed_room)) → IfOk r (λ b. b ≡ true → RunsBy origin.load.procs o'.txn) → IsWorkerSeat m w o' read seen
seat_begins origin m w o o' read seen (Ok true) opened s many rests low b rooms runs = seat_begun origin m w o o' read seen opened s many rests low b (runs refl) (rooms refl)
seat_begins origin m w o o' read seen (Ok false) opened s many rests low b rooms runs = subst (λ (y : PlainWork). IsWorkerSeat m w y read seen) (sym b.0) s
seat_begins origin m w o o' read seen (Err e) opened s many rests low b rooms runs = seat_roomy m w o o' read seen s b rests
