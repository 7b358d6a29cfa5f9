-- A call that was left over goes back to its worker.
use Rattle.std.proofs.Common.{ℕ, zero, suc, ◌≤◌, ◌≡◌, ◌⊎◌, inl, inr, List, [], ◌∷◌, ◌++◌, length, refl, sym, ap, subst, ◌∙◌, Option, arith}
use Rattle.std.specs.Prelude.{Some, None, is_some, slice_get}
use Rattle.std.specs.List.{remove}
use Rattle.tau_base.specs.declared.value.Call.{Call}
use Rattle.tau_model.specs.History.{Act, Numbered, Member}
use Rattle.tau_model.specs.declared.committed.Committed.{Committed}
use Rattle.tau_machine.specs.Hands.{Txn}
use Rattle.tau_shard.specs.Shard.{at}
use Rattle.tau_machine.specs.Pieces.{placed_in}
use Rattle.tau_machine.specs.Worker.{Worker}
use Rattle.tau_machine.specs.Invariant.{Invariant}
use Rattle.tau_machine.specs.State.{Core, Outbox, Record}
use Rattle.tau_machine.specs.Events as machine
use Rattle.tau_machine.specs.Events.{Leads, Resumes, with_worker}
use Rattle.tau_txn.specs.Txn.{hand_in, bytes_in}
use Rattle.tau_core.specs.declared.resume.LeftOver.{LeftOver}
use Rattle.tau_core.specs.declared.state.Load.{Load}
use Rattle.tau_core.specs.Plain.{PlainSeat}
use Rattle.tau_core.specs.State.{Plain}
use Rattle.tau_core.specs.View.{call_of, numbered_by, numbered, all_numbered, again_in, from_on, committed_by, setting_of, Hidden, seat_worker, worker_in, core_of}
use Rattle.tau_core.specs.Stands.{IsNumber, AreNumbers, Stands, Stood, SoundSeat, anchors_at}
use Rattle.tau_core.specs.Pieces.{IsPieceOf, Paired}
use Rattle.tau_core.proofs.CallsBegun.{waiting_in}
use Rattle.tau_core.specs.Begins.{next_number, next_behind}
use Rattle.tau_core.specs.Steps.{Happened}
use Rattle.tau_core.specs.LeftOvers.{AllRest, IsLowestOf, TakesBack, ResumedBy, ResumeSteps}
use Rattle.tau_core.proofs.Lists.{each_got}
use Rattle.tau_core.proofs.Seats.{worker_of_seat, seat_core, seat_inside, seat_sound, same_outbox}
use Rattle.tau_core.proofs.Hands.{hand_gone}
use Rattle.tau_core.proofs.Firsts.{none_some}
use Rattle.tau_core.proofs.Numbers.{next_is_that}
use Rattle.tau_core.proofs.Starts.{waiting_next}
use Rattle.tau_core.proofs.PersistLeads.{kept}
use Rattle.tau_core.proofs.Steps.{happened, unmoved}
use Rattle.tau_core.proofs.FirstSteps.{waits_none}

-- one of the numbers, among their calls
pub record Splits (calls : List Call) (left : List ℕ) (i n : ℕ) : Type 0 where
  pub front : List Numbered
  pub call : Numbered
  pub back : List Numbered
  pub number : call.number ≡ n
  pub alone : numbered calls n ≡ call ∷ []
  pub whole : all_numbered calls left ≡ front ++ call ∷ back
  pub rest : all_numbered calls (remove left i) ≡ front ++ back

splits : (l : Load) (left : List ℕ) (i n : ℕ) → AreNumbers l left → slice_get left i ≡ Some n → Splits l.calls left i n
splits l [] i n a e = absurd (let bad : None ≡ Some n = e in cc)
splits l (m ∷ ms) zero n a e =
    let same : m ≡ n = cc in
    let call : Numbered = record { number = m; call = a.0.0 } in
    let one : numbered l.calls m ≡ call ∷ [] = ap (numbered_by m) a.0.1 in
    record {
      front = [];
      call = call;
      back = all_numbered l.calls ms;
      number = same;
      alone = ap (numbered l.calls) (sym same) ∙ one;
      whole = ap (λ (c : List Numbered). c ++ all_numbered l.calls ms) one;
      rest = refl;
    }
splits l (m ∷ ms) (suc i) n a e =
    let r = splits l ms i n a.1 e in
    let call : Numbered = record { number = m; call = a.0.0 } in
    let one : numbered l.calls m ≡ call ∷ [] = ap (numbered_by m) a.0.1 in
    record {
      front = call ∷ r.front;
      call = r.call;
      back = r.back;
      number = r.number;
      alone = r.alone;
      whole = ap (λ (x : List Numbered × List Numbered). x.0 ++ x.1) (λ j. (one j, r.whole j));
      rest = ap (λ (x : List Numbered × List Numbered). x.0 ++ x.1) (λ j. (one j, r.rest j));
    }

-- a call among those of these numbers has one of them
pub numbered_first : (m : ℕ) (ms : List ℕ) (rest : List Numbered) (c : Numbered) → (Member c rest → (i : ℕ) × (slice_get ms i ≡ Some c.number)) → (o : Option Call) → Member c (numbered_by m o ++ rest) →
    (i : ℕ) × (slice_get (m ∷ ms) i ≡ Some c.number)
numbered_first m ms rest c later None f = (let r = later f in (suc r.0, r.1))
numbered_first m ms rest c later (Some x) (inl is) = (0, ap (λ (y : Numbered). Some y.number) is)
numbered_first m ms rest c later (Some x) (inr f) = (let r = later f in (suc r.0, r.1))

pub numbered_at : (calls : List Call) (ns : List ℕ) (c : Numbered) → Member c (all_numbered calls ns) → (i : ℕ) × (slice_get ns i ≡ Some c.number)
numbered_at calls [] c e = absurd e
numbered_at calls (m ∷ ms) c e = numbered_first m ms (all_numbered calls ms) c (λ f. numbered_at calls ms c f) (call_of calls m) e

-- the numbers that are left
numbers_less : (l : Load) (left : List ℕ) (i : ℕ) → AreNumbers l left → AreNumbers l (remove left i)
numbers_less l [] i a = none i
  where
    none : (k : ℕ) → AreNumbers l (remove [] k)
    none zero = tt
    none (suc k) = tt
numbers_less l (m ∷ ms) zero a = a.1
numbers_less l (m ∷ ms) (suc i) a = (a.0, numbers_less l ms i a.1)

pub number_got : (l : Load) (left : List ℕ) (i n : ℕ) → AreNumbers l left → slice_get left i ≡ Some n → IsNumber l n
number_got l [] i n a e = absurd (let bad : None ≡ Some n = e in cc)
number_got l (m ∷ ms) zero n a e = (let same : m ≡ n = cc in subst (λ (k : ℕ). IsNumber l k) same a.0)
number_got l (m ∷ ms) (suc i) n a e = number_got l ms i n a.1 e

-- every worker rests, and none has a call left
rests_all : (p : Plain) (h : Hidden) → AllRest p → (u : ℕ) → (((core_of p h).workers u).hand ≡ None) × (((core_of p h).workers u).waiting ≡ [])
rests_all p h r u = by_case (slice_get p.seats u) refl
  where
    by_case : (o : Option PlainSeat) → slice_get p.seats u ≡ o → (((core_of p h).workers u).hand ≡ None) × (((core_of p h).workers u).waiting ≡ [])
    by_case None e =
        let is : (core_of p h).workers u ≡ worker_in p.load None (committed_by p.load.workers u p.committed) = ap (λ (o : Option PlainSeat). worker_in p.load o (committed_by p.load.workers u p.committed)) e in
        (ap (λ (x : Worker). x.hand) is, ap (λ (x : Worker). x.waiting) is)
    by_case (Some s) e =
        let is = worker_of_seat p h u s s e in
        let q = r u s e in
        (ap (λ (x : Worker). x.hand) is ∙ hand_gone p.load.procs s.txn q.0, ap (λ (x : Worker). x.waiting) is ∙ waits_none p.load s q.1)

module _ (p p' : Plain) (K : List (Act Txn)) (h : Hidden) (g : Stands p K h) (l : LeftOver) (r : AllRest p) (low : IsLowestOf p.seats (Some l)) (q : TakesBack l p p') where
  abbrev new_seat : PlainSeat
  new_seat = record q.seat { again = Some l.number; left = remove q.seat.left l.at; room = q.room }

  sound_seat : SoundSeat p.load l.worker q.seat
  sound_seat = g.sound.seat l.worker q.seat q.is

  split : Splits p.load.calls q.seat.left l.at l.number
  split = splits p.load q.seat.left l.at l.number sound_seat.store.left q.number

  abbrev committed_there : List Committed
  committed_there = committed_by p.load.workers l.worker p.committed

  none_waits : waiting_in p.load q.seat ≡ []
  none_waits = waits_none p.load q.seat (r l.worker q.seat q.is).1

  none_behind : from_on p.load.calls p.load.workers q.seat.next ≡ []
  none_behind = second (again_in p.load.calls q.seat.again) (from_on p.load.calls p.load.workers q.seat.next) none_waits
    where
      second : (xs ys : List Numbered) → xs ++ ys ≡ [] → ys ≡ []
      second [] ys e = e
      second (x ∷ xs) ys e = absurd (let bad : x ∷ (xs ++ ys) ≡ [] = e in cc)

  resumed_worker : seat_worker p.load new_seat committed_there ≡ record (seat_worker p.load q.seat committed_there) { waiting = split.call ∷ []; left = split.front ++ split.back }
  resumed_worker = λ i. record {
    waiting = split.alone i ++ none_behind i;
    hand = hand_in p.load.procs q.seat.txn;
    left = split.rest i;
    committed = committed_there;
  }

  resumed_core : core_of p' h ≡ with_worker (core_of p h) l.worker (record ((core_of p h).workers l.worker) { waiting = split.call ∷ []; left = split.front ++ split.back })
  resumed_core =
      ap (λ (x : Plain). core_of x h) q.after ∙ seat_core p h l.worker q.seat new_seat q.is
      ∙ ap (λ (x : Worker × (ℕ → Outbox)). record (core_of p h) { workers = at l.worker x.0 (core_of p h).workers; outboxes = x.1 })
      (λ i. (
        (resumed_worker ∙ ap (λ (x : Worker). record x { waiting = split.call ∷ []; left = split.front ++ split.back }) (sym (worker_of_seat p h l.worker q.seat q.seat q.is))) i,
        same_outbox p h l.worker q.seat new_seat q.is refl i,
      ))

  lowest_left : (u : ℕ) (c : Numbered) → Member c ((core_of p h).workers u).left → split.call.number ≤ c.number
  lowest_left u c m = by_case (slice_get p.seats u) refl
    where
      by_case : (o : Option PlainSeat) → slice_get p.seats u ≡ o → split.call.number ≤ c.number
      by_case None e =
          let is : (core_of p h).workers u ≡ worker_in p.load None (committed_by p.load.workers u p.committed) = ap (λ (o : Option PlainSeat). worker_in p.load o (committed_by p.load.workers u p.committed)) e in
          let none : Member c [] = subst (λ (x : Worker). Member c x.left) is m in
          absurd none
      by_case (Some s) e =
          let is = worker_of_seat p h u s s e in
          let there : Member c (all_numbered p.load.calls s.left) = subst (λ (x : Worker). Member c x.left) is m in
          let found = numbered_at p.load.calls s.left c there in
          let le = low.1 u s found.0 c.number e found.1 in
          let number = split.number in
          omega arith

  resumes : Resumes (setting_of p.load) l.worker (core_of p h) (core_of p' h)
  resumes = record {
    resting = rests_all p h r;
    front = split.front;
    call = split.call;
    back = split.back;
    is = ap (λ (x : Worker). x.left) (worker_of_seat p h l.worker q.seat q.seat q.is) ∙ split.whole;
    lowest = lowest_left;
    after = resumed_core;
  }

  resumed_seat : SoundSeat p.load l.worker new_seat
  resumed_seat =
      let o = sound_seat in
      record {
        txn = o.txn;
        store = record {
          ends = o.store.ends;
          leaves = λ e. (let a = o.store.leaves e in let b = q.rooms in omega arith);
          posts = o.store.posts;
          low = o.store.low;
          high = o.store.high;
          again = λ n e. (let same : l.number ≡ n = cc in subst (λ (k : ℕ). IsNumber p.load k) same (number_got p.load q.seat.left l.at l.number o.store.left q.number));
          left = numbers_less p.load q.seat.left l.at o.store.left;
        };
      }

  resumed_stands : Invariant (setting_of p.load) K (core_of p' h) → Stands p' K h
  resumed_stands inv =
      let within = seat_inside p h l.worker q.seat new_seat q.is in
      subst (λ (x : Plain). Stands x K h) (sym q.after) (record {
        sound = seat_sound p h l.worker q.seat new_seat q.is g.sound resumed_seat (omega arith);
        inv = subst (λ (x : Plain). Invariant (setting_of p.load) K (core_of x h)) q.after inv;
        order = g.order;
        posted = each_got (λ k (t : PlainSeat). Paired (IsPieceOf p.load (anchors_at p)) t.outbox.pieces (h.posted k)) p.seats l.worker new_seat within (g.posted l.worker q.seat q.is) g.posted;
        own = g.own;
        placed = λ k x a e f. (each_got (λ j (y : PlainSeat). (b : Act Txn) → placed_in (hand_in p.load.procs y.txn) ≡ Some b → IsPieceOf p.load (anchors_at p) (record { start = y.start; bytes = bytes_in y.txn }) (Record b))
            p.seats l.worker new_seat within (λ b d. g.placed l.worker q.seat b q.is d) (λ j y d b c. g.placed j y b d c)) k x e a f;
        gathered = g.gathered;
      })

  pub resumed : Happened (machine.Resume l.worker) p p' K h
  resumed =
      let leads : Leads (setting_of p.load) (machine.Resume l.worker) (core_of p h) (core_of p' h) [] = (resumes, refl) in
      let inv = kept (setting_of p.load) K (machine.Resume l.worker) (core_of p h) (core_of p' h) g.inv leads in
      happened (machine.Resume l.worker) p p' K h h leads (resumed_stands inv) (ap (λ (x : Plain). x.load) q.after) refl

-- a worker with a next call has one that waits
some_waits : (l : Load) (w : ℕ) (s : PlainSeat) (n : ℕ) → 1 ≤ l.workers → SoundSeat l w s → next_number (length l.calls) s ≡ Some n → waiting_in l s ≡ [] → ⊥
some_waits l w s n low o next none =
    let number = next_is_that l w s n o next in
    let new : PlainSeat = record s { next = next_behind l.workers s.next s.again; again = None } in
    let waits = waiting_next l w s new n number.call o low next number.is refl refl in
    let bad : [] ≡ record { number = n; call = number.call } ∷ waiting_in l new = sym none ∙ waits in
    cc

-- where a machine resumes, every seat rests, and a call is left over
resting_seats : (p : Plain) (K : List (Act Txn)) (h : Hidden) (g : Stands p K h) (w : ℕ) (s' : Core) → Resumes (setting_of p.load) w (core_of p h) s' → AllRest p
resting_seats p K h g w s' q u s e =
    let is = worker_of_seat p h u s s e in
    let rest = q.resting u in
    let o = g.sound.seat u s e in
    let none : hand_in p.load.procs s.txn ≡ None = ap (λ (x : Worker). x.hand) (sym is) ∙ rest.0 in
    let waits : waiting_in p.load s ≡ [] = ap (λ (x : Worker). x.waiting) (sym is) ∙ rest.1 in
    (none_some s.txn.hand (o.txn.stays ∙ ap is_some none), by_next (next_number (length p.load.calls) s) refl waits o)
  where
    by_next : (n : Option ℕ) → next_number (length p.load.calls) s ≡ n → waiting_in p.load s ≡ [] → SoundSeat p.load u s → next_number (length p.load.calls) s ≡ None
    by_next None f waits o = f
    by_next (Some n) f waits o = absurd (some_waits p.load u s n g.sound.workers_low o f waits)

nothing_left : (p : Plain) (h : Hidden) → IsLowestOf p.seats None → (w : ℕ) → ((core_of p h).workers w).left ≡ []
nothing_left p h none w = by_case (slice_get p.seats w) refl
  where
    by_case : (o : Option PlainSeat) → slice_get p.seats w ≡ o → ((core_of p h).workers w).left ≡ []
    by_case None e = ap (λ (o : Option PlainSeat). (worker_in p.load o (committed_by p.load.workers w p.committed)).left) e
    by_case (Some s) e = ap (λ (x : Worker). x.left) (worker_of_seat p h w s s e) ∙ ap (all_numbered p.load.calls) (none w s e)

pub resume_steps : (p p' : Plain) (K : List (Act Txn)) (h : Hidden) → Stands p K h → (o : Option ℕ) → ResumedBy p o p' → ResumeSteps p p' K h o
resume_steps p p' K h g None q = (unmoved p p' K h g q.0, λ w s' a. by_cause w s' a q.1)
  where
    by_cause : (w : ℕ) (s' : Core) → Resumes (setting_of p.load) w (core_of p h) s' → (AllRest p → ⊥) ⊎ IsLowestOf p.seats None → ⊥
    by_cause w s' a (inl n) = n (resting_seats p K h g w s' a)
    by_cause w s' a (inr none) = no_call a.front a.call a.back (sym (nothing_left p h none w) ∙ a.is)
      where
        no_call : (front : List Numbered) (call : Numbered) (back : List Numbered) → [] ≡ front ++ call ∷ back → ⊥
        no_call [] call back f = cc
        no_call (x ∷ xs) call back f = (let bad : [] ≡ x ∷ (xs ++ call ∷ back) = f in cc)
resume_steps p p' K h g (Some w) q = subst (λ (n : ℕ). Happened (machine.Resume n) p p' K h) (sym q.1) (resumed p p' K h g q.0 q.2 q.3 q.4)

pub resume_stood : (p p' : Plain) (K : List (Act Txn)) (h : Hidden) (o : Option ℕ) → ResumeSteps p p' K h o → Stood p'
resume_stood p p' K h None q = (K, q.0.hidden, q.0.stands)
resume_stood p p' K h (Some w) q = (K ++ q.joined, q.hidden, q.stands)
