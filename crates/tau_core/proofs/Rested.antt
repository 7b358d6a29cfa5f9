-- The core of parts at rest stands.
use Rattle.std.proofs.Common.{ℕ, ◌+◌, ◌-◌, ◌<◌, ◌≤◌, ◌==◌, ◌≡◌, inl, inr, true, false, List, [], ◌∷◌, ◌++◌, length, refl, sym, ap, subst, ◌∙◌, Option, arith, ne_eqb}
use Rattle.std.specs.Prelude.{Some, None, map, slice_get}
use Rattle.std.specs.Option.{option_map}
use Rattle.std.proofs.Math.Path.{fun_ext}
use Rattle.std.proofs.Math.Nat.{mod-lt}
use Rattle.std.proofs.lemmas.Bool.Decides.{leb_tells}
use Rattle.std.proofs.lemmas.Option.{slice_get_past, slice_get-map}
use Rattle.std.proofs.lemmas.List.{length-map}
use Rattle.tau_base.specs.declared.limits.TheConstants.{SHARDS}
use Rattle.tau_model.specs.History.{Act, Reordered}
use Rattle.tau_model.specs.declared.committed.Committed.{Committed}
use Rattle.tau_model.proofs.Reorder.{reordered_trans, reordered_sym}
use Rattle.tau_proc.specs.declared.proc.Proc.{Proc}
use Rattle.tau_machine.specs.Hands.{Txn, Hand, act_of, act_in, committed_of}
use Rattle.tau_machine.specs.Accounts.{joined_list}
use Rattle.tau_machine.specs.Worker.{Worker}
use Rattle.tau_machine.specs.Invariant.{Invariant}
use Rattle.tau_machine.specs.Pieces.{placed_in}
use Rattle.tau_machine.specs.Reports.{in_turn}
use Rattle.tau_machine.specs.Shapes.{ShardShape}
use Rattle.tau_machine.specs.State.{Core, Ticket, ticket_of, Record}
use Rattle.tau_machine.proofs.Classes.{classes}
use Rattle.tau_machine.proofs.Results.{committed_theorem}
use Rattle.tau_shard.specs.Plain.{PlainShard}
use Rattle.tau_txn.specs.declared.standing.Standing.{Standing}
use Rattle.tau_txn.specs.declared.standing.Standing.TheVariants.{Running, Quitting, Placed, Freeing, LeftOver}
use Rattle.tau_txn.specs.Hand.{PlainHand}
use Rattle.tau_txn.specs.Read.{hand_of, phase_in}
use Rattle.tau_txn.specs.Txn.{hand_in, shown, shown_of, bytes_in, joined_by, joined_of, held_by}
use Rattle.tau_core.specs.declared.state.Load.{Load}
use Rattle.tau_core.specs.Plain.{PlainSeat, PlainStream}
use Rattle.tau_core.specs.State.{Plain}
use Rattle.tau_core.specs.View.{setting_of, worker_of, Hidden, shard_in, committed_by, seat_worker, worker_in, worker_at, pending_in, anchors_in, stop_in, core_of}
use Rattle.tau_core.specs.Stands.{open_calls, SoundSeat, Sound, anchors_at, Stands}
use Rattle.tau_core.specs.Pieces.{IsPieceOf, Paired, Spelled}
use Rattle.tau_core.specs.Parts.{without_hand, without_hands, idle, all_idle, nobody, anchors_of, AtRest, Shows, hidden_of, IsOfParts}
use Rattle.tau_core.proofs.LetGo.{IsFree, all_gone}
use Rattle.tau_base.proofs.Lists.{some_at}

-- what is in a hand that holds no key and has not joined
pub hand_free : (procs : List Proc) (w : ℕ) (o : Option PlainHand) → joined_of o ≡ false → held_by o ≡ [] → (h : Hand) → shown_of procs w o ≡ Some h → (act_of h.phase ≡ None) × (h.held ≡ [])
hand_free procs w None j k h f = absurd (let bad : None ≡ Some h = f in cc)
hand_free procs w (Some x) j k h f = by_standing x.standing refl j f
  where
    is : hand_of procs w x ≡ h → act_of (phase_in procs w x.standing x) ≡ None → (act_of h.phase ≡ None) × (h.held ≡ [])
    is e a = (ap (λ (y : Hand). act_of y.phase) (sym e) ∙ a, ap (λ (y : Hand). y.held) (sym e) ∙ k)

    by_standing : (st : Standing) → x.standing ≡ st → joined_by st ≡ false → shown procs w st x ≡ Some h → (act_of h.phase ≡ None) × (h.held ≡ [])
    by_standing Running e j f = is (let b : Some (hand_of procs w x) ≡ Some h = f in cc) (ap (λ (st : Standing). act_of (phase_in procs w st x)) e)
    by_standing Quitting e j f = is (let b : Some (hand_of procs w x) ≡ Some h = f in cc) (ap (λ (st : Standing). act_of (phase_in procs w st x)) e)
    by_standing Placed e j f = absurd (let bad : true ≡ false = j in cc)
    by_standing Freeing e j f = absurd (let bad : true ≡ false = j in cc)
    by_standing LeftOver e j f = absurd (let bad : None ≡ Some h = f in cc)

none_past : {A : Type 0} (xs : List A) (i n : ℕ) → length xs ≡ n → slice_get xs i ≡ None → n ≤ i
none_past {A} xs i n count e = elim (leb_tells (i + 1) n) [
  | inl a ↦
      let lt : i < length xs = (let h = a.1 in omega (arith, h, count)) in
      let found = some_at xs i lt in
      absurd (let bad : None ≡ Some found.0 = sym e ∙ found.1 in cc)
  | inr b ↦ (let h = b.1 in omega arith)
]

nothing_in_front : {A : Type 0} (xs ys : List A) → xs ++ ys ≡ [] → xs ≡ []
nothing_in_front [] ys e = refl
nothing_in_front {A} (x ∷ xs) ys e = absurd (let bad : x ∷ (xs ++ ys) ≡ [] = e in cc)

-- no call is open where none is in hand
none_open : (l : Load) (xs : List PlainSeat) → open_calls l (map without_hand xs) ≡ 0
none_open l [] = refl
none_open l (x ∷ xs) = (let rest = none_open l xs in omega (arith, rest))

-- no number belongs to a worker that is not there
owner_low : (workers : ℕ) → 1 ≤ workers → (n : ℕ) → worker_of workers n < workers
owner_low workers low n = mod-lt (n - 1) {m = workers} (omega (arith, low))

none_beyond : (workers : ℕ) → 1 ≤ workers → (w : ℕ) → workers ≤ w → (xs : List Committed) → committed_by workers w xs ≡ []
none_beyond workers low w high [] = refl
none_beyond workers low w high (c ∷ xs) =
    let lt : worker_of workers c.number < workers = owner_low workers low c.number in
    let f : (worker_of workers c.number == w) ≡ false = ne_eqb (worker_of workers c.number) w (λ e. omega (arith, e, lt, high)) in
    rw f (none_beyond workers low w high xs)

module _ (p : Plain) (K : List (Act Txn)) (s : Core) (taken : ℕ → List ℕ) (rest : AtRest p) (g : Invariant (setting_of p.load) K s) (q : Shows p s taken) where
  abbrev after : Plain
  after = without_hands p

  abbrev hidden : Hidden
  hidden = hidden_of s taken

  own_low : (n : ℕ) → worker_of p.load.workers n < p.load.workers
  own_low = owner_low p.load.workers rest.workers_low

  own_committed : (w : ℕ) → committed_by p.load.workers w p.committed ≡ (s.workers w).committed
  own_committed w = elim (leb_tells (w + 1) p.load.workers) [
    | inl a ↦ q.committed w (let h = a.1 in omega arith)
    | inr b ↦
        let high : p.load.workers ≤ w = (let h = b.1 in omega arith) in
        none_beyond p.load.workers rest.workers_low w high p.committed ∙ sym (ap (λ (wk : Worker). wk.committed) (q.no_workers w high))
  ]

  -- the invariant tells the committed calls of each worker, and so all of them but for their order
  is_order : Reordered (map committed_of K) p.committed
  is_order =
      let m : ℕ = p.load.workers in
      let theirs : Reordered (map committed_of K) (in_turn m (λ w. (s.workers w).committed)) = (committed_theorem (setting_of p.load) K s g).3 m own_low in
      let same : (λ (w : ℕ). committed_by m w p.committed) ≡ (λ (w : ℕ). (s.workers w).committed) = fun_ext own_committed in
      let ours : Reordered p.committed (in_turn m (λ w. committed_by m w p.committed)) = classes (λ (c : Committed). worker_of m c.number) m p.committed (λ c k. own_low c.number) in
      reordered_trans (map committed_of K) (in_turn m (λ w. (s.workers w).committed)) p.committed theirs
      (reordered_sym p.committed (in_turn m (λ w. (s.workers w).committed)) (subst (λ (f : ℕ → List Committed). Reordered p.committed (in_turn m f)) same ours))

  shard_is_that : (i : ℕ) (o : Option PlainShard) → slice_get p.shards i ≡ o → shard_in o ≡ s.shards i
  shard_is_that i None e = sym (q.no_shards i (none_past p.shards i SHARDS rest.shards e))
  shard_is_that i (Some b) e = sym (q.shards i b e)

  worker_is : (w : ℕ) (o : Option PlainSeat) → slice_get p.seats w ≡ o → worker_in p.load (option_map without_hand o) (committed_by p.load.workers w p.committed) ≡ idle (s.workers w)
  worker_is w None e =
      let none : s.workers w ≡ nobody = q.no_workers w (none_past p.seats w p.load.workers rest.seats e) in
      ap (worker_in p.load None) (own_committed w) ∙ ap (λ (wk : Worker). record nobody { committed = wk.committed }) none ∙ sym (ap idle none)
  worker_is w (Some x) e = ap (seat_worker p.load (without_hand x)) (own_committed w) ∙ sym (ap idle (q.workers w x e))

  pending_beyond : (w : ℕ) → p.load.workers ≤ w → (s.outboxes w).pending ≡ []
  pending_beyond w high = (let a = g.agrees.accounts w in by_ended a.ended a.committed a.tickets)
    where
      by_ended : (ended : List Committed) → (s.workers w).committed ≡ ended ++ joined_list (act_in (s.workers w).hand) → Reordered (map ticket_of ended) ((s.outboxes w).pending ++ s.acked w) → (s.outboxes w).pending ≡ []
      by_ended [] e r = nothing_in_front (s.outboxes w).pending (s.acked w) r
      by_ended (c ∷ cs) e r =
          absurd (let bad : [] ≡ c ∷ (cs ++ joined_list (act_in (s.workers w).hand)) = sym (ap (λ (wk : Worker). wk.committed) (q.no_workers w high)) ∙ e in cc)

  pending_is : (w : ℕ) (o : Option PlainSeat) → slice_get p.seats w ≡ o → pending_in (option_map without_hand o) ≡ (s.outboxes w).pending
  pending_is w None e = sym (pending_beyond w (none_past p.seats w p.load.workers rest.seats e))
  pending_is w (Some x) e = sym (q.pending w x e)

  anchors_is : (j : ℕ) (o : Option PlainStream) → slice_get p.streams j ≡ o → anchors_in o ≡ (s.streams j).anchors
  anchors_is j None e = sym (q.no_anchors j (none_past p.streams j p.load.streams rest.streams e))
  anchors_is j (Some x) e = sym (q.anchors j x e)

  stop_is : (j : ℕ) (o : Option PlainStream) → slice_get p.streams j ≡ o → stop_in o ≡ (s.streams j).stop
  stop_is j None e = sym (q.no_stops j (none_past p.streams j p.load.streams rest.streams e))
  stop_is j (Some x) e = sym (q.stops j x e)

  all_anchors : anchors_at after ≡ anchors_of s
  all_anchors = fun_ext (λ j. anchors_is j (slice_get p.streams j) refl)

  seat_got : (w : ℕ) → slice_get (map without_hand p.seats) w ≡ option_map without_hand (slice_get p.seats w)
  seat_got w = slice_get-map without_hand p.seats w

  pub core_is : core_of after hidden ≡ all_idle s
  core_is = λ i. record {
    shards = fun_ext {f = λ (k : ℕ). shard_in (slice_get p.shards k)} {g = s.shards} (λ k. shard_is_that k (slice_get p.shards k) refl) i;
    workers = fun_ext {f = λ (w : ℕ). worker_at after w} {g = λ (w : ℕ). idle (s.workers w)}
        (λ w. ap (λ (o : Option PlainSeat). worker_in p.load o (committed_by p.load.workers w p.committed)) (seat_got w) ∙ worker_is w (slice_get p.seats w) refl) i;
    outboxes = fun_ext {f = λ (w : ℕ). record { posted = (s.outboxes w).posted; pending = pending_in (slice_get (map without_hand p.seats) w) }} {g = s.outboxes}
        (λ w. ap (λ (l : List Ticket). record (s.outboxes w) { pending = l }) (ap pending_in (seat_got w) ∙ pending_is w (slice_get p.seats w) refl)) i;
    streams = fun_ext {f = λ (j : ℕ). record { posted = (s.streams j).posted; moved = (s.streams j).moved; anchors = anchors_in (slice_get p.streams j); stop = stop_in (slice_get p.streams j) }} {g = s.streams}
        (λ j. λ k. record (s.streams j) { anchors = anchors_is j (slice_get p.streams j) refl k; stop = stop_is j (slice_get p.streams j) refl k }) i;
    acked = s.acked;
    ends = sym q.ends i;
    gathered = sym q.gathered i;
    plv = sym q.plv i;
  }

  worker_free : (w : ℕ) → IsFree (s.workers w)
  worker_free w = by_seat (slice_get p.seats w) refl
    where
      by_seat : (o : Option PlainSeat) → slice_get p.seats w ≡ o → IsFree (s.workers w)
      by_seat None e = subst IsFree (sym (q.no_workers w (none_past p.seats w p.load.workers rest.seats e))) (λ h f. absurd (let bad : None ≡ Some h = f in cc))
      by_seat (Some x) e =
          let r = rest.seat w x e in
          subst IsFree (sym (q.workers w x e)) (λ h f. hand_free p.load.procs x.txn.worker x.txn.hand r.joined r.held h f)

  is_inv : Invariant (setting_of p.load) K (core_of after hidden)
  is_inv = subst (λ (c : Core). Invariant (setting_of p.load) K c) (sym core_is) (all_gone (setting_of p.load) K s p.load.workers q.no_workers worker_free g)

  -- what holds of each worker without its call holds of each of these
  of_the_seat : (P : ℕ → PlainSeat → Type 0) → ((w : ℕ) (x : PlainSeat) → slice_get p.seats w ≡ Some x → P w (without_hand x)) → (w : ℕ) (y : PlainSeat) → slice_get (map without_hand p.seats) w ≡ Some y → P w y
  of_the_seat P f w y e = by_case (slice_get p.seats w) refl (sym (seat_got w) ∙ e)
    where
      by_case : (o : Option PlainSeat) → slice_get p.seats w ≡ o → option_map without_hand o ≡ Some y → P w y
      by_case None a b = absurd (let bad : None ≡ Some y = b in cc)
      by_case (Some x) a b = (let c : without_hand x ≡ y = (let d : Some (without_hand x) ≡ Some y = b in cc) in subst (P w) c (f w x a))

  seat_sound : (w : ℕ) (x : PlainSeat) → slice_get p.seats w ≡ Some x → SoundSeat p.load w (without_hand x)
  seat_sound w x e =
      let r = rest.seat w x e in
      record {
        txn = record {
          worker = r.worker;
          width = r.width;
          mode = r.mode;
          runs = tt;
          stays = refl;
          leaving = refl;
          call = λ h f. absurd (let bad : None ≡ Some h = f in cc);
          whose = λ h f. absurd (let bad : None ≡ Some h = f in cc);
        };
        store = record {
          ends = λ f. absurd (let bad : false ≡ true = f in cc);
          leaves = λ f. absurd (let bad : false ≡ true = f in cc);
          posts = λ t f. absurd (let bad : None ≡ Some t = f in cc);
          low = r.low;
          high = r.high;
          again = r.again;
          left = r.left;
        };
      }

  is_sound : Sound after
  is_sound = record {
    workers_low = rest.workers_low;
    workers_high = rest.workers_high;
    streams_low = rest.streams_low;
    streams_high = rest.streams_high;
    few = rest.few;
    takes = rest.takes;
    opened = rest.opened;
    shards = rest.shards;
    seats = length-map p.seats without_hand ∙ rest.seats;
    streams = rest.streams;
    ends = rest.ends;
    gathered = rest.gathered;
    plv = rest.plv;
    seat = of_the_seat (SoundSeat p.load) seat_sound;
    wide = rest.wide;
    narrow = λ i b e. subst (ShardShape (setting_of p.load)) (q.shards i b e) (g.shapes.shards i);
    room = (let none = none_open p.load p.seats in omega (arith, none));
  }

  pub is_standing : Stands after K hidden
  is_standing = record {
    sound = is_sound;
    inv = is_inv;
    order = is_order;
    posted = of_the_seat (λ w y. Paired (IsPieceOf p.load (anchors_at after)) y.outbox.pieces (s.outboxes w).posted)
        (λ w x e. subst (λ (a : ℕ → List (List ℕ)). Paired (IsPieceOf p.load a) x.outbox.pieces (s.outboxes w).posted) (sym all_anchors) (q.posted w x e));
    own = λ j x e. subst (λ (a : ℕ → List (List ℕ)). Paired (IsPieceOf p.load a) x.own.pieces (s.streams j).posted) (sym all_anchors) (q.own j x e);
    placed = λ w y t e f. of_the_seat (λ v z. placed_in (hand_in p.load.procs z.txn) ≡ Some t → IsPieceOf p.load (anchors_at after) (record { start = z.start; bytes = bytes_in z.txn }) (Record t))
        (λ v x d h. absurd (let bad : None ≡ Some t = h in cc)) w y e f;
    gathered = λ j x e. subst (λ (a : ℕ → List (List ℕ)). Spelled p.load a (s.streams j).moved (taken j ++ x.body)) (sym all_anchors) (q.moved j x e);
  }

pub of_parts : (p p' : Plain) → AtRest p → p' ≡ without_hands p → IsOfParts p p'
of_parts p p' rest e = record {
  after = e;
  stands = λ K s taken g q. subst (λ (x : Plain). Stands x K (hidden_of s taken)) (sym e) (is_standing p K s taken rest g q);
  core = λ K s taken g q. ap (λ (x : Plain). core_of x (hidden_of s taken)) e ∙ core_is p K s taken rest g q;
}

-- the parts of a core that stands show its state
pub shown_apart : (p : Plain) (K : List (Act Txn)) (h : Hidden) → Stands p K h → Shows p (core_of p h) h.taken
shown_apart p K h g = record {
  shards = λ i b e. ap shard_in e;
  workers = λ w x e. ap (λ (o : Option PlainSeat). worker_in p.load o (committed_by p.load.workers w p.committed)) e ∙ ap (seat_worker p.load x) (listed w (slice_get p.seats w));
  committed = λ w lt. listed w (slice_get p.seats w);
  posted = g.posted;
  pending = λ w x e. ap pending_in e;
  own = g.own;
  anchors = λ j x e. ap anchors_in e;
  stops = λ j x e. ap stop_in e;
  moved = g.gathered;
  ends = refl;
  gathered = refl;
  plv = refl;
  no_shards = λ i high. ap shard_in (slice_get_past p.shards i (let e = g.sound.shards in omega (arith, e, high)));
  no_workers = λ w high. ap (λ (o : Option PlainSeat). worker_in p.load o (committed_by p.load.workers w p.committed)) (slice_get_past p.seats w (let e = g.sound.seats in omega (arith, e, high)))
      ∙ ap (worker_in p.load None) (none_beyond p.load.workers g.sound.workers_low w high p.committed);
  no_anchors = λ j high. ap anchors_in (slice_get_past p.streams j (let e = g.sound.streams in omega (arith, e, high)));
  no_stops = λ j high. ap stop_in (slice_get_past p.streams j (let e = g.sound.streams in omega (arith, e, high)));
}
  where
    listed : (w : ℕ) (o : Option PlainSeat) → committed_by p.load.workers w p.committed ≡ (worker_in p.load o (committed_by p.load.workers w p.committed)).committed
    listed w None = refl
    listed w (Some x) = refl
