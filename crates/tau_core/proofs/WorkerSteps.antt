-- What workers do is the event of the machine.
use Rattle.std.proofs.Common.{ℕ, ◌<◌, ◌≡◌, false, ◌⊎◌, inl, inr, List, [], ◌∷◌, length, refl, sym, ap, subst, ◌∙◌, Option, arith, length-set}
use Rattle.std.specs.Prelude.{Some, None, is_some, slice_get, slice_set}
use Rattle.std.proofs.lemmas.Option.{slice_get_within}
use Rattle.tau_base.specs.Shards.{shard_number}
use Rattle.tau_base.specs.declared.value.Value.{Value}
use Rattle.tau_model.specs.History.{Act}
use Rattle.tau_machine.specs.Hands.{Txn, Hand, Running}
use Rattle.tau_shard.specs.Shard.{at, Shard, entry_in}
use Rattle.tau_base.specs.declared.value.Key.{Key}
use Rattle.tau_base.specs.declared.value.Mode.{Mode}
use Rattle.tau_machine.specs.Stage.{stage}
use Rattle.tau_machine.specs.Worker.{Worker, fresh, lock_of}
use Rattle.tau_machine.specs.State.{Setting, Core, Outbox, Record}
use Rattle.tau_machine.specs.Invariant.{Invariant}
use Rattle.tau_machine.specs.Events as machine
use Rattle.tau_machine.specs.Events.{with_worker, Leads, ready}
use Rattle.tau_machine.proofs.Shapes.{invariant_kept}
use Rattle.tau_shard.specs.Blocks.{IsLowest}
use Rattle.tau_txn.specs.Txn.{hand_in, bytes_in}
use Rattle.tau_shard.proofs.At.{at_itself}
use Rattle.tau_machine.specs.Pieces.{placed_in}
use Rattle.tau_machine.specs.Shapes.{ShardShape}
use Rattle.tau_outbox.specs.declared.Piece.{Piece}
use Rattle.tau_shard.specs.Plain.{PlainShard}
use Rattle.tau_shard.specs.Read.{shard_of}
use Rattle.tau_core.specs.declared.event.Phase.{Phase}
use Rattle.tau_core.specs.declared.event.Phase.TheVariants.{Resting, Locking, Quitting, Ready, Placed, Freeing, Ended}
use Rattle.tau_core.specs.declared.event.Outcome.{Outcome}
use Rattle.tau_core.specs.declared.event.Outcome.TheVariants as outcome
use Rattle.tau_core.specs.Plain.{PlainSeat}
use Rattle.tau_core.specs.State.{Plain}
use Rattle.tau_core.specs.View.{setting_of, Hidden, shard_in, core_of}
use Rattle.tau_core.specs.Stands.{Stands, anchors_at}
use Rattle.tau_core.proofs.Carried.{Carried}
use Rattle.tau_core.specs.Steps.{Happened, Unmoved, WantsLock, Grants, IsBarredBy, StandsElsewhere, IsAt, LockSteps, QuitSteps, CommitSteps, PostSteps, FreeSteps}
use Rattle.tau_core.specs.Workers.{Takes, IsRefused, GivesBack, StaysShort}
use Rattle.tau_core.proofs.CallsBegun.{Begins}
use Rattle.tau_core.specs.Locks.{IsElsewhere, IsAtPhase, LockedBy, QuitBy}
use Rattle.tau_core.specs.Firsts.{InHand, Rests, BegunAs}
use Rattle.tau_core.specs.Begins.{HasNext}
use Rattle.tau_core.specs.declared.state.Load.{Load}
use Rattle.tau_core.proofs.Starts.{begins_of, room_core, room_stands}
use Rattle.tau_core.specs.Pieces.{IsPieceOf, Paired}
use Rattle.tau_core.proofs.Firsts.{none_some, room_next, room_rests}
use Rattle.tau_core.specs.Frees.{PostBy, FreesKey, FreeBy, JoinsBy}
use Rattle.tau_core.specs.Commits.{MakesRoom, CommitBy}
use Rattle.tau_core.proofs.PostLeads.{post_hidden, post_leads, post_stands}
use Rattle.tau_core.proofs.FreeLeads.{frees, first_frees, free_stands}
use Rattle.tau_core.proofs.CommitLeads.{commits, commit_stands}
use Rattle.tau_core.specs.Phases.{hand_phase}
use Rattle.tau_core.proofs.Lists.{each_got, reads_got, got_same}
use Rattle.tau_core.proofs.Seats.{worker_of_seat, seat_core, seat_inside, seat_sound, same_worker, same_outbox}
use Rattle.tau_core.proofs.PersistLeads.{kept}
use Rattle.tau_core.proofs.Steps.{happened, unmoved}
use Rattle.tau_core.proofs.Begins.{ready_in_hand, carried, begins_core, begins_carried, begun_state, ready_again, locks_lift, refuses_lift}
use Rattle.tau_core.proofs.Takes.{takes_is, takes_locks, takes_stands}
use Rattle.tau_core.proofs.Settled.{refused_is, refused_refuses, refused_stands, gives_quits, gives_stands}
use Rattle.tau_core.proofs.PhaseLaws.{ready_phase}
use Rattle.tau_base.proofs.Lists.{some_at}

-- where a worker that has a call in hand, or begins none by this, stands elsewhere
pub elsewhere_by : (p : Plain) (K : List (Act Txn)) (h : Hidden) (g : Stands p K h) (w : ℕ) (s : PlainSeat) (wanted phase : Phase) → slice_get p.seats w ≡ Some s →
    (hand_in p.load.procs s.txn ≡ None → (Locking ≡ wanted → ⊥) × (Ended ≡ wanted → ⊥) × (Resting ≡ wanted → ⊥)) →
    phase ≡ hand_phase p.load.procs (hand_in p.load.procs s.txn) → (phase ≡ wanted → ⊥) → StandsElsewhere p h w wanted phase
elsewhere_by p K h g w s wanted phase is free at differs =
    (at ∙ ap (hand_phase p.load.procs) (sym shown), λ f. by_hand (hand_in p.load.procs s.txn) refl f)
  where
    wk : Worker
    wk = (core_of p h).workers w

    shown : wk.hand ≡ hand_in p.load.procs s.txn
    shown = ap (λ (x : Worker). x.hand) (worker_of_seat p h w s s is)

    by_hand : (o : Option Hand) → hand_in p.load.procs s.txn ≡ o → hand_phase p.load.procs (ready (setting_of p.load) (core_of p h) w).hand ≡ wanted → ⊥
    by_hand None e f = let n = free e in ready_phase p.load.procs p.load.streams ((core_of p h).workers w) wanted n.0 n.1 n.2 (shown ∙ e) f
    by_hand (Some x) e f =
        differs (at ∙ ap (hand_phase p.load.procs) (sym shown) ∙ ap (λ (y : Worker). hand_phase p.load.procs y.hand) (sym (ready_in_hand p.load.streams ((core_of p h).workers w) x (shown ∙ e))) ∙ f)

-- room in a worker's outbox
roomy_unmoved : (p p' : Plain) (K : List (Act Txn)) (h : Hidden) (g : Stands p K h) (w : ℕ) → MakesRoom w p p' → Unmoved p p' K h
roomy_unmoved p p' K h g w q =
    let roomy : PlainSeat = record q.seat { outbox = q.outbox } in
    let within = seat_inside p h w q.seat roomy q.is in
    let o = g.sound.seat w q.seat q.is in
    let same : core_of (record p { seats = slice_set p.seats w roomy }) h ≡ core_of p h =
    seat_core p h w q.seat roomy q.is
    ∙ ap (λ (x : (ℕ → Worker) × (ℕ → Outbox)). record (core_of p h) { workers = x.0; outboxes = x.1 })
    (λ i. (same_worker p h w q.seat roomy q.is refl i, same_outbox p h w q.seat roomy q.is refl i)) in
    subst (λ (x : Plain). Unmoved p x K h) (sym q.after) (record {
      hidden = h;
      taken = refl;
      same = same;
      load = refl;
      stands = record {
        sound = seat_sound p h w q.seat roomy q.is g.sound (record {
          txn = o.txn;
          store = record {
            ends = o.store.ends;
            leaves = o.store.leaves;
            posts = λ t e. (let a = o.store.posts t e in let b = q.room in omega arith);
            low = o.store.low;
            high = o.store.high;
            again = o.store.again;
            left = o.store.left;
          };
        }) (omega arith);
        inv = subst (λ (c : Core). Invariant (setting_of p.load) K c) (sym same) g.inv;
        order = g.order;
        posted = each_got (λ k (t : PlainSeat). Paired (IsPieceOf p.load (anchors_at p)) t.outbox.pieces (h.posted k)) p.seats w roomy within
            (subst (λ (l : List Piece). Paired (IsPieceOf p.load (anchors_at p)) l (h.posted w)) (sym q.pieces) (g.posted w q.seat q.is)) g.posted;
        own = g.own;
        placed = λ k x a e f. (each_got (λ l (y : PlainSeat). (b : Act Txn) → placed_in (hand_in p.load.procs y.txn) ≡ Some b → IsPieceOf p.load (anchors_at p) (record { start = y.start; bytes = bytes_in y.txn }) (Record b))
            p.seats w roomy within (λ b d. g.placed w q.seat b q.is d) (λ l y d b c. g.placed l y b d c)) k x e a f;
        gathered = g.gathered;
      };
    })

-- a shard in which room was made
short_core : (p p' : Plain) (h : Hidden) → StaysShort p p' → core_of p' h ≡ core_of p h
short_core p p' h q =
    ap (λ (x : Plain). core_of x h) q.after
    ∙ ap (λ (x : ℕ → Shard). record (core_of p h) { shards = x })
    (reads_got (λ k (o : Option PlainShard). shard_in o) p.shards q.i q.kept (slice_get_within p.shards q.i q.shard q.is)
    ∙ ap (λ (x : Shard). at q.i x (core_of p h).shards) (q.kept_is ∙ sym (ap shard_in q.is)) ∙ at_itself q.i (core_of p h).shards)

short_carried : (p p' : Plain) (K : List (Act Txn)) (h : Hidden) → StaysShort p p' → Carried p K h → Carried p' K h
short_carried p p' K h q g = subst (λ (x : Plain). Carried x K h) (sym q.after) (record {
  sound = record {
    workers_low = g.sound.workers_low;
    workers_high = g.sound.workers_high;
    streams_low = g.sound.streams_low;
    streams_high = g.sound.streams_high;
    few = g.sound.few;
    takes = g.sound.takes;
    opened = g.sound.opened;
    shards = length-set p.shards q.i q.kept ∙ g.sound.shards;
    seats = g.sound.seats;
    streams = g.sound.streams;
    ends = g.sound.ends;
    gathered = g.sound.gathered;
    plv = g.sound.plv;
    seat = g.sound.seat;
    wide = g.sound.wide;
    narrow = each_got (λ k (x : PlainShard). ShardShape (setting_of p.load) (shard_of x)) p.shards q.i q.kept (slice_get_within p.shards q.i q.shard q.is)
        (subst (λ (x : Shard). ShardShape (setting_of p.load) x) (sym q.kept_is) (g.sound.narrow q.i q.shard q.is)) g.sound.narrow;
    room = g.sound.room;
  };
  order = g.order;
  posted = g.posted;
  own = g.own;
  placed = g.placed;
  gathered = g.gathered;
})

stands_on : (p : Plain) (K : List (Act Txn)) (h : Hidden) → Carried p K h → Invariant (setting_of p.load) K (core_of p h) → Stands p K h
stands_on p K h g inv = record { sound = g.sound; inv = inv; order = g.order; posted = g.posted; own = g.own; placed = g.placed; gathered = g.gathered }

pub short_unmoved : (p p' : Plain) (K : List (Act Txn)) (h : Hidden) (g : Stands p K h) → StaysShort p p' → Unmoved p p' K h
short_unmoved p p' K h g q =
    let same = short_core p p' h q in
    let load : p'.load ≡ p.load = ap (λ (x : Plain). x.load) q.after in
    record {
      hidden = h;
      taken = refl;
      same = same;
      load = load;
      stands = stands_on p' K h (short_carried p p' K h q (carried p K h g))
          (subst (λ (x : Setting × Core). Invariant x.0 K x.1) (λ i. (setting_of (sym load i), sym same i)) g.inv);
    }

module _ (p p' : Plain) (K : List (Act Txn)) (h : Hidden) (g : Stands p K h) (w : ℕ) (there : w < p.load.workers) where
  found : (s : PlainSeat) × (slice_get p.seats w ≡ Some s)
  found = some_at p.seats w (let e = g.sound.seats in omega arith)

  is_at : (phase : Phase) → IsAtPhase p w phase → IsAt p h w phase
  is_at phase q = ap (λ (x : Worker). hand_phase p.load.procs x.hand) (worker_of_seat p h w found.0 found.0 found.1) ∙ q found.0 found.1

  elsewhere : (wanted phase : Phase) → (Locking ≡ wanted → ⊥) → (Ended ≡ wanted → ⊥) → (Resting ≡ wanted → ⊥) → IsElsewhere p w wanted phase → StandsElsewhere p h w wanted phase
  elsewhere wanted phase locking ended resting q =
      let at = q found.0 found.1 in
      elsewhere_by p K h g w found.0 wanted phase found.1 (λ e. (locking, ended, resting)) at.0 at.1

  quits : GivesBack w p p' → QuitSteps p p' K h w outcome.Went
  quits q =
      let (back, lowest) = gives_quits p p' h w q in
      let leads : Leads (setting_of p.load) (machine.Quit w false) (core_of p h) (core_of p' h) [] = (back, refl) in
      let inv = kept (setting_of p.load) K (machine.Quit w false) (core_of p h) (core_of p' h) g.inv leads in
      (happened (machine.Quit w false) p p' K h h leads (gives_stands p p' h w q K (carried p K h g) inv) (ap (λ (x : Plain). x.load) q.after) refl, lowest)

  pub quit_steps : (o : Outcome) → QuitBy p w o p' → QuitSteps p p' K h w o
  quit_steps outcome.Went q = quits q
  quit_steps (outcome.NotNow phase) q = (unmoved p p' K h g q.0, elsewhere Quitting phase (λ e. cc) (λ e. cc) (λ e. cc) q.1)
  quit_steps (outcome.Granted v) q = absurd q
  quit_steps (outcome.Busy u) q = absurd q
  quit_steps (outcome.Placed u) q = absurd q
  quit_steps (outcome.Gathered u) q = absurd q
  quit_steps (outcome.Acked n lv) q = absurd q
  quit_steps outcome.NothingCovered q = absurd q
  quit_steps outcome.NoMemory q = absurd q

  pub post_steps : (o : Outcome) → PostBy p w o p' → PostSteps p p' K h w o
  post_steps outcome.Went q = happened (machine.Post w) p p' K h (post_hidden p p' K h g w q) (post_leads p p' K h g w q) (post_stands p p' K h g w q) (ap (λ (x : Plain). x.load) q.after) refl
  post_steps (outcome.NotNow phase) q = (unmoved p p' K h g q.0, elsewhere Placed phase (λ e. cc) (λ e. cc) (λ e. cc) q.1)
  post_steps (outcome.Granted v) q = absurd q
  post_steps (outcome.Busy u) q = absurd q
  post_steps (outcome.Placed u) q = absurd q
  post_steps (outcome.Gathered u) q = absurd q
  post_steps (outcome.Acked n lv) q = absurd q
  post_steps outcome.NothingCovered q = absurd q
  post_steps outcome.NoMemory q = absurd q

  -- a call joins, or has joined
  frees_by : (q : FreesKey w p p') → JoinsBy p.load w q.hand q.act q.joined → Happened (machine.Free w) p p' K h ⊎ Happened (machine.FirstFree w) p p' K h
  frees_by q (inl e) =
      let o = g.sound.seat w q.seat q.is in
      let leads : Leads (setting_of p.load) (machine.Free w) (core_of p h) (core_of p' h) [] = (frees p p' h w q o e.0 e.1, refl) in
      let inv = invariant_kept (setting_of p.load) K (machine.Free w) (core_of p h) (core_of p' h) [] g.inv leads in
      inl (record { hidden = h; joined = []; leads = leads; stands = free_stands p p' h w q o K [] e.1 (carried p K h g) inv; load = ap (λ (x : Plain). x.load) q.after; taken = refl })
  frees_by q (inr e) =
      let o = g.sound.seat w q.seat q.is in
      let first = first_frees p p' h w q o e.0 e.1 in
      let leads : Leads (setting_of p.load) (machine.FirstFree w) (core_of p h) (core_of p' h) (q.act ∷ []) = (first.0, q.act, first.1, first.2, refl) in
      let inv = invariant_kept (setting_of p.load) K (machine.FirstFree w) (core_of p h) (core_of p' h) (q.act ∷ []) g.inv leads in
      inr (record { hidden = h; joined = q.act ∷ []; leads = leads; stands = free_stands p p' h w q o K (q.act ∷ []) e.1 (carried p K h g) inv; load = ap (λ (x : Plain). x.load) q.after; taken = refl })

  pub free_steps : (o : Outcome) → FreeBy p w o p' → FreeSteps p p' K h w o
  free_steps outcome.Went q = frees_by q q.joins
  free_steps (outcome.NotNow phase) q = (unmoved p p' K h g q.0, elsewhere Freeing phase (λ e. cc) (λ e. cc) (λ e. cc) q.1)
  free_steps (outcome.Granted v) q = absurd q
  free_steps (outcome.Busy u) q = absurd q
  free_steps (outcome.Placed u) q = absurd q
  free_steps (outcome.Gathered u) q = absurd q
  free_steps (outcome.Acked n lv) q = absurd q
  free_steps outcome.NothingCovered q = absurd q
  free_steps outcome.NoMemory q = absurd q

  pub commit_steps : (o : Outcome) → CommitBy p w o p' → CommitSteps p p' K h w o
  commit_steps (outcome.Placed start) q =
      let o = g.sound.seat w q.seat q.is in
      let shape = g.inv.shapes.workers w in
      let wide : length q.hand.dep ≡ p.load.streams = (shape.hand q.hand (ap (λ (x : Worker). x.hand) (worker_of_seat p h w q.seat q.seat q.is) ∙ q.hand_is)).1 in
      let leads : Leads (setting_of p.load) (machine.Commit w) (core_of p h) (core_of p' h) (q.act ∷ []) = (q.act, commits p p' h w start q o wide, refl) in
      let inv = invariant_kept (setting_of p.load) K (machine.Commit w) (core_of p h) (core_of p' h) (q.act ∷ []) g.inv leads in (
        record { hidden = h; joined = q.act ∷ []; leads = leads; stands = commit_stands p p' h w start q o wide K (carried p K h g) inv; load = ap (λ (x : Plain). x.load) q.after; taken = refl },
        q.start_is,
        (q.act, refl, ap (λ (t : Act Txn). t.call.anchor) q.act_is ∙ q.newest),
      )
  commit_steps (outcome.NotNow phase) q = (unmoved p p' K h g q.0, elsewhere Ready phase (λ e. cc) (λ e. cc) (λ e. cc) q.1)
  commit_steps outcome.NoMemory q = (roomy_unmoved p p' K h g w q.0, is_at Ready q.1)
  commit_steps outcome.Went q = absurd q
  commit_steps (outcome.Granted v) q = absurd q
  commit_steps (outcome.Busy u) q = absurd q
  commit_steps (outcome.Gathered u) q = absurd q
  commit_steps (outcome.Acked n lv) q = absurd q
  commit_steps outcome.NothingCovered q = absurd q

  -- a lock of the call in hand
  pub locks_on : (o : Outcome) → InHand p w → LockedBy p w o p' → LockSteps p p' K h w o
  locks_on (outcome.Granted value) has q =
      let t = takes_locks p p' h w value q in
      let leads : Leads (setting_of p.load) (machine.Lock w) (core_of p h) (core_of p' h) [] = (t, refl) in
      let inv = kept (setting_of p.load) K (machine.Lock w) (core_of p h) (core_of p' h) g.inv leads in (
        happened (machine.Lock w) p p' K h h leads (takes_stands p p' h w value q K (carried p K h g) inv) (ap (λ (x : Plain). x.load) q.after) refl,
        (q.key, q.mode, record { hand = q.hand; is = takes_is p p' h w value q; next = q.wants.next }, q.value_is ∙ ap (λ (x : Shard). x.rows q.key) (sym (ap shard_in q.shard_is))),
      )
  locks_on (outcome.Busy holder) has q =
      let t = refused_refuses p p' h w holder q in
      let leads : Leads (setting_of p.load) (machine.Busy w) (core_of p h) (core_of p' h) [] = (t, refl) in
      let inv = kept (setting_of p.load) K (machine.Busy w) (core_of p h) (core_of p' h) g.inv leads in (
        happened (machine.Busy w) p p' K h h leads (refused_stands p p' h w holder q K (carried p K h g) inv) (ap (λ (x : Plain). x.load) q.after) refl,
        (q.key, q.mode, record { hand = q.hand; is = refused_is p p' h w holder q; next = q.wants.next }, subst (λ (x : Shard). IsLowest (entry_in x q.key) w q.mode holder) (sym (ap shard_in q.shard_is)) q.lowest),
      )
  locks_on (outcome.NotNow phase) has q =
      let at = q.1 found.0 found.1 in
      let o = g.sound.seat w found.0 found.1 in (
        unmoved p p' K h g q.0,
        elsewhere_by p K h g w found.0 Locking phase found.1
            (λ e. absurd (has found.0 found.1 (none_some found.0.txn.hand (o.txn.stays ∙ ap is_some e)))) at.0 at.1,
      )
  locks_on outcome.NoMemory has q = (short_unmoved p p' K h g q.0, inl (is_at Locking q.1))
  locks_on outcome.Went has q = absurd q
  locks_on (outcome.Placed u) has q = absurd q
  locks_on (outcome.Gathered u) has q = absurd q
  locks_on (outcome.Acked n lv) has q = absurd q
  locks_on outcome.NothingCovered has q = absurd q

-- the next call began, and what its worker was to begin it is now in hand
pub record Began (p b : Plain) (K : List (Act Txn)) (h : Hidden) (w n : ℕ) : Type 0 where
  pub core : core_of b h ≡ begun_state (setting_of p.load) (core_of p h) w
  pub carries : Carried b K h
  pub load : b.load ≡ p.load
  pub runs : (s : PlainSeat) (hand : Hand) → slice_get b.seats w ≡ Some s → hand_in b.load.procs s.txn ≡ Some hand → hand.phase ≡ Running

pub began : (p b : Plain) (K : List (Act Txn)) (h : Hidden) (g : Stands p K h) (w n : ℕ) → BegunAs w n p b → Rests p w → HasNext p w n → Began p b K h w n
began p b K h g w n q at_rest next =
    let r : Stands q.roomy K h = room_stands p q.roomy K h g w q.made in
    let same : core_of q.roomy h ≡ core_of p h = room_core p q.roomy K h g w q.made in
    let load_is : q.roomy.load ≡ p.load = ap (λ (x : Plain). x.load) q.made.after in
    let starts : Begins w q.roomy b = begins_of q.roomy b K h r w n q.begins q.enough (room_next p q.roomy w n q.made next) (room_rests p q.roomy w n q.made at_rest) in
    record {
      core = begins_core q.roomy b K h w starts ∙ (λ i. with_worker (same i) w (ready (setting_of (load_is i)) (same i) w));
      carries = begins_carried q.roomy b K h w starts (carried q.roomy K h r);
      load = ap (λ (x : Plain). x.load) q.begins.after ∙ load_is;
      runs = λ s hand is hand_is.
          let got : slice_get b.seats w ≡ Some q.begins.new = ap (λ (x : Plain). slice_get x.seats w) q.begins.after ∙ got_same q.roomy.seats w q.begins.new (slice_get_within q.roomy.seats w q.begins.seat q.begins.is) in
          let one : q.begins.new ≡ s = (let f : Some q.begins.new ≡ Some s = sym got ∙ is in cc) in
          let shown : Some (fresh q.begins.seat.txn.width (record { number = n; call = q.begins.call }) 0) ≡ Some hand =
          sym q.begins.begun ∙ ap (λ (l : Load). hand_in l.procs q.begins.new.txn) (sym (ap (λ (x : Plain). x.load) q.begins.after)) ∙ ap (λ (x : PlainSeat). hand_in b.load.procs x.txn) one ∙ hand_is in
          let fresh_is : fresh q.begins.seat.txn.width (record { number = n; call = q.begins.call }) 0 ≡ hand = cc in
          ap (λ (x : Hand). x.phase) (sym fresh_is);
    }

module _ (p p' b : Plain) (K : List (Act Txn)) (h : Hidden) (g : Stands p K h) (w n : ℕ) (a : Began p b K h w n) where
  begun_core : Core
  begun_core = begun_state (setting_of p.load) (core_of p h) w

  inv_back : Invariant (setting_of p.load) K (core_of p' h) → Invariant (setting_of b.load) K (core_of p' h)
  inv_back inv = subst (λ (l : Load). Invariant (setting_of l) K (core_of p' h)) (sym a.load) inv

  wants_on : (hand : Hand) (key : Key) (mode : Mode) → (ready (setting_of b.load) (core_of b h) w).hand ≡ Some hand → lock_of (stage b.load.procs hand.call.call hand.seen) hand.held ≡ Some (key, mode) → WantsLock p h w key mode
  wants_on hand key mode is next = record {
    hand = hand;
    is = ap (λ (x : Worker). x.hand) (sym (ready_again (setting_of p.load) (core_of p h) w)) ∙ (λ i. (ready (setting_of (sym a.load i)) (sym a.core i) w).hand) ∙ is;
    next = ap (λ (l : Load). lock_of (stage l.procs hand.call.call hand.seen) hand.held) (sym a.load) ∙ next;
  }

  shards_on : (i : ℕ) → (core_of b h).shards i ≡ (core_of p h).shards i
  shards_on i = ap (λ (c : Core). c.shards i) a.core

  -- a lock that begins the call
  pub first_granted : (value : Value) → Takes w value b p' → Happened (machine.Lock w) p p' K h × Grants p h w value
  first_granted value q =
      let t : machine.Locks (setting_of p.load) w (begun_state (setting_of p.load) (core_of p h) w) (core_of p' h) =
      subst (λ (x : Load × Core). machine.Locks (setting_of x.0) w x.1 (core_of p' h)) (λ i. (a.load i, a.core i)) (takes_locks b p' h w value q) in
      let leads : Leads (setting_of p.load) (machine.Lock w) (core_of p h) (core_of p' h) [] = (locks_lift (setting_of p.load) (core_of p h) w (core_of p' h) t, refl) in
      let inv = kept (setting_of p.load) K (machine.Lock w) (core_of p h) (core_of p' h) g.inv leads in (
        happened (machine.Lock w) p p' K h h leads (takes_stands b p' h w value q K a.carries (inv_back inv)) (ap (λ (x : Plain). x.load) q.after ∙ a.load) refl,
        (
          q.key,
          q.mode,
          wants_on q.hand q.key q.mode (takes_is b p' h w value q) q.wants.next,
          q.value_is ∙ ap (λ (x : Shard). x.rows q.key) (sym (ap shard_in q.shard_is) ∙ shards_on (shard_number q.key)),
        ),
      )

  pub first_busy : (holder : ℕ) → IsRefused w holder b p' → Happened (machine.Busy w) p p' K h × IsBarredBy p h w holder
  first_busy holder q =
      let t : machine.Refuses (setting_of p.load) w (begun_state (setting_of p.load) (core_of p h) w) (core_of p' h) =
      subst (λ (x : Load × Core). machine.Refuses (setting_of x.0) w x.1 (core_of p' h)) (λ i. (a.load i, a.core i)) (refused_refuses b p' h w holder q) in
      let leads : Leads (setting_of p.load) (machine.Busy w) (core_of p h) (core_of p' h) [] = (refuses_lift (setting_of p.load) (core_of p h) w (core_of p' h) t, refl) in
      let inv = kept (setting_of p.load) K (machine.Busy w) (core_of p h) (core_of p' h) g.inv leads in (
        happened (machine.Busy w) p p' K h h leads (refused_stands b p' h w holder q K a.carries (inv_back inv)) (ap (λ (x : Plain). x.load) q.after ∙ a.load) refl,
        (
          q.key,
          q.mode,
          wants_on q.hand q.key q.mode (refused_is b p' h w holder q) q.wants.next,
          subst (λ (x : Shard). IsLowest (entry_in x q.key) w q.mode holder) (sym (ap shard_in q.shard_is) ∙ shards_on (shard_number q.key)) q.lowest,
        ),
      )
