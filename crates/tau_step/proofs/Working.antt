-- A worker's turn is an event of its own, exactly where it has something to do.
use Rattle.std.proofs.Common.{ℕ, ◌<◌, ◌==◌, ◌≡◌, ◌%◌, ◌++◌, inl, inr, Bool, true, false, List, [], ◌∷◌, refl, sym, ap, subst, ◌∙◌, Option}
use Rattle.std.specs.Prelude.{Some, None, ◌&&◌, not, slice_index, Result, Ok, Err}
use Rattle.std.proofs.lemmas.Bool.{cases_eq, eq-eqb, ne_eqb}
use Rattle.tau_base.specs.Shards.{shard_number}
use Rattle.tau_base.specs.declared.value.NoMemory.{NoMemory}
use Rattle.tau_model.specs.History.{Act}
use Rattle.tau_machine.specs.Hands.{Txn, Hand}
use Rattle.tau_shard.specs.Shard.{entry_in}
use Rattle.tau_machine.specs.State.{Core, hand_of}
use Rattle.tau_shard.specs.Blocks.{against}
use Rattle.tau_machine.specs.Events as machine
use Rattle.tau_machine.specs.Waits.{BusyHasHolder, IsBarred}
use Rattle.tau_machine.specs.Events.{Leads, ready}
use Rattle.tau_core.specs.declared.event.Event.TheVariants as event
use Rattle.tau_core.specs.declared.event.Outcome.{Outcome}
use Rattle.tau_core.specs.declared.event.Outcome.TheVariants as outcome
use Rattle.tau_core.specs.declared.event.Phase.{Phase}
use Rattle.tau_core.specs.declared.event.Phase.TheVariants.{Resting, Locking, Quitting, Ready, Placed, Freeing, Ended}
use Rattle.tau_core.specs.State.{Plain}
use Rattle.tau_core.specs.View.{Hidden, setting_of, core_of}
use Rattle.tau_core.specs.Stands.{anchors_at}
use Rattle.tau_core.specs.Pieces as core
use Rattle.tau_core.specs.Phases.{hand_phase}
use Rattle.tau_core.specs.Steps.{Steps, Happened, Unmoved, StandsElsewhere, IsBarredBy}
use Rattle.tau_run.specs.Turns.{Progress, Stays, Goes, NamesNewest, QuitsLowest, IsOwn}
use Rattle.tau_step.specs.Progressed as on
use Rattle.tau_step.specs.Progressed.{progress, Comes}
use Rattle.tau_step.specs.Acting.{Tells, Acts, WorkerTurned, raised, has_work_in}
use Rattle.tau_step.proofs.Deciding.{if_so, if_not, acts_held, not_elsewhere, waits, idle, works_held, works_waiting, rests_raised, rests_idle}
use Rattle.tau_shard.proofs.Bridge.{against_to}

-- an event after a step that changed nothing
pub unmoved_happened : (e : machine.Event) (p m p' : Plain) (K : List (Act Txn)) (h : Hidden) (u : Unmoved p m K h) → Happened e m p' K u.hidden → Happened e p p' K h
unmoved_happened e p m p' K h u q = record {
  hidden = q.hidden;
  joined = q.joined;
  leads = subst (λ (s : Core). Leads (setting_of p.load) e s (core_of p' q.hidden) q.joined) u.same
      (subst (λ l. Leads (setting_of l) e (core_of m u.hidden) (core_of p' q.hidden) q.joined) u.load q.leads);
  stands = q.stands;
  load = q.load ∙ u.load;
  taken = q.taken ∙ u.taken;
}

pub unmoved_on : (p m p' : Plain) (K : List (Act Txn)) (h : Hidden) (u : Unmoved p m K h) → Unmoved m p' K u.hidden → Unmoved p p' K h
unmoved_on p m p' K h u q = record { hidden = q.hidden; same = q.same ∙ u.same; stands = q.stands; load = q.load ∙ u.load; taken = q.taken ∙ u.taken }

blocks_other : (u w : ℕ) (b : Bool) → (not (u == w) && b) ≡ true → (u ≡ w → ⊥) × (b ≡ true)
blocks_other u w b e = elim (cases_eq u w) [
  | inl is ↦ absurd (let f : (u == w) ≡ true = eq-eqb u w is in let bad : (not (u == w) && b) ≡ false = ap (λ (x : Bool). not x && b) f in let g : true ≡ false = sym e ∙ bad in cc)
  | inr ne ↦ (ne, (let f : (u == w) ≡ false = ne_eqb u w ne in sym (ap (λ (x : Bool). not x && b) f) ∙ e))
]

-- the holder that the core names is another worker with the key that is wanted
pub barred : (p : Plain) (h : Hidden) (w holder : ℕ) → IsBarredBy p h w holder → IsBarred (setting_of p.load) w (core_of p h)
barred p h w holder (key, mode, wants, lowest) =
    let entry = entry_in ((core_of p h).shards (shard_number key)) key in
    let other = blocks_other holder w (against mode (entry.holders holder)) lowest.0 in
    let (n, has, conflict) = against_to mode (entry.holders holder) other.1 in
    record { hand = wants.hand; key = key; mode = mode; is = wants.is; next = wants.next; held = (holder, n, other.0, has, conflict) }

module _ (p p' : Plain) (K : List (Act Txn)) (h : Hidden) (es : List machine.Event) (told : List (ℕ × List ℕ)) where
  pub same_progress : (u : Unmoved p p' K h) → progress p' u.hidden es K told ≡ progress p h es K told
  same_progress u = ap (λ (s : Core). record { state = s; events = es; joined = K; told = told }) u.same

  -- nothing happened
  pub stays : Unmoved p p' K h → Comes on.stays p p' told told K h es
  stays u = record {
    hidden = u.hidden;
    order = K;
    events = es;
    stands = u.stands;
    load = u.load;
    taken = u.taken;
    moved = same_progress u;
  }

  -- one event happened
  pub goes : (e : machine.Event) (q : Happened e p p' K h) → Goes (setting_of p.load) p.load.workers p.load.streams e (progress p h es K told) (progress p' q.hidden (es ++ e ∷ []) (K ++ q.joined) told)
  goes e q = record { new = q.joined; leads = q.leads; events = refl; joined = refl; told = refl }

  module _ (w : ℕ) where
    abbrev own_event : Progress → Progress → Type 0
    own_event P P' = (f : machine.Event) × IsOwn w f × (q : Goes (setting_of p.load) p.load.workers p.load.streams f P P') × NamesNewest (setting_of p.load) p.load.workers p.load.streams f P.state q.new ×
        BusyHasHolder (setting_of p.load) f P.state × QuitsLowest (setting_of p.load) p.load.workers p.load.streams f P.state P'.state q.new q.leads

    pub worked : (e : machine.Event) → IsOwn w e → has_work_in p h w ≡ true → (q : Happened e p p' K h) → NamesNewest (setting_of p.load) p.load.workers p.load.streams e (core_of p h) q.joined →
        BusyHasHolder (setting_of p.load) e (core_of p h) → QuitsLowest (setting_of p.load) p.load.workers p.load.streams e (core_of p h) (core_of p' q.hidden) q.joined q.leads → WorkerTurned w p p' K h es told (Ok true)
    worked e own works q newest rightly lowest = (
      sym works,
      record {
        hidden = q.hidden;
        order = K ++ q.joined;
        events = es ++ e ∷ [];
        stands = q.stands;
        load = q.load;
        taken = q.taken;
        moved =
            let P = progress p h es K told in
            let P' = progress p' q.hidden (es ++ e ∷ []) (K ++ q.joined) told in
            if_so (has_work_in p h w) (own_event P P') (Stays P P') works (e, own, record { new = q.joined; leads = q.leads; events = refl; joined = refl; told = refl }, newest, rightly, lowest);
      },
    )

    pub rested : has_work_in p h w ≡ false → Unmoved p p' K h → WorkerTurned w p p' K h es told (Ok false)
    rested rests u =
        let P = progress p h es K told in
        let P' = progress p' u.hidden es K told in (
          sym rests,
          record {
            hidden = u.hidden;
            order = K;
            events = es;
            stands = u.stands;
            load = u.load;
            taken = u.taken;
            moved = if_not (has_work_in p h w) (own_event P P') (Stays P P') rests (same_progress u);
          },
        )

    -- a call that commits names the newest anchor
    newest : (x : Happened (machine.Commit w) p p' K h) (t : Act Txn) → x.joined ≡ t ∷ [] →
        t.call.anchor ≡ core.newest_of (slice_index p.load.opening.anchors.items (w % p.load.streams)) (anchors_at p (w % p.load.streams)) → NamesNewest (setting_of p.load) p.load.workers p.load.streams (machine.Commit w) (core_of p h) x.joined
    newest x t e named = subst (λ (new : List (Act Txn)). NamesNewest (setting_of p.load) p.load.workers p.load.streams (machine.Commit w) (core_of p h) new) (sym e)
        (λ u m. elim m [
          | inl is ↦ ap (λ (v : Act Txn). v.call.anchor) (sym is) ∙ named
          | inr none ↦ absurd none
        ])

    -- with what the outcome tells
    did : (r : Result Bool NoMemory) (b : Bool) → r ≡ Ok b → WorkerTurned w p p' K h es told (Ok b) → WorkerTurned w p p' K h es told r
    did r b e q = subst (λ (x : Result Bool NoMemory). WorkerTurned w p p' K h es told x) (sym e) q

    short : (r : Result Bool NoMemory) → Tells outcome.NoMemory r → Unmoved p p' K h → WorkerTurned w p p' K h es told r
    short (Ok b) t u = absurd t
    short (Err e) t u = stays u

    abbrev hand_at : Phase → Type 0
    hand_at phase = hand_phase p.load.procs (hand_of (core_of p h) w) ≡ phase

    held : (phase : Phase) → (Resting ≡ phase → ⊥) → hand_at phase → w < p.load.workers → has_work_in p h w ≡ true
    held phase acts at lt = works_held (setting_of p.load) p.load.workers p.load.streams (core_of p h) w lt (acts_held p.load.procs (hand_of (core_of p h) w) phase at acts)

    here : (phase now : Phase) → (Resting ≡ phase → ⊥) → hand_at phase → StandsElsewhere p h w phase now → ⊥
    here phase now acts at elsewhere = not_elsewhere p.load.procs p.load.streams ((core_of p h).workers w) phase at acts elsewhere.1

    pub lock_turn : (r : Result Bool NoMemory) (o : Outcome) → Tells o r → Steps p p' K h (event.Lock w) o → hand_at Locking → w < p.load.workers → WorkerTurned w p p' K h es told r
    lock_turn r outcome.Went e t at lt = absurd t
    lock_turn r (outcome.Granted value) e t at lt = did r true e (worked (machine.Lock w) refl (held Locking (λ q. cc) at lt) t.0 tt tt tt)
    lock_turn r (outcome.Busy holder) e t at lt = did r true e (worked (machine.Busy w) refl (held Locking (λ q. cc) at lt) t.0 tt (barred p h w holder t.1) tt)
    lock_turn r (outcome.Placed start) e t at lt = absurd t
    lock_turn r (outcome.Gathered upto) e t at lt = absurd t
    lock_turn r (outcome.Acked number lv) e t at lt = absurd t
    lock_turn r outcome.NothingCovered e t at lt = absurd t
    lock_turn r (outcome.NotNow phase) e t at lt = absurd (here Locking phase (λ q. cc) at t.1)
    lock_turn r outcome.NoMemory e t at lt = short r e t.0

    pub quit_turn : (r : Result Bool NoMemory) (o : Outcome) → Tells o r → Steps p p' K h (event.Quit w) o → hand_at Quitting → w < p.load.workers → WorkerTurned w p p' K h es told r
    quit_turn r outcome.Went e t at lt = did r true e (worked (machine.Quit w false) (refl, refl) (held Quitting (λ q. cc) at lt) t.0 tt tt t.1)
    quit_turn r (outcome.Granted value) e t at lt = absurd t
    quit_turn r (outcome.Busy holder) e t at lt = absurd t
    quit_turn r (outcome.Placed start) e t at lt = absurd t
    quit_turn r (outcome.Gathered upto) e t at lt = absurd t
    quit_turn r (outcome.Acked number lv) e t at lt = absurd t
    quit_turn r outcome.NothingCovered e t at lt = absurd t
    quit_turn r (outcome.NotNow phase) e t at lt = absurd (here Quitting phase (λ q. cc) at t.1)
    quit_turn r outcome.NoMemory e t at lt = absurd t

    pub commit_turn : (r : Result Bool NoMemory) (o : Outcome) → Tells o r → Steps p p' K h (event.Commit w) o → hand_at Ready → w < p.load.workers → WorkerTurned w p p' K h es told r
    commit_turn r outcome.Went e t at lt = absurd t
    commit_turn r (outcome.Granted value) e t at lt = absurd t
    commit_turn r (outcome.Busy holder) e t at lt = absurd t
    commit_turn r (outcome.Placed start) e t at lt = let (x, start, named) = t in did r true e (worked (machine.Commit w) refl (held Ready (λ q. cc) at lt) x (newest x named.0 named.1 named.2) tt tt)
    commit_turn r (outcome.Gathered upto) e t at lt = absurd t
    commit_turn r (outcome.Acked number lv) e t at lt = absurd t
    commit_turn r outcome.NothingCovered e t at lt = absurd t
    commit_turn r (outcome.NotNow phase) e t at lt = absurd (here Ready phase (λ q. cc) at t.1)
    commit_turn r outcome.NoMemory e t at lt = short r e t.0

    pub post_turn : (r : Result Bool NoMemory) (o : Outcome) → Tells o r → Steps p p' K h (event.Post w) o → hand_at Placed → w < p.load.workers → WorkerTurned w p p' K h es told r
    post_turn r outcome.Went e t at lt = did r true e (worked (machine.Post w) refl (held Placed (λ q. cc) at lt) t tt tt tt)
    post_turn r (outcome.Granted value) e t at lt = absurd t
    post_turn r (outcome.Busy holder) e t at lt = absurd t
    post_turn r (outcome.Placed start) e t at lt = absurd t
    post_turn r (outcome.Gathered upto) e t at lt = absurd t
    post_turn r (outcome.Acked number lv) e t at lt = absurd t
    post_turn r outcome.NothingCovered e t at lt = absurd t
    post_turn r (outcome.NotNow phase) e t at lt = absurd (here Placed phase (λ q. cc) at t.1)
    post_turn r outcome.NoMemory e t at lt = absurd t

    pub free_turn : (r : Result Bool NoMemory) (o : Outcome) → Tells o r → Steps p p' K h (event.Free w) o → hand_at Freeing → w < p.load.workers → WorkerTurned w p p' K h es told r
    free_turn r outcome.Went e t at lt = did r true e (elim t [ inl q ↦ worked (machine.Free w) refl (held Freeing (λ q. cc) at lt) q tt tt tt | inr q ↦ worked (machine.FirstFree w) refl (held Freeing (λ q. cc) at lt) q tt tt tt ])
    free_turn r (outcome.Granted value) e t at lt = absurd t
    free_turn r (outcome.Busy holder) e t at lt = absurd t
    free_turn r (outcome.Placed start) e t at lt = absurd t
    free_turn r (outcome.Gathered upto) e t at lt = absurd t
    free_turn r (outcome.Acked number lv) e t at lt = absurd t
    free_turn r outcome.NothingCovered e t at lt = absurd t
    free_turn r (outcome.NotNow phase) e t at lt = absurd (here Freeing phase (λ q. cc) at t.1)
    free_turn r outcome.NoMemory e t at lt = absurd t

    pub done_turn : (r : Result Bool NoMemory) (o : Outcome) → Tells o r → Steps p p' K h (event.Done w) o → hand_at Ended → w < p.load.workers → WorkerTurned w p p' K h es told r
    done_turn r outcome.Went e t at lt = did r true e (elim t [ inl q ↦ worked (machine.Done w) refl (held Ended (λ q. cc) at lt) q tt tt tt | inr q ↦ worked (machine.DoneReading w) refl (held Ended (λ q. cc) at lt) q tt tt tt ])
    done_turn r (outcome.Granted value) e t at lt = absurd t
    done_turn r (outcome.Busy holder) e t at lt = absurd t
    done_turn r (outcome.Placed start) e t at lt = absurd t
    done_turn r (outcome.Gathered upto) e t at lt = absurd t
    done_turn r (outcome.Acked number lv) e t at lt = absurd t
    done_turn r outcome.NothingCovered e t at lt = absurd t
    done_turn r (outcome.NotNow phase) e t at lt = absurd (here Ended phase (λ q. cc) at t.1)
    done_turn r outcome.NoMemory e t at lt = short r e t.0

    none_some : {A : Type 0} (o : Option A) (x : A) → o ≡ None → o ≡ Some x → ⊥
    none_some o x none some = let bad : None ≡ Some x = sym none ∙ some in cc

    waiting : (hand : Hand) → hand_of (core_of p h) w ≡ None → (ready (setting_of p.load) (core_of p h) w).hand ≡ Some hand → raised p h ≡ false → w < p.load.workers → has_work_in p h w ≡ true
    waiting hand none is going lt = works_waiting (setting_of p.load) p.load.workers p.load.streams (core_of p h) w lt going (waits p.load.streams ((core_of p h).workers w) hand none is)

    -- the next call begins with a lock
    pub begin_locked : (o : Outcome) → Tells o (Ok true) → Steps p p' K h (event.Lock w) o → hand_of (core_of p h) w ≡ None → raised p h ≡ false → w < p.load.workers → WorkerTurned w p p' K h es told (Ok true)
    begin_locked outcome.Went e t none going lt = absurd t
    begin_locked (outcome.Granted value) e t none going lt = let (key, mode, wants, is) = t.1 in worked (machine.Lock w) refl (waiting wants.hand none wants.is going lt) t.0 tt tt tt
    begin_locked (outcome.Busy holder) e t none going lt = let (key, mode, wants, is) = t.1 in worked (machine.Busy w) refl (waiting wants.hand none wants.is going lt) t.0 tt (barred p h w holder t.1) tt
    begin_locked (outcome.Placed start) e t none going lt = absurd t
    begin_locked (outcome.Gathered upto) e t none going lt = absurd t
    begin_locked (outcome.Acked number lv) e t none going lt = absurd t
    begin_locked outcome.NothingCovered e t none going lt = absurd t
    begin_locked (outcome.NotNow phase) e t none going lt = absurd (let bad : Ok true ≡ Ok false = e in cc)
    begin_locked outcome.NoMemory e t none going lt = absurd e

    pub begin_short : (o : Outcome) (x : NoMemory) → Tells o (Err x) → Steps p p' K h (event.Lock w) o → Comes on.stays p p' told told K h es
    begin_short outcome.Went x e t = absurd t
    begin_short (outcome.Granted value) x e t = absurd (let bad : Err x ≡ Ok true = e in cc)
    begin_short (outcome.Busy holder) x e t = absurd (let bad : Err x ≡ Ok true = e in cc)
    begin_short (outcome.Placed start) x e t = absurd t
    begin_short (outcome.Gathered upto) x e t = absurd t
    begin_short (outcome.Acked number lv) x e t = absurd t
    begin_short outcome.NothingCovered x e t = absurd t
    begin_short (outcome.NotNow phase) x e t = absurd (let bad : Err x ≡ Ok false = e in cc)
    begin_short outcome.NoMemory x e t = stays t.0

    pub rest_raised : hand_of (core_of p h) w ≡ None → raised p h ≡ true → Unmoved p p' K h → WorkerTurned w p p' K h es told (Ok false)
    rest_raised none up u = rested (rests_raised (setting_of p.load) p.load.workers p.load.streams (core_of p h) w none up) u

    -- or with its end
    module _ (m : Plain) (none : hand_of (core_of p h) w ≡ None) (going : raised p h ≡ false) (lt : w < p.load.workers) where
      abbrev at_rest : Plain → Hidden → Phase → Type 0
      at_rest x k phase = hand_phase x.load.procs (ready (setting_of x.load) (core_of x k) w).hand ≡ phase → ⊥

      ended_there : (u : Unmoved p m K h) → at_rest m u.hidden Ended → at_rest p h Ended
      ended_there u far =
          subst (λ (s : Core). hand_phase p.load.procs (ready (setting_of p.load) s w).hand ≡ Ended → ⊥) u.same
          (subst (λ l. hand_phase l.procs (ready (setting_of l) (core_of m u.hidden) w).hand ≡ Ended → ⊥) u.load far)

      by_end : (u : Unmoved p m K h) → at_rest p h Locking → (r : Result Bool NoMemory) (o : Outcome) → Tells o r → Steps m p' K u.hidden (event.Done w) o → WorkerTurned w p p' K h es told r
      by_end u locking r outcome.Went e t = did r true e (elim t [
        | inl q ↦ (let c = unmoved_happened (machine.Done w) p m p' K h u q in absurd (none_some (hand_of (core_of p h) w) c.leads.0.hand none c.leads.0.is))
        | inr q ↦ (let c = unmoved_happened (machine.DoneReading w) p m p' K h u q in
            let (mid, t, reads, ends, new) = c.leads in
            worked (machine.DoneReading w) refl (waiting reads.hand none reads.is going lt) c tt tt tt)
      ])
      by_end u locking r (outcome.Granted value) e t = absurd t
      by_end u locking r (outcome.Busy holder) e t = absurd t
      by_end u locking r (outcome.Placed start) e t = absurd t
      by_end u locking r (outcome.Gathered upto) e t = absurd t
      by_end u locking r (outcome.Acked number lv) e t = absurd t
      by_end u locking r outcome.NothingCovered e t = absurd t
      by_end u locking r (outcome.NotNow phase) e t = did r false e
          (rested (rests_idle (setting_of p.load) p.load.workers p.load.streams (core_of p h) w none
          (idle p.load.procs p.load.streams ((core_of p h).workers w) none locking (ended_there u t.1.1))) (unmoved_on p m p' K h u t.0))
      by_end u locking r outcome.NoMemory e t = short r e (unmoved_on p m p' K h u t.0)

      pub begin_ended : (o : Outcome) → Tells o (Ok false) → Steps p m K h (event.Lock w) o → (r : Result Bool NoMemory) → Acts (event.Done w) r m p' → WorkerTurned w p p' K h es told r
      begin_ended outcome.Went e t r a = absurd t
      begin_ended (outcome.Granted value) e t r a = absurd (let bad : Ok false ≡ Ok true = e in cc)
      begin_ended (outcome.Busy holder) e t r a = absurd (let bad : Ok false ≡ Ok true = e in cc)
      begin_ended (outcome.Placed start) e t r a = absurd t
      begin_ended (outcome.Gathered upto) e t r a = absurd t
      begin_ended (outcome.Acked number lv) e t r a = absurd t
      begin_ended outcome.NothingCovered e t r a = absurd t
      begin_ended (outcome.NotNow phase) e t r a = by_end t.0 t.1.1 r a.outcome a.tells (a.steps K t.0.hidden t.0.stands)
      begin_ended outcome.NoMemory e t r a = absurd e
