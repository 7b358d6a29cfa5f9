-- Turns of optimistic workers.
use Rattle.std.proofs.Common.{ℕ, ◌≡◌, ◌⊎◌, inl, inr, true, List, [], ◌∷◌, ◌++◌, refl, sym, ap, subst, ◌∙◌, Option}
use Rattle.std.specs.Prelude.{Some, None}
use Rattle.tau_base.specs.Shards.{shard_number}
use Rattle.std.specs.Map.{lookup}
use Rattle.tau_base.specs.Database.{same_key}
use Rattle.tau_base.specs.declared.value.Key.{Key}
use Rattle.tau_base.specs.declared.value.Mode.{Mode}
use Rattle.tau_base.specs.declared.value.Mode.TheVariants.{Read}
use Rattle.tau_base.specs.declared.value.Value.{Value}
use Rattle.tau_model.specs.History.{Act}
use Rattle.tau_machine.specs.Hands as hands
use Rattle.tau_machine.specs.Hands.{Txn, Hand}
use Rattle.tau_machine.specs.Stage.{Ends, Wants, stage}
use Rattle.tau_proc.specs.Effect.{Effect}
use Rattle.tau_shard.specs.Shard.{at}
use Rattle.tau_machine.specs.Events as machine
use Rattle.tau_machine.specs.Events.{ready, lock_next}
use Rattle.tau_core.specs.State.{Plain}
use Rattle.tau_core.specs.View.{Hidden, setting_of, core_of}
use Rattle.tau_base.specs.declared.value.NoMemory.{NoMemory}
use Rattle.std.specs.Prelude.{Result, Ok, Err, OnOk, OnErr}
use Rattle.tau_core.specs.Stands.{Stands}
use Rattle.tau_machine.specs.Stage.{Stage}
use Rattle.tau_occ.specs.Peeker.{PlainPeeker, IsPeeking, wanted_of}
use Rattle.tau_proc.specs.declared.proc.Proc.{Proc}
use Rattle.tau_base.specs.declared.value.Call.{Call}
use Rattle.tau_step.specs.Optimists.{HasEndedPeeking, IsAtLock, PeeksItsCall, RowDiffers}
use Rattle.tau_core.specs.Answered.{granted_by}
use Rattle.tau_core.specs.Phases.{hand_phase, phase_by, running_phase}
use Rattle.tau_core.specs.Retries.{RetrySteps}
use Rattle.tau_core.specs.declared.event.Acted.{Acted}
use Rattle.tau_core.specs.declared.event.Acted.TheVariants as acted
use Rattle.tau_core.specs.declared.event.Outcome.{Outcome}
use Rattle.tau_core.specs.declared.event.Outcome.TheVariants as outcome
use Rattle.tau_core.specs.declared.event.Phase.TheVariants.{Locking}
use Rattle.tau_shard.proofs.At.{at_itself}
use Rattle.tau_core.specs.Steps.{Happened, LockSteps}
use Rattle.tau_core.specs.NextLock.{TellsLock}
use Rattle.tau_occ.specs.declared.style.Style.TheVariants.{Optimistic}
use Rattle.tau_run.specs.Turns.{IsOwn, NamesNewest, QuitsLowest}
use Rattle.tau_run.specs.Schedule.{RunState, HasPeeked, BusyHasCause, ReadsPeeked, peeks_after}
use Rattle.tau_run.proofs.Steps.{if_yes}
use Rattle.tau_run.specs.Schedule.{peeked}
use Rattle.tau_step.specs.Optimists.{Peeks, has_turn_in, TurnedIn, SeenTurned, PeeksAreTurns, LocksAreTurns}
use Rattle.tau_step.specs.Progressed.{progress}
use Rattle.tau_step.proofs.Working.{barred, stays}

some_hand : (a b : Hand) → Some a ≡ Some b → a ≡ b
some_hand a b e = cc

key_in : Option (Key × Mode) → Option Key
key_in None = None
key_in (Some l) = Some l.0

mode_in : Option (Key × Mode) → Option Mode
mode_in None = None
mode_in (Some l) = Some l.1

lock_same : (a b : Key) (m n : Mode) → ◌≡◌ {A = Option (Key × Mode)} (Some (a, m)) (Some (b, n)) → (a ≡ b) × (m ≡ n)
unfolding key_in mode_in
lock_same a b m n e = (
  (let keys : Some a ≡ Some b = ap key_in e in cc),
  (let modes : Some m ≡ Some n = ap mode_in e in cc),
)

module _ (w : ℕ) (p p' : Plain) (K : List (Act Txn)) (h : Hidden) (es : List machine.Event) (told : List (ℕ × List ℕ)) (f : Peeks) (works : has_turn_in w p p' K h es told f ≡ true) where
  abbrev now : RunState
  now = peeked (progress p h es K told) f

  -- an event of the worker
  acts : (e : machine.Event) → IsOwn w e → (q : Happened e p p' K h) → HasPeeked (setting_of p.load) p.load.workers p.load.streams w now →
      NamesNewest (setting_of p.load) p.load.workers p.load.streams e (core_of p h) q.joined → BusyHasCause (setting_of p.load) p.load.workers p.load.streams Optimistic e now →
      ReadsPeeked (setting_of p.load) p.load.workers p.load.streams Optimistic e now → QuitsLowest (setting_of p.load) p.load.workers p.load.streams e (core_of p h) (core_of p' q.hidden) q.joined q.leads →
      TurnedIn w p p' K h es told f Optimistic (peeks_after Optimistic e f)
  acts e own q peeks newest busy reads lowest = record {
    hidden = q.hidden;
    order = K ++ q.joined;
    events = es ++ e ∷ [];
    stands = q.stands;
    load = q.load;
    taken = q.taken;
    moved = if_yes (has_turn_in w p p' K h es told f) _ _ works (inr (
      peeks,
      record {
        event = e;
        own = own;
        goes = record { new = q.joined; leads = q.leads; events = refl; joined = refl; told = refl };
        newest = newest;
        busy = busy;
        reads = reads;
        lowest = lowest;
        peeks = refl;
      },
    ));
  }

pub peeks_law : PeeksAreTurns
peeks_law w p K h es told f stands works number at_key mode tells reads key wants value is = record {
  hidden = h;
  order = K;
  events = es;
  stands = stands;
  load = refl;
  taken = refl;
  moved = if_yes (has_turn_in w p p K h es told f) _ _ works (inl (record {
    hand = tells.hand;
    reads = reads;
    key = key;
    is = tells.is;
    phase = tells.phase;
    wants = wants tells.hand tells.is;
    after = ap (λ (v : Value). peeked (progress p h es K told) (at w (f w ++ (key, v) ∷ []) f)) is;
  }));
}

pub locks_law : LocksAreTurns
locks_law w p p' K h es told f works number key mode tells ended =
    let has_peeked : HasPeeked (setting_of p.load) p.load.workers p.load.streams w (peeked (progress p h es K told) f) = (λ hand is runs. ended hand is) in (
      λ value s read. acts w p p' K h es told f works (machine.Lock w) refl s.0 has_peeked tt tt
          (λ hand other is next.
          let same = lock_same key other mode Read (sym tells.next ∙ ap (λ (x : Hand). lock_next (setting_of p.load) x) (some_hand tells.hand hand (sym tells.is ∙ is)) ∙ next) in
          subst (λ (k : Key). lookup (same_key k) (f w) ≡ Some (((core_of p h).shards (shard_number k)).rows k)) same.0 (read same.1)) tt,
      λ holder s. acts w p p' K h es told f works (machine.Busy w) refl s.0 has_peeked tt (inl (barred p h w holder s.1)) tt tt,
      λ s mode_is other. acts w p p' K h es told f works (machine.Busy w) refl s has_peeked tt
          (inr (record { hand = tells.hand; key = key; is = tells.is; next = tells.next ∙ ap (λ (x : Mode). Some (key, x)) mode_is; differs = other })) tt tt,
    )

-- a call that is at a lock comes next in that phase
at_locking : (p : Plain) (h : Hidden) (w : ℕ) (r : ℕ × Key × Mode) → TellsLock p h w (Some r) → hand_phase p.load.procs (ready (setting_of p.load) (core_of p h) w).hand ≡ Locking
at_locking p h w r tells =
    ap (hand_phase p.load.procs) tells.is ∙ ap (λ (x : hands.Phase). phase_by p.load.procs tells.hand x) tells.phase
    ∙ ap (λ (o : Option (Key × Mode)). running_phase o (stage p.load.procs tells.hand.call.call tells.hand.seen) tells.hand.held) tells.next

-- what a function does with the answer of a lock, and of a retry: it keeps what was peeked, or forgets it where the call is Busy
abbrev pub SeenBy : {A : Type 0} → Acted → List (Key × Value) → List (Key × Value) → Result A NoMemory → Type 0
SeenBy acted.Went was seen (Ok x) = seen ≡ was
SeenBy (acted.Busy holder) was seen (Ok x) = seen ≡ []
SeenBy (acted.Other kind) was seen (Ok x) = Unit {0}
SeenBy acted.NoMemory was seen (Err e) = seen ≡ was
SeenBy a was seen r = ⊥

abbrev pub RetriedSeen : {A : Type 0} → Outcome → List (Key × Value) → List (Key × Value) → Result A NoMemory → Type 0
RetriedSeen outcome.NoMemory was seen (Ok x) = ⊥
RetriedSeen outcome.NoMemory was seen (Err e) = seen ≡ was
RetriedSeen o was seen (Ok x) = seen ≡ []
RetriedSeen o was seen (Err e) = ⊥

abbrev pub RowDiffersAt : Plain → Hidden → Key → Mode → List (Key × Value) → Type 0
RowDiffersAt p h key mode seen = (mode ≡ Read) × (lookup (same_key key) seen ≡ Some (((core_of p h).shards (shard_number key)).rows key) → ⊥)

-- by the answers of the core, where the worker's call is at a lock and has ended on what it has peeked
module _ (w : ℕ) (p p' : Plain) (K : List (Act Txn)) (h : Hidden) (es : List machine.Event) (told : List (ℕ × List ℕ)) (f : Peeks) (works : has_turn_in w p p' K h es told f ≡ true) (number : ℕ) (key : Key) (mode : Mode)
    (tells : TellsLock p h w (Some (number, key, mode))) (ended : (hand : Hand) → (ready (setting_of p.load) (core_of p h) w).hand ≡ Some hand → (effect : Effect) × (stage p.load.procs hand.call.call (f w) ≡ Ends effect)) where
  same_peeks : TurnedIn w p p' K h es told f Optimistic f → TurnedIn w p p' K h es told f Optimistic (at w (f w) f)
  same_peeks t = subst (λ (g : Peeks). TurnedIn w p p' K h es told f Optimistic g) (sym (at_itself w f)) t

  -- of a lock
  pub lock_seen : {A : Type 0} (a : Acted) (value : Value) (seen : List (Key × Value)) (r : Result A NoMemory) → LockSteps p p' K h w (granted_by value a) →
      (mode ≡ Read → lookup (same_key key) (f w) ≡ Some (((core_of p h).shards (shard_number key)).rows key)) → SeenBy a (f w) seen r → SeenTurned w p p' K h es told f seen r
  lock_seen acted.Went value seen (Ok x) s read by = subst (λ (q : List (Key × Value)). TurnedIn w p p' K h es told f Optimistic (at w q f)) (sym by) (same_peeks ((locks_law w p p' K h es told f works number key mode tells ended).0 value s read))
  lock_seen acted.Went value seen (Err e) s read by = absurd by
  lock_seen (acted.Busy holder) value seen (Ok x) s read by = subst (λ (q : List (Key × Value)). TurnedIn w p p' K h es told f Optimistic (at w q f)) (sym by) ((locks_law w p p' K h es told f works number key mode tells ended).1 holder s)
  lock_seen (acted.Busy holder) value seen (Err e) s read by = absurd by
  lock_seen (acted.Other kind) value seen r s read by = absurd (s.1.1 (at_locking p h w (number, key, mode) tells))
  lock_seen acted.NoMemory value seen (Ok x) s read by = absurd by
  lock_seen acted.NoMemory value seen (Err e) s read by = (stays p p' K h es told s.0, by)

  -- and of a retry
  pub retry_seen : {A : Type 0} (o : Outcome) (seen : List (Key × Value)) (r : Result A NoMemory) → RetrySteps p p' K h w o → RowDiffersAt p h key mode (f w) → RetriedSeen o (f w) seen r → SeenTurned w p p' K h es told f seen r
  retry_seen outcome.Went seen (Ok x) s (mode_is, other) by = subst (λ (q : List (Key × Value)). TurnedIn w p p' K h es told f Optimistic (at w q f)) (sym by) ((locks_law w p p' K h es told f works number key mode tells ended).2 s mode_is other)
  retry_seen outcome.Went seen (Err e) s d by = absurd by
  retry_seen (outcome.NotNow phase) seen r s d by = absurd (s.1.1 (at_locking p h w (number, key, mode) tells))
  retry_seen outcome.NoMemory seen (Ok x) s d by = absurd by
  retry_seen outcome.NoMemory seen (Err e) s d by = (stays p p' K h es told s.0, by)
  retry_seen (outcome.Granted v) seen r s d by = absurd s
  retry_seen (outcome.Busy u) seen r s d by = absurd s
  retry_seen (outcome.Placed u) seen r s d by = absurd s
  retry_seen (outcome.Gathered u) seen r s d by = absurd s
  retry_seen (outcome.Acked n lv) seen r s d by = absurd s
  retry_seen outcome.NothingCovered seen r s d by = absurd s

-- by what the functions of the crate `seen` hold
module _ (w : ℕ) (p p' : Plain) (number : ℕ) (key : Key) (mode : Mode) (was : List (Key × Value)) (at_lock : IsAtLock p w number key mode) (ended : HasEndedPeeking p w was) (K : List (Act Txn)) (h : Hidden) (es : List machine.Event) (told : List (ℕ × List ℕ)) (f : Peeks)
    (stands : Stands p K h) (same : f w ≡ was) (works : has_turn_in w p p' K h es told f ≡ true) where
  ended_at : (hand : Hand) → (ready (setting_of p.load) (core_of p h) w).hand ≡ Some hand → (effect : Effect) × (stage p.load.procs hand.call.call (f w) ≡ Ends effect)
  ended_at hand is = let e = ended K h stands hand is in (e.0, ap (λ (q : List (Key × Value)). stage p.load.procs hand.call.call q) same ∙ e.1)

  pub lock_turned : {A : Type 0} (a : Acted) (value : Value) (seen : List (Key × Value)) (r : Result A NoMemory) → LockSteps p p' K h w (granted_by value a) →
      (mode ≡ Read → lookup (same_key key) was ≡ Some (((core_of p h).shards (shard_number key)).rows key)) → SeenBy a was seen r → SeenTurned w p p' K h es told f seen r
  lock_turned a value seen r s read by = lock_seen w p p' K h es told f works number key mode (at_lock K h stands) ended_at a value seen r s
      (λ is. ap (λ (q : List (Key × Value)). lookup (same_key key) q) same ∙ read is) (subst (λ (q : List (Key × Value)). SeenBy a q seen r) (sym same) by)

  pub retry_turned : {A : Type 0} (o : Outcome) (seen : List (Key × Value)) (r : Result A NoMemory) → RetrySteps p p' K h w o → RowDiffers p key mode was → RetriedSeen o was seen r → SeenTurned w p p' K h es told f seen r
  retry_turned o seen r s d by = retry_seen w p p' K h es told f works number key mode (at_lock K h stands) ended_at o seen r s
      (d.0, λ e. d.1 K h stands (ap (λ (q : List (Key × Value)). lookup (same_key key) q) (sym same) ∙ e)) (subst (λ (q : List (Key × Value)). RetriedSeen o q seen r) (sym same) by)

pub retried : {A : Type 0} (x : A) (o : Outcome) (was seen : List (Key × Value)) → (o ≡ outcome.NoMemory → ⊥) → seen ≡ [] → RetriedSeen o was seen (Ok x)
retried x outcome.NoMemory was seen not by = absurd (not refl)
retried x outcome.Went was seen not by = by
retried x (outcome.NotNow phase) was seen not by = by
retried x (outcome.Granted v) was seen not by = by
retried x (outcome.Busy u) was seen not by = by
retried x (outcome.Placed u) was seen not by = by
retried x (outcome.Gathered u) was seen not by = by
retried x (outcome.Acked n lv) was seen not by = by
retried x outcome.NothingCovered was seen not by = by

-- a call wants no key: it has ended
ended_of : (s : Stage) → wanted_of s ≡ None → (e : Effect) × (s ≡ Ends e)
ended_of (Ends e) eq = (e, refl)
ended_of (Wants reads key) eq = absurd (let bad : Some key ≡ None = eq in cc)

wants_of : (s : Stage) (key : Key) → wanted_of s ≡ Some key → (reads : List (Key × Value)) × (s ≡ Wants reads key)
wants_of (Ends e) key eq = absurd (let bad : None ≡ Some key = eq in cc)
wants_of (Wants reads k) key eq = (reads, let same : Some k ≡ Some key = eq in cc)

abbrev pub WantsNow : Plain → ℕ → List (Key × Value) → Option Key → Type 0
WantsNow p w seen o = (K : List (Act Txn)) (h : Hidden) → Stands p K h → (hand : Hand) → (ready (setting_of p.load) (core_of p h) w).hand ≡ Some hand → wanted_of (stage p.load.procs hand.call.call seen) ≡ o

pub has_ended : (p : Plain) (w : ℕ) (seen : List (Key × Value)) → WantsNow p w seen None → HasEndedPeeking p w seen
has_ended p w seen wants K h stands hand is = ended_of (stage p.load.procs hand.call.call seen) (wants K h stands hand is)

-- and a key: it is peeked, or nothing happens
pub peek_turned : {A : Type 0} (w : ℕ) (p : Plain) (number : ℕ) (at_key : Key) (mode : Mode) (was : List (Key × Value)) (key : Key) → IsAtLock p w number at_key mode → WantsNow p w was (Some key) → (seen : List (Key × Value)) (r : Result A NoMemory) →
    OnOk r ((K : List (Act Txn)) (h : Hidden) → Stands p K h → seen ≡ was ++ (key, ((core_of p h).shards (shard_number key)).rows key) ∷ []) → OnErr r (seen ≡ was) →
    (K : List (Act Txn)) (h : Hidden) (es : List machine.Event) (told : List (ℕ × List ℕ)) (f : Peeks) → Stands p K h → f w ≡ was → has_turn_in w p p K h es told f ≡ true → SeenTurned w p p K h es told f seen r
peek_turned w p number at_key mode was key at_lock wants seen (Err e) saw kept K h es told f stands same works = (stays p p K h es told (record { hidden = h; same = refl; stands = stands; load = refl; taken = refl }), kept ∙ sym same)
peek_turned w p number at_key mode was key at_lock wants seen (Ok x) saw kept K h es told f stands same works =
    let tells = at_lock K h stands in
    let now = wants_of (stage p.load.procs tells.hand.call.call was) key (wants K h stands tells.hand tells.is) in
    let value : Value = ((core_of p h).shards (shard_number key)).rows key in
    let all : (hand : Hand) → (ready (setting_of p.load) (core_of p h) w).hand ≡ Some hand → stage p.load.procs hand.call.call (f w) ≡ Wants now.0 key
    = λ hand is. ap (λ (q : List (Key × Value)). stage p.load.procs hand.call.call q) same ∙ ap (λ (x : Hand). stage p.load.procs x.call.call was) (some_hand hand tells.hand (sym is ∙ tells.is)) ∙ now.1 in
    subst (λ (q : List (Key × Value)). TurnedIn w p p K h es told f Optimistic (at w q f)) (ap (λ (q : List (Key × Value)). q ++ (key, value) ∷ []) same ∙ sym (saw K h stands))
    (peeks_law w p K h es told f stands works number at_key mode tells now.0 key all value refl)

pub wants_now : (p : Plain) (w : ℕ) (q : PlainPeeker) (r : Option Key) (seen : List (Key × Value)) (o : Option Key) → PeeksItsCall p w q → ((procs : List Proc) (call : Call) → IsPeeking procs call q → r ≡ wanted_of (stage procs call q.seen)) → seen ≡ q.seen → r ≡ o → WantsNow p w seen o
wants_now p w q r seen o peeks wants same is K h stands hand at_hand = ap (λ (x : List (Key × Value)). wanted_of (stage p.load.procs hand.call.call x)) same ∙ sym (wants p.load.procs hand.call.call (peeks K h stands hand at_hand)) ∙ is

-- what is peeked then is of the same call, or nothing is

abbrev pub StillPeeks : PlainPeeker → PlainPeeker → Type 0
StillPeeks q q' = (procs : List Proc) (c : Call) → IsPeeking procs c q → IsPeeking procs c q'

pub kept_peek : {A : Type 0} (r : Result A NoMemory) (q mid q' : PlainPeeker) → StillPeeks q mid → OnOk r (StillPeeks mid q') → OnOk r ((procs : List Proc) (c : Call) → IsPeeking procs c q → (q'.seen ≡ []) ⊎ IsPeeking procs c q')
kept_peek (Ok a) q mid q' first second = λ procs c peeking. inr (second procs c (first procs c peeking))
kept_peek (Err e) q mid q' first second = tt

pub kept_lock : {A : Type 0} (r : Result A NoMemory) (q mid q' : PlainPeeker) → StillPeeks q mid → OnOk r ((q'.seen ≡ []) ⊎ (q' ≡ mid)) → OnOk r ((procs : List Proc) (c : Call) → IsPeeking procs c q → (q'.seen ≡ []) ⊎ IsPeeking procs c q')
kept_lock (Ok a) q mid q' first second = λ procs c peeking. elim second [
  | inl none ↦ inl none
  | inr same ↦ inr (subst (λ (x : PlainPeeker). IsPeeking procs c x) (sym same) (first procs c peeking))
]
kept_lock (Err e) q mid q' first second = tt

pub kept_none : {A : Type 0} (B C : Type 0) (r : Result A NoMemory) → OnOk r B → OnOk r (B ⊎ C)
kept_none B C (Ok a) b = inl b
kept_none B C (Err e) b = tt
