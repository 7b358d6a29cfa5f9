-- What the machine wants next is what the worker of the core does next.
use Rattle.std.proofs.Common.{ℕ, zero, suc, ◌≡◌, Bool, true, false, List, [], ◌∷◌, take, refl, sym, ap, subst, ◌∙◌, arith}
use Rattle.std.specs.Prelude.{Some, None, Option, slice_get, ◌||◌, IsTrue}
use Rattle.std.specs.FinMap.Entries.{is_sorted, below_all}
use Rattle.std.specs.Ordering.{is_lt, is_eq}
use Rattle.std.specs.declared.cmp.Ordering.{Ordering}
use Rattle.std.specs.declared.cmp.Ordering.TheVariants.{Less, Equal, Greater}
use Rattle.std.proofs.lemmas.Bool.{and_parts}
use Rattle.tau_base.specs.declared.value.Key.{Key}
use Rattle.tau_base.specs.declared.value.Value.{Value}
use Rattle.tau_base.specs.declared.value.Mode.{Mode}
use Rattle.tau_base.specs.Database.{same_key, key_cmp}
use Rattle.tau_base.proofs.Keys.{same_key_itself, same_key_sym}
use Rattle.tau_proc.specs.declared.proc.Proc.{Proc}
use Rattle.tau_proc.specs.declared.reply.Reply.{Reply}
use Rattle.tau_proc.specs.declared.reply.Want.{Want}
use Rattle.tau_proc.specs.declared.reply.Want.TheVariants.{Read, Write, Finished}
use Rattle.tau_proc.specs.Effect.{has_key}
use Rattle.tau_base.specs.declared.value.Call.{Call}
use Rattle.tau_proc.specs.Limits.{KeepsLimits}
use Rattle.tau_proc.specs.Takes.{takes}
use Rattle.tau_proc.specs.Progress.{Progress, IsAt, ahead, buffered, next_want}
use Rattle.tau_proc.specs.Stage as given
use Rattle.tau_proc.specs.Stage.{values}
use Rattle.tau_proc.proofs.Courses.{is_at_now, buffered_ends}
use Rattle.tau_machine.specs.Hands.{mode_of}
use Rattle.tau_machine.specs.Stage.{Stage, Wants, Ends, stage}
use Rattle.tau_machine.specs.Worker.{held_writing, unlocked, write_want, lock_of}
use Rattle.tau_machine.proofs.Machine.{Alike, machine_alike}
use Rattle.tau_txn.specs.declared.standing.Standing.TheVariants.{Running}
use Rattle.tau_txn.specs.Hand.{PlainHand}
use Rattle.tau_txn.specs.Read.{effect_of, effect_in}
use Rattle.tau_txn.specs.Progress.{IsRunBy, HoldsGranted, WantsUnseen, GrantsNone, IsFinished}
use Rattle.tau_txn.specs.Steps.{lock_by}
use Rattle.tau_txn.proofs.Follow.{read_wants}
use Rattle.tau_txn.proofs.Granted.{has_ended, write_wants}

-- the key of a write, if there is one
abbrev pub key_in : Option (Key × Value) → Option Key
key_in None = None
key_in (Some w) = Some w.0

apart : (a b : Key) → is_lt (key_cmp a b) ≡ true → same_key a b ≡ false
apart a b e = at' (key_cmp a b) refl e
  where
    at' : (o : Ordering) → key_cmp a b ≡ o → is_lt o ≡ true → is_eq (key_cmp a b) ≡ false
    at' Less p q = ap is_eq p
    at' Equal p q = cc
    at' Greater p q = cc

below_apart : (k : Key) (ws : List (Key × Value)) (i : ℕ) (y : Key × Value) → below_all key_cmp k ws ≡ true → slice_get ws i ≡ Some y → same_key y.0 k ≡ false
below_apart k [] i y below at = cc
below_apart k (w ∷ ws) zero y below at =
    let same : w ≡ y = cc in
    subst (λ (z : Key × Value). same_key z.0 k ≡ false) same (same_key_sym w.0 k ∙ apart k w.0 (and_parts (is_lt (key_cmp k w.0)) (below_all key_cmp k ws) below).0)
below_apart k (w ∷ ws) (suc i) y below at = below_apart k ws i y (and_parts (is_lt (key_cmp k w.0)) (below_all key_cmp k ws) below).1 at

-- the first write that is not locked is the one after those that are
unlocked_at : (held : List (Key × Mode)) (ws : List (Key × Value)) (g : ℕ) → is_sorted key_cmp ws ≡ true →
    ((i : ℕ) (y : Key × Value) → slice_get ws i ≡ Some y → held_writing (mode_of y.0 held) ≡ has_key y.0 (take g ws)) → unlocked ws held ≡ key_in (slice_get ws g)
unlocked_at held [] g sorted locked = refl
unlocked_at held (w ∷ ws) zero sorted locked = rw (locked 0 w refl) refl
unlocked_at held (w ∷ ws) (suc g) sorted locked =
    let parts = and_parts (below_all key_cmp w.0 ws) (is_sorted key_cmp ws) sorted in
    let here : held_writing (mode_of w.0 held) ≡ true = locked 0 w refl ∙ ap (λ (b : Bool). b || has_key w.0 (take g ws)) (same_key_itself w.0) in
    rw here (unlocked_at held ws g parts.1 (λ i y at. locked (suc i) y at ∙ ap (λ (b : Bool). b || has_key y.0 (take g ws)) (below_apart w.0 ws i y parts.0 at)))

module _ (procs : List Proc) (h : PlainHand) (run : IsRunBy procs h) where
  -- the values seen lead where the machine stands
  alike : Alike h.seen run.follows.reads (ahead h.machine []) (stage procs h.call h.seen)
  alike =
      subst (λ (s : given.Stage). Alike h.seen run.follows.reads s (stage procs h.call h.seen)) (sym (is_at_now procs h.call _ h.machine.granted h.machine run.follows.at))
      (machine_alike procs h.call h.seen run.follows.reads run.follows.asked run.follows.saw)

  -- the effect of a call that has finished
  pub record Effected : Type 0 where
    pub reply : Reply
    pub finished : next_want h.machine ≡ Finished reply
    pub writes : (effect_of procs h).writes ≡ buffered h.machine
    pub replies : (effect_of procs h).reply ≡ reply
    pub ended : stage procs h.call h.seen ≡ Ends (record { reads = run.follows.reads; writes = buffered h.machine; reply = reply })

  pub effected : IsFinished (next_want h.machine) → Effected
  effected is =
      let e = has_ended h.machine is in
      let ends : stage procs h.call h.seen ≡ Ends (record { reads = run.follows.reads; writes = buffered h.machine; reply = e.reply }) =
      subst (λ (s : given.Stage). Alike h.seen run.follows.reads s (stage procs h.call h.seen)) e.ended alike in
      record { reply = e.reply; finished = e.finished; writes = ap (λ (s : Stage). (effect_in s).writes) ends; replies = ap (λ (s : Stage). (effect_in s).reply) ends; ended = ends }

  -- the lock that the machine wants is the worker's next one
  pub lock_is : HoldsGranted h → is_sorted key_cmp (buffered h.machine) ≡ true → (want : Want) → next_want h.machine ≡ want → lock_of (stage procs h.call h.seen) h.held ≡ lock_by want
  lock_is holds sorted (Read k) e =
      let wants = read_wants h.machine k e in
      let ends : stage procs h.call h.seen ≡ Wants run.follows.reads k =
      subst (λ (s : given.Stage). Alike h.seen run.follows.reads s (stage procs h.call h.seen)) wants alike (subst (WantsUnseen h.seen) wants run.unseen) in
      ap (λ (s : Stage). lock_of s h.held) ends
  lock_is holds sorted (Write k) e =
      let w = write_wants h.machine k e in
      let ends = subst (λ (s : given.Stage). Alike h.seen run.follows.reads s (stage procs h.call h.seen)) w.ended alike in
      let same : buffered h.machine ≡ w.writes = buffered_ends h.machine w.writes w.reply w.ended in
      let at : unlocked w.writes h.held ≡ Some k =
      unlocked_at h.held w.writes h.machine.granted (subst (λ (ws : List (Key × Value)). is_sorted key_cmp ws ≡ true) same sorted)
      (λ i y there. holds.locked y.0 ∙ ap (λ (ws : List (Key × Value)). has_key y.0 (take h.machine.granted ws)) same)
      ∙ ap key_in w.there ∙ ap (λ (x : Key). Some x) w.key in
      ap (λ (s : Stage). lock_of s h.held) ends ∙ ap write_want at
  lock_is holds sorted (Finished reply) e =
      let f = has_ended h.machine (subst IsFinished (sym e) tt) in
      let ends = subst (λ (s : given.Stage). Alike h.seen run.follows.reads s (stage procs h.call h.seen)) f.ended alike in
      let at : unlocked (buffered h.machine) h.held ≡ None =
      unlocked_at h.held (buffered h.machine) h.machine.granted sorted (λ i y there. holds.locked y.0) ∙ ap key_in f.none_left in
      ap (λ (s : Stage). lock_of s h.held) ends ∙ ap write_want at

-- the first lock of a call
module _ (procs : List Proc) (c : Call) (takes : IsTrue (takes procs c)) (limits : KeepsLimits procs) (m : Progress) (at : IsAt procs c [] 0 m) where
  abbrev first : PlainHand
  first = record {
    number = 1;
    call = c;
    machine = m;
    tries = 0;
    leaves = false;
    given_up = false;
    standing = Running;
    dep = [];
    held = [];
    seen = [];
    anchor = 0;
    stream = 0;
    start = 0;
    past = 0;
    lv = [];
    bytes = [];
  }

  unseen_first : (s : given.Stage) → WantsUnseen [] s
  unseen_first (given.Wants k) = refl
  unseen_first (given.Ends ws reply) = tt

  none_first : (s : given.Stage) → GrantsNone m.granted s
  none_first (given.Wants k) = at.granted
  none_first (given.Ends ws reply) = tt

  none_taken : (g : ℕ) (x : Key) → g ≡ 0 → has_key x (take g (buffered m)) ≡ false
  none_taken g x e = ap (λ (n : ℕ). has_key x (take n (buffered m))) e

  runs_first : IsRunBy procs first
  runs_first = record {
    takes = takes;
    limits = limits;
    follows = record { reads = []; asked = tt; saw = tt; few = omega arith; at = subst (λ (n : ℕ). IsAt procs c [] n m) (sym at.granted) at };
    unseen = unseen_first (ahead m []);
    none = none_first (ahead m []);
    number = omega arith;
    tries = omega arith;
    holds = λ running. record { locked = λ x. sym (none_taken m.granted x at.granted); room = omega arith };
    finished = λ hc. absurd hc;
    vector = λ hc. absurd hc;
  }

  pub first_is : is_sorted key_cmp (buffered m) ≡ true → (want : Want) → want ≡ next_want m → lock_by want ≡ lock_of (stage procs c []) []
  first_is sorted want e = sym (lock_is procs first runs_first (runs_first.holds refl) sorted want (sym e))
