-- What is asked of the next action, one thing at a time, is a part of that action.
use Rattle.std.proofs.Common.{ℕ, ◌≡◌, Bool, true, false, List, [], ◌∷◌, length, refl, sym, ap, subst, ◌∙◌, inl, inr}
use Rattle.std.specs.Prelude.{Option, Some, None, IfSome, IfNone, is_some, ◌==◌, if◌then◌else◌}
use Rattle.std.specs.Map.{lookup}
use Rattle.tau_base.specs.declared.value.Key.{Key}
use Rattle.tau_base.specs.declared.value.Value.{Value}
use Rattle.tau_base.specs.declared.value.Mode.{Mode}
use Rattle.tau_base.specs.Database.{same_key}
use Rattle.tau_proc.specs.declared.proc.Proc.{Proc}
use Rattle.tau_proc.specs.declared.reply.Reply.{Reply}
use Rattle.tau_proc.specs.declared.reply.Want.{Want}
use Rattle.tau_proc.specs.declared.reply.Want.TheVariants.{Read, Write, Finished}
use Rattle.tau_proc.specs.Progress.{buffered, next_want}
use Rattle.tau_txn.specs.declared.standing.Standing.{Standing}
use Rattle.tau_txn.specs.declared.standing.Standing.TheVariants.{Running, Quitting, Placed, Freeing, LeftOver}
use Rattle.tau_txn.specs.declared.action.Action.{Action}
use Rattle.tau_txn.specs.declared.action.Action.TheVariants as action
use Rattle.tau_txn.specs.Hand.{PlainHand}
use Rattle.tau_txn.specs.Actions.{quits, frees}
use Rattle.tau_txn.specs.Kept.{kept}
use Rattle.tau_txn.specs.Next.{ends_with, asks, frees_on, next_by, next_action, Means, Locks, Quits, Frees, IsLeftOver, lock_by as numbered_lock}
use Rattle.tau_txn.specs.Steps.{lock_by, first_key}
use Rattle.tau_txn.specs.Txn.{PlainTxn}
use Rattle.tau_txn.specs.Narrow.{lock_at, quit_at, free_at, left_over_at, written_in, lock_asked, quit_asked, free_wanted, free_asked, is_left_over}
use Rattle.tau_txn.proofs.Asked.{asked_at, FreesWith}

-- the lock

lock_quits : (held : List (Key × Mode)) → lock_at (quits held) ≡ None
lock_quits [] = refl
lock_quits (k ∷ ks) = refl

lock_frees : (reply : Reply) (v : List ℕ) (ws : List (Key × Value)) (held : List (Key × Mode)) → lock_at (frees reply v ws held) ≡ None
lock_frees reply v ws [] = refl
lock_frees reply v ws (k ∷ ks) = refl

lock_ends : (b : Bool) (reply : Reply) (h : PlainHand) → lock_at (ends_with b reply h) ≡ None
lock_ends true reply h = lock_frees reply h.dep [] h.held
lock_ends false reply h = refl

lock_asks : (want : Want) (h : PlainHand) → lock_at (asks want h) ≡ lock_by want
lock_asks (Read x) h = refl
lock_asks (Write x) h = refl
lock_asks (Finished reply) h = lock_ends (length (buffered h.machine) == 0) reply h

lock_freeing : (want : Want) (h : PlainHand) → lock_at (frees_on want h) ≡ None
lock_freeing (Read x) h = refl
lock_freeing (Write x) h = refl
lock_freeing (Finished reply) h = lock_frees reply h.lv (buffered h.machine) h.held

lock_running : (b : Bool) (h : PlainHand) → lock_at (if b then quits h.held else asks (next_want h.machine) h) ≡ (if b then None else lock_by (next_want h.machine))
lock_running true h = lock_quits h.held
lock_running false h = lock_asks (next_want h.machine) h

pub lock_next : (s : Standing) (h : PlainHand) → lock_at (next_by s h) ≡ lock_asked s h
lock_next Running h = lock_running h.leaves h
lock_next Quitting h = lock_quits h.held
lock_next Placed h = refl
lock_next Freeing h = lock_freeing (next_want h.machine) h
lock_next LeftOver h = refl

-- the key to give back

quit_quits : (held : List (Key × Mode)) → quit_at (quits held) ≡ first_key held
quit_quits [] = refl
quit_quits (k ∷ ks) = refl

quit_frees : (reply : Reply) (v : List ℕ) (ws : List (Key × Value)) (held : List (Key × Mode)) → quit_at (frees reply v ws held) ≡ None
quit_frees reply v ws [] = refl
quit_frees reply v ws (k ∷ ks) = refl

quit_ends : (b : Bool) (reply : Reply) (h : PlainHand) → quit_at (ends_with b reply h) ≡ None
quit_ends true reply h = quit_frees reply h.dep [] h.held
quit_ends false reply h = refl

quit_asks : (want : Want) (h : PlainHand) → quit_at (asks want h) ≡ None
quit_asks (Read x) h = refl
quit_asks (Write x) h = refl
quit_asks (Finished reply) h = quit_ends (length (buffered h.machine) == 0) reply h

quit_freeing : (want : Want) (h : PlainHand) → quit_at (frees_on want h) ≡ None
quit_freeing (Read x) h = refl
quit_freeing (Write x) h = refl
quit_freeing (Finished reply) h = quit_frees reply h.lv (buffered h.machine) h.held

quit_running : (b : Bool) (h : PlainHand) → quit_at (if b then quits h.held else asks (next_want h.machine) h) ≡ (if b then first_key h.held else None)
quit_running true h = quit_quits h.held
quit_running false h = quit_asks (next_want h.machine) h

pub quit_next : (s : Standing) (h : PlainHand) → quit_at (next_by s h) ≡ quit_asked s h
quit_next Running h = quit_running h.leaves h
quit_next Quitting h = quit_quits h.held
quit_next Placed h = refl
quit_next Freeing h = quit_freeing (next_want h.machine) h
quit_next LeftOver h = refl

-- the key to free

free_quits : (held : List (Key × Mode)) → free_at (quits held) ≡ None
free_quits [] = refl
free_quits (k ∷ ks) = refl

free_frees : (reply : Reply) (v : List ℕ) (ws : List (Key × Value)) (held : List (Key × Mode)) → free_at (frees reply v ws held) ≡ first_key held
free_frees reply v ws [] = refl
free_frees reply v ws (k ∷ ks) = refl

free_ends : (b : Bool) (reply : Reply) (h : PlainHand) → free_at (ends_with b reply h) ≡ free_wanted b (Finished reply) h.held
free_ends true reply h = free_frees reply h.dep [] h.held
free_ends false reply h = refl

free_read : (b : Bool) (x : Key) (held : List (Key × Mode)) → None ≡ free_wanted b (Read x) held
free_read true x held = refl
free_read false x held = refl

free_write : (b : Bool) (x : Key) (held : List (Key × Mode)) → None ≡ free_wanted b (Write x) held
free_write true x held = refl
free_write false x held = refl

free_asks : (want : Want) (h : PlainHand) → free_at (asks want h) ≡ free_wanted (length (buffered h.machine) == 0) want h.held
free_asks (Read x) h = free_read (length (buffered h.machine) == 0) x h.held
free_asks (Write x) h = free_write (length (buffered h.machine) == 0) x h.held
free_asks (Finished reply) h = free_ends (length (buffered h.machine) == 0) reply h

free_freeing : (want : Want) (h : PlainHand) → free_at (frees_on want h) ≡ free_wanted true want h.held
free_freeing (Read x) h = refl
free_freeing (Write x) h = refl
free_freeing (Finished reply) h = free_frees reply h.lv (buffered h.machine) h.held

free_running : (b : Bool) (h : PlainHand) →
    free_at (if b then quits h.held else asks (next_want h.machine) h) ≡ (if b then None else free_wanted (length (buffered h.machine) == 0) (next_want h.machine) h.held)
free_running true h = free_quits h.held
free_running false h = free_asks (next_want h.machine) h

pub free_next : (s : Standing) (h : PlainHand) → free_at (next_by s h) ≡ free_asked s h
free_next Running h = free_running h.leaves h
free_next Quitting h = free_quits h.held
free_next Placed h = refl
free_next Freeing h = free_freeing (next_want h.machine) h
free_next LeftOver h = refl

-- whether the call is left over

left_quits : (held : List (Key × Mode)) → left_over_at (quits held) ≡ false
left_quits [] = refl
left_quits (k ∷ ks) = refl

left_frees : (reply : Reply) (v : List ℕ) (ws : List (Key × Value)) (held : List (Key × Mode)) → left_over_at (frees reply v ws held) ≡ false
left_frees reply v ws [] = refl
left_frees reply v ws (k ∷ ks) = refl

left_ends : (b : Bool) (reply : Reply) (h : PlainHand) → left_over_at (ends_with b reply h) ≡ false
left_ends true reply h = left_frees reply h.dep [] h.held
left_ends false reply h = refl

left_asks : (want : Want) (h : PlainHand) → left_over_at (asks want h) ≡ false
left_asks (Read x) h = refl
left_asks (Write x) h = refl
left_asks (Finished reply) h = left_ends (length (buffered h.machine) == 0) reply h

left_freeing : (want : Want) (h : PlainHand) → left_over_at (frees_on want h) ≡ false
left_freeing (Read x) h = refl
left_freeing (Write x) h = refl
left_freeing (Finished reply) h = left_frees reply h.lv (buffered h.machine) h.held

left_running : (b : Bool) (h : PlainHand) → left_over_at (if b then quits h.held else asks (next_want h.machine) h) ≡ false
left_running true h = left_quits h.held
left_running false h = left_asks (next_want h.machine) h

pub left_next : (s : Standing) (h : PlainHand) → left_over_at (next_by s h) ≡ is_left_over s
left_next Running h = left_running h.leaves h
left_next Quitting h = left_quits h.held
left_next Placed h = refl
left_next Freeing h = left_freeing (next_want h.machine) h
left_next LeftOver h = refl

-- the action after an answer

lock_of : (a : Action) → IfSome (lock_at a) (λ l. a ≡ action.Lock l.0 l.1)
lock_of (action.Lock x m) = refl
lock_of (action.Quit x) = tt
lock_of (action.Commit size) = tt
lock_of action.Post = tt
lock_of (action.Free x write) = tt
lock_of (action.Done reply v) = tt
lock_of action.LeftOver = tt
lock_of action.Nothing = tt

quit_of : (a : Action) → IfSome (quit_at a) (λ x. a ≡ action.Quit x)
quit_of (action.Quit x) = refl
quit_of (action.Lock x m) = tt
quit_of (action.Commit size) = tt
quit_of action.Post = tt
quit_of (action.Free x write) = tt
quit_of (action.Done reply v) = tt
quit_of action.LeftOver = tt
quit_of action.Nothing = tt

-- what frees a key frees it with what the call wrote there
free_writes : (h : PlainHand) (x : Key) (write : Option Value) → next_by h.standing h ≡ action.Free x write → write ≡ lookup (same_key x) (buffered h.machine)
free_writes h x write e = let f = asked_at h (action.Free x write) e in f.write_is ∙ ap (lookup (same_key x)) (writes f.vector f.writes f.why)
  where
    writes : (v : List ℕ) (ws : List (Key × Value)) → FreesWith h v ws → ws ≡ buffered h.machine
    writes v ws (inl f) = f.2
    writes v ws (inr f) = f.2 ∙ sym f.0.none

free_of : (h : PlainHand) (a : Action) → next_by h.standing h ≡ a → IfSome (free_at a) (λ x. a ≡ action.Free x (lookup (same_key x) (buffered h.machine)))
free_of h (action.Free x write) e = ap (λ (w : Option Value). action.Free x w) (free_writes h x write e)
free_of h (action.Lock x m) e = tt
free_of h (action.Quit x) e = tt
free_of h (action.Commit size) e = tt
free_of h action.Post e = tt
free_of h (action.Done reply v) e = tt
free_of h action.LeftOver e = tt
free_of h action.Nothing e = tt

module _ (t : PlainTxn) where
  pub lock_is : (r : Option (Key × Mode)) → r ≡ lock_at (next_action t) → IfSome r (λ l. next_action t ≡ action.Lock l.0 l.1)
  lock_is r e = subst (λ (o : Option (Key × Mode)). IfSome o (λ l. next_action t ≡ action.Lock l.0 l.1)) (sym e) (lock_of (next_action t))

  pub quit_is : (r : Option Key) → r ≡ quit_at (next_action t) → IfSome r (λ x. next_action t ≡ action.Quit x)
  quit_is r e = subst (λ (o : Option Key). IfSome o (λ x. next_action t ≡ action.Quit x)) (sym e) (quit_of (next_action t))

  pub lock_other : (r : Option (Key × Mode)) → r ≡ lock_at (next_action t) → IfNone r ((x : Key) (m : Mode) → next_action t ≡ action.Lock x m → ⊥)
  lock_other None e = λ x m a. let bad : ◌≡◌ {A = Option (Key × Mode)} None (Some (x, m)) = e ∙ ap lock_at a in cc
  lock_other (Some l) e = tt

  pub quit_other : (r : Option Key) → r ≡ quit_at (next_action t) → IfNone r ((x : Key) → next_action t ≡ action.Quit x → ⊥)
  quit_other None e = λ x a. let bad : ◌≡◌ {A = Option Key} None (Some x) = e ∙ ap quit_at a in cc
  quit_other (Some l) e = tt

  pub free_other : (r : Option Key) → r ≡ free_at (next_action t) → IfNone r ((x : Key) (write : Option Value) → next_action t ≡ action.Free x write → ⊥)
  free_other None e = λ x write a. let bad : ◌≡◌ {A = Option Key} None (Some x) = e ∙ ap free_at a in cc
  free_other (Some l) e = tt

  pub left_other : (r : Bool) → r ≡ left_over_at (next_action t) → r ≡ false → next_action t ≡ action.LeftOver → ⊥
  left_other r e f a = let bad : ◌≡◌ {A = Bool} false true = sym f ∙ e ∙ ap left_over_at a in cc

  module _ (procs : List Proc) where
    means_lock : (a : Action) → Means procs t a → IfSome (lock_at a) (λ l. Locks procs t l.0 l.1)
    means_lock (action.Lock x m) q = q
    means_lock (action.Quit x) q = tt
    means_lock (action.Commit size) q = tt
    means_lock action.Post q = tt
    means_lock (action.Free x write) q = tt
    means_lock (action.Done reply v) q = tt
    means_lock action.LeftOver q = tt
    means_lock action.Nothing q = tt

    pub lock_means : (r : Option (Key × Mode)) → r ≡ lock_at (next_action t) → Means procs t (next_action t) → IfSome r (λ l. Locks procs t l.0 l.1)
    lock_means r e q = subst (λ (o : Option (Key × Mode)). IfSome o (λ l. Locks procs t l.0 l.1)) (sym e) (means_lock (next_action t) q)

    means_quit : (a : Action) → Means procs t a → IfSome (quit_at a) (λ x. Quits procs t x)
    means_quit (action.Quit x) q = q
    means_quit (action.Lock x m) q = tt
    means_quit (action.Commit size) q = tt
    means_quit action.Post q = tt
    means_quit (action.Free x write) q = tt
    means_quit (action.Done reply v) q = tt
    means_quit action.LeftOver q = tt
    means_quit action.Nothing q = tt

    pub quit_means : (r : Option Key) → r ≡ quit_at (next_action t) → Means procs t (next_action t) → IfSome r (λ x. Quits procs t x)
    quit_means r e q = subst (λ (o : Option Key). IfSome o (λ x. Quits procs t x)) (sym e) (means_quit (next_action t) q)

    pub free_means : (r : Option Key) → IfSome r (λ x. next_action t ≡ action.Free x (written_in t x)) → Means procs t (next_action t) → IfSome r (λ x. Frees procs t x (written_in t x))
    free_means None e q = tt
    free_means (Some x) e q = subst (λ (a : Action). Means procs t a) e q

    pub left_means : (r : Bool) → r ≡ left_over_at (next_action t) → Means procs t (next_action t) → r ≡ true → IsLeftOver procs t
    left_means r e q is = at (next_action t) (sym e ∙ is) q
      where
        at : (a : Action) → left_over_at a ≡ true → Means procs t a → IsLeftOver procs t
        at action.LeftOver f m = m
        at (action.Lock x m') f m = let bad : false ≡ true = f in cc
        at (action.Quit x) f m = let bad : false ≡ true = f in cc
        at (action.Commit size) f m = let bad : false ≡ true = f in cc
        at action.Post f m = let bad : false ≡ true = f in cc
        at (action.Free x write) f m = let bad : false ≡ true = f in cc
        at (action.Done reply v) f m = let bad : false ≡ true = f in cc
        at action.Nothing f m = let bad : false ≡ true = f in cc

pub free_is : (h : PlainHand) (r : Option Key) → r ≡ free_at (next_by h.standing h) → IfSome r (λ x. next_by h.standing h ≡ action.Free x (lookup (same_key x) (buffered h.machine)))
free_is h r e =
    subst (λ (o : Option Key). IfSome o (λ x. next_by h.standing h ≡ action.Free x (lookup (same_key x) (buffered h.machine)))) (sym e) (free_of h (next_by h.standing h) refl)

pub left_is : (t : PlainTxn) (r : Bool) → r ≡ left_over_at (next_action t) → r ≡ true → next_action t ≡ action.LeftOver
left_is t r e is = at (next_action t) (sym e ∙ is)
  where
    at : (a : Action) → left_over_at a ≡ true → a ≡ action.LeftOver
    at action.LeftOver f = refl
    at (action.Lock x m) f = let bad : false ≡ true = f in cc
    at (action.Quit x) f = let bad : false ≡ true = f in cc
    at (action.Commit size) f = let bad : false ≡ true = f in cc
    at action.Post f = let bad : false ≡ true = f in cc
    at (action.Free x write) f = let bad : false ≡ true = f in cc
    at (action.Done reply v) f = let bad : false ≡ true = f in cc
    at action.Nothing f = let bad : false ≡ true = f in cc

-- a call that shows is in hand
pub is_in_hand : (b : Bool) (h : PlainHand) → is_some (kept b h) ≡ true → b ≡ true
is_in_hand true h e = refl
is_in_hand false h e = let bad : false ≡ true = e in cc

-- the lock of a call with its number

abbrev pub numbered : ℕ → Option (Key × Mode) → Option (ℕ × Key × Mode)
numbered number None = None
numbered number (Some l) = Some (number, l.0, l.1)
