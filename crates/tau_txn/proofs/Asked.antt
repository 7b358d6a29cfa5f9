-- What stands after the action that a call asks for.
use Rattle.std.proofs.Common.{ℕ, ◌≤◌, ◌≡◌, Bool, true, false, List, [], ◌∷◌, length, refl, sym, ap, subst, ◌∙◌, arith, inl, inr, eqb-true}
use Rattle.std.specs.Prelude.{Option, Some, ◌==◌, ◌⊎◌, if◌then◌else◌}
use Rattle.std.specs.Map.{lookup}
use Rattle.std.proofs.lemmas.Bool.{both_ways}
use Rattle.tau_base.specs.declared.value.Key.{Key}
use Rattle.tau_base.specs.declared.value.Value.{Value}
use Rattle.tau_base.specs.declared.value.Mode.{Mode}
use Rattle.tau_base.specs.Database.{same_key}
use Rattle.tau_proc.specs.declared.reply.Reply.{Reply}
use Rattle.tau_proc.specs.declared.reply.Want.{Want}
use Rattle.tau_proc.specs.declared.reply.Want.TheVariants.{Read, Write, Finished}
use Rattle.tau_proc.specs.Progress.{buffered, next_want}
use Rattle.tau_txn.specs.declared.standing.Standing.{Standing}
use Rattle.tau_txn.specs.declared.standing.Standing.TheVariants.{Running, Quitting, Placed, Freeing, LeftOver}
use Rattle.tau_txn.specs.declared.action.Action.{Action}
use Rattle.tau_txn.specs.declared.action.Action.TheVariants as action
use Rattle.tau_txn.specs.Hand.{PlainHand}
use Rattle.tau_txn.specs.Actions.{quits, frees}
use Rattle.tau_txn.specs.Next.{ends_with, asks, frees_on, next_by, IsForWent, IsLock, IsCommit}
use Rattle.tau_txn.specs.Progress.{IsFinished}
use Rattle.tau_txn.specs.Kept.{is_leaving}
use Rattle.tau_txn.specs.Steps.{lock_by, lock_in, first_key}

no_writes : (ws : List (Key × Value)) → (length ws == 0) ≡ true → ws ≡ []
no_writes [] e = refl
no_writes (w ∷ ws) e = absurd (let a = eqb-true (length (w ∷ ws)) 0 e in omega (arith, a))

some_writes : (ws : List (Key × Value)) → (length ws == 0) ≡ false → 1 ≤ length ws
some_writes [] e = absurd (both_ways true e refl)
some_writes (w ∷ ws) e = omega arith

module _ (h : PlainHand) where
  pub record LockAsked (x : Key) (m : Mode) : Type 0 where
    pub running : h.standing ≡ Running
    pub stays : h.leaves ≡ false
    pub lock : lock_in h ≡ Some (x, m)

  pub record QuitAsked (x : Key) : Type 0 where
    pub leaving : is_leaving h.standing h.leaves ≡ true
    pub key : first_key h.held ≡ Some x

  pub record CommitAsked (size : ℕ) : Type 0 where
    pub running : h.standing ≡ Running
    pub stays : h.leaves ≡ false
    pub reply : Reply
    pub finished : next_want h.machine ≡ Finished reply
    pub some : 1 ≤ length (buffered h.machine)
    pub size_is : size ≡ length h.bytes

  -- a read-only call that has finished
  pub record ReadsOnly : Type 0 where
    pub running : h.standing ≡ Running
    pub stays : h.leaves ≡ false
    pub none : buffered h.machine ≡ []

  -- a call that frees its keys with this vector and these writes
  abbrev pub FreesWith : List ℕ → List (Key × Value) → Type 0
  FreesWith v ws = ((h.standing ≡ Freeing) × (v ≡ h.lv) × (ws ≡ buffered h.machine)) ⊎ (ReadsOnly × (v ≡ h.dep) × (ws ≡ []))

  pub record FreeAsked (x : Key) (write : Option Value) : Type 0 where
    pub key : first_key h.held ≡ Some x
    pub reply : Reply
    pub finished : next_want h.machine ≡ Finished reply
    pub vector : List ℕ
    pub writes : List (Key × Value)
    pub why : FreesWith vector writes
    pub write_is : write ≡ lookup (same_key x) writes

  pub record DoneAsked (reply : Reply) (vector : List ℕ) : Type 0 where
    pub held : h.held ≡ []
    pub finished : next_want h.machine ≡ Finished reply
    pub writes : List (Key × Value)
    pub why : FreesWith vector writes

  -- nothing is asked where a call that is to quit holds no key, or one that frees its keys has not finished
  abbrev pub NothingAsked : Type 0
  NothingAsked = ((is_leaving h.standing h.leaves ≡ true) × (h.held ≡ [])) ⊎ ((h.standing ≡ Freeing) × (IsFinished (next_want h.machine) → ⊥))

  abbrev pub Asked : Action → Type 0
  Asked (action.Lock x m) = LockAsked x m
  Asked (action.Quit x) = QuitAsked x
  Asked (action.Commit size) = CommitAsked size
  Asked action.Post = h.standing ≡ Placed
  Asked (action.Free x write) = FreeAsked x write
  Asked (action.Done reply v) = DoneAsked reply v
  Asked action.LeftOver = h.standing ≡ LeftOver
  Asked action.Nothing = NothingAsked

  asked_quits : is_leaving h.standing h.leaves ≡ true → (held : List (Key × Mode)) → h.held ≡ held → Asked (quits held)
  asked_quits leaving [] e = inl (leaving, e)
  asked_quits leaving (k ∷ ks) e = record { leaving = leaving; key = ap first_key e }

  asked_frees : (reply : Reply) (v : List ℕ) (ws : List (Key × Value)) → next_want h.machine ≡ Finished reply → FreesWith v ws → (held : List (Key × Mode)) → h.held ≡ held →
      Asked (frees reply v ws held)
  asked_frees reply v ws finished why [] e = record { held = e; finished = finished; writes = ws; why = why }
  asked_frees reply v ws finished why (k ∷ ks) e = record { key = ap first_key e; reply = reply; finished = finished; vector = v; writes = ws; why = why; write_is = refl }

  asked_ends : h.standing ≡ Running → h.leaves ≡ false → (reply : Reply) → next_want h.machine ≡ Finished reply → (b : Bool) → (length (buffered h.machine) == 0) ≡ b → Asked (ends_with b reply h)
  asked_ends running stays reply finished true e =
      asked_frees reply h.dep [] finished (inr (record { running = running; stays = stays; none = no_writes (buffered h.machine) e }, refl, refl)) h.held refl
  asked_ends running stays reply finished false e =
      record { running = running; stays = stays; reply = reply; finished = finished; some = some_writes (buffered h.machine) e; size_is = refl }

  asked_runs : h.standing ≡ Running → h.leaves ≡ false → (want : Want) → next_want h.machine ≡ want → Asked (asks want h)
  asked_runs running stays (Read x) e = record { running = running; stays = stays; lock = ap lock_by e }
  asked_runs running stays (Write x) e = record { running = running; stays = stays; lock = ap lock_by e }
  asked_runs running stays (Finished reply) e = asked_ends running stays reply e (length (buffered h.machine) == 0) refl

  asked_freeing : h.standing ≡ Freeing → (want : Want) → next_want h.machine ≡ want → Asked (frees_on want h)
  asked_freeing freeing (Read x) e = inr (freeing, λ (f : IsFinished (next_want h.machine)). subst IsFinished e f)
  asked_freeing freeing (Write x) e = inr (freeing, λ (f : IsFinished (next_want h.machine)). subst IsFinished e f)
  asked_freeing freeing (Finished reply) e = asked_frees reply h.lv (buffered h.machine) e (inl (freeing, refl, refl)) h.held refl

  pub asked : Asked (next_by h.standing h)
  asked = at h.standing refl
    where
      leaves' : (b : Bool) → h.leaves ≡ b → h.standing ≡ Running → Asked (if b then quits h.held else asks (next_want h.machine) h)
      leaves' true is running = asked_quits (ap (λ (s : Standing). is_leaving s h.leaves) running ∙ is) h.held refl
      leaves' false is running = asked_runs running is (next_want h.machine) refl

      at : (s : Standing) → h.standing ≡ s → Asked (next_by s h)
      at Running is = leaves' h.leaves refl is
      at Quitting is = asked_quits (ap (λ (s : Standing). is_leaving s h.leaves) is) h.held refl
      at Placed is = is
      at Freeing is = asked_freeing is (next_want h.machine) refl
      at LeftOver is = is

  pub asked_at : (a : Action) → next_by h.standing h ≡ a → Asked a
  asked_at a e = subst Asked e asked

-- which locks, and which commits

pub record LockIs (a : Action) : Type 0 where
  pub key : Key
  pub mode : Mode
  pub is : a ≡ action.Lock key mode

pub lock_is_one : (a : Action) → IsLock a → LockIs a
lock_is_one (action.Lock x m) h = record { key = x; mode = m; is = refl }
lock_is_one (action.Quit x) h = absurd h
lock_is_one (action.Commit size) h = absurd h
lock_is_one action.Post h = absurd h
lock_is_one (action.Free x write) h = absurd h
lock_is_one (action.Done reply lv) h = absurd h
lock_is_one action.LeftOver h = absurd h
lock_is_one action.Nothing h = absurd h

pub record CommitIs (a : Action) : Type 0 where
  pub size : ℕ
  pub is : a ≡ action.Commit size

pub commit_is_one : (a : Action) → IsCommit a → CommitIs a
commit_is_one (action.Commit size) h = record { size = size; is = refl }
commit_is_one (action.Lock x m) h = absurd h
commit_is_one (action.Quit x) h = absurd h
commit_is_one action.Post h = absurd h
commit_is_one (action.Free x write) h = absurd h
commit_is_one (action.Done reply lv) h = absurd h
commit_is_one action.LeftOver h = absurd h
commit_is_one action.Nothing h = absurd h

pub lock_of : (h : PlainHand) → IsLock (next_by h.standing h) → (l : LockIs (next_by h.standing h)) × LockAsked h l.key l.mode
lock_of h is = let l = lock_is_one (next_by h.standing h) is in (l, asked_at h (action.Lock l.key l.mode) l.is)

pub commit_of : (h : PlainHand) → IsCommit (next_by h.standing h) → (l : CommitIs (next_by h.standing h)) × CommitAsked h l.size
commit_of h is = let l = commit_is_one (next_by h.standing h) is in (l, asked_at h (action.Commit l.size) l.is)

-- a call that runs, is not to be given up, and has no action with an answer of its own is read-only and has finished
pub reads_only : (h : PlainHand) → h.standing ≡ Running → h.leaves ≡ false → IsForWent (next_by h.standing h) → ReadsOnly h × IsFinished (next_want h.machine)
reads_only h running stays rest = at (next_by h.standing h) refl rest
  where
    of_why : (v : List ℕ) (ws : List (Key × Value)) → FreesWith h v ws → ReadsOnly h
    of_why v ws (inl freeing) = let bad : Freeing ≡ Running = sym freeing.0 ∙ running in cc
    of_why v ws (inr reads) = reads.0

    never : is_leaving h.standing h.leaves ≡ true → ⊥
    never e = let a : is_leaving Running false ≡ true = subst (λ (b : Bool). is_leaving Running b ≡ true) stays (subst (λ (s : Standing). is_leaving s h.leaves ≡ true) running e) in cc

    at : (a : Action) → next_by h.standing h ≡ a → IsForWent a → ReadsOnly h × IsFinished (next_want h.machine)
    at (action.Lock x m) e r = absurd r
    at (action.Commit size) e r = absurd r
    at action.Post e r = absurd r
    at (action.Quit x) e r = absurd (never (asked_at h (action.Quit x) e).leaving)
    at (action.Free x write) e r = let f = asked_at h (action.Free x write) e in (of_why f.vector f.writes f.why, subst IsFinished (sym f.finished) tt)
    at (action.Done reply v) e r = let f = asked_at h (action.Done reply v) e in (of_why v f.writes f.why, subst IsFinished (sym f.finished) tt)
    at action.LeftOver e r = let bad : Running ≡ LeftOver = sym running ∙ asked_at h action.LeftOver e in cc
    at action.Nothing e r = elim (asked_at h action.Nothing e) [
      | inl quits' ↦ absurd (never quits'.0)
      | inr frees' ↦ let bad : Freeing ≡ Running = sym frees'.0 ∙ running in cc
    ]
