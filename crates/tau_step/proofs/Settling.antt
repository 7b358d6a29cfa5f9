-- A worker that acts alone settles its call.
use Rattle.std.proofs.Common.{ℕ, ◌≡◌, inl, inr, Bool, true, false, List, [], ◌∷◌, refl, sym, ap, subst, ◌∙◌, Option}
use Rattle.std.specs.Prelude.{Some, None, not, ◌==◌, ◌&&◌}
use Rattle.std.proofs.lemmas.Bool.{cases_eq, eq-eqb}
use Rattle.tau_base.specs.declared.value.Key.{Key}
use Rattle.tau_base.specs.declared.value.Mode.{Mode}
use Rattle.tau_base.specs.Shards.{shard_number}
use Rattle.tau_proc.specs.declared.proc.Proc.{Proc}
use Rattle.tau_model.specs.History.{Act, updating, Numbered}
use Rattle.tau_machine.specs.Hands as machine
use Rattle.tau_machine.specs.Hands.{Txn, Hand, held_in}
use Rattle.tau_machine.specs.Stage.{Stage, Wants, Ends}
use Rattle.tau_shard.specs.Shard.{at, entry_in}
use Rattle.tau_machine.specs.Worker.{Worker, begun_by, hand_freed, hand_locked}
use Rattle.tau_machine.specs.State.{Setting, Core}
use Rattle.tau_machine.specs.Events as events
use Rattle.tau_machine.specs.Events.{Locks, Commits, Posts, Reads, Frees, Finishes, ready}
use Rattle.tau_shard.proofs.At.{at_same, at_other}
use Rattle.tau_shard.specs.Blocks.{against}
use Rattle.tau_core.specs.declared.event.Event.TheVariants as event
use Rattle.tau_core.specs.declared.event.Outcome.{Outcome}
use Rattle.tau_core.specs.declared.event.Outcome.TheVariants as outcome
use Rattle.tau_core.specs.declared.event.Phase.TheVariants.{Quitting}
use Rattle.tau_core.specs.declared.state.Load.{Load}
use Rattle.tau_core.specs.Phases.{hand_phase, phase_by, running_phase, finished_phase, freeing_phase}
use Rattle.tau_core.specs.State.{Plain}
use Rattle.tau_core.specs.View.{Hidden, setting_of, core_of}
use Rattle.tau_core.specs.Stands.{Stands}
use Rattle.tau_core.specs.Steps.{Steps, Happened, Unmoved, IsBarredBy}
use Rattle.tau_step.specs.Acting.{IsSettling, IsAlone, Settles}
use Rattle.tau_machine.proofs.Leads.{locked_phase}

freeing : (held : List (Key × Mode)) → freeing_phase held ≡ Quitting → ⊥
freeing [] e = cc
freeing (k ∷ ks) e = cc

finished : (b : Bool) (held : List (Key × Mode)) → finished_phase b held ≡ Quitting → ⊥
finished true held e = cc
finished false held e = freeing held e

running : (o : Option (Key × Mode)) (s : Stage) (held : List (Key × Mode)) → running_phase o s held ≡ Quitting → ⊥
running (Some l) s held e = cc
running None (Wants rs k) held e = cc
running None (Ends f) held e = finished (updating f.writes) held e

-- only a call that is to quit stands there
not_quitting : (procs : List Proc) (h : Hand) (phase : machine.Phase) → (phase ≡ machine.Quitting → ⊥) → phase_by procs h phase ≡ Quitting → ⊥
not_quitting procs h machine.Running n e = running _ _ h.held e
not_quitting procs h machine.Quitting n e = n refl
not_quitting procs h (machine.Placed t) n e = cc
not_quitting procs h (machine.Freeing t) n e = freeing h.held e

begun_left : (width : ℕ) (wk : Worker) (hand : Option Hand) (calls : List Numbered) → (begun_by width wk hand calls).left ≡ wk.left
begun_left width wk (Some h) cs = refl
begun_left width wk None [] = refl
begun_left width wk None (c ∷ cs) = refl

-- one event of a worker that is not to quit
module _ (set : Setting) (w : ℕ) where
  record Keeps (s s' : Core) : Type 0 where
    pub settling : hand_phase set.procs (s'.workers w).hand ≡ Quitting → ⊥
    pub left : (s'.workers w).left ≡ (s.workers w).left
    pub others : (u : ℕ) → (u ≡ w → ⊥) → (s'.workers u).hand ≡ (s.workers u).hand

  keeps_on : (s m s' : Core) → Keeps s m → Keeps m s' → Keeps s s'
  keeps_on s m s' a b = record { settling = b.settling; left = b.left ∙ a.left; others = λ u ne. b.others u ne ∙ a.others u ne }

  module _ (s s' : Core) where
    by_worker : (wk : Worker) → s'.workers ≡ at w wk s.workers → (hand_phase set.procs wk.hand ≡ Quitting → ⊥) → wk.left ≡ (s.workers w).left → Keeps s s'
    by_worker wk e phase left = record {
      settling = subst (λ (k : Worker). hand_phase set.procs k.hand ≡ Quitting → ⊥) (sym (ap (λ (f : ℕ → Worker). f w) e ∙ at_same w wk s.workers)) phase;
      left = ap (λ (f : ℕ → Worker). (f w).left) e ∙ ap (λ (k : Worker). k.left) (at_same w wk s.workers) ∙ left;
      others = λ u ne. ap (λ (f : ℕ → Worker). (f u).hand) e ∙ ap (λ (k : Worker). k.hand) (at_other w wk s.workers u ne);
    }

    begun_same : (ready set s w).left ≡ (s.workers w).left
    begun_same = begun_left set.width (s.workers w) (s.workers w).hand (s.workers w).waiting

    locks : Locks set w s s' → Keeps s s'
    locks q =
        let sh = s.shards (set.shard_of q.key) in
        let hand = hand_locked q.hand q.key q.mode (sh.rows q.key) (entry_in sh q.key).write_lv (entry_in sh q.key).read_lv in
        by_worker (record (ready set s w) { hand = Some hand }) (ap (λ (c : Core). c.workers) q.after)
        (not_quitting set.procs hand hand.phase (λ e. let bad : machine.Running ≡ machine.Quitting = sym q.phase ∙ sym (locked_phase q.hand q.key q.mode (sh.rows q.key) (entry_in sh q.key).write_lv (entry_in sh q.key).read_lv) ∙ e in cc))
        begun_same

    commits : (t : Act Txn) → Commits set w s s' t → Keeps s s'
    commits t q =
        by_worker (record (ready set s w) { hand = Some (record q.hand { phase = machine.Placed t; dep = t.call.place.dep }); committed = _ }) (ap (λ (c : Core). c.workers) q.after) (λ e. cc) begun_same

    posts : Posts set w s s' → Keeps s s'
    posts q = by_worker (record (s.workers w) { hand = Some (record q.hand { phase = machine.Freeing q.act }) }) (ap (λ (c : Core). c.workers) q.after) (λ e. freeing q.hand.held e) refl

    reads : (t : Act Txn) → Reads set w s s' t → Keeps s s'
    reads t q =
        by_worker (record (ready set s w) { hand = Some (record q.hand { phase = machine.Freeing t; dep = q.hand.dep }); committed = _ }) (ap (λ (c : Core). c.workers) q.after) (λ e. freeing q.hand.held e) begun_same

    frees : Frees set w s s' → Keeps s s'
    frees q =
        let hand = hand_freed q.hand q.key in
        by_worker (record (s.workers w) { hand = Some hand }) (ap (λ (c : Core). c.workers) q.after)
        (not_quitting set.procs hand hand.phase (λ e. let bad : machine.Freeing q.act ≡ machine.Quitting = sym q.phase ∙ e in cc)) refl

    finishes : Finishes set w s s' → Keeps s s'
    finishes q = by_worker (record (s.workers w) { hand = None }) (ap (λ (c : Core). c.workers) q.after) (λ e. cc) refl

pub settles_on : (w : ℕ) (p m p' : Plain) → Settles w p m → Settles w m p' → Settles w p p'
settles_on w p m p' a b = record { settling = b.settling; left = b.left ∙ a.left; others = λ u ne. b.others u ne ∙ a.others u ne }

pub settles_none : (w : ℕ) (p : Plain) → IsSettling w p → Settles w p p
settles_none w p settling = record { settling = settling; left = refl; others = λ u ne. refl }

module _ (p p' : Plain) (K : List (Act Txn)) (h : Hidden) (g : Stands p K h) (w : ℕ) (settling : IsSettling w p) where
  abbrev set : Setting
  set = setting_of p.load

  settles : (k : Hidden) → p'.load ≡ p.load → Keeps set w (core_of p h) (core_of p' k) → Settles w p p'
  settles k load q = record {
    settling = subst (λ (l : Load). hand_phase l.procs ((core_of p' k).workers w).hand ≡ Quitting → ⊥) (sym load) q.settling;
    left = q.left;
    others = q.others;
  }

  unmoved_settles : Unmoved p p' K h → Settles w p p'
  unmoved_settles u = settles u.hidden u.load (record {
    settling = subst (λ (c : Core). hand_phase p.load.procs (c.workers w).hand ≡ Quitting → ⊥) (sym u.same) settling;
    left = ap (λ (c : Core). (c.workers w).left) u.same;
    others = λ v ne. ap (λ (c : Core). (c.workers v).hand) u.same;
  })

  module _ (q : Happened (events.Lock w) p p' K h) where
    lock_settles : Settles w p p'
    lock_settles = settles q.hidden q.load (locks set w (core_of p h) (core_of p' q.hidden) q.leads.0)

  -- nobody stands against its lock
  not_barred : IsAlone w p → (holder : ℕ) → IsBarredBy p h w holder → ⊥
  not_barred alone holder (key, mode, wants, lowest) = elim (cases_eq holder w) [
    | inl e ↦ own (entry_in ((core_of p h).shards (shard_number key)) key).holders mode e lowest.0
    | inr ne ↦ other (entry_in ((core_of p h).shards (shard_number key)) key).holders mode
        (g.inv.agrees.good.locks holder key ∙ ap (λ (o : Option Hand). held_in o key) (alone holder ne)) lowest.0
  ]
    where
      own : (holders : ℕ → Option Mode) (m : Mode) → holder ≡ w → (not (holder == w) && against m (holders holder)) ≡ true → ⊥
      own holders m e t = let bad : false ≡ true = sym (ap (λ (b : Bool). not b && against m (holders holder)) (eq-eqb holder w e)) ∙ t in cc

      none : (b : Bool) (m : Mode) → (b && against m None) ≡ true → ⊥
      none true m e = cc
      none false m e = cc

      other : (holders : ℕ → Option Mode) (m : Mode) → holders holder ≡ None → (not (holder == w) && against m (holders holder)) ≡ true → ⊥
      other holders m e t = none (not (holder == w)) m (ap (λ (o : Option Mode). not (holder == w) && against m o) (sym e) ∙ t)

  pub locked_settles : IsAlone w p → (o : Outcome) → Steps p p' K h (event.Lock w) o → Settles w p p'
  locked_settles alone outcome.Went t = absurd t
  locked_settles alone (outcome.Granted value) t = lock_settles t.0
  locked_settles alone (outcome.Busy holder) t = absurd (not_barred alone holder t.1)
  locked_settles alone (outcome.Placed start) t = absurd t
  locked_settles alone (outcome.Gathered upto) t = absurd t
  locked_settles alone (outcome.Acked number lv) t = absurd t
  locked_settles alone outcome.NothingCovered t = absurd t
  locked_settles alone (outcome.NotNow phase) t = unmoved_settles t.0
  locked_settles alone outcome.NoMemory t = unmoved_settles t.0

  pub commit_settles : (o : Outcome) → Steps p p' K h (event.Commit w) o → Settles w p p'
  commit_settles outcome.Went t = absurd t
  commit_settles (outcome.Granted value) t = absurd t
  commit_settles (outcome.Busy holder) t = absurd t
  commit_settles (outcome.Placed start) t = settles t.0.hidden t.0.load (commits set w (core_of p h) (core_of p' t.0.hidden) t.0.leads.0 t.0.leads.1)
  commit_settles (outcome.Gathered upto) t = absurd t
  commit_settles (outcome.Acked number lv) t = absurd t
  commit_settles outcome.NothingCovered t = absurd t
  commit_settles (outcome.NotNow phase) t = unmoved_settles t.0
  commit_settles outcome.NoMemory t = unmoved_settles t.0

  pub post_settles : (o : Outcome) → Steps p p' K h (event.Post w) o → Settles w p p'
  post_settles outcome.Went t = settles t.hidden t.load (posts set w (core_of p h) (core_of p' t.hidden) t.leads.0)
  post_settles (outcome.Granted value) t = absurd t
  post_settles (outcome.Busy holder) t = absurd t
  post_settles (outcome.Placed start) t = absurd t
  post_settles (outcome.Gathered upto) t = absurd t
  post_settles (outcome.Acked number lv) t = absurd t
  post_settles outcome.NothingCovered t = absurd t
  post_settles (outcome.NotNow phase) t = unmoved_settles t.0
  post_settles outcome.NoMemory t = absurd t

  pub free_settles : (o : Outcome) → Steps p p' K h (event.Free w) o → Settles w p p'
  free_settles outcome.Went t = elim t [
    | inl q ↦ settles q.hidden q.load (frees set w (core_of p h) (core_of p' q.hidden) q.leads.0)
    | inr q ↦ settles q.hidden q.load (keeps_on set w (core_of p h) q.leads.0 (core_of p' q.hidden) (reads set w (core_of p h) q.leads.0 q.leads.1 q.leads.2) (frees set w q.leads.0 (core_of p' q.hidden) q.leads.3))
  ]
  free_settles (outcome.Granted value) t = absurd t
  free_settles (outcome.Busy holder) t = absurd t
  free_settles (outcome.Placed start) t = absurd t
  free_settles (outcome.Gathered upto) t = absurd t
  free_settles (outcome.Acked number lv) t = absurd t
  free_settles outcome.NothingCovered t = absurd t
  free_settles (outcome.NotNow phase) t = unmoved_settles t.0
  free_settles outcome.NoMemory t = absurd t

  pub done_settles : (o : Outcome) → Steps p p' K h (event.Done w) o → Settles w p p'
  done_settles outcome.Went t = elim t [
    | inl q ↦ settles q.hidden q.load (finishes set w (core_of p h) (core_of p' q.hidden) q.leads.0)
    | inr q ↦ settles q.hidden q.load (keeps_on set w (core_of p h) q.leads.0 (core_of p' q.hidden) (reads set w (core_of p h) q.leads.0 q.leads.1 q.leads.2) (finishes set w q.leads.0 (core_of p' q.hidden) q.leads.3))
  ]
  done_settles (outcome.Granted value) t = absurd t
  done_settles (outcome.Busy holder) t = absurd t
  done_settles (outcome.Placed start) t = absurd t
  done_settles (outcome.Gathered upto) t = absurd t
  done_settles (outcome.Acked number lv) t = absurd t
  done_settles outcome.NothingCovered t = absurd t
  done_settles (outcome.NotNow phase) t = unmoved_settles t.0
  done_settles outcome.NoMemory t = unmoved_settles t.0
