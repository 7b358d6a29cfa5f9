-- Peekers that fit, and what leaves them so: all but the turns of workers.
use Rattle.std.proofs.Common.{ℕ, ◌<◌, ◌≤◌, ◌≡◌, inl, true, List, [], length, refl, sym, ap, subst, ◌∙◌, Option, arith}
use Rattle.std.specs.Prelude.{Some, None, OnOk, is_ok, Result, Ok, Err, replicate, slice_get}
use Rattle.std.proofs.Math.Path.{fun_ext}
use Rattle.std.proofs.lemmas.List.{get_or-replicate, length-replicate}
use Rattle.std.proofs.lemmas.Option.{get_or_from_slice_get, slice_get_past, slice_get_within}
use Rattle.tau_base.specs.declared.limits.TheConstants.{MAX_STEPS}
use Rattle.tau_base.specs.declared.value.NoMemory.{NoMemory}
use Rattle.tau_disk.specs.declared.disk.Disk.{Ghosts}
use Rattle.tau_stream.specs.declared.writer.Writer.{Writer}
use Rattle.tau_text.specs.declared.load.Turn.{Turn}
use Rattle.tau_text.specs.declared.load.Turn.TheVariants as turn
use Rattle.tau_text.specs.declared.load.Workload.{Workload}
use Rattle.tau_model.specs.History.{Act}
use Rattle.tau_machine.specs.Hands.{Txn}
use Rattle.tau_machine.specs.Worker.{Worker, begun}
use Rattle.tau_machine.specs.Events as machine
use Rattle.tau_core.specs.declared.state.Load.{Load}
use Rattle.tau_core.specs.State.{Plain}
use Rattle.tau_core.specs.Stands.{Stands, Stood}
use Rattle.tau_core.specs.Opens.{Opened, nothing}
use Rattle.tau_core.specs.View.{Hidden, core_of, setting_of, worker_at}
use Rattle.tau_occ.specs.Peeker.{PlainPeeker, blank_peeker}
use Rattle.tau_occ.specs.declared.style.Style.{Style}
use Rattle.tau_occ.specs.declared.style.Style.TheVariants.{Locking, Optimistic}
use Rattle.tau_run.specs.Fits.{Fits}
use Rattle.tau_run.specs.Turns.{Progress}
use Rattle.tau_run.proofs.Optimistic.{start_fit}
use Rattle.tau_step.specs.declared.run.Run.{Run}
use Rattle.tau_step.specs.Optimists.{AreFit, IsOfCall, PeekerFits, blank_peekers, peeks_of, ready_at, seen_in}
use Rattle.tau_step.specs.Progressed.{clerks, progress}
use Rattle.tau_step.specs.Rounding.{none_peeked, turned}
use Rattle.tau_step.specs.RunEffects.{IsOn, Manages, SameWorkers, Works}
use Rattle.tau_step.specs.Telling.{Passed}
use Rattle.tau_step.proofs.OptimistTurns.{seen_few}
use Rattle.tau_step.proofs.Others.{anchored_workers, clerked_workers, managed_workers, removed_workers}
use Rattle.tau_step.proofs.ToSteps.{IsOther}

-- ---- peekers that fit

-- of a worker that is as it was
pub peeker_same : (p p' : Plain) (w : ℕ) (q : PlainPeeker) → p'.load ≡ p.load → worker_at p' w ≡ worker_at p w → PeekerFits p w q → PeekerFits p' w q
peeker_same p p' w q load same fit = record {
  fits = subst (λ (l : Load). Fits l.procs q.seen (begun l.streams (worker_at p' w)).hand) (sym load) (subst (λ (wk : Worker). Fits p.load.procs q.seen (begun p.load.streams wk).hand) (sym same) fit.fits);
  call = subst (λ (l : Load). IsOfCall l.procs (begun l.streams (worker_at p' w)).hand q) (sym load) (subst (λ (wk : Worker). IsOfCall p.load.procs (begun p.load.streams wk).hand q) (sym same) fit.call);
}

pub fit_same : (style : Style) (load : Workload) (p p' : Plain) (qs : List PlainPeeker) → SameWorkers p p' → AreFit style load p qs → AreFit style load p' qs
fit_same Locking load p p' qs s f = f
fit_same Optimistic load p p' qs s f = record {
  procs = f.procs ∙ sym (ap (λ (l : Load). l.procs) s.load);
  calls = f.calls ∙ sym (ap (λ (l : Load). l.calls) s.load);
  count = f.count ∙ sym (ap (λ (l : Load). l.workers) s.load);
  each = λ w q e. peeker_same p p' w q s.load (ap (λ (g : ℕ → Worker). g w) s.workers) (f.each w q e);
}

few_in : (p : Plain) (w : ℕ) (o : Option PlainPeeker) → ((q : PlainPeeker) → o ≡ Some q → PeekerFits p w q) → length (seen_in o) ≤ MAX_STEPS
few_in p w None each = omega arith
few_in p w (Some q) each = seen_few p.load.procs (ready_at p w) q (each q refl).call

-- a worker peeks at most 64 values
pub fit_few : (style : Style) (load : Workload) (p : Plain) (qs : List PlainPeeker) (w : ℕ) → AreFit style load p qs → length (peeks_of qs w) ≤ MAX_STEPS
fit_few Locking load p qs w f = few_in p w (slice_get qs w) (λ q e. let bad : None ≡ Some q = sym (slice_get_past qs w (let none = ap (length {A = PlainPeeker}) f in omega (arith, none))) ∙ e in absurd (none_some q bad))
  where
    none_some : (q : PlainPeeker) → None ≡ Some q → ⊥
    none_some q e = cc
fit_few Optimistic load p qs w f = few_in p w (slice_get qs w) (λ q e. f.each w q e)

-- nobody beyond the workers peeks
pub fit_beyond : (style : Style) (load : Workload) (p : Plain) (qs : List PlainPeeker) → AreFit style load p qs → (w : ℕ) → p.load.workers ≤ w → peeks_of qs w ≡ []
fit_beyond Locking load p qs f w le = ap seen_in (slice_get_past qs w (let none = ap (length {A = PlainPeeker}) f in omega (arith, none)))
fit_beyond Optimistic load p qs f w le = ap seen_in (slice_get_past qs w (let count = f.count in omega (arith, count, le)))

-- ---- before a run begins

blank_at : (m w : ℕ) (q : PlainPeeker) → slice_get (replicate m blank_peeker) w ≡ Some q → blank_peeker ≡ q
blank_at m w q e =
    let lt : w < m = (let within = slice_get_within (replicate m blank_peeker) w q e in let long = length-replicate m blank_peeker in omega (arith, within, long)) in
    sym (get_or-replicate m w blank_peeker blank_peeker lt) ∙ get_or_from_slice_get (replicate m blank_peeker) w q blank_peeker e

blank_seen : (m w : ℕ) (o : Option PlainPeeker) → slice_get (replicate m blank_peeker) w ≡ o → seen_in o ≡ []
blank_seen m w None e = refl
blank_seen m w (Some q) e = ap (λ (x : PlainPeeker). x.seen) (sym (blank_at m w q e))

-- nothing is peeked
pub blank_none : (style : Style) (m : ℕ) → peeks_of (blank_peekers style m) ≡ none_peeked
blank_none Locking m = fun_ext (λ w. ap seen_in (slice_get_past {X = PlainPeeker} [] w (omega arith)))
blank_none Optimistic m = fun_ext (λ w. blank_seen m w (slice_get (replicate m blank_peeker) w) refl)

-- and that fits
pub blank_fit : (style : Style) (load : Workload) (p : Plain) (m : ℕ) → load.declarations.procs ≡ p.load.procs → load.calls ≡ p.load.calls → m ≡ p.load.workers → Opened p.load p → AreFit style load p (blank_peekers style m)
blank_fit Locking load p m procs calls workers o = refl
blank_fit Optimistic load p m procs calls workers o = record {
  procs = procs;
  calls = calls;
  count = length-replicate m blank_peeker ∙ workers;
  each = λ w q e. subst (λ (x : PlainPeeker). PeekerFits p w x) (blank_at m w q e)
      (record { fits = start_fit (setting_of p.load) p.load.workers p.load.streams (core_of p nothing) o.opening w; call = inl refl });
}

-- ---- workers that stay as they are

pub workers_none : (p : Plain) → SameWorkers p p
workers_none p = record { load = refl; workers = refl }

pub workers_on : (p q p' : Plain) → SameWorkers p q → SameWorkers q p' → SameWorkers p p'
workers_on p q p' a b = record { load = b.load ∙ a.load; workers = b.workers ∙ a.workers }

turned_workers : (t : Turn) → IsOther t → (l : Load) (P P' : Progress) → turned t true l P P' → P'.state.workers ≡ P.state.workers
turned_workers (turn.Worker w) other l P P' h = absurd other
turned_workers (turn.Manager j) other l P P' h = managed_workers (setting_of l) l.workers l.streams P P' j true h
turned_workers (turn.Anchor j) other l P P' h = anchored_workers (setting_of l) l.workers l.streams P P' j true h
turned_workers turn.Clerk other l P P' h = clerked_workers (setting_of l) l.workers l.streams P P' true h
turned_workers turn.Drop other l P P' h = removed_workers (setting_of l) l.workers l.streams P P' true h

module _ (t : Turn) (other : IsOther t) (old new : Run) where
  works_same : Stood old.core → Works (turned t) true old new → SameWorkers old.core new.core
  works_same (K, h, g) x =
      let c = x.comes K h [] [] g in
      record { load = c.load; workers = turned_workers t other old.core.load (progress old.core h [] K []) (progress new.core c.hidden c.events c.order []) c.moved }

  manages_same : {D : Type 0} {G : Ghosts D} (ws ws' : List (Writer D G)) → IsOn ws old → Manages (turned t) true old new ws ws' → SameWorkers old.core new.core
  manages_same ws ws' on x =
      let o = on.along in
      let w = x.went o.bases o.order o.hidden [] [] o.stands o.kept in
      record { load = w.load; workers = turned_workers t other old.core.load (progress old.core o.hidden [] o.order []) (progress new.core w.hidden w.events w.order []) w.moved.0 }

  module _ (style : Style) (load : Workload) (qs : List PlainPeeker) (fit : AreFit style load old.core qs) where
    pub fit_works : {A : Type 0} (r : Result A NoMemory) → Stood old.core → Works (turned t) (is_ok r) old new → OnOk r (AreFit style load new.core qs)
    fit_works (Ok a) stood x = fit_same style load old.core new.core qs (works_same stood x) fit
    fit_works (Err e) stood x = tt

    pub fit_manages : {A D : Type 0} {G : Ghosts D} (r : Result A NoMemory) (ws ws' : List (Writer D G)) → IsOn ws old → Manages (turned t) (is_ok r) old new ws ws' → OnOk r (AreFit style load new.core qs)
    fit_manages (Ok a) ws ws' on x = fit_same style load old.core new.core qs (manages_same ws ws' on x) fit
    fit_manages (Err e) ws ws' on x = tt

-- the clerk leaves workers as they are
abbrev pub Clears : Run → Run → Type 0 → List ℕ → List ℕ → {A : Type 0} → Result A NoMemory → Type 0
Clears old new hears held held' r = (K : List (Act Txn)) (h : Hidden) (es : List machine.Event) → Stands old.core K h → Passed clerks old.core new.core old.clerk.acks new.clerk.acks old.clerk.sink_failed new.clerk.sink_failed hears held held' K h es r

pub clerk_same : {A : Type 0} (old new : Run) (hears : Type 0) (held held' : List ℕ) → Stood old.core → (a : A) → Clears old new hears held held' (Ok a) → SameWorkers old.core new.core
clerk_same old new hears held held' (K, h, g) a passed =
    let c = passed K h [] g in
    record {
      load = c.load;
      workers = clerked_workers (setting_of old.core.load) old.core.load.workers old.core.load.streams (progress old.core h [] K old.clerk.acks) (progress new.core c.hidden c.events c.order new.clerk.acks) true c.moved;
    }

pub fit_clerk : {A : Type 0} (style : Style) (load : Workload) (qs : List PlainPeeker) (old new : Run) (hears : Type 0) (held held' : List ℕ) (r : Result A NoMemory) → Stood old.core → AreFit style load old.core qs → Clears old new hears held held' r → OnOk r (AreFit style load new.core qs)
fit_clerk style load qs old new hears held held' (Ok a) stood fit passed = fit_same style load old.core new.core qs (clerk_same old new hears held held' stood a passed) fit
fit_clerk style load qs old new hears held held' (Err e) stood fit passed = tt

-- after a part of a round what is peeked fits still
pub fit_stays : {A : Type 0} (style : Style) (load : Workload) (qs : List PlainPeeker) (p p' : Plain) (r : Result A NoMemory) → AreFit style load p qs → OnOk r (SameWorkers p p') → OnOk r (AreFit style load p' qs)
fit_stays style load qs p p' (Ok a) fit same = fit_same style load p p' qs same fit
fit_stays style load qs p p' (Err e) fit same = tt
