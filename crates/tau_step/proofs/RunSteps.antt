-- Steps of a run one after another, with its writers.
use Rattle.std.proofs.Common.{ℕ, ◌≤◌, ◌<◌, ◌≡◌, inl, inr, Bool, true, false, List, length, refl, sym, ap, subst, ◌∙◌, arith}
use Rattle.std.specs.Prelude.{slice_index}
use Rattle.std.proofs.lemmas.Bool.{cases_Bool}
use Rattle.tau_disk.specs.Disk.{Rose}
use Rattle.tau_disk.specs.Used.{IsStopped}
use Rattle.tau_disk.specs.declared.disk.Disk.{Ghosts}
use Rattle.tau_disk.proofs.Passing.{passes_none, passes_on}
use Rattle.tau_stream.specs.declared.writer.Writer.{Writer}
use Rattle.tau_stream.specs.Writer.{disk_of, has_failed}
use Rattle.tau_model.specs.History.{Act}
use Rattle.tau_machine.specs.Hands.{Txn}
use Rattle.tau_machine.specs.State.{Core}
use Rattle.tau_machine.specs.Events as machine
use Rattle.tau_core.specs.declared.state.Load.{Load}
use Rattle.tau_core.specs.State.{Plain}
use Rattle.tau_core.specs.View.{Hidden, core_of}
use Rattle.tau_run.specs.StopsLeave.{HasSomeFront}
use Rattle.tau_run.specs.Turns.{Progress}
use Rattle.tau_step.specs.Along.{Grows, Quiet, KeptBy, Since, AreKept, Went}
use Rattle.tau_step.specs.Keeping.{IsKept}
use Rattle.tau_step.specs.Progressed.{progress, Comes}
use Rattle.tau_step.proofs.Calls.{calls_none, calls_on, calls_stopped}
use Rattle.tau_step.proofs.Growing.{grows_on}
use Rattle.tau_step.proofs.Kept.{left_grows, kept_same, kept_leaving}
use Rattle.tau_step.specs.Counts.{CountsTo, flushed_in}
use Rattle.tau_step.proofs.Counted.{counts_none, counts_on}
use Rattle.tau_base.proofs.Logic.{not_both, some_is}

pub rose_on : (a b c : ℕ) → a ≤ b → Rose b c → Rose a c
rose_on a b c le r = omega (arith, le, r)

module _ {D : Type 0} {G : Ghosts D} (j : ℕ) (base : List ℕ) (l : Load) where
  -- nothing became of a writer
  pub since_none : (s : Core) (w : Writer D G) → Since j base l s w w
  since_none s w = record {
    before = λ tells. passes_none G.moment G.may_leave_since (disk_of w) (HasSomeFront l.streams j base l s);
    faults = omega arith;
    goes = λ works tells. calls_none G.tells G.number G.fails G.short (disk_of w);
    stops = λ works fails. absurd (not_both (has_failed w) works fails);
    still = λ fails. refl;
  }

  pub since_on : (s s' : Core) → Grows s s' → (w m w' : Writer D G) → Since j base l s w m → Since j base l s' m w' → Since j base l s' w w'
  since_on s s' grown w m w' a b = record {
    before = λ tells. passes_on G.moment G.may_leave_since (disk_of w) (disk_of m) (disk_of w') (HasSomeFront l.streams j base l s) (HasSomeFront l.streams j base l s') (HasSomeFront l.streams j base l s')
        (a.before tells) (b.before tells) (λ x q. left_grows l.streams j base l s s' grown x q) (λ x q. q);
    faults = omega (arith, a.faults, b.faults);
    goes = λ works tells. elim (cases_Bool (has_failed m)) [
      | inl fails ↦ absurd (not_both (has_failed w') works (ap has_failed (b.still fails) ∙ fails))
      | inr works_on ↦ calls_on G.tells G.number G.fails G.short (disk_of w) (disk_of m) (disk_of w') (a.goes works_on tells) (b.goes works tells)
    ];
    stops = λ works fails. elim (cases_Bool (has_failed m)) [
      | inl failed ↦ subst (λ (x : Writer D G). Rose (G.faults (disk_of w)) (G.faults (disk_of x)) × IsStopped G.tells G.number G.fails G.short (disk_of w) (disk_of x)) (sym (b.still failed)) (a.stops works failed)
      | inr works_on ↦ (let stopped = b.stops works_on fails in
          (rose_on (G.faults (disk_of w)) (G.faults (disk_of m)) (G.faults (disk_of w')) a.faults stopped.0, calls_stopped G.tells G.number G.fails G.short (disk_of w) (disk_of m) (disk_of w') (a.goes works_on) stopped.1))
    ];
    still = λ fails. (let same = a.still fails in b.still (ap has_failed same ∙ fails) ∙ same);
  }

module _ {D : Type 0} {G : Ghosts D} (seen_now : (d : D) → G.tells → G.may_leave d (G.seen d)) (bases : ℕ → List ℕ) where
  kept_by : (whole : Bool) (j : ℕ) (w : Writer D G) (p : Plain) (h : Hidden) → IsKept j (bases j) w p h → KeptBy j (bases j) whole w p h
  kept_by true j w p h k = k
  kept_by false j w p h k = kept_leaving seen_now j (bases j) w p h k

  -- writers that are kept are so after a step that was done
  pub kept_after : (R : Bool → Load → Progress → Progress → Type 0) (p p' : Plain) (ws ws' : List (Writer D G)) (told told' : List (ℕ × List ℕ)) (K : List (Act Txn)) (h : Hidden) (es : List machine.Event) →
      AreKept bases ws p h → (x : Went bases R true p p' ws ws' told told' K h es) → AreKept bases ws' p' x.hidden
  kept_after R p p' ws ws' told told' K h es k x = record {
    count = x.count ∙ k.count ∙ sym (ap (λ (l : Load). l.streams) x.load);
    long = subst (λ (l : Load). (j : ℕ) → j < l.streams → length (bases j) ≡ slice_index l.opening.ends j) (sym x.load) k.long;
    each = x.kept;
  }

  -- a step in which no manager acts
  pub went_quiet : (R : Bool → Load → Progress → Progress → Type 0) (whole : Bool) (p p' : Plain) (ws : List (Writer D G)) (told told' : List (ℕ × List ℕ)) (K : List (Act Txn)) (h : Hidden) (es : List machine.Event) →
      AreKept bases ws p h → (c : Comes (R whole) p p' told told' K h es) → Quiet (core_of p h) (core_of p' c.hidden) → (whole ≡ true → flushed_in c.events ≡ flushed_in es) → Went bases R whole p p' ws ws told told' K h es
  went_quiet R whole p p' ws told told' K h es k c q silent = record {
    hidden = c.hidden;
    order = c.order;
    events = c.events;
    stands = c.stands;
    load = c.load;
    moved = c.moved;
    grown = q.grown;
    count = refl;
    kept = λ j w e. kept_by whole j w p' c.hidden (kept_same seen_now j (bases j) w p p' h c.hidden c.load q.grown (q.same j) (ap (λ (t : ℕ → List ℕ). t j) c.taken) (k.each j w e));
    since = λ j w e. (w, e, since_none j (bases j) p.load (core_of p' c.hidden) w);
    calls = λ all j w w' e e'. counts_none p.load j es c.events w w' (silent all) (some_is w w' (sym e ∙ e'));
  }

  pub went_as : (R S : Bool → Load → Progress → Progress → Type 0) (whole : Bool) (p p' : Plain) (ws ws' : List (Writer D G)) (told told' : List (ℕ × List ℕ)) (K : List (Act Txn)) (h : Hidden) (es : List machine.Event) →
      ((l : Load) (P P' : Progress) → R whole l P P' → S whole l P P') → Went bases R whole p p' ws ws' told told' K h es → Went bases S whole p p' ws ws' told told' K h es
  went_as R S whole p p' ws ws' told told' K h es f x = record {
    hidden = x.hidden;
    order = x.order;
    events = x.events;
    stands = x.stands;
    load = x.load;
    moved = f p.load (progress p h es K told) (progress p' x.hidden x.events x.order told') x.moved;
    grown = x.grown;
    count = x.count;
    kept = x.kept;
    since = x.since;
    calls = x.calls;
  }

  -- one step after another
  pub went_on : (R S T : Bool → Load → Progress → Progress → Type 0) (whole : Bool) (p m p' : Plain) (ws ms ws' : List (Writer D G)) (told told' told'' : List (ℕ × List ℕ)) (K : List (Act Txn)) (h : Hidden) (es : List machine.Event) →
      ((l : Load) (P Q P' : Progress) → R true l P Q → S whole l Q P' → T whole l P P') →
      (x : Went bases R true p m ws ms told told' K h es) → Went bases S whole m p' ms ws' told' told'' x.order x.hidden x.events → Went bases T whole p p' ws ws' told told'' K h es
  went_on R S T whole p m p' ws ms ws' told told' told'' K h es f x y = record {
    hidden = y.hidden;
    order = y.order;
    events = y.events;
    stands = y.stands;
    load = y.load ∙ x.load;
    moved =
        let Q = progress m x.hidden x.events x.order told' in
        let P' = progress p' y.hidden y.events y.order told'' in
        f p.load (progress p h es K told) Q P' x.moved (subst (λ (l : Load). S whole l Q P') x.load y.moved);
    grown = grows_on (core_of p h) (core_of m x.hidden) (core_of p' y.hidden) x.grown y.grown;
    count = y.count ∙ x.count;
    kept = y.kept;
    since = λ j w e.
        (let (v, is, first) = x.since j w e in
        let (w', is', second) = y.since j v is in
        (w', is', since_on j (bases j) p.load (core_of m x.hidden) (core_of p' y.hidden) y.grown w v w' first (subst (λ (l : Load). Since j (bases j) l (core_of p' y.hidden) v w') x.load second)));
    calls = λ all j w w' e e'.
        (let (v, is, first) = x.since j w e in
        let (u, is', second) = y.since j v is in
        let same : u ≡ w' = some_is u w' (sym is' ∙ e') in
        counts_on p.load j es x.events y.events w v w' first.still (λ f. sym same ∙ second.still f) (x.calls refl j w v e is) (subst (λ (l : Load). CountsTo l j x.events y.events v w') x.load (y.calls all j v w' is e')));
  }
