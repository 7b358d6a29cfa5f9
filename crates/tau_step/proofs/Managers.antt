-- The turn of a manager, with all writers.
use Rattle.std.proofs.Common.{ℕ, ◌<◌, ◌≤◌, ◌≡◌, ◌⊎◌, inl, inr, Bool, true, false, List, ◌++◌, length, refl, sym, ap, subst, ◌∙◌, arith, length-append, length-set}
use Rattle.std.specs.Prelude.{Some, None, slice_get, slice_set, is_ok, Result, Ok, Err}
use Rattle.std.proofs.lemmas.Bool.{cases_Bool, cases_eq}
use Rattle.std.proofs.lemmas.Option.{slice_get_within}
use Rattle.tau_base.specs.Modes.{format_of}
use Rattle.tau_base.specs.declared.value.NoMemory.{NoMemory}
use Rattle.tau_block.specs.Image.{HasContent}
use Rattle.tau_disk.specs.Disk.{Passes, Rose}
use Rattle.tau_disk.specs.Used.{GoesOn}
use Rattle.tau_disk.specs.declared.disk.Disk.{Ghosts}
use Rattle.tau_disk.proofs.Passing.{passes_none}
use Rattle.tau_stream.specs.declared.writer.Writer.{Writer}
use Rattle.tau_stream.specs.Writer.{disk_of, has_failed}
use Rattle.tau_model.specs.History.{Act}
use Rattle.tau_machine.specs.Hands.{Txn}
use Rattle.tau_machine.specs.State.{Core}
use Rattle.tau_machine.specs.Events as machine
use Rattle.tau_core.specs.declared.state.Load.{Load}
use Rattle.tau_core.specs.State.{Plain}
use Rattle.tau_core.specs.View.{Hidden, setting_of, core_of}
use Rattle.tau_core.specs.Stands.{Stands}
use Rattle.tau_core.proofs.Lists.{got_same, got_other}
use Rattle.tau_run.specs.StopsLeave.{HasFront, HasSomeFront}
use Rattle.tau_run.specs.Turns.{Progress}
use Rattle.tau_step.specs.declared.manager.Managing.{Managing}
use Rattle.tau_step.specs.declared.manager.Managing.TheVariants as did
use Rattle.tau_step.specs.Along.{IsLeaving, Since, AreKept, Went}
use Rattle.tau_step.specs.Keeping.{IsKept, ManagerTurns, ManagerStops, ManagerTurned}
use Rattle.tau_step.specs.Progressed.{progress}
use Rattle.tau_step.specs.Counts.{CountsTo, flushes_by}
use Rattle.tau_step.proofs.TurnNotes.{managed_flushing}
use Rattle.tau_step.proofs.Counted.{counts_spared, turn_counts, turn_spares}
use Rattle.tau_step.proofs.Calls.{calls_none}
use Rattle.tau_step.proofs.RunSteps.{since_none}
use Rattle.tau_step.proofs.Idling.{idle_idled, failed_idled, flushed_on, part_stop}
use Rattle.tau_step.proofs.Noting.{idle_silent, failed_silent, flushed_noted}
use Rattle.tau_step.proofs.Kept.{kept_same, kept_leaving, leaving_same}
use Rattle.tau_step.proofs.Turning.{managed_grows, managed_same}
use Rattle.tau_base.proofs.Logic.{some_is, not_both}

module _ {D : Type 0} {G : Ghosts D} (seen_now : (d : D) → G.tells → G.may_leave d (G.seen d)) (bases : ℕ → List ℕ) (ws ws' : List (Writer D G)) (j : ℕ) (w w' : Writer D G) (is : slice_get ws j ≡ Some w) (is' : ws' ≡ slice_set ws j w')
    (p p' : Plain) (told : List (ℕ × List ℕ)) (K : List (Act Txn)) (h : Hidden) (es : List machine.Event) (g : Stands p K h) (k : AreKept bases ws p h) (there : j < p.load.streams) where
  within : j < length ws
  within = slice_get_within ws j w is

  got_here : slice_get ws' j ≡ Some w'
  got_here = ap (λ (xs : List (Writer D G)). slice_get xs j) is' ∙ got_same ws j w' within

  got_there : (i : ℕ) → (i ≡ j → ⊥) → slice_get ws' i ≡ slice_get ws i
  got_there i ne = ap (λ (xs : List (Writer D G)). slice_get xs i) is' ∙ got_other ws j i w' ne

  many : length ws' ≡ length ws
  many = ap (length {A = Writer D G}) is' ∙ length-set ws j w'

  -- of each writer, by the one that acts and the others
  module _ (hidden : Hidden) (P : (i : ℕ) → Writer D G → Type 0) (here : P j w') (others : (i : ℕ) → (i ≡ j → ⊥) → (v : Writer D G) → slice_get ws i ≡ Some v → P i v) where
    each_now : (i : ℕ) (v : Writer D G) → slice_get ws' i ≡ Some v → P i v
    each_now i v e = elim (cases_eq i j) [
      | inl same ↦
          (let at : slice_get ws' j ≡ Some v = subst (λ (k : ℕ). slice_get ws' k ≡ Some v) same e in
          let value : w' ≡ v = some_is w' v (sym got_here ∙ at) in
          subst (λ (k : ℕ). P k v) (sym same) (subst (P j) value here))
      | inr ne ↦ others i ne v (sym (got_there i ne) ∙ e)
    ]

  since_now : (l : Load) (s : Core) → Since j (bases j) l s w w' → (i : ℕ) (v : Writer D G) → slice_get ws i ≡ Some v → (v' : Writer D G) × (slice_get ws' i ≡ Some v') × Since i (bases i) l s v v'
  since_now l s here i v e = elim (cases_eq i j) [
    | inl same ↦
        (let at : slice_get ws j ≡ Some v = subst (λ (k : ℕ). slice_get ws k ≡ Some v) same e in
        let value : w ≡ v = some_is w v (sym is ∙ at) in
        subst (λ (k : ℕ). (v' : Writer D G) × (slice_get ws' k ≡ Some v') × Since k (bases k) l s v v') (sym same) (w', got_here, subst (λ (x : Writer D G). Since j (bases j) l s x w') value here))
    | inr ne ↦ (v, got_there i ne ∙ e, since_none i (bases i) l s v)
  ]

  kept_now : IsKept j (bases j) w p h
  kept_now = k.each j w is

  module _ (a : Managing) (t : ManagerTurns j (bases j) w w' p p' told K h es a) where
    abbrev P : Progress
    P = progress p h es K told

    abbrev P' : Progress
    P' = progress p' t.hidden t.events t.order told

    was : ((P.state.streams j).stop ≡ None) ⊎ ((x : ℕ) × ((P.state.streams j).stop ≡ Some x))
    was = let l = kept_leaving seen_now j (bases j) w p h kept_now in elim (cases_Bool (has_failed w)) [
      | inl fails ↦ inr (l.stopped fails)
      | inr works ↦ inl (l.going works)
    ]

    now : IsLeaving j (bases j) w' p' t.hidden
    now = kept_leaving seen_now j (bases j) w' p' t.hidden t.kept

    long : j < length p.plv
    long = let e = g.sound.plv in omega (arith, e, there)

    works_first : (P.state.streams j).stop ≡ None → has_failed w ≡ false
    works_first none = elim (cases_Bool (has_failed w)) [
      | inl fails ↦ (let (x, e) = (kept_leaving seen_now j (bases j) w p h kept_now).stopped fails in absurd (let bad : None ≡ Some x = sym none ∙ e in cc))
      | inr works ↦ works
    ]

    by_answer : (b : Managing) → a ≡ b → managed_flushing j (Ok b) true p.load P P'
    by_answer did.Idle e =
        let i = t.idle e in (
          (t.moved, idle_idled (setting_of p.load) p.load.workers p.load.streams j there P P' was (λ none. now.going (i.0 ∙ works_first none)) i.1 long t.moved),
          idle_silent (setting_of p.load) p.load.workers p.load.streams j there P P' was i.1 long t.moved,
        )
    by_answer did.Failed e =
        let f = t.failed e in
        let (x, stop) = now.stopped f.1 in
        let going = (kept_leaving seen_now j (bases j) w p h kept_now).going f.0 in (
          (t.moved, failed_idled (setting_of p.load) p.load.workers p.load.streams j there P P' x going stop t.moved),
          failed_silent (setting_of p.load) p.load.workers p.load.streams j there P P' x going stop t.moved,
        )
    by_answer did.Flushed e =
        let f = t.flushed e in
        let going = (kept_leaving seen_now j (bases j) w p h kept_now).going f.0 in (
          (t.moved, flushed_on (setting_of p.load) p.load.workers p.load.streams j there P P' going f.2 t.moved),
          flushed_noted (setting_of p.load) p.load.workers p.load.streams j there P P' going f.2 t.moved,
        )

    -- the calls of its own disk, and of the others
    each_counted : (i : ℕ) (v v' : Writer D G) → slice_get ws i ≡ Some v → slice_get ws' i ≡ Some v' → CountsTo p.load i es t.events v v'
    each_counted i v v' e e' = elim (cases_eq i j) [
      | inl same ↦
          (let was_at : slice_get ws j ≡ Some v = subst (λ (k : ℕ). slice_get ws k ≡ Some v) same e in
          let is_at : slice_get ws' j ≡ Some v' = subst (λ (k : ℕ). slice_get ws' k ≡ Some v') same e' in
          let first : w ≡ v = some_is w v (sym is ∙ was_at) in
          let last : w' ≡ v' = some_is w' v' (sym got_here ∙ is_at) in
          let here : CountsTo p.load j es t.events w w' = λ tells. (flushes_by a, turn_counts j a P P' (by_answer a refl).1, t.calls tells, t.half tells) in
          subst (λ (k : ℕ). CountsTo p.load k es t.events v v') (sym same) (subst (λ (x : Writer D G). CountsTo p.load j es t.events x v') first (subst (λ (x : Writer D G). CountsTo p.load j es t.events w x) last here)))
      | inr ne ↦ counts_spared p.load i es t.events v v' (turn_spares j i ne a P P' (by_answer a refl).1) (some_is v v' (sym e ∙ sym (got_there i ne) ∙ e'))
    ]

    turns_went : Went bases (managed_flushing j (Ok a)) true p p' ws ws' told told K h es
    turns_went =
        let grown = managed_grows (setting_of p.load) p.load.workers p.load.streams P P' j true t.moved in
        record {
          hidden = t.hidden;
          order = t.order;
          events = t.events;
          stands = t.stands;
          load = t.load;
          moved = by_answer a refl;
          grown = grown;
          count = many;
          kept = each_now t.hidden (λ i v. IsKept i (bases i) v p' t.hidden) t.kept
              (λ i ne v e. kept_same seen_now i (bases i) v p p' h t.hidden t.load grown (managed_same (setting_of p.load) p.load.workers p.load.streams P P' i j ne true t.moved) (t.taken i ne) (k.each i v e));
          since = since_now p.load (core_of p' t.hidden) (record {
            before = t.passes;
            faults = t.faults;
            goes = t.goes;
            stops = λ works fails. (rises works fails, t.stops works fails);
            still = t.still;
          });
          calls = λ all. each_counted;
        }
      where
        rises : has_failed w ≡ false → has_failed w' ≡ true → Rose (G.faults (disk_of w)) (G.faults (disk_of w'))
        rises works fails = by a refl
          where
            by : (b : Managing) → a ≡ b → Rose (G.faults (disk_of w)) (G.faults (disk_of w'))
            by did.Idle e = absurd (not_both (has_failed w') ((t.idle e).0 ∙ works) fails)
            by did.Failed e = (t.failed e).2
            by did.Flushed e = absurd (not_both (has_failed w') (t.flushed e).1 fails)

  module _ (x : NoMemory) (t : ManagerStops j (bases j) w w' p p' told K h es) where
    abbrev Q : Progress
    Q = progress p h es K told

    abbrev Q' : Progress
    Q' = progress p' t.hidden t.events t.order told

    same_disk : disk_of w ≡ disk_of w'
    same_disk = sym t.disk

    stays_working : has_failed w' ≡ false
    stays_working = t.works ∙ t.worked

    leaves : IsLeaving j (bases j) w' p' t.hidden
    leaves = record {
      present = λ tells y left.
          (let (bytes, front, size) = t.present t.worked tells y (subst (λ (d : D). G.may_leave d y) t.disk left) in
          (bytes, subst (λ (l : Load). HasFront l.streams j (bases j) l (core_of p' t.hidden) bytes y) (sym t.load) front, omega (arith, size)));
      reached = λ tells.
          (let now = seen_now (disk_of w') tells in
          let (bytes, front, size) = t.present t.worked tells (G.seen (disk_of w')) (subst (λ (d : D). G.may_leave d (G.seen (disk_of w'))) t.disk now) in
          (G.seen (disk_of w'), bases j ++ bytes, now, subst (λ (l : Load). HasContent (format_of l.mode) l.streams j (bases j ++ bytes) (G.seen (disk_of w'))) (sym t.load) front.has, length-append (bases j) bytes ∙ sym size));
      going = λ works. part_stop (setting_of p.load) p.load.workers p.load.streams j there Q Q' t.moved ∙ (kept_leaving seen_now j (bases j) w p h kept_now).going t.worked;
      stopped = λ fails. absurd (not_both (has_failed w') stays_working fails);
    }

    stops_went : Went bases (managed_flushing j (Err x)) false p p' ws ws' told told K h es
    stops_went =
        let grown = managed_grows (setting_of p.load) p.load.workers p.load.streams Q Q' j false t.moved in
        record {
          hidden = t.hidden;
          order = t.order;
          events = t.events;
          stands = t.stands;
          load = t.load;
          moved = (t.moved, tt);
          grown = grown;
          count = many;
          kept = each_now t.hidden (λ i v. IsLeaving i (bases i) v p' t.hidden) leaves
              (λ i ne v e. leaving_same seen_now i (bases i) v p p' h t.hidden t.load grown (managed_same (setting_of p.load) p.load.workers p.load.streams Q Q' i j ne false t.moved) (kept_leaving seen_now i (bases i) v p h (k.each i v e)));
          since = since_now p.load (core_of p' t.hidden) (record {
            before = λ tells. subst (λ (d : D). Passes G.moment G.may_leave_since (disk_of w) d (HasSomeFront p.load.streams j (bases j) p.load (core_of p' t.hidden))) same_disk
                (passes_none G.moment G.may_leave_since (disk_of w) (HasSomeFront p.load.streams j (bases j) p.load (core_of p' t.hidden)));
            faults = subst (λ (d : D). G.faults (disk_of w) ≤ G.faults d) same_disk (omega arith);
            goes = λ works tells. subst (λ (d : D). GoesOn G.number G.fails (disk_of w) d) same_disk (calls_none G.tells G.number G.fails G.short (disk_of w));
            stops = λ works fails. absurd (not_both (has_failed w') stays_working fails);
            still = λ fails. absurd (not_both (has_failed w) t.worked fails);
          });
          calls = λ all. absurd (not_both false refl all);
        }

  pub manager_went : (r : Result Managing NoMemory) → ManagerTurned j (bases j) w w' p p' told K h es r → (whole : Bool) → whole ≡ is_ok r → Went bases (managed_flushing j r) whole p p' ws ws' told told K h es
  manager_went (Ok a) t whole e = subst (λ (b : Bool). Went bases (managed_flushing j (Ok a)) b p p' ws ws' told told K h es) (sym e) (turns_went a t)
  manager_went (Err x) t whole e = subst (λ (b : Bool). Went bases (managed_flushing j (Err x)) b p p' ws ws' told told K h es) (sym e) (stops_went x t)
