-- The turn of a manager in a run.
use Rattle.std.proofs.Common.{◌∷◌, ◌++◌, ℕ, ◌<◌, ◌≤◌, ◌≡◌, ◌⊎◌, inl, inr, Bool, true, false, List, [], length, refl, sym, ap, subst, ◌∙◌, Option, arith, get_or}
use Rattle.std.specs.Prelude.{Some, None, slice_get, slice_set, slice_index, is_ok, Result, Ok, Err}
use Rattle.std.proofs.lemmas.Bool.{cases_Bool, cases_eq}
use Rattle.std.proofs.lemmas.Option.{slice_get_within, get_or_from_slice_get}
use Rattle.tau_base.specs.declared.value.NoMemory.{NoMemory}
use Rattle.tau_disk.specs.declared.disk.Disk.{Ghosts}
use Rattle.tau_stream.specs.declared.writer.Writer.{Writer}
use Rattle.tau_stream.specs.Writer.{has_failed}
use Rattle.tau_model.specs.History.{Act}
use Rattle.tau_machine.specs.Hands.{Txn}
use Rattle.tau_machine.specs.State.{Core}
use Rattle.tau_machine.specs.Events as machine
use Rattle.tau_text.specs.declared.load.Turn.TheVariants as turn
use Rattle.tau_core.specs.declared.state.Load.{Load}
use Rattle.tau_core.specs.View.{Hidden, setting_of, core_of}
use Rattle.tau_core.specs.Stands.{Stands}
use Rattle.tau_core.proofs.Lists.{got_same}
use Rattle.tau_run.specs.Turns.{Progress}
use Rattle.tau_run.specs.StopsLeave.{NamesLowest, stops_in}
use Rattle.tau_step.specs.declared.manager.Managing.{Managing}
use Rattle.tau_step.specs.declared.manager.Managing.TheVariants as did
use Rattle.tau_step.specs.declared.run.Run.{Run}
use Rattle.tau_step.specs.Along.{AreKept, Went}
use Rattle.tau_step.specs.Keeping.{IsKept, IsHeld, ManagerTurned}
use Rattle.tau_step.specs.RunEffects.{IsOn, Manages, SameWorkers, to_flush}
use Rattle.tau_step.specs.Progressed.{progress}
use Rattle.tau_step.specs.Rounding.{managed, managed_by, turned}
use Rattle.tau_step.proofs.RunSteps.{went_as, kept_after}
use Rattle.tau_step.proofs.Idling.{managed_ends, none_some}
use Rattle.tau_step.proofs.Kept.{kept_leaving}
use Rattle.tau_step.proofs.Managers.{manager_went}
use Rattle.tau_step.specs.Device.{noting}
use Rattle.tau_step.proofs.TurnNotes.{NotesTurn, managed_flushing}
use Rattle.tau_step.proofs.Silent.{false_not}
use Rattle.tau_step.proofs.EffectsInTurn.{manages_as, manages_none, noted_same}
use Rattle.tau_step.proofs.Others.{managed_workers}
use Rattle.tau_step.proofs.Running.{absent_manager}
use Rattle.tau_step.proofs.Turning.{managed_same}
use Rattle.tau_base.proofs.Lists.{some_at}
use Rattle.tau_base.proofs.Logic.{some_is, not_both}

-- the lowest stream that is stopped, where only one may have changed
module _ (n j : ℕ) (s s' : Core) (others : (i : ℕ) → (i ≡ j → ⊥) → (s'.streams i).stop ≡ (s.streams i).stop) where
  pub lowest_kept : ((s.streams j).stop ≡ None → (s'.streams j).stop ≡ None) → ((x : ℕ) → (s.streams j).stop ≡ Some x → (y : ℕ) × ((s'.streams j).stop ≡ Some y)) → (failed : Option ℕ) → NamesLowest n (stops_in s) failed → NamesLowest n (stops_in s') failed
  lowest_kept none some None q = λ i lt. still i (q i lt)
    where
      still : (i : ℕ) → (s.streams i).stop ≡ None → (s'.streams i).stop ≡ None
      still i e = elim (cases_eq i j) [
        | inl is ↦ subst (λ (k : ℕ). (s'.streams k).stop ≡ None) (sym is) (none (subst (λ (k : ℕ). (s.streams k).stop ≡ None) is e))
        | inr ne ↦ others i ne ∙ e
      ]
  lowest_kept none some (Some k) q = (
    q.0,
    elim (cases_eq k j) [
      | inl is ↦ subst (λ (i : ℕ). (y : ℕ) × ((s'.streams i).stop ≡ Some y)) (sym is) (some q.1.0 (subst (λ (i : ℕ). (s.streams i).stop ≡ Some q.1.0) is q.1.1))
      | inr ne ↦ (q.1.0, others k ne ∙ q.1.1)
    ],
    λ i lt. still i (q.2 i lt),
  )
    where
      still : (i : ℕ) → (s.streams i).stop ≡ None → (s'.streams i).stop ≡ None
      still i e = elim (cases_eq i j) [
        | inl is ↦ subst (λ (k : ℕ). (s'.streams k).stop ≡ None) (sym is) (none (subst (λ (k : ℕ). (s.streams k).stop ≡ None) is e))
        | inr ne ↦ others i ne ∙ e
      ]

  pub lowest_new : j < n → (s.streams j).stop ≡ None → (y : ℕ) → (s'.streams j).stop ≡ Some y → (failed failed' : Option ℕ) → (failed ≡ None → failed' ≡ Some j) →
      ((k : ℕ) → failed ≡ Some k → ((k ≤ j) × (failed' ≡ Some k)) ⊎ ((j < k) × (failed' ≡ Some j))) → NamesLowest n (stops_in s) failed → NamesLowest n (stops_in s') failed'
  lowest_new there was y now None failed' none some q =
      subst (λ (f : Option ℕ). NamesLowest n (stops_in s') f) (sym (none refl)) (there, (y, now), λ i lt. others i (λ e. absurd (omega (arith, e, lt))) ∙ q i (omega (arith, lt, there)))
  lowest_new there was y now (Some k) failed' none some q = elim (some k refl) [
    | inl a ↦ subst (λ (f : Option ℕ). NamesLowest n (stops_in s') f) (sym a.1) (
      q.0,
      (q.1.0, others k (λ e. none_some (s.streams j).stop q.1.0 was (subst (λ (i : ℕ). (s.streams i).stop ≡ Some q.1.0) e q.1.1)) ∙ q.1.1),
      λ i lt. others i (λ e. absurd (omega (arith, e, lt, a.0))) ∙ q.2 i lt,
    )
    | inr b ↦ subst (λ (f : Option ℕ). NamesLowest n (stops_in s') f) (sym b.1) (there, (y, now), λ i lt. others i (λ e. absurd (omega (arith, e, lt))) ∙ q.2 i (omega (arith, lt, b.0)))
  ]

-- how the lowest failed stream goes on, by the answer
abbrev pub FailsBy : ℕ → Result Managing NoMemory → Option ℕ → Option ℕ → Type 0
FailsBy j (Ok did.Failed) failed failed' = (failed ≡ None → failed' ≡ Some j) × ((k : ℕ) → failed ≡ Some k → ((k ≤ j) × (failed' ≡ Some k)) ⊎ ((j < k) × (failed' ≡ Some j)))
FailsBy j other failed failed' = failed' ≡ failed

-- so it is after the turn of a manager
lowest_by : (n j : ℕ) (s s' : Core) → j < n → ((i : ℕ) → (i ≡ j → ⊥) → (s'.streams i).stop ≡ (s.streams i).stop) → (was is : Bool) →
    (was ≡ false → (s.streams j).stop ≡ None) → (was ≡ true → (x : ℕ) × ((s.streams j).stop ≡ Some x)) → (is ≡ false → (s'.streams j).stop ≡ None) → (is ≡ true → (x : ℕ) × ((s'.streams j).stop ≡ Some x)) →
    (a : Managing) → (a ≡ did.Idle → is ≡ was) → (a ≡ did.Flushed → (was ≡ false) × (is ≡ false)) → (a ≡ did.Failed → (was ≡ false) × (is ≡ true)) →
    (failed failed' : Option ℕ) → FailsBy j (Ok a) failed failed' → NamesLowest n (stops_in s) failed → NamesLowest n (stops_in s') failed'
lowest_by n j s s' there others was is before before' after after' did.Idle idle flushed fails failed failed' how q =
    let same = idle refl in
    subst (λ (f : Option ℕ). NamesLowest n (stops_in s') f) (sym how)
    (lowest_kept n j s s' others
    (λ none. elim (cases_Bool was) [
      | inl e ↦ (let (x, some) = before' e in absurd (none_some (s.streams j).stop x none some))
      | inr e ↦ after (same ∙ e)
    ])
    (λ x some. elim (cases_Bool was) [
      | inl e ↦ after' (same ∙ e)
      | inr e ↦ absurd (none_some (s.streams j).stop x (before e) some)
    ]) failed q)
lowest_by n j s s' there others was is before before' after after' did.Flushed idle flushed fails failed failed' how q =
    let both = flushed refl in
    subst (λ (f : Option ℕ). NamesLowest n (stops_in s') f) (sym how)
    (lowest_kept n j s s' others (λ none. after both.1) (λ x some. absurd (none_some (s.streams j).stop x (before both.0) some)) failed q)
lowest_by n j s s' there others was is before before' after after' did.Failed idle flushed fails failed failed' how q =
    let both = fails refl in
    let (y, now) = after' both.1 in
    lowest_new n j s s' others there (before both.0) y now failed failed' how.0 how.1 q

pub moved_by : (j : ℕ) (b : Managing) (l : Load) (P P' : Progress) → managed_by j (Ok b) true l P P' → managed j true l P P'
moved_by j did.Idle l P P' q = q.0
moved_by j did.Failed l P P' q = q.0
moved_by j did.Flushed l P P' q = q.0

module _ {D : Type 0} {G : Ghosts D} (seen_now : (d : D) → G.tells → G.may_leave d (G.seen d)) (ws ws' : List (Writer D G)) (j : ℕ) (w w' : Writer D G) (is : slice_get ws j ≡ Some w) (is' : ws' ≡ slice_set ws j w') (old new : Run) (on : IsOn ws old) (there : j < old.streams) where
  abbrev Turned : Result Managing NoMemory → Type 0
  Turned r = (catalogue : List ℕ) (K : List (Act Txn)) (h : Hidden) (es : List machine.Event) (told : List (ℕ × List ℕ)) → Stands old.core K h → length catalogue ≡ slice_index old.core.load.opening.ends j → IsKept j catalogue w old.core h →
      ManagerTurned j catalogue w w' old.core new.core told K h es r

  low : j < old.core.load.streams
  low = let e = on.streams in omega (arith, there, e)

  noted_by : (r : Result Managing NoMemory) → NotesTurn j r old.flushes new.flushes → (l : Load) (P P' : Progress) → managed_flushing j r (is_ok r) l P P' → noting old.flushes new.flushes (managed_by j r) (is_ok r) l P P'
  noted_by (Ok did.Flushed) notes l P P' q = (q.0, λ e was now. (let more = notes now in more.1 ∙ ap (λ (xs : List ℕ). xs ++ j ∷ []) (was more.0) ∙ sym q.1))
  noted_by (Ok did.Idle) notes l P P' q = (q.0, λ e was. noted_same old.flushes new.flushes P P' notes q.1 was)
  noted_by (Ok did.Failed) notes l P P' q = (q.0, λ e was. noted_same old.flushes new.flushes P P' notes q.1 was)
  noted_by (Err x) notes l P P' q = (q.0, λ e. false_not e)

  goes : (r : Result Managing NoMemory) → NotesTurn j r old.flushes new.flushes → (t : Turned r) (bases : ℕ → List ℕ) (K : List (Act Txn)) (h : Hidden) (es : List machine.Event) (told : List (ℕ × List ℕ)) → Stands old.core K h → AreKept bases ws old.core h →
      Went bases (noting old.flushes new.flushes (managed_by j r)) (is_ok r) old.core new.core ws ws' told told K h es
  goes r notes t bases K h es told g k =
      went_as seen_now bases (managed_flushing j r) (noting old.flushes new.flushes (managed_by j r)) (is_ok r) old.core new.core ws ws' told told K h es (noted_by r notes)
      (manager_went seen_now bases ws ws' j w w' is is' old.core new.core told K h es g k low r (t (bases j) K h es told g (k.long j low) (k.each j w is)) (is_ok r) refl)

  module _ (clerk : new.clerk ≡ old.clerk) (workers : new.workers ≡ old.workers) (streams : new.streams ≡ old.streams) where
    on_behind : (a : Managing) → NotesTurn j (Ok a) old.flushes new.flushes → Turned (Ok a) → FailsBy j (Ok a) old.failed new.failed → IsOn ws' new
    on_behind a notes t fails =
        let o = on.along in
        let x = goes (Ok a) notes t o.bases o.order o.hidden [] [] o.stands o.kept in
        let m = t (o.bases j) o.order o.hidden [] [] o.stands (o.kept.long j low) (o.kept.each j w is) in
        let (v, got, since) = x.since j w is in
        let v_is : v ≡ w' = some_is v w' (sym got ∙ ap (λ (xs : List (Writer D G)). slice_get xs j) is' ∙ got_same ws j w' (slice_get_within ws j w is)) in
        let before = kept_leaving seen_now j (o.bases j) w old.core o.hidden (o.kept.each j w is) in
        let after = kept_leaving seen_now j (o.bases j) v new.core x.hidden (x.kept j v got) in
        let P = progress old.core o.hidden [] o.order [] in
        let P' = progress new.core x.hidden x.events x.order [] in
        let f : has_failed v ≡ has_failed w' = ap has_failed v_is in
        record {
          along = record {
            bases = o.bases;
            order = x.order;
            hidden = x.hidden;
            stands = x.stands;
            kept = kept_after seen_now o.bases (noting old.flushes new.flushes (managed_by j (Ok a))) old.core new.core ws ws' [] [] o.order o.hidden [] o.kept x;
            lowest = subst (λ (l : Load). NamesLowest l.streams (stops_in (core_of new.core x.hidden)) new.failed) (sym x.load)
                (lowest_by old.core.load.streams j (core_of old.core o.hidden) (core_of new.core x.hidden) low
                (λ i ne. (managed_same (setting_of old.core.load) old.core.load.workers old.core.load.streams P P' i j ne true (moved_by j a old.core.load P P' x.moved.0)).stop)
                (has_failed w) (has_failed v) before.going before.stopped after.going after.stopped a
                (λ e. f ∙ (m.idle e).0) (λ e. ((m.flushed e).0, f ∙ (m.flushed e).1)) (λ e. ((m.failed e).0, f ∙ (m.failed e).1)) old.failed new.failed fails o.lowest);
          };
          workers = workers ∙ on.workers ∙ sym (ap (λ (l : Load). l.workers) x.load);
          streams = streams ∙ on.streams ∙ sym (ap (λ (l : Load). l.streams) x.load);
        }

    pub manage_manages : (r : Result Managing NoMemory) → NotesTurn j r old.flushes new.flushes → Turned r → FailsBy j r old.failed new.failed → Manages (managed_by j r) (is_ok r) old new ws ws'
    manage_manages (Ok a) notes t fails = record { went = goes (Ok a) notes t; clerk = clerk; streams = streams; on = λ e. on_behind a notes t fails }
    manage_manages (Err x) notes t fails = record { went = goes (Err x) notes t; clerk = clerk; streams = streams; on = λ e. absurd (not_both false refl e) }

  pub is_held : IsHeld j w old.core
  is_held = let a = on.along in (a.bases j, a.order, a.hidden, a.stands, a.kept.long j low, a.kept.each j w is)

  -- workers are as they were
  pub manage_same : (a : Managing) → Turned (Ok a) → SameWorkers old.core new.core
  manage_same a t =
      let o = on.along in
      let m = t (o.bases j) o.order o.hidden [] [] o.stands (o.kept.long j low) (o.kept.each j w is) in
      let P = progress old.core o.hidden [] o.order [] in
      let P' = progress new.core m.hidden m.events m.order [] in
      record { load = m.load; workers = managed_workers (setting_of old.core.load) old.core.load.workers old.core.load.streams P P' j true m.moved }

  -- and a flush leaves less of the stream
  pub manage_fewer : (a : Managing) → Turned (Ok a) → a ≡ did.Flushed → to_flush new.core j < to_flush old.core j
  manage_fewer a t e =
      let o = on.along in
      let m = t (o.bases j) o.order o.hidden [] [] o.stands (o.kept.long j low) (o.kept.each j w is) in
      let P = progress old.core o.hidden [] o.order [] in
      let P' = progress new.core m.hidden m.events m.order [] in
      let ends : slice_index new.core.ends j ≡ slice_index old.core.ends j = ap (λ (v : List ℕ). slice_index v j) (managed_ends (setting_of old.core.load) old.core.load.workers old.core.load.streams j low P P' m.moved) in
      let more = (m.flushed e).2 in
      let good = m.stands.inv.agrees.good in
      let up = good.persisted j in
      let top = good.gathered j in
      omega (arith, ends, more, up, top)

-- as a turn word
pub word_manages : {D : Type 0} {G : Ghosts D} (seen_now : (d : D) → G.tells → G.may_leave d (G.seen d)) (ws ws' : List (Writer D G)) (j : ℕ) (old new : Run) (r : Result Managing NoMemory) → Manages (managed_by j r) (is_ok r) old new ws ws' → Manages (turned (turn.Manager j)) (is_ok r) old new ws ws'
word_manages seen_now ws ws' j old new (Ok a) x = manages_as seen_now (managed_by j (Ok a)) (turned (turn.Manager j)) true old new ws ws' (moved_by j a) x
word_manages seen_now ws ws' j old new (Err e) x = manages_as seen_now (managed_by j (Err e)) (turned (turn.Manager j)) false old new ws ws' (λ l P P' q. q) x

pub no_manager : {D : Type 0} {G : Ghosts D} (seen_now : (d : D) → G.tells → G.may_leave d (G.seen d)) (ws : List (Writer D G)) (j : ℕ) (run : Run) → IsOn ws run → run.streams ≤ j → Manages (turned (turn.Manager j)) true run run ws ws
no_manager seen_now ws j run on le = manages_none seen_now (turned (turn.Manager j)) run ws on (λ P. absent_manager run.core.load j (let e = on.streams in omega (arith, le, e)) P)

-- an element that an index names
pub got_of : {A : Type 0} (xs : List A) (i k : ℕ) (x : A) → i ≡ k → i < length xs → x ≡ get_or xs i x → slice_get xs k ≡ Some x
got_of {A} xs i k x e lt is =
    let (y, got) = some_at xs i lt in
    let same : x ≡ y = is ∙ get_or_from_slice_get xs i y x got in
    subst (λ (n : ℕ). slice_get xs n ≡ Some x) e (got ∙ ap (λ (z : A). Some z) (sym same))
