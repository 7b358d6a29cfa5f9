-- A flush, and what becomes of the writer and the core by it.
use Rattle.std.proofs.Common.{ℕ, ◌+◌, ◌-◌, ◌<◌, ◌≤◌, ◌≡◌, ◌⊎◌, inl, inr, true, false, List, [], ◌∷◌, ◌++◌, length, take, drop, refl, sym, ap, subst, ◌∙◌, append_assoc, arith, length-append}
use Rattle.std.specs.Prelude.{Some, None, ◌==◌, slice_index, slice_set}
use Rattle.std.proofs.lemmas.List.{append-nil, take_all, drop_all, get_or-set_same}
use Rattle.std.proofs.lemmas.Bool.{eq-eqb, ne_eqb, cases_eq}
use Rattle.std.proofs.Math.Path.{fun_ext}
use Rattle.std.proofs.Math.Seq.{take-append_seam}
use Rattle.tau_base.specs.declared.format.Format.{Format}
use Rattle.tau_base.specs.Modes.{format_of}
use Rattle.tau_block.specs.Image.{HasContent}
use Rattle.tau_disk.specs.Disk.{Passes, Rose}
use Rattle.tau_disk.specs.Used.{GoesOn, IsStopped}
use Rattle.tau_disk.proofs.Passing.{passes_weaker, passes_none, left_by}
use Rattle.tau_disk.specs.declared.disk.Disk.{Ghosts}
use Rattle.tau_stream.specs.declared.writer.Writer.{Writer}
use Rattle.tau_stream.specs.Stream.{IsOldOrNew, MayHold}
use Rattle.tau_stream.specs.Writer.{FlushStops, disk_of, durable_of, gathered_of, left_of, has_failed, part_upto, IsReady}
use Rattle.tau_model.specs.History.{Act}
use Rattle.tau_machine.specs.Hands.{Txn}
use Rattle.tau_shard.specs.Shard.{at}
use Rattle.tau_machine.specs.State.{Core, Stream, Item}
use Rattle.tau_machine.specs.Events as machine
use Rattle.tau_shard.proofs.At.{at_same, at_other}
use Rattle.tau_core.specs.declared.state.Load.{Load}
use Rattle.tau_core.specs.declared.event.Event.TheVariants as event
use Rattle.tau_core.specs.declared.event.Outcome.{Outcome}
use Rattle.tau_core.specs.declared.event.Outcome.TheVariants as outcome
use Rattle.tau_core.specs.declared.event.Phase.{Phase}
use Rattle.tau_core.specs.declared.event.Phase.TheVariants.{Resting, Locking, Quitting, Ready, Placed, Freeing, Ended, Short, Stopped}
use Rattle.tau_core.specs.State.{Plain}
use Rattle.tau_core.specs.View.{Hidden, setting_of, core_of}
use Rattle.tau_core.specs.Stands.{Stands, anchors_at}
use Rattle.tau_core.specs.Pieces.{Spelled}
use Rattle.tau_core.specs.Managers.{Bars}
use Rattle.tau_core.specs.Steps.{Steps, Happened}
use Rattle.tau_run.specs.StopsLeave.{HasFront, HasSomeFront}
use Rattle.tau_run.specs.Turns.{Stays, Goes}
use Rattle.tau_step.specs.declared.manager.Managing.TheVariants as did
use Rattle.tau_step.specs.Progressed.{progress}
use Rattle.tau_step.specs.Counts.{HasFlushed}
use Rattle.tau_step.specs.Keeping.{IsLoaded, FlushTurns}
use Rattle.tau_step.proofs.Counted.{flushed_none, half_flushed, half_none}
use Rattle.tau_step.proofs.Deciding.{if_so, if_not}
use Rattle.tau_step.proofs.Images.{settled_has}

-- a function of each stream that a change leaves
pub kept_at : {A : Type 0} (F : Stream → A) (j : ℕ) (x : Stream) (f : ℕ → Stream) → F x ≡ F (f j) → ◌≡◌ {A = ℕ → A} (λ (i : ℕ). F (at j x f i)) (λ (i : ℕ). F (f i))
kept_at F j x f e = fun_ext (λ i. elim (cases_eq i j) [
  | inl is ↦ subst (λ (k : ℕ). F (at j x f k) ≡ F (f k)) (sym is) (ap F (at_same j x f) ∙ e)
  | inr ne ↦ ap F (at_other j x f i ne)
])

-- the bytes of items stay theirs where load and anchors do
pub spelled_kept : (p p' : Plain) (items : List Item) (bytes : List ℕ) → p'.load ≡ p.load → anchors_at p' ≡ anchors_at p → Spelled p.load (anchors_at p) items bytes → Spelled p'.load (anchors_at p') items bytes
spelled_kept p p' items bytes load anchors s =
    subst (λ (l : Load). Spelled l (anchors_at p') items bytes) (sym load) (subst (λ (a : ℕ → List (List ℕ)). Spelled p.load a items bytes) (sym anchors) s)

-- an image with a front of what was gathered
pub has_front : (n j : ℕ) (catalogue : List ℕ) (p : Plain) (h : Hidden) (before others : List Item) (bytes image : List ℕ) → h.moved j ≡ before ++ others → Spelled p.load (anchors_at p) before bytes →
    HasContent (format_of p.load.mode) n j (catalogue ++ bytes) image → HasFront n j catalogue p.load (core_of p h) bytes image
has_front n j catalogue p h before others bytes image is s has = record {
  count = length before;
  spelled = subst (λ (items : List Item). Spelled p.load (anchors_at p) items bytes) (sym (ap (take (length before)) is ∙ take-append_seam before others)) s;
  has = has;
}

module _ {D : Type 0} {G : Ghosts D} (j : ℕ) (catalogue : List ℕ) (upto : ℕ) (w w' : Writer D G) (p p' : Plain) (told : List (ℕ × List ℕ)) (K : List (Act Txn)) (h : Hidden) (es : List machine.Event)
    (g : Stands p K h) (there : j < p.load.streams) (size : length catalogue ≡ slice_index p.load.opening.ends j) (l : IsLoaded j catalogue upto w p h) where
  -- what the flush writes is all that is left
  part_is : part_upto w upto ≡ left_of w
  part_is = take_all (upto - durable_of w) (left_of w) (let c = l.count in let d = l.durable in omega arith)

  whole_is : (catalogue ++ l.first) ++ part_upto w upto ≡ catalogue ++ h.taken j
  whole_is = ap (λ (b : List ℕ). (catalogue ++ l.first) ++ b) part_is ∙ append_assoc catalogue l.first (left_of w) ∙ ap (λ (b : List ℕ). catalogue ++ b) (sym l.is)

  -- the streams of a state in which what was gathered, and the anchors, are the same
  record Alike (k : Hidden) : Type 0 where
    pub load : p'.load ≡ p.load
    pub anchors : anchors_at p' ≡ anchors_at p
    pub moved : k.moved j ≡ h.moved j
    pub taken : k.taken ≡ h.taken

  old_front : (k : Hidden) → Alike k → (x : List ℕ) → HasContent (format_of p.load.mode) p.load.streams j (catalogue ++ l.first) x → HasFront p.load.streams j catalogue p.load (core_of p' k) l.first x
  old_front k a x has =
      subst (λ (d : Load). HasFront p.load.streams j catalogue d (core_of p' k) l.first x) a.load
      (has_front p.load.streams j catalogue p' k l.before l.others l.first x (a.moved ∙ l.moved) (spelled_kept p p' l.before l.first a.load a.anchors l.front)
      (subst (λ (d : Load). HasContent (format_of d.mode) p.load.streams j (catalogue ++ l.first) x) (sym a.load) has))

  all_spelled : (k : Hidden) → Alike k → Spelled p'.load (anchors_at p') (k.moved j) (k.taken j)
  all_spelled k a =
      subst (λ (items : List Item). Spelled p'.load (anchors_at p') items (k.taken j)) (sym a.moved)
      (subst (λ (t : ℕ → List ℕ). Spelled p'.load (anchors_at p') (h.moved j) (t j)) (sym a.taken)
      (spelled_kept p p' (h.moved j) (h.taken j) a.load a.anchors l.spelled))

  new_front : (k : Hidden) → Alike k → (x : List ℕ) → HasContent (format_of p.load.mode) p.load.streams j (catalogue ++ h.taken j) x → HasFront p.load.streams j catalogue p.load (core_of p' k) (h.taken j) x
  new_front k a x has =
      subst (λ (d : Load). HasFront p.load.streams j catalogue d (core_of p' k) (h.taken j) x) a.load
      (has_front p.load.streams j catalogue p' k (h.moved j) [] (h.taken j) x (a.moved ∙ sym (append-nil (h.moved j))) (spelled_kept p p' (h.moved j) (h.taken j) a.load a.anchors l.spelled)
      (subst (λ (d : Load). HasContent (format_of d.mode) p.load.streams j (catalogue ++ h.taken j) x) (sym a.load) has))

  either_left : (k : Hidden) → Alike k → (x : List ℕ) → IsOldOrNew (format_of p.load.mode) p.load.streams j (catalogue ++ l.first) (part_upto w upto) x → HasSomeFront p.load.streams j catalogue p.load (core_of p' k) x
  either_left k a x (inl has) = (l.first, old_front k a x has)
  either_left k a x (inr has) = (h.taken j, new_front k a x (subst (λ (b : List ℕ). HasContent (format_of p.load.mode) p.load.streams j b x) whole_is has))

  passed : (k : Hidden) → Alike k → (G.tells → (f : Format) (n i : ℕ) (content : List ℕ) → IsReady f n i w content → Passes G.moment G.may_leave_since (disk_of w) (disk_of w') (IsOldOrNew f n i content (part_upto w upto))) →
      G.tells → Passes G.moment G.may_leave_since (disk_of w) (disk_of w') (HasSomeFront p.load.streams j catalogue p.load (core_of p' k))
  passed k a moments tells =
      passes_weaker G.moment G.may_leave_since (disk_of w) (disk_of w') (IsOldOrNew (format_of p.load.mode) p.load.streams j (catalogue ++ l.first) (part_upto w upto)) (HasSomeFront p.load.streams j catalogue p.load (core_of p' k))
      (moments tells (format_of p.load.mode) p.load.streams j (catalogue ++ l.first) (l.ready tells)) (either_left k a)

  -- all of it is durable
  module _ (ne : upto ≡ durable_of w → ⊥) (durable : durable_of w' ≡ upto) (left : left_of w' ≡ drop (upto - durable_of w) (left_of w)) (works : has_failed w' ≡ false)
      (done : G.tells → (f : Format) (n i : ℕ) (content : List ℕ) → IsReady f n i w content → IsReady f n i w' (content ++ part_upto w upto))
      (moments : G.tells → (f : Format) (n i : ℕ) (content : List ℕ) → IsReady f n i w content → Passes G.moment G.may_leave_since (disk_of w) (disk_of w') (IsOldOrNew f n i content (part_upto w upto)))
      (goes : G.tells → GoesOn G.number G.fails (disk_of w) (disk_of w')) (calls : G.tells → HasFlushed G 1 false (has_failed w') (disk_of w) (disk_of w')) (faults : G.faults (disk_of w) ≤ G.faults (disk_of w')) where
    by_persist : Happened (machine.Persist j upto) p p' K h → FlushTurns j catalogue w w' p p' told K h es did.Flushed
    by_persist q =
        let s = q.leads.0 in
        let streams : (core_of p' q.hidden).streams ≡ (core_of p h).streams = ap (λ (c : Core). c.streams) s.after in
        let a : Alike q.hidden = record { load = q.load; anchors = ap {B = ℕ → List (List ℕ)} (λ (f : ℕ → Stream) (i : ℕ). (f i).anchors) streams; moved = ap (λ (f : ℕ → Stream). (f j).moved) streams; taken = q.taken } in
        let plv : p'.plv ≡ slice_set p.plv j upto = ap (λ (c : Core). c.plv) s.after in
        let here : slice_index p'.plv j ≡ upto = ap (λ (v : List ℕ). slice_index v j) plv ∙ get_or-set_same p.plv j upto 0 (let e = g.sound.plv in omega arith) in
        let P = progress p h es K told in
        let P' = progress p' q.hidden (es ++ machine.Persist j upto ∷ []) (K ++ q.joined) told in
        record {
          hidden = q.hidden;
          order = K ++ q.joined;
          events = es ++ machine.Persist j upto ∷ [];
          stands = q.stands;
          load = q.load;
          taken = q.taken;
          moved = if_not (slice_index p.gathered j == slice_index p.plv j) (Stays P P')
              (Goes (setting_of p.load) p.load.workers p.load.streams (machine.Persist j (slice_index p.gathered j)) P P' ⊎ Goes (setting_of p.load) p.load.workers p.load.streams (machine.Stop j (slice_index p.plv j)) P P')
              (ne_eqb (slice_index p.gathered j) (slice_index p.plv j) (λ e. ne (l.gathered ∙ e ∙ sym l.durable)))
              (inl (subst (λ (u : ℕ). Goes (setting_of p.load) p.load.workers p.load.streams (machine.Persist j u) P P') l.gathered
              (record { new = q.joined; leads = q.leads; events = refl; joined = refl; told = refl })));
          kept = inl (record {
            works = works;
            going = ap (λ (f : ℕ → Stream). (f j).stop) streams ∙ l.going;
            gathered = ap (λ (c : Core). slice_index c.gathered j) s.after ∙ sym l.gathered ∙ sym here;
            durable = durable ∙ sym here;
            left = left ∙ drop_all (upto - durable_of w) (left_of w) (let c = l.count in let d = l.durable in omega arith);
            spelled = all_spelled q.hidden a;
            ready = λ tells. subst (λ (d : Load). IsReady (format_of d.mode) d.streams j w' (catalogue ++ q.hidden.taken j)) (sym q.load)
                (subst (λ (b : List ℕ). IsReady (format_of p.load.mode) p.load.streams j w' b) (whole_is ∙ ap (λ (t : ℕ → List ℕ). catalogue ++ t j) (sym q.taken)) (done tells (format_of p.load.mode) p.load.streams j (catalogue ++ l.first) (l.ready tells)));
          });
          passes = passed q.hidden a moments;
          faults = faults;
          flushed = λ e. (works, (let low = s.low in let d = l.durable in let other : slice_index p.plv j ≡ upto → ⊥ = (λ f. ne (sym (d ∙ f))) in below (slice_index p.plv j) upto (slice_index p'.plv j) low other here));
          failed = λ e. absurd (let bad : did.Flushed ≡ did.Failed = e in cc);
          idle = λ e. absurd (let bad : did.Flushed ≡ did.Idle = e in cc);
          goes = λ e. goes;
          stops = λ e. absurd (let bad : true ≡ false = sym e ∙ works in cc);
          calls = calls;
          half = λ tells. half_none p.load j 1 false (disk_of w) w' (λ e f. absurd (let bad : true ≡ false = sym f ∙ works in cc));
        }
      where
        below : (a b c : ℕ) → a ≤ b → (a ≡ b → ⊥) → c ≡ b → a < c
        below a b c low other e = elim (cases_eq a b) [ inl is ↦ absurd (other is) | inr ne ↦ omega (arith, low, ne, e) ]

  barred : (at : ℕ) (phase : Phase) → Bars p j at phase → slice_index p.plv j ≤ at → at ≤ slice_index p.gathered j → ⊥
  barred at Resting b low high = b
  barred at Locking b low high = b
  barred at Quitting b low high = b
  barred at Ready b low high = b
  barred at Placed b low high = b
  barred at Freeing b low high = b
  barred at Ended b low high = b
  barred at (Short gathered) b low high = elim b.2 [
    | inl under ↦ omega (arith, under, low)
    | inr over ↦ (let e = b.1 in omega (arith, over, high, e))
  ]
  barred at (Stopped stopped) b low high = let bad : None ≡ Some stopped = sym l.going ∙ b in cc

  within : (slice_index p.plv j ≤ upto) × (upto ≤ slice_index p.gathered j)
  within = ((let c = l.count in omega arith), (let e = l.gathered in omega arith))

  -- the disk failed
  module _ (counts : (d : D) (t : ℕ) (x : List ℕ) → t ≤ G.moment d → G.may_leave d x → G.may_leave_since d t x) (only : (d : D) (x : List ℕ) → G.may_leave_since d (G.moment d) x → G.may_leave d x)
      (ne : upto ≡ durable_of w → ⊥) (durable : durable_of w' ≡ durable_of w) (left : left_of w' ≡ left_of w) (cut : G.tells → FlushStops upto w w') (fails : has_failed w' ≡ true) (rose : Rose (G.faults (disk_of w)) (G.faults (disk_of w')))
      (moments : G.tells → (f : Format) (n i : ℕ) (content : List ℕ) → IsReady f n i w content → Passes G.moment G.may_leave_since (disk_of w) (disk_of w') (IsOldOrNew f n i content (part_upto w upto)))
      (reached : G.tells → (f : Format) (n i : ℕ) (content : List ℕ) → IsReady f n i w content → MayHold f n i content (G.may_leave (disk_of w')))
      (stops : IsStopped G.tells G.number G.fails G.short (disk_of w) (disk_of w')) (calls : G.tells → HasFlushed G 0 false (has_failed w') (disk_of w) (disk_of w')) (faults : G.faults (disk_of w) ≤ G.faults (disk_of w')) where
    by_stop : Happened (machine.Stop j (slice_index p.plv j)) p p' K h → FlushTurns j catalogue w w' p p' told K h es did.Failed
    by_stop q =
        let s = q.leads.0 in
        let f : ℕ → Stream = (core_of p h).streams in
        let x : Stream = record (f j) { stop = Some (slice_index p.plv j) } in
        let streams : (core_of p' q.hidden).streams ≡ at j x f = ap (λ (c : Core). c.streams) s.after in
        let a : Alike q.hidden = record {
          load = q.load;
          anchors = ap {B = ℕ → List (List ℕ)} (λ (o : ℕ → Stream) (i : ℕ). (o i).anchors) streams ∙ kept_at (λ (o : Stream). o.anchors) j x f refl;
          moved = ap (λ (o : ℕ → Stream). (o j).moved) streams ∙ ap (λ (o : Stream). o.moved) (at_same j x f);
          taken = q.taken;
        } in
        let plv : p'.plv ≡ p.plv = ap (λ (c : Core). c.plv) s.after in
        let here : slice_index p'.plv j ≡ slice_index p.plv j = ap (λ (v : List ℕ). slice_index v j) plv in
        let P = progress p h es K told in
        let P' = progress p' q.hidden (es ++ machine.Stop j (slice_index p.plv j) ∷ []) (K ++ q.joined) told in
        record {
          hidden = q.hidden;
          order = K ++ q.joined;
          events = es ++ machine.Stop j (slice_index p.plv j) ∷ [];
          stands = q.stands;
          load = q.load;
          taken = q.taken;
          moved = if_not (slice_index p.gathered j == slice_index p.plv j) (Stays P P')
              (Goes (setting_of p.load) p.load.workers p.load.streams (machine.Persist j (slice_index p.gathered j)) P P' ⊎ Goes (setting_of p.load) p.load.workers p.load.streams (machine.Stop j (slice_index p.plv j)) P P')
              (ne_eqb (slice_index p.gathered j) (slice_index p.plv j) (λ e. ne (l.gathered ∙ e ∙ sym l.durable)))
              (inr (record { new = q.joined; leads = q.leads; events = refl; joined = refl; told = refl }));
          kept = inr (record {
            fails = fails;
            at = slice_index p.plv j;
            stop = ap (λ (o : ℕ → Stream). (o j).stop) streams ∙ ap (λ (o : Stream). o.stop) (at_same j x f);
            durable = durable ∙ l.durable ∙ sym here;
            gathered = all_gathered (ap (λ (c : Core). slice_index c.gathered j) s.after);
            present = λ tells y left.
                subst (λ (d : Load). (bytes : List ℕ) × HasFront d.streams j catalogue d (core_of p' q.hidden) bytes y × (slice_index p'.plv j ≤ length catalogue + length bytes)) (sym q.load)
                (elim (left_by G.moment G.may_leave_since G.may_leave counts only (disk_of w) (disk_of w') (IsOldOrNew (format_of p.load.mode) p.load.streams j (catalogue ++ l.first) (part_upto w upto))
                (moments tells (format_of p.load.mode) p.load.streams j (catalogue ++ l.first) (l.ready tells)) y left) [
                  | inl was ↦ (l.first, old_front q.hidden a y (settled_has (format_of p.load.mode) p.load.streams j (G.seen (disk_of w)) (G.may_leave (disk_of w)) w.gate_at (catalogue ++ l.first) (l.ready tells).settled y was), (let n = l.long in omega arith))
                  | inr either ↦ elim either [
                    | inl has ↦ (l.first, old_front q.hidden a y has, (let n = l.long in omega arith))
                    | inr has ↦ (
                      h.taken j,
                      new_front q.hidden a y (subst (λ (b : List ℕ). HasContent (format_of p.load.mode) p.load.streams j b y) whole_is has),
                      (let n = l.long in let e = ap (length {A = ℕ}) l.is ∙ length-append l.first (left_of w) in omega arith),
                    )
                  ]
                ]);
            reached = λ tells.
                let some = reached tells (format_of p.load.mode) p.load.streams j (catalogue ++ l.first) (l.ready tells) in (
                  some.0,
                  catalogue ++ l.first,
                  some.1,
                  subst (λ (d : Load). HasContent (format_of d.mode) d.streams j (catalogue ++ l.first) some.0) (sym q.load) some.2,
                  (let n = l.long in let e = length-append catalogue l.first in omega arith),
                );
          });
          passes = passed q.hidden a moments;
          faults = faults;
          flushed = λ e. absurd (let bad : did.Failed ≡ did.Flushed = e in cc);
          failed = λ e. (fails, rose);
          idle = λ e. absurd (let bad : did.Failed ≡ did.Idle = e in cc);
          goes = λ e. absurd (let bad : true ≡ false = sym fails ∙ e in cc);
          stops = λ e. stops;
          calls = calls;
          half = λ tells. half_flushed p.load j upto (catalogue ++ l.first) w w' (l.ready tells) part_is durable left (cut tells);
        }
      where
        -- the block was of all that was gathered
        all_gathered : slice_index p'.gathered j ≡ slice_index p.gathered j → gathered_of w' ≡ slice_index p'.gathered j
        all_gathered same = let size = ap (length {A = ℕ}) left in let d = l.durable in let c = l.count in let e = l.gathered in omega (arith, same, size, durable, d, c, e)

    pub flush_failed : (at : ℕ) → at ≡ slice_index p.plv j → (o : Outcome) → Steps p p' K h (event.Stop j at) o → FlushTurns j catalogue w w' p p' told K h es did.Failed
    flush_failed at is outcome.Went t = by_stop (subst (λ (u : ℕ). Happened (machine.Stop j u) p p' K h) is t)
    flush_failed at is (outcome.Granted value) t = absurd t
    flush_failed at is (outcome.Busy holder) t = absurd t
    flush_failed at is (outcome.Placed start) t = absurd t
    flush_failed at is (outcome.Gathered upto) t = absurd t
    flush_failed at is (outcome.Acked number lv) t = absurd t
    flush_failed at is outcome.NothingCovered t = absurd t
    flush_failed at is (outcome.NotNow phase) t = absurd (barred at phase t.1 (omega arith) (let c = within in omega (arith, c.0, c.1, is)))
    flush_failed at is outcome.NoMemory t = absurd t

  module _ (ne : upto ≡ durable_of w → ⊥) (durable : durable_of w' ≡ upto) (left : left_of w' ≡ drop (upto - durable_of w) (left_of w)) (works : has_failed w' ≡ false)
      (done : G.tells → (f : Format) (n i : ℕ) (content : List ℕ) → IsReady f n i w content → IsReady f n i w' (content ++ part_upto w upto))
      (moments : G.tells → (f : Format) (n i : ℕ) (content : List ℕ) → IsReady f n i w content → Passes G.moment G.may_leave_since (disk_of w) (disk_of w') (IsOldOrNew f n i content (part_upto w upto)))
      (goes : G.tells → GoesOn G.number G.fails (disk_of w) (disk_of w')) (calls : G.tells → HasFlushed G 1 false (has_failed w') (disk_of w) (disk_of w')) (faults : G.faults (disk_of w) ≤ G.faults (disk_of w')) where
    pub flush_done : (o : Outcome) → Steps p p' K h (event.Persist j upto) o → FlushTurns j catalogue w w' p p' told K h es did.Flushed
    flush_done outcome.Went t = by_persist ne durable left works done moments goes calls faults t
    flush_done (outcome.Granted value) t = absurd t
    flush_done (outcome.Busy holder) t = absurd t
    flush_done (outcome.Placed start) t = absurd t
    flush_done (outcome.Gathered upto) t = absurd t
    flush_done (outcome.Acked number lv) t = absurd t
    flush_done outcome.NothingCovered t = absurd t
    flush_done (outcome.NotNow phase) t = absurd (barred upto phase t.1 within.0 within.1)
    flush_done outcome.NoMemory t = absurd t

-- there was nothing to flush
module _ {D : Type 0} {G : Ghosts D} (j : ℕ) (catalogue : List ℕ) (upto : ℕ) (w : Writer D G) (p : Plain) (told : List (ℕ × List ℕ)) (K : List (Act Txn)) (h : Hidden) (es : List machine.Event)
    (g : Stands p K h) (l : IsLoaded j catalogue upto w p h) (is : upto ≡ durable_of w) where
  nothing_left : left_of w ≡ []
  nothing_left = nil (left_of w) (let c = l.count in let d = l.durable in omega arith)
    where
      nil : (xs : List ℕ) → length xs ≡ 0 → xs ≡ []
      nil [] e = refl
      nil (x ∷ xs) e = absurd (omega arith)

  pub flush_idle : FlushTurns j catalogue w w p p told K h es did.Idle
  flush_idle =
      let P = progress p h es K told in
      let all : h.taken j ≡ l.first = l.is ∙ ap (λ (b : List ℕ). l.first ++ b) nothing_left ∙ append-nil l.first in
      record {
        hidden = h;
        order = K;
        events = es;
        stands = g;
        load = refl;
        taken = refl;
        moved = if_so (slice_index p.gathered j == slice_index p.plv j) (Stays P P)
            (Goes (setting_of p.load) p.load.workers p.load.streams (machine.Persist j (slice_index p.gathered j)) P P ⊎ Goes (setting_of p.load) p.load.workers p.load.streams (machine.Stop j (slice_index p.plv j)) P P)
            (eq-eqb (slice_index p.gathered j) (slice_index p.plv j) (sym l.gathered ∙ is ∙ l.durable)) refl;
        kept = inl (record {
          works = l.works;
          going = l.going;
          gathered = sym l.gathered ∙ is ∙ l.durable;
          durable = l.durable;
          left = nothing_left;
          spelled = l.spelled;
          ready = λ tells. subst (λ (b : List ℕ). IsReady (format_of p.load.mode) p.load.streams j w (catalogue ++ b)) (sym all) (l.ready tells);
        });
        passes = λ tells. passes_none G.moment G.may_leave_since (disk_of w) (HasSomeFront p.load.streams j catalogue p.load (core_of p h));
        faults = omega arith;
        flushed = λ e. absurd (let bad : did.Idle ≡ did.Flushed = e in cc);
        failed = λ e. absurd (let bad : did.Idle ≡ did.Failed = e in cc);
        idle = λ e. (l.works, refl);
        goes = λ e tells. record { same = λ k. refl; later = omega arith; clean = λ k low high. absurd (omega (arith, low, high)) };
        stops = λ e. absurd (let bad : true ≡ false = sym e ∙ l.works in cc);
        calls = λ tells. flushed_none G false (has_failed w) (disk_of w) (λ e f. absurd (let bad : true ≡ false = sym f ∙ l.works in cc));
        half = λ tells. half_none p.load j 0 false (disk_of w) w (λ e f. absurd (let bad : true ≡ false = sym f ∙ l.works in cc));
      }
