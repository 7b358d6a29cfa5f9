-- What was gathered is handed to the writer.
use Rattle.std.proofs.Common.{ℕ, ◌+◌, ◌<◌, ◌≤◌, ◌≡◌, ◌⊎◌, inl, inr, List, ◌++◌, length, sym, ap, subst, ◌∙◌, arith, length-append, false}
use Rattle.std.specs.Prelude.{slice_index}
use Rattle.tau_base.specs.Modes.{format_of}
use Rattle.tau_base.specs.declared.format.Format.{Format}
use Rattle.tau_disk.specs.declared.disk.Disk.{Ghosts}
use Rattle.tau_stream.specs.declared.writer.Writer.{Writer}
use Rattle.tau_stream.specs.Writer.{disk_of, durable_of, left_of, has_failed, IsReady, MayReach}
use Rattle.tau_model.specs.History.{Act}
use Rattle.tau_machine.specs.Hands.{Txn}
use Rattle.tau_machine.specs.State.{Core, Stream, Item}
use Rattle.tau_shard.proofs.At.{at_same, at_other}
use Rattle.tau_core.specs.declared.state.Load.{Load}
use Rattle.tau_core.specs.State.{Plain}
use Rattle.tau_core.specs.View.{Hidden, core_of}
use Rattle.tau_core.specs.Stands.{anchors_at}
use Rattle.tau_core.specs.Pieces.{Spelled}
use Rattle.tau_core.specs.Steps.{HandsOut}
use Rattle.tau_disk.specs.Disk.{Passes, Rose}
use Rattle.tau_disk.specs.Used.{GoesOn, IsStopped}
use Rattle.tau_machine.specs.Events as machine
use Rattle.tau_core.specs.View.{setting_of}
use Rattle.tau_run.specs.StopsLeave.{HasSomeFront}
use Rattle.tau_run.specs.Turns.{Progress, Flushed}
use Rattle.tau_step.specs.declared.manager.Managing.{Managing}
use Rattle.tau_step.specs.Progressed.{progress}
use Rattle.tau_step.specs.Counts.{HasFlushed, MayHalve, flushes_by}
use Rattle.tau_step.proofs.Counted.{half_at}
use Rattle.tau_step.specs.Keeping.{IsFilled, IsLoaded, Handed, FlushTurns, GatheredTurns, GatheredStops}
use Rattle.tau_step.proofs.Bodies.{spelled_long, behind_whole}
use Rattle.tau_step.proofs.Flushing.{spelled_kept}

module _ {D : Type 0} {G : Ghosts D} (j : ℕ) (catalogue : List ℕ) (upto : ℕ) (w : Writer D G) (p p' : Plain) (K : List (Act Txn)) (h : Hidden) (bytes : List ℕ)
    (there : j < p.load.streams) (l : IsFilled j catalogue upto w p h) (o : HandsOut p p' K h j bytes) where
  taken_is : o.hidden.taken j ≡ h.taken j ++ bytes
  taken_is = ap (λ (t : ℕ → List ℕ). t j) o.taken ∙ at_same j (h.taken j ++ bytes) h.taken

  streams_same : (core_of p' o.hidden).streams ≡ (core_of p h).streams
  streams_same = ap (λ (c : Core). c.streams) o.same

  anchors_same : anchors_at p' ≡ anchors_at p
  anchors_same = ap {B = ℕ → List (List ℕ)} (λ (f : ℕ → Stream) (i : ℕ). (f i).anchors) streams_same

  moved_is : o.hidden.moved j ≡ l.before ++ l.others
  moved_is = ap (λ (f : ℕ → Stream). (f j).moved) streams_same ∙ l.is

  gathered_same : slice_index p'.gathered j ≡ slice_index p.gathered j
  gathered_same = ap (λ (c : Core). slice_index c.gathered j) o.same

  -- as many bytes as the stream was gathered on
  pub bytes_count : slice_index p.plv j + length bytes ≡ upto
  bytes_count =
      let there' : j < p'.load.streams = subst (λ (d : Load). j < d.streams) (sym o.load) there in
      let q = o.stands.inv.agrees.pieces.stream j there' in
      let whole = spelled_long p'.load (anchors_at p') (slice_index p'.load.opening.ends j) (slice_index p'.gathered j) (o.hidden.moved j) (o.hidden.taken j) q.moved o.spelled in
      let opening : slice_index p'.load.opening.ends j ≡ slice_index p.load.opening.ends j = ap (λ (d : Load). slice_index d.opening.ends j) o.load in
      let parts : length (o.hidden.taken j) ≡ length (h.taken j) + length bytes = ap (length {A = ℕ}) taken_is ∙ length-append (h.taken j) bytes in
      let same = gathered_same in
      let e = l.gathered in
      let d = l.long in
      omega arith

  before_spelled : Spelled p'.load (anchors_at p') l.before (h.taken j)
  before_spelled = spelled_kept p p' l.before (h.taken j) o.load anchors_same l.spelled

  pub bytes_whole : (upto ≡ durable_of w) ⊎ (durable_of w + 5 ≤ upto)
  bytes_whole = elim (behind_whole p'.load (anchors_at p') l.before l.others (h.taken j) bytes before_spelled
      (subst (λ (t : List ℕ). Spelled p'.load (anchors_at p') (l.before ++ l.others) t) taken_is
      (subst (λ (items : List Item). Spelled p'.load (anchors_at p') items (o.hidden.taken j)) moved_is o.spelled))) [
        | inl none ↦ inl (let n = ap (length {A = ℕ}) none in let c = bytes_count in let d = l.durable in omega arith)
        | inr five ↦ inr (let c = bytes_count in let d = l.durable in omega arith)
      ]

  -- the writer may go up to there, once it has the bytes
  pub may_reach : (w' : Writer D G) → durable_of w' ≡ durable_of w → left_of w' ≡ left_of w ++ bytes → MayReach w' upto
  may_reach w' durable left =
      let c = bytes_count in
      let d = l.durable in
      let e : length (left_of w') ≡ length bytes = ap (length {A = ℕ}) (left ∙ ap (λ (b : List ℕ). b ++ bytes) l.left) in
      let small = o.small in
      record {
        not_before = omega arith;
        within = omega arith;
        small = omega arith;
        whole = elim bytes_whole [ inl same ↦ inl (same ∙ sym durable) | inr five ↦ inr (omega arith) ];
      }

  abbrev pub handed : {w' : Writer D G} → Handed j catalogue upto w' p p' K h
  handed = record {
    hidden = o.hidden;
    same = o.same;
    stands = o.stands;
    load = o.load;
    taken = λ i ne. ap (λ (t : ℕ → List ℕ). t i) o.taken ∙ at_other j (h.taken j ++ bytes) h.taken i ne;
  }

  -- and has them
  pub loaded : (w' : Writer D G) → durable_of w' ≡ durable_of w → left_of w' ≡ left_of w ++ bytes → has_failed w' ≡ has_failed w → ((f : Format) (n i : ℕ) (content : List ℕ) → IsReady f n i w content → IsReady f n i w' content) →
      IsLoaded j catalogue upto w' p' o.hidden
  loaded w' durable left works ready =
      let plv : slice_index p'.plv j ≡ slice_index p.plv j = ap (λ (c : Core). slice_index c.plv j) o.same in
      let all : left_of w' ≡ bytes = left ∙ ap (λ (b : List ℕ). b ++ bytes) l.left in
      record {
        works = works ∙ l.works;
        going = ap (λ (f : ℕ → Stream). (f j).stop) streams_same ∙ l.going;
        gathered = l.gathered ∙ sym gathered_same;
        durable = durable ∙ l.durable ∙ sym plv;
        first = h.taken j;
        is = taken_is ∙ ap (λ (b : List ℕ). h.taken j ++ b) (sym all);
        before = l.before;
        others = l.others;
        moved = moved_is;
        front = before_spelled;
        spelled = o.spelled;
        long = ap (λ (d : Load). slice_index d.opening.ends j + length (h.taken j)) o.load ∙ l.long ∙ sym plv;
        count = ap (λ (n : ℕ). n + length (left_of w')) plv ∙ ap (λ (b : List ℕ). slice_index p.plv j + length b) all ∙ bytes_count;
        ready = λ tells. subst (λ (d : Load). IsReady (format_of d.mode) d.streams j w' (catalogue ++ h.taken j)) (sym o.load) (ready (format_of p.load.mode) p.load.streams j (catalogue ++ h.taken j) (l.ready tells));
      }

-- the turn after its Gather, of which what was handed over is flushed
module _ {D : Type 0} {G : Ghosts D} (j : ℕ) (catalogue : List ℕ) (upto : ℕ) (w m w' : Writer D G) (p q p' : Plain) (told : List (ℕ × List ℕ)) (K : List (Act Txn)) (h : Hidden) (es : List machine.Event)
    (x : Handed j catalogue upto m p q K h) (disk : disk_of m ≡ disk_of w) where
  same_progress : progress q x.hidden es K told ≡ progress p h es K told
  same_progress = ap (λ (c : Core). record { state = c; events = es; joined = K; told = told }) x.same

  plv_same : slice_index q.plv j ≡ slice_index p.plv j
  plv_same = ap (λ (c : Core). slice_index c.plv j) x.same

  pub gathered_turns : (a : Managing) → FlushTurns j catalogue m w' q p' told K x.hidden es a → GatheredTurns j catalogue w w' p p' told K h es a
  gathered_turns a t =
      let P' = progress p' t.hidden t.events t.order told in
      record {
        hidden = t.hidden;
        order = t.order;
        events = t.events;
        stands = t.stands;
        load = t.load ∙ x.load;
        taken = λ i ne. ap (λ (f : ℕ → List ℕ). f i) t.taken ∙ x.taken i ne;
        moved = subst (λ (P : Progress). Flushed (setting_of p.load) p.load.workers p.load.streams j P P') same_progress
            (subst (λ (d : Load). Flushed (setting_of d) d.workers d.streams j (progress q x.hidden es K told) P') x.load t.moved);
        kept = t.kept;
        passes = λ tells. subst (λ (k : D). Passes G.moment G.may_leave_since k (disk_of w') (HasSomeFront p.load.streams j catalogue p.load (core_of p' t.hidden))) disk
            (subst (λ (d : Load). Passes G.moment G.may_leave_since (disk_of m) (disk_of w') (HasSomeFront d.streams j catalogue d (core_of p' t.hidden))) x.load (t.passes tells));
        faults = subst (λ (k : D). G.faults k ≤ G.faults (disk_of w')) disk t.faults;
        flushed = λ e. let f = t.flushed e in (f.0, subst (λ (n : ℕ). n < slice_index p'.plv j) plv_same f.1);
        failed = λ e. let f = t.failed e in (f.0, subst (λ (k : D). Rose (G.faults k) (G.faults (disk_of w'))) disk f.1);
        idle = λ e. let f = t.idle e in (f.0, f.1 ∙ plv_same);
        goes = λ e tells. subst (λ (k : D). GoesOn G.number G.fails k (disk_of w')) disk (t.goes e tells);
        stops = λ e. subst (λ (k : D). IsStopped G.tells G.number G.fails G.short k (disk_of w')) disk (t.stops e);
        calls = λ tells. subst (λ (k : D). HasFlushed G (flushes_by a) false (has_failed w') k (disk_of w')) disk (t.calls tells);
        half = λ tells. subst (λ (d : Load). MayHalve d j (flushes_by a) false (disk_of w) w') x.load (half_at q.load j (flushes_by a) false (disk_of m) (disk_of w) w' disk (t.half tells));
      }

  pub gathered_stops : has_failed m ≡ has_failed w → GatheredStops j catalogue w m p q told K h es
  gathered_stops works = record { hidden = x.hidden; same = x.same; stands = x.stands; load = x.load; disk = disk; works = works }
