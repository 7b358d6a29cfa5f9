-- The anchors of a run in threads stand in their distance, in what is read of its streams.
use Rattle.std.proofs.Common.{ℕ, ◌<◌, ◌≡◌, true, List, [], map, length, sym, subst, arith, slice_index}
use Rattle.std.specs.Prelude.{Some, None, slice_get, slice_index_or}
use Rattle.tau_base.specs.Modes.{format_of}
use Rattle.tau_base.specs.declared.value.LogMode.{LogMode}
use Rattle.tau_disk.specs.declared.disk.Disk.{Ghosts}
use Rattle.tau_stream.specs.declared.writer.Writer.{Writer}
use Rattle.tau_text.specs.declared.load.Workload.{Workload}
use Rattle.tau_core.specs.declared.state.Load.{Load}
use Rattle.tau_record.specs.Content.{anchors_of}
use Rattle.tau_occ.specs.declared.style.Style.{Style}
use Rattle.tau_run.specs.Start.{Start, opened_at, IsStart}
use Rattle.tau_run.specs.Gives.{CameTo, came_far}
use Rattle.tau_run.specs.StopsLeave.{IsOver, NamesLowest, stops_in}
use Rattle.tau_run.proofs.Came.{BeginsOn, course, is_run, run_of}
use Rattle.tau_run.proofs.History.{is_set}
use Rattle.tau_run.proofs.Streams.{anchored}
use Rattle.tau_crew_facts.specs.Spacing.{IsSpacing, AreSpaced}
use Rattle.tau_crew_facts.specs.Threads.{in_threads}
use Rattle.tau_crew_facts.proofs.Anchors.{anchors_spaced}

module _ {D : Type 0} {G : Ghosts D} {n m : ℕ} {mode : LogMode} {load : Workload} {start : Start} {l : Load} {ws ws' : List (Writer D G)} {acks : List (ℕ × List ℕ)} (on : BeginsOn n m mode load start l)
    (style : Style) (t : CameTo (in_threads style) (opened_at load start) l ws ws' acks) (whole : in_threads style true l t.opening (came_far t)) (over : IsOver l.streams t.state) (going : NamesLowest l.streams (stops_in t.state) None) where
  -- no disk failed: the anchors of this run that are read of each stream stand in their distance
  pub thread_spaced : (j : ℕ) (content : List ℕ) → j < n → slice_get t.contents j ≡ Some content → AreSpaced (format_of mode) n j (length (anchors_of (slice_index_or start.log.streams j []))) (length (opened_at load start j)) content
  thread_spaced j content lt there =
      let low : j < l.streams = (let e = on.load_is.streams in omega (arith, lt, e)) in
      let olds : ℕ = length (anchors_of (slice_index_or start.log.streams j [])) in
      let old_is : slice_index l.opening.anchors.items j ≡ olds = anchored n m mode load start l (subst (λ (x : LogMode). IsStart (format_of x) n load start) (sym on.load_is.mode_is) on.begins) on.load_is j lt in
      let own : IsSpacing olds (length (opened_at load start j)) (slice_index t.state.plv j) (map (λ (v : List ℕ). slice_index v j) (t.state.streams j).anchors) =
      subst (λ (k : ℕ). IsSpacing k (length (opened_at load start j)) (slice_index t.state.plv j) (map (λ (v : List ℕ). slice_index v j) (t.state.streams j).anchors)) old_is
      (subst (λ (k : ℕ). IsSpacing (slice_index l.opening.anchors.items j) k (slice_index t.state.plv j) (map (λ (v : List ℕ). slice_index v j) (t.state.streams j).anchors)) ((is_set n m mode load start l on.begins.count on.load_is).opening j lt) (whole.1 going j low)) in
      subst (λ (x : LogMode). AreSpaced (format_of x) n j (length (anchors_of (slice_index_or start.log.streams j []))) (length (opened_at load start j)) content) on.load_is.mode_is
      (anchors_spaced n m mode load l t.joined t.state (run_of on t) (course on t) (is_run on t) j lt content there (over.persisted j low (going j low)) own)
