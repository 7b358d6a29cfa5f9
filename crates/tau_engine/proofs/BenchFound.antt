-- What the measured job finds: the rows of the run and those that recovery gives are the formula's, and each call was
-- acknowledged.
use Rattle.std.proofs.Common.{ℕ, ◌+◌, ◌-◌, ◌≤◌, ◌≡◌, true, List, [], ◌∷◌, map, length, refl, sym, ap, subst, ◌∙◌, arith}
use Rattle.std.specs.Prelude.{Some, slice_get, Ok, ◌==◌}
use Rattle.std.specs.List.{filter}
use Rattle.std.proofs.lemmas.Bool.{eqb-true}
use Rattle.tau_base.specs.declared.format.Format.TheVariants.{One}
use Rattle.tau_base.specs.declared.limits.TheConstants.{MAX_CALLS}
use Rattle.tau_base.specs.declared.value.Call.{Call}
use Rattle.tau_base.specs.declared.value.Key.{Key}
use Rattle.tau_base.specs.declared.value.Value.{Value}
use Rattle.tau_base.specs.Database.{Db, empty_db}
use Rattle.tau_disk.specs.declared.call.Tear.{Tear}
use Rattle.tau_disk.specs.declared.call.Tear.TheVariants.{New}
use Rattle.tau_disk.specs.declared.disk.Disk.{Ghosts}
use Rattle.tau_disk.specs.declared.memory.MemDisk.{MemDisk}
use Rattle.tau_disk.specs.Memory.{seen_by, state_of}
use Rattle.tau_disk.specs.Tear.{image_by}
use Rattle.tau_base.specs.declared.value.LogMode.TheVariants.{Values}
use Rattle.tau_model.specs.History.{Act, Member, Reordered, exec, trace}
use Rattle.tau_model.specs.Tables.{IsTablesOf}
use Rattle.tau_model.proofs.Orders.{calls_trace}
use Rattle.tau_text.specs.declared.load.Workload.{Workload}
use Rattle.tau_scan.specs.declared.log.Log.{Log}
use Rattle.tau_scan.specs.Reading.{log_of}
use Rattle.tau_scan.specs.Taken.{Kept}
use Rattle.tau_replay.specs.Redone.{IsOrderOf}
use Rattle.tau_replay.proofs.Ones.{tables_one}
use Rattle.tau_run.specs.Run.{Committed, Run, acts, means, has_ack, last_db}
use Rattle.tau_run.specs.Start.{Start}
use Rattle.tau_run.specs.RecoveredFacts.{IsRecovered, takes}
use Rattle.tau_run.proofs.Lists.{map_member, any_member}
use Rattle.tau_gen.specs.Generated.{call_of, calls_of, generated}
use Rattle.tau_gen.specs.Sums.{rows_of, numbers}
use Rattle.tau_gen.proofs.BenchDeclared.{call_at, length_calls}
use Rattle.tau_gen.proofs.BenchSums.{leaves_rows, all_write, length_numbers}
use Rattle.tau_model.proofs.Reorder.{reordered_length}
use Rattle.tau_engine.specs.Bench.{AreFound, IsMeasured}
use Rattle.tau_engine.specs.Drill.{images_by}
use Rattle.tau_engine.proofs.BenchNumbers.{all_numbers}
use Rattle.tau_engine.proofs.Drilled.{recovered, taken}
use Rattle.tau_crew_facts.proofs.Done.{filter_all}
use Rattle.tau_base.proofs.Lists.{length_mapped}
use Rattle.tau_model.proofs.Assembling.{member_mapped}

abbrev Rows : Type 0
Rows = List (Key × Value)

-- the image as it was last written is what a read gives
pub as_seen : (disks : List MemDisk) → images_by New disks ≡ map seen_by disks
as_seen [] = refl
as_seen (d ∷ disks) = λ i. sym d.reads i ∷ as_seen disks i

module _ {G : Ghosts MemDisk} (tells : G.tells) (left : (d : MemDisk) (tear : Tear) → G.may_leave d (image_by (state_of d) tear)) (n m start count : ℕ) (few : count ≤ MAX_CALLS) (load : Workload) (is : load ≡ generated start count)
    (old new : List MemDisk) (old_count : length old ≡ n) (new_count : length new ≡ n) (wrote : List ℕ → Type 0) (rows : Rows) (r : IsMeasured G n m load old new wrote rows) where
  abbrev run : Run
  run = r.rehearsed.facts.run

  none_there : run.start.base ≡ empty_db
  none_there = ap (λ (b : Start). b.base) r.rehearsed.facts.begins

  calls_are : load.calls ≡ calls_of start count
  calls_are = ap (λ (l : Workload). l.calls) is

  long : length load.calls ≡ count
  long = ap length calls_are ∙ length_calls start count

  -- a committed call is the one of its number
  formula : (c : Committed) → Member c run.calls → (1 ≤ c.number) × (c.number ≤ count) × (c.call ≡ call_of start c.number)
  formula c m =
      let w = r.rehearsed.facts.history.of_workload c m in
      let low = w.0 in
      let at = call_at start count (c.number - 1) c.call (subst (λ (cs : List Call). slice_get cs (c.number - 1) ≡ Some c.call) calls_are w.1) in
      let high = at.1 in
      let same : c.number - 1 + 1 ≡ c.number = omega (arith, low) in
      (low, omega (arith, low, high), at.0 ∙ ap (call_of start) same)

  acked : (k : ℕ) → 1 ≤ k → k ≤ count → (a : ℕ × List ℕ) × Member a run.acks × (a.0 ≡ k)
  acked k low high =
      let w = any_member (λ (a : ℕ × List ℕ). a.0 == k) run.acks (r.all k low (omega (arith, high, long))) in
      (w.0, w.1, eqb-true w.0.0 k w.2)

  number_of : Committed → ℕ
  number_of c = c.number

  once : Reordered (numbers count) (map (λ (c : Committed). c.number) run.calls)
  once =
      all_numbers count (map (λ (c : Committed). c.number) run.calls) r.rehearsed.facts.history.once
      (λ k m. (let w = member_mapped (λ (c : Committed). c.number) k run.calls m in let f = formula w.0 w.1 in subst (λ (j : ℕ). (1 ≤ j) × (j ≤ count)) w.2 (f.0, f.1)))
      (λ k low high.
      (let a = acked k low high in
      let c = r.rehearsed.facts.history.acked a.0 a.1 in
      subst (λ (j : ℕ). Member j (map (λ (d : Committed). d.number) run.calls)) (c.2 ∙ a.2) (map_member (λ (d : Committed). d.number) c.0 run.calls c.1)))

  -- each call is acknowledged, and once
  pub acks_are : length run.acks ≡ count
  acks_are =
      sym (length_mapped (λ (a : ℕ × List ℕ). a.0) run.acks)
      ∙ sym (reordered_length (numbers count) (map (λ (a : ℕ × List ℕ). a.0) run.acks)
      (all_numbers count (map (λ (a : ℕ × List ℕ). a.0) run.acks) r.rehearsed.facts.history.acked_once
      (λ k m.
      (let a = member_mapped (λ (a : ℕ × List ℕ). a.0) k run.acks m in
      let c = r.rehearsed.facts.history.acked a.0 a.1 in
      let f = formula c.0 c.1 in
      subst (λ (j : ℕ). (1 ≤ j) × (j ≤ count)) (c.2 ∙ a.2) (f.0, f.1)))
      (λ k low high. (let a = acked k low high in subst (λ (j : ℕ). Member j (map (λ (b : ℕ × List ℕ). b.0) run.acks)) a.2 (map_member (λ (b : ℕ × List ℕ). b.0) a.0 run.acks a.1)))))
      ∙ length_numbers count

  leaves : IsTablesOf (last_db load run) (rows_of start count)
  leaves =
      subst (λ (db : Db). IsTablesOf (exec (means load.declarations.procs) run.calls db) (rows_of start count)) (sym none_there)
      (leaves_rows load.declarations.procs start count (λ (c : Committed). c.number) (λ c. c.call) run.calls few (λ c m. (formula c m).2) once)

  -- the rows of the run are the formula's
  pub rows_are : rows ≡ rows_of start count
  rows_are = tables_one (last_db load run) rows (rows_of start count) r.present leaves

  abbrev recovers : IsRecovered n Values load run (images_by New new)
  recovers = recovered tells left n m load old new old_count new_count wrote r.rehearsed New

  -- recovery takes every call
  takes_all : (c : Committed) → Member c run.calls → takes recovers.log c ≡ true
  takes_all c member =
      let back : Member c (map (λ (x : Act Committed). x.call) (acts load.declarations.procs run)) = subst (λ (cs : List Committed). Member c cs) (sym (calls_trace (means load.declarations.procs) run.calls run.start.base)) member in
      let x = member_mapped (λ (x : Act Committed). x.call) c (acts load.declarations.procs run) back in
      let f = formula c member in
      let has : has_ack run c.number ≡ true = r.all c.number f.0 (let high = f.1 in omega (arith, high, long)) in
      let up = all_write load.declarations.procs start count (λ (d : Committed). d.number) (λ d. d.call) run.calls few (λ d m. (formula d m).2) once x.0 (subst (λ (db : Db). Member x.0 (trace (means load.declarations.procs) run.calls db)) none_there x.1) in
      subst (λ (d : Committed). takes recovers.log d ≡ true) x.2
      (taken tells left n m load old new old_count new_count wrote r.rehearsed New x.0 x.1 (subst (λ (d : Committed). has_ack run d.number ≡ true) (sym x.2) has) up)

  whole : filter (takes recovers.log) run.calls ≡ run.calls
  whole = filter_all (takes recovers.log) run.calls takes_all

  -- so what recovery finds is the formula's too
  pub found_are : (found : Rows) → AreFound new found → found ≡ rows_of start count
  found_are found f =
      let same : Ok f.log ≡ Ok recovers.log = sym f.reads ∙ ap (λ (images : List (List ℕ)). log_of (Some One) images) (sym (as_seen new)) ∙ recovers.asked in
      let one : f.log ≡ recovers.log = cc in
      let redone = subst (λ (log : Log). Rattle.tau_replay.specs.Redone.IsRedone log found) one f.redone in
      let is_db = recovers.sound.redone.alike redone.order redone.is_order ∙ ap (λ (cs : List Committed). exec (means load.declarations.procs) cs run.start.base) whole in
      tables_one (last_db load run) found (rows_of start count) (subst (λ (db : Db). IsTablesOf db found) is_db redone.tables) leaves

  -- and there is a log with an order
  pub can_recover : (log : Log) × (log_of (Some One) (map seen_by new) ≡ Ok log) × (order : List Kept) × IsOrderOf log order
  can_recover = subst (λ (images : List (List ℕ)). (log : Log) × (log_of (Some One) images ≡ Ok log) × (order : List Kept) × IsOrderOf log order) (as_seen new) (recovers.log, recovers.asked, recovers.sound.redone.ordered.0, recovers.sound.redone.ordered.1)
