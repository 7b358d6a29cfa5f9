-- What a run in threads tells at its end.
use Rattle.std.proofs.Common.{ℕ, zero, suc, ◌+◌, ◌-◌, ◌<◌, ◌≡◌, inl, inr, Bool, true, Option, List, [], ◌∷◌, length, map, refl, sym, ap, subst, ◌∙◌, arith, slice_index}
use Rattle.std.specs.Prelude.{Some, None, Result, Ok, Err, IfOk, ◌==◌, slice_get, slice_index_or}
use Rattle.std.specs.List.{All, filter}
use Rattle.std.proofs.Math.Nat.{mod-lt}
use Rattle.std.proofs.lemmas.Bool.{cases_eq, eq-eqb, ne_eqb}
use Rattle.std.proofs.lemmas.Option.{slice_get_within}
use Rattle.tau_base.specs.declared.value.Call.{Call}
use Rattle.tau_base.specs.declared.value.NoMemory.{NoMemory}
use Rattle.tau_disk.specs.declared.disk.Disk.{Ghosts}
use Rattle.tau_stream.specs.declared.writer.Writer.{Writer}
use Rattle.tau_model.specs.History.{Act, Member}
use Rattle.tau_model.specs.Tables.{IsTablesOf}
use Rattle.tau_model.proofs.Assembling.{member_mapped}
use Rattle.tau_machine.specs.Hands.{Txn}
use Rattle.tau_machine.specs.Reports.{reported}
use Rattle.tau_machine.specs.State.{Core, Ticket, sight}
use Rattle.tau_report.specs.declared.report.RunEnd.{RunEnd}
use Rattle.tau_core.specs.declared.state.Load.{Load}
use Rattle.tau_core.specs.State.{Plain}
use Rattle.tau_core.specs.Stands.{Stands}
use Rattle.tau_core.specs.View.{Hidden, call_of, core_of, setting_of, worker_of}
use Rattle.tau_core.proofs.Promises.{acknowledged_law, committed_law}
use Rattle.tau_occ.specs.declared.style.Style.{Style}
use Rattle.tau_run.specs.Run.{pair_of}
use Rattle.tau_desk.specs.Seats.{PlainHead}
use Rattle.tau_run.specs.Gives.{Concluded, Gave}
use Rattle.tau_run.specs.StopsLeave.{NamesLowest, stops_in}
use Rattle.tau_crew_facts.specs.Ends.{stopped_by, stops_of}
use Rattle.tau_crew_facts.specs.Threads.{lasting}
use Rattle.tau_crew_facts.proofs.Came.{apart_whole, came, lowest}
use Rattle.tau_crew.specs.declared.clerk.ClerkJob.{ClerkJob}
use Rattle.tau_crew.specs.declared.manager.ManagerJob.{ManagerJob}
use Rattle.tau_crew.specs.declared.told.Told.{Told}
use Rattle.tau_crew.specs.Clerking.{IsSoFar, IsToldSoFar, all_told, with_missing}
use Rattle.tau_crew.specs.EndCloses.{ClosesRun}
use Rattle.tau_crew.specs.EndDone.{ClosesDone, IsDone}
use Rattle.tau_crew.proofs.EndTold.{all_heard, ends_short}
use Rattle.tau_base.proofs.Logic.{if_true, if_false}
use Rattle.tau_machine.proofs.Lists.{member_of}
use Rattle.tau_run.specs.Fates.{IsNumberOf, fates_by}
use Rattle.tau_run.specs.Heard.{Heard}

at_member : {A : Type 0} (xs : List A) (k : ℕ) (d : A) → k < length xs → Member (slice_index_or xs k d) xs
at_member [] k d lt = absurd (omega (arith, lt))
at_member (x ∷ xs) zero d lt = inl refl
at_member (x ∷ xs) (suc k) d lt = inr (at_member xs k d (omega (arith, lt)))

-- a call that there is has a number
number_is : (calls : List Call) (n : ℕ) (c : Call) → call_of calls n ≡ Some c → IsNumberOf (length calls) n
number_is calls n c e = elim (cases_eq n 0) [
  | inl z ↦ absurd (let bad : None ≡ Some c = sym (if_true (n == 0) None (slice_get calls (n - 1)) (eq-eqb n 0 z)) ∙ e in cc)
  | inr nz ↦ (let lt = slice_get_within calls (n - 1) c (sym (if_false (n == 0) None (slice_get calls (n - 1)) (ne_eqb n 0 nz)) ∙ e) in (omega (arith, nz), omega (arith, lt, nz)))
]

module _ (p : Plain) (K : List (Act Txn)) (h : Hidden) (g : Stands p K h) (told : List (ℕ × List ℕ)) (acks : (w : ℕ) → w < p.load.workers → filter (λ (a : ℕ × List ℕ). worker_of p.load.workers a.0 == w) told ≡ map pair_of (h.acked w)) where
  told_one : (a : ℕ × List ℕ) → Member a told → IsNumberOf (length p.load.calls) a.0
  told_one a m =
      let w : ℕ = worker_of p.load.workers a.0 in
      let low : worker_of p.load.workers a.0 < p.load.workers = mod-lt (a.0 - 1) {m = p.load.workers} (let some = g.sound.workers_low in omega (arith, some)) in
      let n = member_of (λ (b : ℕ × List ℕ). worker_of p.load.workers b.0 == w) a told m (eq-eqb (worker_of p.load.workers a.0) w refl) in
      let (k, mk, e) = member_mapped pair_of a (h.acked w) (subst (λ (l : List (ℕ × List ℕ)). Member a l) (acks w low) n) in
      let law = acknowledged_law p K h g w k mk in
      let t = law.0 in
      subst (λ (number : ℕ). IsNumberOf (length p.load.calls) number) (ap (λ (x : Ticket). x.number) law.2 ∙ ap (λ (x : ℕ × List ℕ). x.0) e)
      (number_is p.load.calls t.call.call.number t.call.call.call ((committed_law p K h g).0 t law.1).0)

  -- the calls that were told are calls of the run
  told_all : All (λ (a : ℕ × List ℕ). IsNumberOf (length p.load.calls) a.0) told
  told_all k d lt = told_one (slice_index_or told k d) (at_member told k d lt)

module _ {D : Type 0} {G : Ghosts D} (first : Plain) {style : Style} (bases : ℕ → List ℕ) (ws ws' : List (Writer D G)) (telling : ClerkJob) (core : Plain) (c : ClosesRun first style bases ws ws' telling core) (none : telling.told.missing ≡ None) where
  told_is : all_told telling.told ≡ telling.told.acks
  told_is = ap (with_missing telling.told.acks) none

  acked_same : (w : ℕ) → c.hidden.acked w ≡ c.state.acked w
  acked_same w = ap (λ (s : Core). s.acked w) c.core

  pub told_numbers : (calls : ℕ) → calls ≡ length first.load.calls → All (λ (a : ℕ × List ℕ). IsNumberOf calls a.0) telling.told.acks
  told_numbers calls count =
      subst (λ (n : ℕ). All (λ (a : ℕ × List ℕ). IsNumberOf n a.0) telling.told.acks) (ap (λ (l : Load). length l.calls) c.load ∙ sym count)
      (told_all core c.came.closed.joined c.hidden c.stands telling.told.acks
      (subst (λ (l : Load). (w : ℕ) → w < l.workers → filter (λ (a : ℕ × List ℕ). worker_of l.workers a.0 == w) telling.told.acks ≡ map pair_of (c.hidden.acked w)) (sym c.load)
      (λ w lt. subst (λ (acks : List (ℕ × List ℕ)). filter (λ (a : ℕ × List ℕ). worker_of first.load.workers a.0 == w) acks ≡ map pair_of (c.hidden.acked w)) told_is (c.came.clerk.told w lt ∙ ap (map pair_of) (sym (acked_same w))))))

-- to its end
pub ends_well : {D : Type 0} {G : Ghosts D} (first : Plain) {style : Style} (bases : ℕ → List ℕ) (ws ws' : List (Writer D G)) (h : PlainHead) (jobs : List (ManagerJob D G)) (telling : ClerkJob) (core : Plain) (hears : Type 0) (held held' : List ℕ) (sink_rose : Type 0) (long : (j : ℕ) → j < first.load.streams → length (bases j) ≡ slice_index first.load.opening.ends j) (c : ClosesDone first style bases ws ws' h jobs telling core) →
    IsDone first h jobs telling → telling.told.missing ≡ None → telling.told.lines.items ≡ [] → (hears → IsToldSoFar held telling.told held') → (telling.told.sink_failed ≡ true → sink_rose) → (end : RunEnd) → end.report.acks ≡ telling.told.acks →
    ((K : List (Act Txn)) (q : Hidden) → Stands core K q → end.report.fates ≡ fates_by (length core.load.calls) K telling.told.acks) →
    ((K : List (Act Txn)) (q : Hidden) → Stands core K q → end.report.order ≡ map (λ (t : Act Txn). t.call.call.number) (reported core.ends K)) →
    ((K : List (Act Txn)) (q : Hidden) → Stands core K q → IsTablesOf (sight (setting_of core.load) (core_of core q)).row end.report.tables) → NamesLowest first.load.streams (stops_in (stopped_by ws' c.run.state)) end.disk → end.sink_failed ≡ telling.told.sink_failed → Concluded (lasting style ws') bases first.load ws ws' hears held held' sink_rose end
ends_well first bases ws ws' h jobs telling core hears held held' sink_rose long c q none written heard sink end acks fates order tables disk failed =
    let all : all_told telling.told ≡ telling.told.acks = ap (with_missing telling.told.acks) none in
    let K = c.run.came.closed.joined in
    let s = c.run.state in
    record {
      acks = all_told telling.told;
      came = came bases first long s ws ws' (all_told telling.told) c.run.came;
      whole = apart_whole bases first long s ws ws' (all_told telling.told) c.run.came (c.apart q.memory);
      over = (c.done q).0;
      kept = (c.done q).1;
      heard = λ x.
          subst (λ (f : Bool). Heard held (all_told telling.told) f held') (sym failed)
          (subst (λ (a : List (ℕ × List ℕ)). Heard held a telling.told.sink_failed held') (sym all)
          (all_heard held telling.told.acks telling.told.sink_failed held' (subst (λ (ls : List ℕ). IsSoFar held telling.told.acks ls telling.told.sink_failed held') written (heard x))));
      sink = λ e. sink (sym failed ∙ e);
      disk = disk;
      told = acks ∙ sym all;
      fates = fates K c.run.hidden c.run.stands ∙ ap (λ (l : Load). fates_by (length l.calls) K telling.told.acks) c.run.load ∙ ap (fates_by (length first.load.calls) K) (sym all);
      order = order K c.run.hidden c.run.stands ∙ ap (λ (s : Core). map (λ (t : Act Txn). t.call.call.number) (reported s.ends K)) c.run.core;
      tables = subst (λ (s : Core). IsTablesOf (sight (setting_of first.load) s).row end.report.tables) c.run.core (subst (λ (l : Load). IsTablesOf (sight (setting_of l) (core_of core c.run.hidden)).row end.report.tables) c.run.load (tables K c.run.hidden c.run.stands));
    }

-- Or, to tell it, memory ran out. The clerk's job gave back what it has told.
pub ends_ran : {D : Type 0} {G : Ghosts D} (first : Plain) {style : Style} (bases : ℕ → List ℕ) (ws ws' : List (Writer D G)) (h : PlainHead) (jobs : List (ManagerJob D G)) (telling : ClerkJob) (core : Plain) (hears : Type 0) (held held' : List ℕ) (sink_rose : Type 0) (long : (j : ℕ) → j < first.load.streams → length (bases j) ≡ slice_index first.load.opening.ends j) (c : ClosesDone first style bases ws ws' h jobs telling core) →
    IsDone first h jobs telling → telling.told.missing ≡ None → telling.told.lines.items ≡ [] → (hears → IsToldSoFar held telling.told held') → (telling.told.sink_failed ≡ true → sink_rose) → (t : Told) → t ≡ telling.told → (failed : Option ℕ) → ((plv : List ℕ) → NamesLowest (length ws') (stops_of ws' plv) failed) →
    (result : Result RunEnd NoMemory) → IfOk result (λ end. end.report.acks ≡ t.acks) → IfOk result (λ end. (K : List (Act Txn)) (q : Hidden) → Stands core K q → end.report.fates ≡ fates_by (length core.load.calls) K t.acks) →
    IfOk result (λ end. (K : List (Act Txn)) (q : Hidden) → Stands core K q → end.report.order ≡ map (λ (a : Act Txn). a.call.call.number) (reported core.ends K)) →
    IfOk result (λ end. (K : List (Act Txn)) (q : Hidden) → Stands core K q → IsTablesOf (sight (setting_of core.load) (core_of core q)).row end.report.tables) → IfOk result (λ end. end.disk ≡ failed) → IfOk result (λ end. end.sink_failed ≡ t.sink_failed) →
    Gave (lasting style ws') bases first.load ws ws' hears held held' sink_rose result
ends_ran first bases ws ws' h jobs telling core hears held held' sink_rose long c q none written heard sink t same failed low (Ok end) acks fates order tables disk sank =
    ends_well first bases ws ws' h jobs telling core hears held held' sink_rose long c q none written heard sink end (acks ∙ ap (λ (x : Told). x.acks) same) (λ K y g. fates K y g ∙ ap (λ (x : Told). fates_by (length core.load.calls) K x.acks) same) order tables
    (lowest bases first c.run.state ws ws' (all_told telling.told) c.run.came end.disk (subst (λ (f : Option ℕ). NamesLowest (length ws') (stops_of ws' c.run.state.plv) f) (sym disk) (low c.run.state.plv))) (sank ∙ ap (λ (x : Told). x.sink_failed) same)
ends_ran first bases ws ws' h jobs telling core hears held held' sink_rose long c q none written heard sink t same failed low (Err e) acks fates order tables disk sank =
    inl (ends_short first bases ws ws' telling core hears held held' sink_rose long c.run written heard sink)

pub none_more : (stops : ℕ → Option ℕ) (j : ℕ) → ((i : ℕ) → i < j → stops i ≡ None) → stops j ≡ None → (i : ℕ) → i < j + 1 → stops i ≡ None
none_more stops j had goes i lt = elim (cases_eq i j) [
  | inl e ↦ ap stops e ∙ goes
  | inr ne ↦ had i (omega (arith, lt, ne))
]
