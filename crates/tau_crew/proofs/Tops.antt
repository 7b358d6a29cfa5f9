-- From the run itself to what the calls tell of it.
use Rattle.std.proofs.Common.{ℕ, zero, suc, ◌<◌, ◌≤◌, ◌≡◌, arith, List, [], ◌∷◌, ◌++◌, drop, take, length, refl, sym, ap, subst, ◌∙◌}
use Rattle.std.specs.Prelude.{Result, slice_index_or}
use Rattle.std.proofs.lemmas.List.{append-nil}
use Rattle.tau_base.specs.Modes.{format_of}
use Rattle.tau_base.specs.declared.value.LogMode.{LogMode}
use Rattle.tau_base.specs.declared.value.NoMemory.{NoMemory}
use Rattle.tau_disk.specs.declared.disk.Disk.{Ghosts}
use Rattle.tau_stream.specs.declared.writer.Writer.{Writer}
use Rattle.tau_text.specs.declared.load.Workload.{Workload}
use Rattle.tau_report.specs.declared.report.RunEnd.{RunEnd}
use Rattle.tau_core.specs.declared.opening.Opening.{Opening}
use Rattle.tau_core.specs.declared.state.Load.{Load}
use Rattle.tau_core.specs.State.{Plain}
use Rattle.tau_core.specs.Opens.{Opened, load_of}
use Rattle.tau_run.specs.Start.{catalogue_of}
use Rattle.tau_occ.specs.declared.style.Style.{Style}
use Rattle.tau_rule.specs.Steps.{Sat}
use Rattle.tau_rule.proofs.Gives.{one_origin}
use Rattle.tau_desk.specs.declared.desk.Desk.{Desk}
use Rattle.tau_desk.specs.Ends.{IsClerkSplit, IsFirst, IsWhole}
use Rattle.tau_desk.specs.Laid.{AreUnbegun}
use Rattle.tau_desk.specs.Seats.{Heads, PlainClerkSeat, PlainHead}
use Rattle.tau_crew.specs.declared.manager.ManagerJob.{ManagerJob}
use Rattle.tau_crew.specs.Dealing.{AreDealt, IsDealing, IsDealt, KeepsWorkers}
use Rattle.tau_crew.specs.Together.{IsManagerReady}
use Rattle.tau_crew.specs.WorkersBack.{IsAtStart, IsHeadReady}
use Rattle.tau_crew.proofs.WorkReturn.{all_ready, at_start, ready_stays, start_stays}
use Rattle.tau_crew.proofs.WorkStays.{workers_stay_clerk, workers_then}
use Rattle.tau_base.proofs.Lists.{some_at, got_or}
use Rattle.tau_run.specs.Gives.{GaveFrom, GaveNew}
use Rattle.tau_run.proofs.Came.{Around, gave_by}
use Rattle.tau_crew_facts.specs.Threads.{in_threads, lasting}

-- ---- the beginning

-- a list that was lent as a slice
pub lent_back : {A : Type 0} (len : ℕ) (new old : List A) → length new ≡ len → length old ≡ len → take len (new ++ drop (length new) old) ≡ new
lent_back {A} len new old e f =
    let none : drop (length new) old ≡ [] = drop_all (length new) old (omega (arith, e, f)) in
    ap (λ (xs : List A). take len (new ++ xs)) none ∙ ap (take len) (append-nil new) ∙ ap (λ (k : ℕ). take k new) (sym e) ∙ take_all new
  where
    drop_all : (n : ℕ) (xs : List A) → length xs ≤ n → drop n xs ≡ []
    drop_all zero [] h = refl
    drop_all zero (x ∷ xs) h = absurd (omega arith)
    drop_all (suc n) [] h = refl
    drop_all (suc n) (x ∷ xs) h = drop_all n xs (omega (arith, h))

    take_all : (xs : List A) → take (length xs) xs ≡ xs
    take_all [] = refl
    take_all (x ∷ xs) = ap (λ (ys : List A). x ∷ ys) (take_all xs)

-- all managers are ready whose seats have just left
module _ {D : Type 0} {G : Ghosts D} (desk : Desk) (bases : ℕ → List ℕ) (ws : List (Writer D G)) (jobs : List (ManagerJob D G)) (streams : ℕ) (wide : length ws ≡ streams) (is : desk.table.shared.key.value.load.streams ≡ streams) (anchors : length desk.load.opening.anchors.items ≡ streams)
    (dealt : AreDealt desk.table.shared.key.value desk.table.shared.table_id bases ws streams jobs) where
  pub managers_ready : (k : ℕ) (d : ManagerJob D G) → k < length jobs → IsManagerReady desk (slice_index_or jobs k d)
  managers_ready k d low =
      let job = some_at jobs k low in
      let w = some_at ws k (let c = dealt.count in omega (arith, c, low, wide)) in
      let one : IsDealt desk.table.shared.key.value desk.table.shared.table_id bases k w.0 job.0 = dealt.each k w.0 job.0 w.1 job.1 in
      subst (IsManagerReady desk) (sym (got_or jobs k job.0 d job.1)) (record {
        own = one.own;
        opened = one.opened;
        stream = one.at ∙ sym one.stream;
        there = (let c = dealt.count in let s = one.stream in omega (arith, c, s, low, anchors));
        manages = record { format = format_of desk.table.shared.key.value.load.mode; n = desk.table.shared.key.value.load.streams; j = k; base = bases k; w0 = w.0; manager = one.manager };
      })

-- the head after all other seats have left
pub head_ready : (desk : Desk) (h h1 h2 : PlainHead) (clerk : PlainClerkSeat) → Opened desk.table.shared.key.value.load desk.table.shared.key.value → IsFirst desk.table.shared.key.value h.me → IsWhole h → Heads h → AreUnbegun h.workers →
    IsDealing desk.table.shared.key.value desk.table.shared.table_id desk.table.shared.key.value.load.streams h1 → KeepsWorkers desk.table.shared.key.value.load h h1 → IsClerkSplit desk.table.shared.key.value.load h1 h2 clerk → IsHeadReady desk h2
head_ready desk h h1 h2 clerk opened first whole heads unbegun dealing keeps split =
    let key : Plain = desk.table.shared.key.value in
    let stays = workers_then key.load h h1 h2 keeps (workers_stay_clerk key.load h1 h2 clerk split) in
    let same : heads.origin ≡ key = one_origin heads.origin key (sym heads.opened ∙ ap (λ (m : Sat). m.0.opened) first.knows) in
    record {
      own = ap (λ (x : PlainHead). x.table_id) split.left ∙ dealing.own;
      opened = ap (λ (m : Sat). m.0.opened) split.split.head_is ∙ dealing.opened;
      ready = ready_stays h h2 0 key.load.workers stays.works (all_ready key h opened first.knows unbegun heads whole.workers (heads.worker_count ∙ ap (λ (p : Plain). p.load.workers) same));
    }

pub all_start : (desk : Desk) (h h1 h2 : PlainHead) (clerk : PlainClerkSeat) → Opened desk.table.shared.key.value.load desk.table.shared.key.value → IsFirst desk.table.shared.key.value h.me → AreUnbegun h.workers →
    KeepsWorkers desk.table.shared.key.value.load h h1 → IsClerkSplit desk.table.shared.key.value.load h1 h2 clerk → (w : ℕ) → w < desk.table.shared.key.value.load.workers → IsAtStart desk.table.shared.key.value.load h2 w
all_start desk h h1 h2 clerk opened first unbegun keeps split w low =
    let key : Plain = desk.table.shared.key.value in
    let stays = workers_then key.load h h1 h2 keeps (workers_stay_clerk key.load h1 h2 clerk split) in
    start_stays key.load h h2 w (stays.roles w low) stays.works (at_start key h opened first.knows unbegun w low)

-- ---- the same run, but for how long what was stored lasts

module _ {D : Type 0} {G : Ghosts D} (style : Style) (m : ℕ) (mode : LogMode) (load : Workload) (ws ws' : List (Writer D G)) (hears : Type 0) (held held' : List ℕ) (sink_rose : Type 0) (r : Result RunEnd NoMemory) where
  abbrev around : (ℕ → List ℕ) → Load → Around G
  around bases l = record { bases = bases; load = l; before = ws; after = ws'; hears = hears; held_before = held; held_after = held'; sink_rose = sink_rose }

  pub threads_plain : GaveNew (lasting style ws') m mode load ws ws' hears held held' sink_rose r → GaveNew (in_threads style) m mode load ws ws' hears held held' sink_rose r
  threads_plain gave = (gave.0, gave.1, gave_by (around (λ j. catalogue_of load) gave.0) (lasting style ws') (in_threads style) (λ whole opening p q. q.0) r gave.2)

  pub plain_from : (o : Opening) (bases : ℕ → List ℕ) → GaveFrom (lasting style ws') o bases m mode load ws ws' hears held held' sink_rose r → GaveFrom (in_threads style) o bases m mode load ws ws' hears held held' sink_rose r
  plain_from o bases gave = gave_by (around bases (load_of load.declarations.procs load.calls mode m o)) (lasting style ws') (in_threads style) (λ whole opening p q. q.0) r gave
