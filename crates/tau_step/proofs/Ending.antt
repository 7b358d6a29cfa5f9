-- How a run begins, and what it leaves and tells.
use Rattle.std.proofs.Common.{ℕ, ◌+◌, ◌*◌, ◌-◌, ◌≤◌, ◌≡◌, ◌⊎◌, inl, inr, Bool, true, false, List, [], length, map, refl, sym, ap, subst, ◌∙◌, Option, arith}
use Rattle.std.specs.Prelude.{Some, None, ◌<◌, ◌==◌, IfOk, slice_get, slice_index, slice_index_or, Result, Ok, Err}
use Rattle.std.specs.List.{All, filter}
use Rattle.std.proofs.Math.Seq.{take-length}
use Rattle.std.proofs.Math.Nat.{mod-lt}
use Rattle.std.proofs.lemmas.List.{append-nil}
use Rattle.std.proofs.lemmas.Bool.{eq-eqb}
use Rattle.std.proofs.lemmas.Option.{slice_get_within, slice_get_past}
use Rattle.tau_base.specs.Modes.{format_of}
use Rattle.tau_base.specs.declared.value.NoMemory.{NoMemory}
use Rattle.tau_block.specs.Image.{HasContent}
use Rattle.tau_disk.specs.Disk.{Rose}
use Rattle.tau_disk.specs.declared.disk.Disk.{Ghosts}
use Rattle.tau_stream.specs.declared.writer.Writer.{Writer}
use Rattle.tau_stream.specs.Writer.{IsReady, disk_of, gathered_of, has_failed}
use Rattle.tau_text.specs.declared.load.Turn.{Turn}
use Rattle.tau_text.specs.declared.load.Workload.{Workload}
use Rattle.tau_model.specs.History.{Act, Member}
use Rattle.tau_model.specs.Tables.{IsTablesOf}
use Rattle.tau_model.proofs.Assembling.{member_mapped}
use Rattle.tau_machine.specs.Hands.{Txn}
use Rattle.tau_machine.specs.Invariant.{Invariant}
use Rattle.tau_machine.specs.Accounts.{in_worker}
use Rattle.tau_machine.specs.Reports.{reported}
use Rattle.tau_machine.specs.Runs as machine
use Rattle.tau_machine.specs.State.{Core, Ticket, sight}
use Rattle.tau_report.specs.declared.report.RunEnd.{RunEnd}
use Rattle.tau_core.specs.declared.state.Load.{Load}
use Rattle.tau_core.specs.Plain.{PlainSeat, PlainStream}
use Rattle.tau_core.specs.State.{Plain}
use Rattle.tau_core.specs.View.{Hidden, core_of, setting_of, worker_in, committed_by, pending_in, stop_in}
use Rattle.tau_core.specs.Opens.{Opened, nothing}
use Rattle.tau_core.specs.Stands.{Stands}
use Rattle.tau_core.proofs.Promises.{acknowledged_law, committed_law}
use Rattle.tau_occ.specs.declared.style.Style.{Style}
use Rattle.tau_run.specs.CoreRun.{AreAcks, IsGiven}
use Rattle.tau_run.specs.Fates.{IsNumberOf, fates_by}
use Rattle.tau_run.specs.Gives.{CameTo, Concluded, CutOff, Gave}
use Rattle.tau_run.specs.Heard.{Heard}
use Rattle.tau_run.specs.Laws.{KeepCalls}
use Rattle.tau_run.specs.Run.{pair_of}
use Rattle.tau_run.specs.RunFacts.{by_turns, turns_of}
use Rattle.tau_run.specs.StopsLeave.{HasFront, IsOver, NamesLowest, stops_in}
use Rattle.tau_run.specs.Schedule.{RunState, IsWhole, IsPart, peeked, state_of, still, todos_of}
use Rattle.tau_run.specs.Turns.{Progress, begun}
use Rattle.tau_run.specs.Writers.{AreNew, EachOf, IsBegun, Left}
use Rattle.tau_run.proofs.Steps.{did_steps, began_steps}
use Rattle.tau_run.proofs.StepsLed.{turns_law}
use Rattle.tau_run.proofs.Complete.{kept_there}
use Rattle.tau_run.proofs.Fates.{at_member, number_is}
use Rattle.tau_run.proofs.RunExists.{given_there}
use Rattle.tau_run.proofs.Start.{started}
use Rattle.tau_step.specs.declared.run.Run.{Run}
use Rattle.tau_step.specs.Along.{AreKept, IsAlong, IsLeaving, KeptBy, Since, Went}
use Rattle.tau_step.specs.Counts.{AreCounted, AreHalved, HasFlushed, IsHalfFlushed, MayHalve, calls_to_flush, counting, flushed_in, flushes_of}
use Rattle.tau_step.specs.Device.{noting}
use Rattle.tau_step.specs.RunEffects.{Moves}
use Rattle.tau_step.specs.Progressed.{progress}
use Rattle.tau_step.specs.Optimists.{Peeks}
use Rattle.tau_step.specs.Rounding.{none_peeked, ran_all}
use Rattle.tau_step.proofs.Gathering.{is_broken}
use Rattle.tau_step.proofs.Kept.{kept_leaving}
use Rattle.tau_step.proofs.EffectsInTurn.{lowest_same}
use Rattle.tau_step.proofs.RunEnds.{IsBeyond, AreShort, whole_over}
use Rattle.tau_step.proofs.Short.{are_short}
use Rattle.tau_step.proofs.Silent.{false_not}
use Rattle.tau_machine.proofs.Lists.{member_of}

-- ---- all that was to do

module _ (l : Load) (style : Style) (f : Peeks) (turns : List Turn) (opening : Core) (P : Progress) where
  pub all_whole : ran_all style none_peeked f turns true l (begun opening) P → IsWhole (setting_of l) l.workers l.streams style turns opening (peeked P f)
  all_whole r = did_steps (setting_of l) l.workers l.streams style (todos_of (setting_of l) l.workers l.streams turns) (still (begun opening)) (peeked P f) r

  all_part : ran_all style none_peeked f turns false l (begun opening) P → IsPart (setting_of l) l.workers l.streams style turns opening (peeked P f)
  all_part r = began_steps (setting_of l) l.workers l.streams style (todos_of (setting_of l) l.workers l.streams turns) (still (begun opening)) (peeked P f) r

-- ---- how it begins

module _ {D : Type 0} {G : Ghosts D} (bases : ℕ → List ℕ) (ws : List (Writer D G)) (p : Plain) (o : Opened p.load p) (b : IsBegun (format_of p.load.mode) bases ws p.load.opening) where
  pub count_is : length ws ≡ p.load.streams
  count_is = b.count ∙ o.opening.count

  pub begun_kept : AreKept bases ws p nothing
  begun_kept = record {
    count = count_is;
    long = λ j lt. b.long j (let e = o.opening.count in omega arith);
    each = λ j w e. (let n = b.new j w e in
        let lt = slice_get_within ws j w e in
        inl (record {
          works = n.works;
          going = o.opening.stops j;
          gathered = ap (λ (v : List ℕ). slice_index v j) (o.opening.gathered ∙ sym o.opening.plv);
          durable = n.durable ∙ b.long j (let e = b.count in omega arith) ∙ ap (λ (v : List ℕ). slice_index v j) (sym o.opening.plv);
          left = n.left;
          spelled = refl;
          ready = λ tells. subst (λ (bytes : List ℕ). IsReady (format_of p.load.mode) p.load.streams j w bytes) (sym (append-nil (bases j))) (subst (λ (n : ℕ). IsReady (format_of p.load.mode) n j w (bases j)) count_is (n.ready tells));
        }));
  }

  pub begun_along : IsAlong ws p None
  begun_along = record { bases = bases; order = []; hidden = nothing; stands = o.stands; kept = begun_kept; lowest = λ j lt. o.opening.stops j }

-- ---- what lies beyond the workers

no_seat : (p : Plain) (K : List (Act Txn)) (h : Hidden) → Stands p K h → (w : ℕ) → p.load.workers ≤ w → slice_get p.seats w ≡ None
no_seat p K h g w le = slice_get_past p.seats w (let e = g.sound.seats in omega arith)

beyond : (p : Plain) (K : List (Act Txn)) (h : Hidden) → Stands p K h → IsBeyond (setting_of p.load) p.load.workers p.load.streams (core_of p h)
beyond p K h g = record {
  hands = λ w le. ap (λ (o : Option PlainSeat). (worker_in p.load o (committed_by p.load.workers w p.committed)).hand) (no_seat p K h g w le);
  waiting = λ w le. ap (λ (o : Option PlainSeat). (worker_in p.load o (committed_by p.load.workers w p.committed)).waiting) (no_seat p K h g w le);
  left = λ w le. ap (λ (o : Option PlainSeat). (worker_in p.load o (committed_by p.load.workers w p.committed)).left) (no_seat p K h g w le);
  pending = λ w le. ap pending_in (no_seat p K h g w le);
}

over_at : (p : Plain) (K : List (Act Txn)) (h : Hidden) → Stands p K h → (style : Style) (turns : List Turn) (opening : Core) (x : RunState) → state_of x ≡ core_of p h → IsWhole (setting_of p.load) p.load.workers p.load.streams style turns opening x → IsOver p.load.streams (core_of p h)
over_at p K h g style turns opening x e r =
    subst (λ (s : Core). IsOver p.load.streams s) e
    (whole_over (setting_of p.load) p.load.workers p.load.streams style turns opening K x (subst (λ (s : Core). Invariant (setting_of p.load) K s) (sym e) g.inv) refl
    (λ k. mod-lt (k - 1) (let low = g.sound.workers_low in omega arith))
    (subst (λ (s : Core). IsBeyond (setting_of p.load) p.load.workers p.load.streams s) (sym e) (beyond p K h g))
    (subst (λ (s : Core). AreShort (setting_of p.load) p.load.workers p.load.streams s) (sym e) (are_short p K h g)) r)

-- ---- the numbers of the calls that are told

told_one : (p : Plain) (K : List (Act Txn)) (h : Hidden) → Stands p K h → (told : List (ℕ × List ℕ)) → ((w : ℕ) → filter (λ (a : ℕ × List ℕ). (setting_of p.load).worker_of a.0 == w) told ≡ map pair_of ((core_of p h).acked w)) →
    (a : ℕ × List ℕ) → Member a told → IsNumberOf (length p.load.calls) a.0
told_one p K h g told acks a m =
    let w : ℕ = (setting_of p.load).worker_of a.0 in
    let n = member_of (λ (b : ℕ × List ℕ). (setting_of p.load).worker_of b.0 == w) a told m (eq-eqb ((setting_of p.load).worker_of a.0) w refl) in
    let (k, mk, e) = member_mapped pair_of a (h.acked w) (subst (λ (l : List (ℕ × List ℕ)). Member a l) (acks w) n) in
    let law = acknowledged_law p K h g w k mk in
    let t = law.0 in
    subst (λ (number : ℕ). IsNumberOf (length p.load.calls) number) (ap (λ (x : Ticket). x.number) law.2 ∙ ap (λ (x : ℕ × List ℕ). x.0) e)
    (number_is p.load.calls t.call.call.number t.call.call.call ((committed_law p K h g).0 t law.1).0)

-- ---- what it leaves

module _ {D : Type 0} {G : Ghosts D} (seen_now : (d : D) → G.tells → G.may_leave d (G.seen d)) (bases : ℕ → List ℕ) (R : Bool → Load → Progress → Progress → Type 0) (whole : Bool) (p p' : Plain) (ws ws' : List (Writer D G)) (told told' : List (ℕ × List ℕ))
    (new : AreNew (format_of p.load.mode) bases ws) (w : Went bases R whole p p' ws ws' told told' [] nothing []) where
  leaving_by : (b : Bool) (j : ℕ) (x : Writer D G) → KeptBy j (bases j) b x p' w.hidden → IsLeaving j (bases j) x p' w.hidden
  leaving_by true j x k = kept_leaving seen_now j (bases j) x p' w.hidden k
  leaving_by false j x k = k

  left_of : (j : ℕ) (x x' : Writer D G) → slice_get ws j ≡ Some x → slice_get ws' j ≡ Some x' → Since j (bases j) p.load (core_of p' w.hidden) x x' → Left p.load (core_of p' w.hidden) j (bases j) x x'
  left_of j x x' e e' s =
      let l = leaving_by whole j x' (w.kept j x' e') in
      record {
        before = s.before;
        present = λ tells y left. subst (λ (d : Load). (bytes : List ℕ) × HasFront d.streams j (bases j) d (core_of p' w.hidden) bytes y × (slice_index p'.plv j ≤ length (bases j) + length bytes)) w.load (l.present tells y left);
        reached = λ tells. (let (y, content, now, has, size) = l.reached tells in (y, content, now, subst (λ (d : Load). HasContent (format_of d.mode) d.streams j content y) w.load has, size));
        goes = λ works. (l.going works, s.goes works);
        stops = λ fails. (let q = s.stops (new j x e).works fails in (l.stopped fails, q.0, q.1));
        faults = s.faults;
      }

  pub writers_left : EachOf (λ j x x'. Left p.load (core_of p' w.hidden) j (bases j) x x') ws ws'
  writers_left = record { count = w.count; each = λ j x e. (let (x', e', s) = w.since j x e in (x', e', left_of j x x' e e' s)) }

-- ---- all of it

module _ {D : Type 0} {G : Ghosts D} (seen_now : (d : D) → G.tells → G.may_leave d (G.seen d)) (style : Style) (peeks : Peeks) (load : Workload) (bases : ℕ → List ℕ) (old new : Run) (ws ws' : List (Writer D G)) (hears : Type 0) (held held' : List ℕ) (faults faults' : ℕ)
    (o : Opened old.core.load old.core) (b : IsBegun (format_of old.core.load.mode) bases ws old.core.load.opening) (acks : old.clerk.acks ≡ []) (works : old.clerk.sink_failed ≡ false) where
  abbrev turns : List Turn
  turns = turns_of load

  abbrev l : Load
  l = old.core.load

  abbrev opening : Core
  opening = core_of old.core nothing

  abbrev by : Bool → Load → Core → Progress → Type 0
  by = counting ws ws' (by_turns style l.streams l.workers load)

  first_held : Heard held old.clerk.acks old.clerk.sink_failed held
  first_held = subst (λ (a : List (ℕ × List ℕ)). Heard held a old.clerk.sink_failed held) (sym acks) (subst (λ (f : Bool). Heard held [] f held) (sym works) (sym (append-nil held)))

  rose_now : (new.clerk.sink_failed ≡ true → (old.clerk.sink_failed ≡ true) ⊎ Rose faults faults') → new.clerk.sink_failed ≡ true → Rose faults faults'
  rose_now rose e = elim (rose e) [ inl was ↦ absurd (let bad : false ≡ true = sym works ∙ was in cc bad) | inr r ↦ r ]

  -- from its beginning
  from_begun : (whole : Bool) (P : Progress) → ran_all style none_peeked peeks turns whole l (progress old.core nothing [] [] old.clerk.acks) P → ran_all style none_peeked peeks turns whole l (begun opening) P
  from_begun whole P r = subst (λ (a : List (ℕ × List ℕ)). ran_all style none_peeked peeks turns whole l (record { state = opening; events = []; joined = []; told = a }) P) acks r

  long : (j : ℕ) → j < l.streams → length (bases j) ≡ slice_index l.opening.ends j
  long j lt = b.long j (let e = o.opening.count in omega (arith, e, lt))

  -- how far it has come, where it told this
  module _ (R : Bool → Load → Progress → Progress → Type 0) (whole : Bool) (told : List (ℕ × List ℕ)) (went : Went bases R whole old.core new.core ws ws' old.clerk.acks told [] nothing []) where
    abbrev s : Core
    s = core_of new.core went.hidden

    abbrev P : Progress
    P = progress new.core went.hidden went.events went.order told

    pub given : (contents : List (List ℕ)) × (length contents ≡ l.streams) × ((j : ℕ) (content : List ℕ) → slice_get contents j ≡ Some content → IsGiven l went.order s j (bases j) content)
    given = subst (λ (d : Load). (contents : List (List ℕ)) × (length contents ≡ d.streams) × ((j : ℕ) (content : List ℕ) → slice_get contents j ≡ Some content → IsGiven d went.order s j (bases j) content)) went.load
        (given_there new.core went.order went.hidden went.stands bases (subst (λ (d : Load). (j : ℕ) → j < d.streams → length (bases j) ≡ slice_index d.opening.ends j) (sym went.load) long))

    pub stop_low : (j at : ℕ) → (s.streams j).stop ≡ Some at → j < l.streams
    stop_low j at e = by_case (slice_get new.core.streams j) refl
      where
        by_case : (o : Option PlainStream) → slice_get new.core.streams j ≡ o → j < l.streams
        by_case None f = absurd (let g : None ≡ Some at = ap stop_in (sym f) ∙ e in cc g)
        by_case (Some x) f =
            let within = slice_get_within new.core.streams j x f in
            let count = went.stands.sound.streams in
            let same = ap (λ (d : Load). d.streams) went.load in
            omega (arith, within, count, same)

    module _ (part : IsPart (setting_of l) l.workers l.streams style turns opening (peeked P peeks)) where
      pub led : machine.Run (setting_of l) opening went.events went.order s × KeepCalls went.events × AreAcks l s told
      led = turns_law (setting_of l) l.workers l.streams style turns opening (peeked P peeks) o.opening part

      abbrev pub came : CameTo by bases l ws ws' told
      came = record {
        opening = opening;
        first = started l old.core o;
        state = s;
        events = went.events;
        joined = went.order;
        led = led.0;
        part = ((peeks, part), λ e. false_not e);
        contents = given.0;
        streams = given.1;
        given = given.2;
        acked = led.2;
        room = o.stands.sound.streams_high;
        stop_low = stop_low;
        writers = writers_left seen_now bases R whole old.core new.core ws ws' old.clerk.acks told b.new went;
      }

      -- no call is lost
      pub kept : (k : ℕ) → 1 ≤ k → k ≤ length l.calls → (w : ℕ) × (1 ≤ in_worker k (s.workers w))
      kept k low high = let w = o.waits k low high in (w.0, kept_there (setting_of l) opening went.events went.order s led.0 led.1 k w.0 w.1)

  module _ (x : Moves (ran_all style none_peeked peeks turns) true old new ws ws' hears held held' faults faults') where
    abbrev noted : Bool → Load → Progress → Progress → Type 0
    noted = noting old.flushes new.flushes (ran_all style none_peeked peeks turns)

    went : Went bases noted true old.core new.core ws ws' old.clerk.acks new.clerk.acks [] nothing []
    went = x.went bases [] nothing [] o.stands (begun_kept bases ws old.core o b)

    abbrev P_end : Progress
    P_end = progress new.core went.hidden went.events went.order new.clerk.acks

    whole : IsWhole (setting_of l) l.workers l.streams style turns opening (peeked P_end peeks)
    whole = all_whole l style peeks turns opening P_end (from_begun true P_end went.moved.0)

    part : IsPart (setting_of l) l.workers l.streams style turns opening (peeked P_end peeks)
    part = ([], whole)

    -- the calls of the disks
    counted : AreCounted ws ws' went.events
    counted j v v' e e' tells =
        let c = went.calls refl j v v' e e' tells in
        let all = c.1 in
        let many : c.0 ≡ flushes_of j (flushed_in went.events) = omega (arith, all) in
        subst (λ (k : ℕ). HasFlushed G k false (has_failed v') (disk_of v) (disk_of v')) many (subst (λ (f : Bool). HasFlushed G c.0 f (has_failed v') (disk_of v) (disk_of v')) (b.new j v e).works c.2)

    -- and what those that failed left
    halved : AreHalved ws ws' l P_end
    unfolding MayHalve
    halved j v v' e e' tells fails room cut =
        let c = went.calls refl j v v' e e' tells in
        let all = c.1 in
        let many : c.0 ≡ flushes_of j (flushed_in went.events) = omega (arith, all) in
        let broken = is_broken j (bases j) v' new.core went.hidden fails (went.kept j v' e') in
        let half = c.3 (b.new j v e).works fails room cut in
        subst (λ (k : ℕ). IsHalfFlushed G (format_of l.mode) l.streams j (slice_index new.core.plv j) (slice_index new.core.gathered j) (G.number (disk_of v) + calls_to_flush * k) (G.keeps (disk_of v)) (disk_of v')) many
        (subst (λ (k : ℕ). IsHalfFlushed G (format_of l.mode) l.streams j (slice_index new.core.plv j) k (G.number (disk_of v) + calls_to_flush * c.0) (G.keeps (disk_of v)) (disk_of v')) broken.gathered
        (subst (λ (k : ℕ). IsHalfFlushed G (format_of l.mode) l.streams j k (gathered_of v') (G.number (disk_of v) + calls_to_flush * c.0) (G.keeps (disk_of v)) (disk_of v')) broken.durable half))

    pub told_numbers : All (λ (a : ℕ × List ℕ). IsNumberOf (length new.core.load.calls) a.0) new.clerk.acks
    told_numbers = λ k d lt.
        told_one new.core went.order went.hidden went.stands new.clerk.acks
        (subst (λ (d : Load). (w : ℕ) → filter (λ (a : ℕ × List ℕ). (setting_of d).worker_of a.0 == w) new.clerk.acks ≡ map pair_of ((core_of new.core went.hidden).acked w)) (sym went.load)
        (turns_law (setting_of l) l.workers l.streams style turns opening (peeked P_end peeks) o.opening part).2)
        (slice_index_or new.clerk.acks k d) (at_member new.clerk.acks k d lt)

    concluded : (end : RunEnd) → end.report.acks ≡ new.clerk.acks →
        ((K : List (Act Txn)) (h : Hidden) → Stands new.core K h → end.report.fates ≡ fates_by (length new.core.load.calls) K new.clerk.acks) →
        ((K : List (Act Txn)) (h : Hidden) → Stands new.core K h → end.report.order ≡ map (λ (t : Act Txn). t.call.call.number) (reported new.core.ends K)) →
        ((K : List (Act Txn)) (h : Hidden) → Stands new.core K h → IsTablesOf (sight (setting_of new.core.load) (core_of new.core h)).row end.report.tables) →
        end.disk ≡ new.failed → end.sink_failed ≡ new.clerk.sink_failed → Concluded by bases l ws ws' hears held held' (Rose faults faults') end
    concluded end told fates order tables disk sink = record {
      acks = new.clerk.acks;
      came = came noted true new.clerk.acks went part;
      whole = ((peeks, whole), λ e. (counted, halved));
      over = subst (λ (d : Load). IsOver d.streams (core_of new.core went.hidden)) went.load
          (over_at new.core went.order went.hidden went.stands style turns opening (peeked P_end peeks) refl (subst (λ (d : Load). IsWhole (setting_of d) d.workers d.streams style turns opening (peeked P_end peeks)) (sym went.load) whole));
      kept = kept noted true new.clerk.acks went part;
      heard = λ q. subst (λ (f : Bool). Heard held new.clerk.acks f held') (sym sink) (x.heard refl q held first_held);
      sink = λ e. rose_now x.rose (sym sink ∙ e);
      disk = subst (λ (f : Option ℕ). NamesLowest l.streams (stops_in (core_of new.core went.hidden)) f) (sym disk)
          (subst (λ (d : Load). NamesLowest d.streams (stops_in (core_of new.core went.hidden)) new.failed) went.load
          (let a = (x.on refl).along in lowest_same new.core.load.streams (core_of new.core a.hidden) (core_of new.core went.hidden) (λ j. refl) new.failed a.lowest));
      told = told;
      fates = fates went.order went.hidden went.stands ∙ ap (λ (d : Load). fates_by (length d.calls) went.order new.clerk.acks) went.load;
      order = order went.order went.hidden went.stands;
      tables = subst (λ (d : Load). IsTablesOf (sight (setting_of d) (core_of new.core went.hidden)).row end.report.tables) went.load (tables went.order went.hidden went.stands);
    }

    -- memory ran out for what it tells
    not_told : CutOff by bases l ws ws' hears held held' (Rose faults faults')
    not_told = record {
      acks = new.clerk.acks;
      came = came noted true new.clerk.acks went part;
      count = length new.clerk.acks;
      sink_failed = new.clerk.sink_failed;
      heard = λ q. subst (λ (a : List (ℕ × List ℕ)). Heard held a new.clerk.sink_failed held') (sym (take-length new.clerk.acks)) (x.heard refl q held first_held);
      sink = rose_now x.rose;
    }

    pub calls_same : length new.core.load.calls ≡ length l.calls
    calls_same = ap (λ (d : Load). length d.calls) went.load

    -- by what the end answered
    pub gave_by_end : (r : Result RunEnd NoMemory) → IfOk r (λ end. end.report.acks ≡ new.clerk.acks) →
        IfOk r (λ end. (K : List (Act Txn)) (h : Hidden) → Stands new.core K h → end.report.fates ≡ fates_by (length new.core.load.calls) K new.clerk.acks) →
        IfOk r (λ end. (K : List (Act Txn)) (h : Hidden) → Stands new.core K h → end.report.order ≡ map (λ (t : Act Txn). t.call.call.number) (reported new.core.ends K)) →
        IfOk r (λ end. (K : List (Act Txn)) (h : Hidden) → Stands new.core K h → IsTablesOf (sight (setting_of new.core.load) (core_of new.core h)).row end.report.tables) →
        IfOk r (λ end. end.disk ≡ new.failed) → IfOk r (λ end. end.sink_failed ≡ new.clerk.sink_failed) → Gave by bases l ws ws' hears held held' (Rose faults faults') r
    gave_by_end (Ok end) told fates order tables disk sink = concluded end told fates order tables disk sink
    gave_by_end (Err e) told fates order tables disk sink = inl not_told

  -- memory ran out on the way
  pub cut_off : Moves (ran_all style none_peeked peeks turns) false old new ws ws' hears held held' faults faults' → CutOff by bases l ws ws' hears held held' (Rose faults faults')
  cut_off x =
      let c = x.went bases [] nothing [] o.stands (begun_kept bases ws old.core o b) in
      let P_cut : Progress = progress new.core c.went.hidden c.went.events c.went.order c.told_now in
      let part : IsPart (setting_of l) l.workers l.streams style turns opening (peeked P_cut peeks) = all_part l style peeks turns opening P_cut (from_begun false P_cut c.went.moved) in
      record {
        acks = c.told_now;
        came = came (ran_all style none_peeked peeks turns) false c.told_now c.went part;
        count = c.count;
        sink_failed = new.clerk.sink_failed;
        heard = λ q. c.heard q held first_held;
        sink = rose_now x.rose;
      }

  -- how many writers there are
  pub count_same : (whole : Bool) → Moves (ran_all style none_peeked peeks turns) whole old new ws ws' hears held held' faults faults' → length ws' ≡ length ws
  count_same true x = (x.went bases [] nothing [] o.stands (begun_kept bases ws old.core o b)).count
  count_same false x = (x.went bases [] nothing [] o.stands (begun_kept bases ws old.core o b)).went.count
