-- A log of images of a run that reach what it persisted: what recovery finds, no epoch, and all that the calls wait for.
use Rattle.std.proofs.Common.{ℕ, zero, suc, ◌+◌, ◌<◌, ◌≡◌, inl, inr, List, [], ◌∷◌, ◌++◌, length, replicate, Result, refl, sym, ap, subst, ◌∙◌, arith}
use Rattle.std.specs.Prelude.{None, Ok, slice_index}
use Rattle.std.proofs.lemmas.List.{length-append}
use Rattle.tau_base.specs.declared.value.LogMode.{LogMode}
use Rattle.tau_base.specs.Modes.{format_of}
use Rattle.tau_base.specs.Vectors.{AtMost}
use Rattle.tau_base.proofs.Lists.{some_at}
use Rattle.tau_base.proofs.Logic.{below_or_not}
use Rattle.tau_base.proofs.Vectors.{at_most_within}
use Rattle.tau_model.specs.History.{Act, Member, Depends, at_once, through}
use Rattle.tau_model.proofs.Assembling.{member_mapped}
use Rattle.tau_model.proofs.Logged.{member_first}
use Rattle.tau_model.proofs.Orders.{member_reordered}
use Rattle.tau_model.proofs.Reorder.{reordered_sym}
use Rattle.tau_machine.specs.Hands.{Txn}
use Rattle.tau_machine.specs.State.{Core}
use Rattle.tau_text.specs.declared.load.Workload.{Workload}
use Rattle.tau_core.specs.declared.state.Load.{Load}
use Rattle.tau_core.specs.View.{setting_of}
use Rattle.tau_epoch.specs.Epochs.{Mark}
use Rattle.tau_scan.specs.declared.log.Log.{Log}
use Rattle.tau_scan.specs.Epochs.{marks_from, marks_of}
use Rattle.tau_scan.specs.Reading.{log_of}
use Rattle.tau_scan.specs.Sound.{IsSound}
use Rattle.tau_epoch_laws.proofs.Grown.{mark_in}
use Rattle.tau_run.specs.Start.{Start, fresh_start, opened_at}
use Rattle.tau_run.specs.RecoveredFacts.{WaitsWithin}
use Rattle.tau_run.specs.Run.{Committed, Run, told_of}
use Rattle.tau_run.specs.CoreRun.{IsCourse, IsRunOf}
use Rattle.tau_run.proofs.Each.{one_content}
use Rattle.tau_run.proofs.Fresh.{fresh_is_sound}
use Rattle.tau_run.proofs.Lists.{map_member}
use Rattle.tau_run.proofs.Logs.{length_at}
use Rattle.tau_run.proofs.Order.{history, once, there}
use Rattle.tau_run.proofs.Recovered.{CutLog, cut_log}
use Rattle.tau_run.proofs.Results.{acked_law, history_law, images_law}
use Rattle.tau_run.proofs.Sound.{declared}
use Rattle.tau_inspect_laws.specs.Laws.{IsLogOfRun, ReachImages, Reaches}

-- ---- lists without members

pub none_of : (ms : List Mark) → ((m : Mark) → Member m ms → ⊥) → ms ≡ []
none_of [] none = refl
none_of (m ∷ ms) none = absurd (none m (inl refl))

none_marked : (n : ℕ) → marks_from (replicate n []) ≡ []
none_marked zero = refl
none_marked (suc n) = none_marked n

depended : {C : Type 0} (acts : List (Act C)) (t u : Act C) → Depends acts t u → Member u acts
depended acts t u (at_once b c) = member_first u t acts b
depended acts t u (through {v = v} d e) = depended acts v u e

module _ (n m : ℕ) (mode : LogMode) (load : Workload) (l : Load) (K : List (Act Txn)) (s : Core) (run : Run) (c : IsCourse n m mode load run.start l K s) (is : IsRunOf n l K s load run) (fresh : run.start ≡ fresh_start n) where
  -- a component of a call's vector is persisted, or the end of a record
  pub waits_for : (lengths : List ℕ) → AtMost s.plv lengths → WaitsWithin lengths run
  waits_for lengths low d q j =
      let H : List (Act Txn) = history (setting_of l) K s c.inv in
      let w = member_mapped told_of d H (subst (Member d) is.calls q) in
      let t : Act Txn = w.0 in
      let same : t.call.place.dep ≡ d.place.dep = ap (λ (x : Committed). x.place.dep) w.2 in
      let order = c.inv.agrees.good.good.order in
      let known : slice_index t.call.place.dep j ≡ slice_index d.place.dep j = ap (λ (v : List ℕ). slice_index v j) same in
      let up = low j in
      elim (below_or_not (slice_index s.plv j) (slice_index t.call.place.dep j)) [
        | inl lt ↦
            let b = order.light t (there (setting_of l) K s c.inv t w.1) j lt in
            let last : Member b.last K = depended K t b.last b.how in
            let listed : Member b.last H = member_reordered H K (reordered_sym K H (once (setting_of l) K s c.inv)) b.last last in
            inr (told_of b.last, subst (Member (told_of b.last)) (sym is.calls) (map_member told_of b.last H listed), b.up, b.stream, b.past ∙ known)
        | inr le ↦ inl (omega (arith, le, known, up))
      ]

  module _ (images : List (List ℕ)) (count : length images ≡ n) (present : Reaches n load run l s images) (log : Log) (reads : log_of None images ≡ Ok log) where
    found : CutLog n m mode load l K s run (declared n m mode load l K s run c) is images
    found = cut_log n m mode load l K s run (declared n m mode load l K s run c) is images count (λ j image e.
        let f = present j image e in
        (opened_at load run.start j ++ f.0, f.1.has, inr (f.0, f.1.count, refl, f.1.spelled)))

    same_log : found.made.log ≡ log
    same_log = by_ok (sym found.reads ∙ reads)
      where
        by_ok : {E : Type 0} {x y : Log} → ◌≡◌ {A = Result Log E} (Ok x) (Ok y) → x ≡ y
        by_ok e = cc e

    pub no_marks : marks_of log ≡ []
    no_marks = ap marks_of (sym same_log) ∙ none_of (marks_of found.made.log) (λ k h. elim (mark_in run.start.log.streams found.made.more found.made.log.streams found.made.goes_on.streams k h) [
      | inl old ↦ subst (λ (ms : List Mark). Member k ms) (ap (λ (b : Start). marks_from b.log.streams) fresh ∙ none_marked n) old
      | inr new ↦ (let e = ap (λ (b : Start). b.epoch) fresh in let w = (found.made.marks k new).1 in omega (arith, e, w))
    ])

    reached : AtMost s.plv log.elv
    reached = subst (λ (g : Log). AtMost s.plv g.elv) same_log (at_most_within s.plv found.made.log.elv (λ j lt.
        let wide : length s.plv ≡ n = c.inv.agrees.good.count_plv ∙ c.load_is.streams in
        let low : j < n = subst (λ (k : ℕ). j < k) wide lt in
        let h = some_at images j (subst (λ (k : ℕ). j < k) (sym count) low) in
        let z = some_at found.contents j (subst (λ (k : ℕ). j < k) (sym found.long) low) in
        let f = present j h.0 h.1 in
        let first : List ℕ = opened_at load run.start j in
        let same : z.0 ≡ first ++ f.0 = one_content (format_of l.mode) n j h.0 z.0 (first ++ f.0) (found.has j h.0 z.0 h.1 z.1) f.1.has in
        let long : slice_index found.made.log.elv j ≡ length first + length f.0 =
        ap (λ (v : List ℕ). slice_index v j) found.made.elv ∙ length_at found.contents j z.0 z.1 ∙ ap length same ∙ length-append first f.0 in
        let reach = f.2 in
        omega (arith, long, reach)))

    pub of_run : IsLogOfRun n m mode load run images log
    of_run = record {
      history = history_law n m mode load l K s run c is;
      fresh = fresh;
      recovered = images_law n m mode load l K s run c is (subst (λ (b : Start). IsSound (format_of mode) b.old b.log b.base) (sym fresh) (fresh_is_sound (format_of mode) n)) images count
          (λ j image e. (let f = present j image e in inr (f.0, f.1)));
      acknowledged = acked_law n m mode load l K s run c is images count present log reads;
      count = count;
      reads = reads;
    }

pub reach_images : ReachImages
reach_images n m mode load l K s run c is fresh images count present log reads = (
  of_run n m mode load l K s run c is fresh images count present log reads,
  no_marks n m mode load l K s run c is fresh images count present log reads,
  waits_for n m mode load l K s run c is fresh log.elv (reached n m mode load l K s run c is fresh images count present log reads),
)
