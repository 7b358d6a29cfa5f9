-- Runs and stops, one after another.
use Rattle.std.proofs.Common.{ℕ, ◌+◌, ◌≤◌, ◌<◌, Bool, true, false, ◌≡◌, ◌⊎◌, inl, inr, List, [], ◌∷◌, ◌++◌, map, length, Result, Ok, refl, sym, ap, subst, ◌∙◌, arith}
use Rattle.std.specs.Prelude.{◌&&◌, ◌==◌, Some}
use Rattle.std.specs.List.{filter, list_any, AllZip}
use Rattle.tau_base.specs.declared.limits.TheConstants.{LAST_EPOCH}
use Rattle.tau_base.specs.declared.format.Format.{Format}
use Rattle.tau_base.specs.Database.{Db, empty_db, written}
use Rattle.tau_base.specs.Modes.{format_of}
use Rattle.tau_model.specs.History.{Act, Member, exec}
use Rattle.tau_model.proofs.Assembling.{member_mapped}
use Rattle.tau_model.proofs.Orders.{member_reordered}
use Rattle.tau_model.proofs.Reorder.{reordered_sym}
use Rattle.tau_machine.specs.Hands.{Txn}
use Rattle.tau_machine.specs.Invariant.{Invariant}
use Rattle.tau_machine.specs.Reports.{held_by}
use Rattle.tau_machine.specs.State.{Setting}
use Rattle.tau_machine.proofs.Lists.{member_of}
use Rattle.tau_proc.specs.declared.proc.Proc.{Proc}
use Rattle.tau_text.specs.declared.load.Declarations.{Declarations}
use Rattle.tau_record.specs.declared.entry.Placed.{Placed}
use Rattle.tau_core.specs.View.{setting_of}
use Rattle.tau_scan.specs.declared.fault.LogFault.{LogFault}
use Rattle.tau_scan.specs.declared.log.Log.{Log}
use Rattle.tau_scan.specs.Epochs.{judge_of, marks_of}
use Rattle.tau_epoch.specs.Epochs.{largest}
use Rattle.tau_record.specs.Vector.{ArePlaces}
use Rattle.tau_text.specs.declared.load.Workload.{Workload}
use Rattle.tau_text.specs.Canonical.{declarations_text}
use Rattle.tau_run.specs.Start.{Start, IsStart}
use Rattle.tau_scan.specs.Reading.{contents_of, log_of_contents, catalogue_in, IsReading}
use Rattle.tau_scan.specs.Sound.{IsOrderOver, redo_in, IsSound}
use Rattle.tau_scan.specs.Taken.{Kept, taken}
use Rattle.tau_epoch_laws.specs.Continues.{none_in, Continues, news}
use Rattle.tau_epoch_laws.proofs.Chain.{goes_on}
use Rattle.tau_epoch_laws.proofs.Contents.{holds, same_declared}
use Rattle.tau_epoch_laws.proofs.Grown.{none_or_some}
use Rattle.tau_epoch_laws.proofs.Judged.{old_judged}
use Rattle.tau_epoch_laws.proofs.Listed.{old_listed}
use Rattle.tau_epoch_laws.proofs.Parts.{filter_none}
use Rattle.tau_epoch_laws.proofs.Stays.{none_taken}
use Rattle.tau_run.specs.Laws.{LivesAreSound, LivesAreRecovered, RunsMayGoOn, LivesAreOne, LeftOutForGood, LivesAreMarked}
use Rattle.tau_epoch_laws.specs.Marked.{AreMarked}
use Rattle.tau_run.specs.Lives.{Life, IsLife, AreLives, last_contents, last_log, taken_calls, all_taken}
use Rattle.tau_run.specs.RecoveredFacts.{takes, IsRecovered}
use Rattle.tau_run.specs.Run.{Committed, told_of, means}
use Rattle.tau_run.proofs.Lists.{map_member}
use Rattle.tau_run.proofs.Marked.{marked_after}
use Rattle.tau_run.proofs.Marks.{news_none}
use Rattle.tau_run.proofs.Order.{history, there}
use Rattle.tau_run.proofs.Reading.{kept_of}
use Rattle.tau_run.proofs.Recovered.{CutLog, left_log}
use Rattle.tau_run.proofs.Results.{images_law}
use Rattle.tau_run.proofs.Sound.{declared}
use Rattle.tau_run.proofs.Streams.{IsDeclaredCourse}
use Rattle.tau_run.proofs.Taken.{taken_are, takes_is}

abbrev done : {A : Type 0} → A → Result A LogFault
done x = Ok x

ok_is : {A : Type 0} (x y : A) → done x ≡ done y → x ≡ y
ok_is x y e = cc e

module _ (f : Format) (n : ℕ) (old : List (List ℕ)) (log : Log) (base : Db) (sound : IsSound f old log base) (x : Life) (life : IsLife f n old x) where
  own_format : format_of life.stands_on.mode ≡ f
  own_format = ap format_of life.course.load_is.mode_is ∙ life.format

  -- it began on this log and its database
  same_log : x.run.start.log ≡ log
  same_log =
      let read : log_of_contents f old ≡ Ok x.run.start.log =
      subst (λ (k : Format). log_of_contents k old ≡ Ok x.run.start.log) own_format (subst (λ (c : List (List ℕ)). log_of_contents (format_of life.stands_on.mode) c ≡ Ok x.run.start.log) life.begins life.course.begins.reads) in
      ok_is x.run.start.log log (sym read ∙ sound.reads)

  same_base : x.run.start.base ≡ base
  same_base =
      let r = life.course.begins.redone in
      sym r.2 ∙ ap (λ (g : Log). redo_in g r.0 empty_db) same_log ∙ sound.redone.alike r.0 (subst (λ (g : Log). IsOrderOver (taken g) r.0) same_log r.1)

  sound_start : IsSound f x.run.start.old x.run.start.log x.run.start.base
  sound_start =
      subst (λ (c : List (List ℕ)). IsSound f c x.run.start.log x.run.start.base) (sym life.begins)
      (subst (λ (g : Log). IsSound f old g x.run.start.base) (sym same_log) (subst (λ (d : Db). IsSound f old log d) (sym same_base) sound))

  pub life_recovered : IsRecovered n x.mode x.load x.run x.images
  life_recovered =
      images_law n x.workers x.mode x.load life.stands_on life.joined life.state x.run life.course life.is (subst (λ (k : Format). IsSound k x.run.start.old x.run.start.log x.run.start.base) (sym life.format) sound_start)
      x.images life.count life.left

  -- what the stop left is sound
  pub life_sound : IsSound f x.contents x.log (exec (means x.load.declarations.procs) (taken_calls x) base)
  life_sound =
      let r = life_recovered in
      let same : r.contents ≡ x.contents = ok_is r.contents x.contents (sym (subst (λ (k : Format). contents_of k x.images ≡ Ok r.contents) life.format r.have) ∙ life.have) in
      let one : IsSound f x.contents r.log (exec (means x.load.declarations.procs) (filter (takes r.log) x.run.calls) x.run.start.base) =
      subst (λ (c : List (List ℕ)). IsSound f c r.log (exec (means x.load.declarations.procs) (filter (takes r.log) x.run.calls) x.run.start.base)) same
      (subst (λ (k : Format). IsSound k r.contents r.log (exec (means x.load.declarations.procs) (filter (takes r.log) x.run.calls) x.run.start.base)) life.format r.sound) in
      let log_same : r.log ≡ x.log = ok_is r.log x.log (sym one.reads ∙ life.reads) in
      let two : IsSound f x.contents x.log (exec (means x.load.declarations.procs) (taken_calls x) x.run.start.base) =
      subst (λ (g : Log). IsSound f x.contents g (exec (means x.load.declarations.procs) (filter (takes g) x.run.calls) x.run.start.base)) log_same one in
      subst (λ (d : Db). IsSound f x.contents x.log (exec (means x.load.declarations.procs) (taken_calls x) d)) same_base two

  abbrev course : IsDeclaredCourse n x.workers x.mode x.load x.run.start life.stands_on life.joined life.state
  course = declared n x.workers x.mode x.load life.stands_on life.joined life.state x.run life.course

  cut : CutLog n x.workers x.mode x.load life.stands_on life.joined life.state x.run course life.is x.images
  cut = left_log n x.workers x.mode x.load life.stands_on life.joined life.state x.run course life.is x.images life.count life.left

  cut_contents : cut.contents ≡ x.contents
  cut_contents = ok_is cut.contents x.contents (sym (subst (λ (k : Format). contents_of k x.images ≡ Ok cut.contents) own_format cut.have) ∙ life.have)

  cut_same : cut.made.log ≡ x.log
  cut_same =
      let read : log_of_contents f x.contents ≡ Ok cut.made.log =
      subst (λ (c : List (List ℕ)). log_of_contents f c ≡ Ok cut.made.log) cut_contents (subst (λ (k : Format). log_of_contents k cut.contents ≡ Ok cut.made.log) own_format cut.made.reads) in
      ok_is cut.made.log x.log (sym read ∙ life.reads)

  -- its log goes on from the one before it
  pub life_goes_on : (more : List (List Placed)) × Continues log more x.log
  life_goes_on = (cut.made.more, subst (λ (g : Log). Continues g cut.made.more x.log) same_log (subst (λ (g : Log). Continues x.run.start.log cut.made.more g) cut_same cut.made.goes_on))

  pub life_marked : AreMarked log.streams → AreMarked x.log.streams
  life_marked marked =
      subst (λ (g : Log). AreMarked g.streams) cut_same
      (marked_after life.stands_on x.load x.run.start n life.course.begins life.joined life.state life.course.inv life.course.load_is.streams cut.contents cut.long cut.made sound_start.fit (subst (λ (g : Log). AreMarked g.streams) (sym same_log) marked))

  -- nothing of the run is taken where nothing came after the old records
  no_call : none_in cut.made.more → (d : Committed) → Member d x.run.calls → takes cut.made.log d ≡ true → ⊥
  no_call nothing d q e =
      let set : Setting = setting_of life.stands_on in
      let K : List (Act Txn) = life.joined in
      let inv : Invariant set K life.state = life.course.inv in
      let w = member_mapped told_of d (history set K life.state inv) (subst (λ (cs : List Committed). Member d cs) life.is.calls q) in
      let t = there set K life.state inv w.0 w.1 in
      let width = life.course.load_is.streams in
      let same = takes_is set K life.state inv life.stands_on.mode n width x.run cut.made.log cut.made.more cut.made.is w.0 t in
      let held : held_by cut.made.log.elv w.0.call ≡ true = sym same ∙ ap (takes cut.made.log) w.2 ∙ e in
      let mine = map_member (kept_of life.stands_on.mode) w.0 (filter (λ (u : Act Txn). held_by cut.made.log.elv u.call) K) (member_of (λ (u : Act Txn). held_by cut.made.log.elv u.call) w.0 K t held) in
      let fresh : List Kept = news x.run.start.log cut.made.more cut.made.log in
      let there : Member (kept_of life.stands_on.mode w.0) fresh = member_reordered fresh (map (kept_of life.stands_on.mode) (filter (λ (u : Act Txn). held_by cut.made.log.elv u.call) K))
      (reordered_sym (map (kept_of life.stands_on.mode) (filter (λ (u : Act Txn). held_by cut.made.log.elv u.call) K)) fresh (taken_are set K life.state inv life.stands_on.mode n width x.run cut.made.log cut.made.more cut.made.is))
      (kept_of life.stands_on.mode w.0) mine in
      subst (λ (ks : List Kept). Member (kept_of life.stands_on.mode w.0) ks) (news_none (judge_of cut.made.log) 0 x.run.start.log.streams cut.made.more nothing) there

  -- no call of the run is taken, or its workload's declarations are those of the log
  pub life_declared : (taken_calls x ≡ []) ⊎ ((none_in x.log.streams → ⊥) × (x.log.declarations ≡ x.load.declarations))
  life_declared = elim cut.made.declared [
    | inl nothing ↦ inl (ap (λ (g : Log). filter (takes g) x.run.calls) (sym cut_same) ∙ filter_none (takes cut.made.log) x.run.calls (λ d q. not_true (takes cut.made.log d) (no_call nothing d q)))
    | inr is ↦ elim (none_or_some x.log.streams) [
      | inl empty ↦ inl (filter_none (takes x.log) x.run.calls (λ d q. takes_none d (none_taken (judge_of x.log) 0 x.log.streams empty)))
      | inr some ↦ inr (some, ap (λ (g : Log). g.declarations) (sym cut_same) ∙ is)
    ]
  ]
    where
      not_true : (t : Bool) → (t ≡ true → ⊥) → t ≡ false
      not_true true none = absurd (none refl)
      not_true false none = refl

      both_false : (t : Bool) → (t && false) ≡ false
      both_false true = refl
      both_false false = refl

      takes_none : (d : Committed) → taken x.log ≡ [] → takes x.log d ≡ false
      takes_none d e = ap (λ (ks : List Kept). d.logs && list_any (λ (r : Kept). (r.place.stream == d.place.stream) && (r.place.start == d.place.start)) ks) e ∙ both_false d.logs

  -- what came after it declares what this workload does
  life_catalogue : none_in x.log.streams ⊎ (catalogue_in x.log.streams ≡ Ok (Some (declarations_text x.load.declarations)))
  life_catalogue = subst (λ (g : Log). none_in g.streams ⊎ (catalogue_in g.streams ≡ Ok (Some (declarations_text x.load.declarations)))) cut_same cut.made.catalogue

  life_read : AllZip (IsReading f n) x.contents x.log.streams
  life_read =
      subst (λ (g : Log). AllZip (IsReading f n) x.contents g.streams) cut_same
      (subst (λ (c : List (List ℕ)). AllZip (IsReading f n) c cut.made.log.streams) cut_contents (subst (λ (k : Format). AllZip (IsReading k n) cut.contents cut.made.log.streams) own_format cut.made.read))

  -- the next run may begin on it
  module _ (load : Workload) (declares : declarations_text load.declarations ≡ declarations_text x.load.declarations) (small : largest (marks_of x.log) < LAST_EPOCH) (places : ArePlaces x.log.elv) where
    abbrev on : ℕ → Start
    on epoch = record { old = x.contents; log = x.log; base = exec (means x.load.declarations.procs) (taken_calls x) base; epoch = epoch }

    begins_on : (epoch : ℕ) → (none_in x.log.streams × (epoch ≡ 0)) ⊎ ((none_in x.log.streams → ⊥) × (epoch ≡ largest (marks_of x.log) + 1)) → epoch ≤ LAST_EPOCH → IsStart f n load (on epoch)
    begins_on epoch is low =
        let s = life_sound in
        let first = s.redone.ordered in
        record {
          count = subst (λ (c : List (List ℕ)). length c ≡ n) cut_contents cut.long;
          reads = s.reads;
          read = life_read;
          redone = (first.0, first.1, s.redone.alike first.0 first.1);
          declared = elim life_catalogue [ inl none ↦ inl none | inr c ↦ inr (c ∙ ap (λ (t : List ℕ). Ok (Some t)) (sym declares)) ];
          epoch = is;
          small = low;
          places = places;
        }

    pub may_go_on : (start : Start) × IsStart f n load start × (start.old ≡ x.contents) × (start.base ≡ exec (means x.load.declarations.procs) (taken_calls x) base)
    may_go_on = elim (none_or_some x.log.streams) [
      | inl none ↦ (on 0, begins_on 0 (inl (none, refl)) (omega arith), refl, refl)
      | inr some ↦ (on (largest (marks_of x.log) + 1), begins_on (largest (marks_of x.log) + 1) (inr (some, refl)) (omega (arith, small)), refl, refl)
    ]

-- ---- any number of them

pub lives_sound : LivesAreSound
lives_sound f n old log base sound [] lives = sound
lives_sound f n old log base sound (x ∷ xs) lives =
    lives_sound f n x.contents x.log (exec (means x.load.declarations.procs) (taken_calls x) base) (life_sound f n old log base sound x lives.0) xs lives.1

pub lives_recovered : LivesAreRecovered
lives_recovered f n old log base sound [] lives y m = absurd m
lives_recovered f n old log base sound (x ∷ xs) lives y (inl e) = subst (λ (z : Life). IsRecovered n z.mode z.load z.run z.images) e (life_recovered f n old log base sound x lives.0)
lives_recovered f n old log base sound (x ∷ xs) lives y (inr m) =
    lives_recovered f n x.contents x.log (exec (means x.load.declarations.procs) (taken_calls x) base) (life_sound f n old log base sound x lives.0) xs lives.1 y m

pub lives_marked : LivesAreMarked
lives_marked f n old log base sound marked [] lives = marked
lives_marked f n old log base sound marked (x ∷ xs) lives =
    lives_marked f n x.contents x.log (exec (means x.load.declarations.procs) (taken_calls x) base) (life_sound f n old log base sound x lives.0) (life_marked f n old log base sound x lives.0 marked) xs lives.1

-- the last log goes on from the first one, if there is a life
pub lives_go_on : (f : Format) (n : ℕ) (old : List (List ℕ)) (log : Log) (base : Db) → IsSound f old log base → (x : Life) (xs : List Life) → AreLives f n old (x ∷ xs) → (more : List (List Placed)) × Continues log more (last_log log (x ∷ xs))
lives_go_on f n old log base sound x [] lives = life_goes_on f n old log base sound x lives.0
lives_go_on f n old log base sound x (y ∷ ys) lives =
    let first = life_goes_on f n old log base sound x lives.0 in
    let rest = lives_go_on f n x.contents x.log (exec (means x.load.declarations.procs) (taken_calls x) base) (life_sound f n old log base sound x lives.0) y ys lives.1 in
    (_, goes_on log first.0 x.log rest.0 (last_log x.log (y ∷ ys)) first.1 rest.1)

pub left_out : LeftOutForGood
left_out f n old log base sound x xs lives =
    let more = lives_go_on f n old log base sound x xs lives in
    let last = lives_sound f n old log base sound (x ∷ xs) lives in
    let after : List (List ℕ) = last_contents old (x ∷ xs) in
    let whole : Log = last_log log (x ∷ xs) in
    (more.0, more.1, old_listed f old after log more.0 whole sound.reads sound.fit last.reads more.1, λ j i ps e lt. old_judged f old after log more.0 whole sound.reads sound.fit last.reads more.1 j i ps e lt)

pub runs_go_on : RunsMayGoOn
runs_go_on f n old log base sound x life load declares small places = may_go_on f n old log base sound x life load declares small places

-- ---- one history

exec_append : (procs : List Proc) (xs ys : List Committed) (db : Db) → exec (means procs) (xs ++ ys) db ≡ exec (means procs) ys (exec (means procs) xs db)
exec_append procs [] ys db = refl
exec_append procs (x ∷ xs) ys db = exec_append procs xs ys (written (means procs x db).writes db)

-- a log that has a record keeps its declarations
declared_on : (f : Format) (n : ℕ) (old : List (List ℕ)) (log : Log) (base : Db) → IsSound f old log base → (xs : List Life) → AreLives f n old xs → (none_in log.streams → ⊥) → (last_log log xs).declarations ≡ log.declarations
declared_on f n old log base sound [] lives some = refl
declared_on f n old log base sound (x ∷ xs) lives some =
    let more = lives_go_on f n old log base sound x xs lives in
    let last = lives_sound f n old log base sound (x ∷ xs) lives in
    elim (same_declared old (last_contents old (x ∷ xs)) log more.0 (last_log log (x ∷ xs)) (holds f old log sound.reads) (holds f (last_contents old (x ∷ xs)) (last_log log (x ∷ xs)) last.reads) more.1) [
      | inl none ↦ absurd (some none)
      | inr same ↦ same
    ]

pub lives_one : LivesAreOne
lives_one f n old log base sound [] lives = refl
lives_one f n old log base sound (x ∷ xs) lives =
    let own : List Proc = x.load.declarations.procs in
    let db : Db = exec (means own) (taken_calls x) base in
    let next = life_sound f n old log base sound x lives.0 in
    let last : Log = last_log x.log xs in
    let rest = lives_one f n x.contents x.log db next xs lives.1 in
    let same : exec (means last.declarations.procs) (taken_calls x) base ≡ db = elim (life_declared f n old log base sound x lives.0) [
      | inl none ↦ ap (λ (cs : List Committed). exec (means last.declarations.procs) cs base) none ∙ ap (λ (cs : List Committed). exec (means own) cs base) (sym none)
      | inr some ↦ ap (λ (d : Declarations). exec (means d.procs) (taken_calls x) base) (declared_on f n x.contents x.log db next xs lives.1 some.0 ∙ some.1)
    ] in
    rest ∙ ap (exec (means last.declarations.procs) (all_taken xs)) (sym same) ∙ sym (exec_append last.declarations.procs (taken_calls x) (all_taken xs) base)
