-- What recovery finds of images that a run has left.
use Rattle.std.proofs.Common.{ℕ, ◌≤◌, ◌<◌, Bool, true, ◌≡◌, ◌⊎◌, inl, inr, List, [], ◌∷◌, ◌++◌, map, length, take, refl, sym, ap, subst, ◌∙◌, arith}
use Rattle.std.specs.Prelude.{Some, None, Result, Ok, slice_get, slice_index_or, ◌==◌, ◌&&◌}
use Rattle.std.specs.List.{filter}
use Rattle.std.proofs.lemmas.Bool.{and_from, eq-eqb}
use Rattle.std.proofs.lemmas.Option.{get_or_from_slice_get}
use Rattle.tau_base.specs.Modes.{format_of}
use Rattle.tau_base.specs.declared.format.Format.{Format}
use Rattle.tau_base.specs.declared.value.LogMode.{LogMode}
use Rattle.tau_base.specs.Database.{Db}
use Rattle.tau_base.specs.Vectors.{AtMost}
use Rattle.tau_model.specs.Reported.{in_stream}
use Rattle.tau_block.specs.Image.{HasContent, image_of}
use Rattle.tau_model.specs.History.{Act, Member, Reordered, exec, updates}
use Rattle.tau_model.specs.Redo.{redo_contents}
use Rattle.tau_machine.specs.Hands.{Txn}
use Rattle.tau_machine.specs.Pieces.{records_of_stream}
use Rattle.tau_machine.specs.State.{Core, Item}
use Rattle.tau_machine.proofs.Lists.{member_of}
use Rattle.tau_machine.proofs.Results.{reported_theorem}
use Rattle.tau_model.proofs.Reorder.{reordered_itself}
use Rattle.tau_text.specs.declared.load.Workload.{Workload}
use Rattle.tau_text.specs.declared.load.Declarations.{Declarations}
use Rattle.tau_record.specs.declared.entry.Placed.{Placed}
use Rattle.tau_core.specs.declared.state.Load.{Load}
use Rattle.tau_core.specs.View.{setting_of}
use Rattle.tau_core.specs.Pieces.{Spelled}
use Rattle.tau_epoch.specs.Epochs.{Mark}
use Rattle.tau_scan.specs.declared.log.Log.{Log}
use Rattle.tau_scan.specs.declared.fault.LogFault.{LogFault}
use Rattle.tau_scan.specs.Epochs.{judge_of}
use Rattle.tau_scan.specs.Reading.{◌>>=◌, each_from, opened, contents_of, log_as, log_of, log_of_contents}
use Rattle.tau_scan.specs.Sound.{IsOrderOver, redo_in, IsSound}
use Rattle.tau_scan.specs.Taken.{Kept, kept_in}
use Rattle.tau_epoch_laws.specs.Continues.{none_in, news}
use Rattle.tau_epoch_laws.proofs.Listed.{old_listed}
use Rattle.tau_epoch_laws.proofs.Stays.{stays_sound}
use Rattle.tau_run.specs.Start.{old_at, opened_at}
use Rattle.tau_run.specs.Run.{Committed, Run, means, records_in, record_of}
use Rattle.tau_run.specs.RecoveredFacts.{takes, IsRecovered}
use Rattle.tau_run.specs.CoreRun.{IsGiven, IsRunOf}
use Rattle.tau_run.specs.StopsLeave.{IsLeft}
use Rattle.tau_run.proofs.Asked.{asked_same}
use Rattle.tau_run.proofs.Begins.{old_within}
use Rattle.tau_run.proofs.CommittedTold.{act_of}
use Rattle.tau_run.proofs.Cuts.{take_within}
use Rattle.tau_run.proofs.Each.{EachOk, each_ok, image_opened}
use Rattle.tau_run.proofs.History.{acts_are, is_set}
use Rattle.tau_run.proofs.Lists.{filter_map}
use Rattle.tau_run.proofs.Logs.{LogOf, log_of_them}
use Rattle.tau_run.proofs.Marks.{news_none}
use Rattle.tau_run.proofs.Order.{history}
use Rattle.tau_run.proofs.Reading.{kept_of}
use Rattle.tau_run.proofs.Streams.{IsRead, kept_append, front_read, old_read, front_first, stands_after, IsDeclaredCourse, anchored}
use Rattle.tau_run.proofs.Taken.{stream_low, held_of, in_some_order, is_closed, all_redo}
use Rattle.tau_base.proofs.Lists.{some_at, got_within}

-- ---- the images

contents_are : (f : Format) (images ys : List (List ℕ)) → each_from (λ j image. opened f (length images) j (image_of j image)) 0 images ≡ Ok ys → contents_of f images ≡ Ok ys
unfolding contents_of
contents_are f images ys e = e

log_there : (f : Format) (images contents : List (List ℕ)) (log : Log) → contents_of f images ≡ Ok contents → log_of_contents f contents ≡ Ok log → log_as f images ≡ Ok log
unfolding log_as
log_there f images contents log e is = ap (λ (r : Result (List (List ℕ)) LogFault). r >>= log_of_contents f) e ∙ is

-- nothing is declared where nothing came after the old records
redo_as : (load : Workload) (old : Log) (more : List (List Placed)) (log : Log) → none_in more ⊎ (log.declarations ≡ load.declarations) → (order : List Kept) → IsOrderOver (news old more log) order → (base db : Db) →
    redo_contents load.declarations.procs (map (λ (r : Kept). r.content) order) base ≡ db → redo_in log order base ≡ db
redo_as load old more log (inl none) order o base db e =
    let empty : order ≡ [] = subst (λ (ks : List Kept). Reordered ks order) (news_none (judge_of log) 0 old.streams more none) o.each_once in
    ap (λ (os : List Kept). redo_contents log.declarations.procs (map (λ (r : Kept). r.content) os) base) empty
    ∙ ap (λ (os : List Kept). redo_contents load.declarations.procs (map (λ (r : Kept). r.content) os) base) (sym empty) ∙ e
redo_as load old more log (inr q) order o base db e = ap (λ (d : Declarations). redo_contents d.procs (map (λ (r : Kept). r.content) order) base) q ∙ e

abbrev in_it : ℕ → Act Committed → Bool
in_it j x = in_stream (λ (y : Act Committed). y.call.place) (λ y. y.call.logs) j x

map_twice : (mode : LogMode) (ts : List (Act Txn)) → map (record_of mode) (map act_of ts) ≡ map (kept_of mode) ts
map_twice mode [] = refl
map_twice mode (t ∷ ts) = ap (λ (ks : List Kept). kept_of mode t ∷ ks) (map_twice mode ts)

module _ (n m : ℕ) (mode : LogMode) (load : Workload) (l : Load) (K : List (Act Txn)) (s : Core) (run : Run) (c : IsDeclaredCourse n m mode load run.start l K s) (is : IsRunOf n l K s load run) where
  abbrev f : Format
  f = format_of l.mode

  abbrev whole_of : ℕ → List ℕ
  whole_of j = slice_index_or run.contents j []

  abbrev first : ℕ → List ℕ
  first j = opened_at load run.start j

  given_at : (j : ℕ) → j < n → IsGiven l K s j (first j) (whole_of j)
  given_at j lt =
      let h = some_at run.contents j (subst (λ (k : ℕ). j < k) (sym is.streams) lt) in
      let same : whole_of j ≡ h.0 = get_or_from_slice_get run.contents j h.0 [] h.1 in
      subst (λ (z : List ℕ). IsGiven l K s j (first j) z) (sym same) (is.given j h.0 h.1)

  -- the record of each call stands after what was there
  pub stands : (t : Act Txn) → Member t K → updates t.effect ≡ true → length (old_at run.start t.call.place.stream) ≤ t.call.place.start
  stands t q up =
      let j : ℕ = t.call.place.stream in
      let lt : j < n = stream_low (setting_of l) K s c.inv l.mode n c.load_is.streams t q up in
      let mine : Member t (records_of_stream j K) = member_of (λ (u : Act Txn). updates u.effect && u.call.place.stream == j) t K q (and_from (updates t.effect) (j == j) up (eq-eqb j j refl)) in
      let high = stands_after n l load run.start c.begins K s j lt c.room c.load_is.streams (anchored n m mode load run.start l c.begins c.load_is j lt) c.sound (whole_of j) (given_at j lt) t mine in
      let low = old_within f n load run.start c.begins j in
      omega (arith, low, high)

  -- a content that was left: what was there, or what the stream held first and the first of the gathered items
  abbrev pub IsCut : ℕ → List ℕ → Type 0
  IsCut j content = (content ≡ old_at run.start j) ⊎ ((bytes : List ℕ) × (count : ℕ) × (content ≡ first j ++ bytes) × Spelled l (λ i. (s.streams i).anchors) (take count (s.streams j).moved) bytes)

  pub cut_read : (j : ℕ) → j < n → (content : List ℕ) → IsCut j content → (more : List Placed) × IsRead l load run.start K n j content more
  cut_read j lt content (inl e) =
      ([], subst (λ (z : List ℕ). IsRead l load run.start K n j z []) (sym e) (old_read n l load run.start c.begins K s j lt c.room c.load_is.streams (anchored n m mode load run.start l c.begins c.load_is j lt) c.sound (whole_of j) (given_at j lt)))
  cut_read j lt content (inr cut) =
      let g = given_at j lt in
      let w = take_within (s.streams j).moved g.waiting cut.1 in
      let r = front_read n l load run.start c.begins K s j lt c.room c.load_is.streams (anchored n m mode load run.start l c.begins c.load_is j lt) c.sound (whole_of j) g w.0 cut.0
      (subst (λ (items : List Item). Spelled l (λ i. (s.streams i).anchors) items cut.0) w.1 cut.3) in
      (r.0, subst (λ (z : List ℕ). IsRead l load run.start K n j z r.0) (sym cut.2) r.1)

  -- it is what was there, or a first part of the whole
  cut_first : (j : ℕ) → j < n → (content : List ℕ) → IsCut j content → (content ≡ old_at run.start j) ⊎ ((k : ℕ) × (length (first j) ≤ k) × (content ≡ take k (whole_of j)))
  cut_first j lt content (inl e) = inl e
  cut_first j lt content (inr cut) =
      let g = given_at j lt in
      let w = take_within (s.streams j).moved g.waiting cut.1 in
      let r = front_first n l load run.start c.begins K s j lt c.room c.load_is.streams (anchored n m mode load run.start l c.begins c.load_is j lt) c.sound (whole_of j) g w.0 cut.0
      (subst (λ (items : List Item). Spelled l (λ i. (s.streams i).anchors) items cut.0) w.1 cut.3) in
      inr (r.0, r.1, cut.2 ∙ r.2)

  -- the records of a stream, as the report has them
  pub records_are : (j : ℕ) → records_in l.mode load run j ≡ map (kept_of l.mode) (records_of_stream j K)
  records_are j =
      let H : List (Act Txn) = history (setting_of l) K s c.inv in
      let law = (reported_theorem (setting_of l) K s c.inv K (reordered_itself K)).2 j in
      ap (λ (xs : List (Act Committed)). map (record_of l.mode) (filter (in_it j) xs)) (acts_are (setting_of l) K s c.inv n m load run (is_set n m mode load run.start l c.begins.count c.load_is) is.calls)
      ∙ ap (map (record_of l.mode)) (filter_map act_of (in_it j) (λ t. in_it j (act_of t)) H (λ t q. refl)) ∙ map_twice l.mode (records_of_stream j H) ∙ ap (map (kept_of l.mode)) law

  -- contents that were cut so make a log
  pub cuts_log : (contents : List (List ℕ)) → length contents ≡ n → ((j : ℕ) (content : List ℕ) → slice_get contents j ≡ Some content → (more : List Placed) × IsRead l load run.start K n j content more) →
      LogOf l load run.start K s c.inv n c.load_is.streams contents
  cuts_log contents long each = log_of_them l load run.start n c.begins K s c.inv c.load_is.streams c.sound stands contents long each

  -- images whose contents were cut so have a log
  pub record CutLog (images : List (List ℕ)) : Type 0 where
    pub contents : List (List ℕ)
    pub have : contents_of f images ≡ Ok contents
    pub long : length contents ≡ n
    pub cut : (j : ℕ) (content : List ℕ) → slice_get contents j ≡ Some content → IsCut j content
    pub has : (j : ℕ) (image content : List ℕ) → slice_get images j ≡ Some image → slice_get contents j ≡ Some content → HasContent f n j content image
    pub made : LogOf l load run.start K s c.inv n c.load_is.streams contents
    pub reads : log_of None images ≡ Ok made.log
    pub asked : log_of (Some f) images ≡ Ok made.log

  module _ (images : List (List ℕ)) (count : length images ≡ n) (left : (j : ℕ) (image : List ℕ) → slice_get images j ≡ Some image → (content : List ℕ) × HasContent f n j content image × IsCut j content) where
    abbrev P : ℕ → List ℕ → List ℕ → Type 0
    P j image content = HasContent f n j content image × IsCut j content

    read : EachOk (λ j image. opened f (length images) j (image_of j image)) P 0 images
    read = each_ok (λ j image. opened f (length images) j (image_of j image)) P 0 images (λ k i image e g.
        let same : i ≡ k = omega (arith, e) in
        let h = left k image (subst (λ (q : ℕ). slice_get images q ≡ Some image) same g) in
        (h.0, ap (λ (q : ℕ). opened f q k (image_of k image)) count ∙ image_opened f n k image h.0 h.1, (h.1, h.2)))

    content_is : (j : ℕ) (content : List ℕ) → slice_get read.ys j ≡ Some content → IsCut j content
    content_is j content e =
        let lt = got_within read.ys j content e in
        let h = some_at images j (subst (λ (q : ℕ). j < q) read.long lt) in
        (read.all j j h.0 content (omega arith) h.1 e).1

    below_n : (j : ℕ) (content : List ℕ) → slice_get read.ys j ≡ Some content → j < n
    below_n j content e = subst (λ (q : ℕ). j < q) (read.long ∙ count) (got_within read.ys j content e)

    pub cut_log : CutLog images
    cut_log =
        let made : LogOf l load run.start K s c.inv n c.load_is.streams read.ys = cuts_log read.ys (read.long ∙ count) (λ j content e. cut_read j (below_n j content e) content (content_is j content e)) in
        record {
          contents = read.ys;
          have = have;
          long = read.long ∙ count;
          cut = content_is;
          has = λ j image content e g. (read.all j j image content (omega arith) e g).0;
          made = made;
          reads = asked_same f n images (λ i image e. (let h = left i image e in (i, h.0, h.1))) ∙ asked made.log made.reads;
          asked = asked made.log made.reads;
        }
      where
        have : contents_of f images ≡ Ok read.ys
        have = contents_are f images read.ys read.is

        asked : (log : Log) → log_of_contents f read.ys ≡ Ok log → log_of (Some f) images ≡ Ok log
        asked log e = log_there f images read.ys log have e

  cut_of : (j : ℕ) (image : List ℕ) → IsLeft n j (old_at run.start j) (first j) l s image → (content : List ℕ) × HasContent f n j content image × IsCut j content
  cut_of j image (inl e) = (old_at run.start j, e, inl refl)
  cut_of j image (inr g) = (first j ++ g.0, g.1.has, inr (g.0, g.1.count, refl, g.1.spelled))

  pub left_log : (images : List (List ℕ)) → length images ≡ n → ((j : ℕ) (image : List ℕ) → slice_get images j ≡ Some image → IsLeft n j (old_at run.start j) (first j) l s image) → CutLog images
  left_log images count left = cut_log images count (λ j image e. cut_of j image (left j image e))

  -- images that a run has left, where what was there was sound
  pub recovered : IsSound f run.start.old run.start.log run.start.base → (images : List (List ℕ)) → length images ≡ n →
      ((j : ℕ) (image : List ℕ) → slice_get images j ≡ Some image → IsLeft n j (old_at run.start j) (first j) l s image) → IsRecovered n l.mode load run images
  recovered ok images count left =
      let cut = left_log images count left in
      let log : Log = cut.made.log in
      let more : List (List Placed) = cut.made.more in
      let at_j : (j : ℕ) → j < n → (content : List ℕ) × (slice_get cut.contents j ≡ Some content) = λ j lt. some_at cut.contents j (subst (λ (q : ℕ). j < q) (sym cut.long) lt) in
      let set = is_set n m mode load run.start l c.begins.count c.load_is in
      let base : Db = exec (means load.declarations.procs) (filter (takes log) run.calls) run.start.base in
      record {
        log = log;
        reads = cut.reads;
        asked = cut.asked;
        contents = cut.contents;
        have = cut.have;
        fronts = λ j lt.
            (let h = at_j j lt in
            let same : slice_index_or cut.contents j [] ≡ h.0 = get_or_from_slice_get cut.contents j h.0 [] h.1 in
            elim (cut_first j lt h.0 (cut.cut j h.0 h.1)) [ inl e ↦ inl (same ∙ e) | inr k ↦ inr (k.0, k.1, same ∙ k.2) ]);
        records = λ j lt.
            (let h = at_j j lt in
            let r = cut.made.all j h.0 h.1 in
            let olds : List Placed = slice_index_or run.start.log.streams j [] in
            (r.2.count, ap (kept_in j) (get_or_from_slice_get log.streams j (olds ++ r.0) [] r.1) ∙ kept_append j olds r.0 ∙ ap (λ (ks : List Kept). kept_in j olds ++ ks) (r.2.firsts ∙ ap (take r.2.count) (sym (records_are j)))));
        old = old_listed f run.start.old cut.contents run.start.log more log c.begins.reads ok.fit cut.made.reads cut.made.goes_on;
        closed = is_closed (setting_of l) K s c.inv l.mode n c.load_is.streams run log more cut.made.is m load set is.calls;
        sound = stays_sound f run.start.old cut.contents run.start.log more log run.start.base base ok cut.made.reads cut.made.goes_on
            (λ m h. subst (λ (k : Mark). AtMost k.lv log.elv) (sym (cut.made.marks m h).0) cut.made.goes_on.longer)
            (λ r h.
            let t = held_of (setting_of l) K s c.inv l.mode n c.load_is.streams run log more cut.made.is r h in
            subst (λ (k : Kept). AtMost run.start.log.elv k.place.dep) t.3 (c.waits t.0 t.1 t.4))
            (record {
              ordered = in_some_order (setting_of l) K s c.inv l.mode n c.load_is.streams run log more cut.made.is;
              alike = λ order o. redo_as load run.start.log more log cut.made.declared order o run.start.base base (all_redo (setting_of l) K s c.inv l.mode n c.load_is.streams run log more cut.made.is m load set is.calls order o);
            });
      }
