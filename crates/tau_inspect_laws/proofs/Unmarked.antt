-- What recovery finds of images of a run that began on nothing has no epoch.
use Rattle.std.proofs.Common.{ℕ, zero, suc, ◌+◌, ◌<◌, ◌≡◌, inl, inr, List, [], ◌∷◌, ◌++◌, length, map, take, Result, Err, Option, refl, sym, ap, subst, ◌∙◌, arith}
use Rattle.std.specs.Prelude.{Some, None, Ok, slice_get, slice_index_or}
use Rattle.tau_base.specs.declared.format.Format.{Format}
use Rattle.tau_base.specs.declared.value.LogMode.{LogMode}
use Rattle.tau_base.specs.Modes.{format_of}
use Rattle.tau_base.proofs.Lists.{some_at, got_or, got_within}
use Rattle.tau_model.specs.History.{Act, Member}
use Rattle.tau_model.proofs.Orders.{member_front}
use Rattle.tau_machine.specs.Hands.{Txn}
use Rattle.tau_machine.specs.State.{Core}
use Rattle.tau_text.specs.declared.load.Workload.{Workload}
use Rattle.tau_text.specs.declared.load.Declarations.{Declarations}
use Rattle.tau_record.specs.declared.entry.Placed.{Placed}
use Rattle.tau_record.specs.declared.fault.RecordFault.{RecordFault}
use Rattle.tau_record.specs.Content.{content_at}
use Rattle.tau_core.specs.declared.state.Load.{Load}
use Rattle.tau_epoch.specs.Epochs.{Mark}
use Rattle.tau_scan.specs.declared.fault.LogFault.{LogFault}
use Rattle.tau_scan.specs.declared.log.Log.{Log}
use Rattle.tau_scan.specs.Epochs.{marks_in, marks_of}
use Rattle.tau_scan.specs.Reading.{◌>>=◌, in_front, each_from, unless, undeclared, judged, records_of, recorded, streams_of, declared_in, epoch_fault, log_of_contents}
use Rattle.tau_epoch_laws.proofs.Grown.{marks_append}
use Rattle.tau_epoch_laws.proofs.Parts.{in_either}
use Rattle.tau_run.specs.Start.{Start, fresh_start, old_at}
use Rattle.tau_run.specs.Run.{Run}
use Rattle.tau_run.specs.CoreRun.{IsCourse, IsRunOf}
use Rattle.tau_run.proofs.Begins.{given_placed, given_mark}
use Rattle.tau_run.proofs.Marks.{marks_among}
use Rattle.tau_run.proofs.Reading.{no_marks_of}
use Rattle.tau_run.proofs.Sound.{declared}
use Rattle.tau_run.proofs.Spelled.{placed_in}
use Rattle.tau_run.proofs.Streams.{IsMore, anchored, whole_read}
use Rattle.tau_inspect_laws.specs.Laws.{IsLogOfRun, NoEpochs}
use Rattle.tau_inspect_laws.proofs.Fitting.{contents_wide, same_log, empty_at}
use Rattle.tau_inspect_laws.proofs.Prefixes.{first_records}
use Rattle.tau_inspect_laws.proofs.Reaching.{none_of}

-- ---- what was read of each content

abbrev done : {A : Type 0} → A → Result A LogFault
done x = Ok x

ok_is : {A : Type 0} (x y : A) → done x ≡ done y → x ≡ y
ok_is x y e = cc e

bind_ok : {A B : Type 0} (r : Result A LogFault) (f : A → Result B LogFault) (y : B) → (r >>= f) ≡ Ok y → (x : A) × (r ≡ Ok x) × (f x ≡ Ok y)
bind_ok (Ok x) f y e = (x, refl, e)
bind_ok (Err fault) f y e = absurd cc

front_ok : {A : Type 0} (x : A) (r : Result (List A) LogFault) (ys : List A) → in_front x r ≡ Ok ys → (xs : List A) × (r ≡ Ok xs) × (x ∷ xs ≡ ys)
front_ok x (Ok xs) ys e = (xs, refl, cc)
front_ok x (Err fault) ys e = absurd cc

unless_ok : {A E : Type 0} (o : Option E) (x y : A) → unless o x ≡ Ok y → (o ≡ None) × (x ≡ y)
unless_ok None x y e = (refl, cc)
unless_ok (Some fault) x y e = absurd cc

recorded_ok : (j : ℕ) (r : Result (List Placed) RecordFault) (ps : List Placed) → recorded j r ≡ Ok ps → r ≡ Ok ps
recorded_ok j (Ok qs) ps e = cc
recorded_ok j (Err fault) ps e = absurd cc

judged_ok : (f : Format) (n : ℕ) (content : List ℕ) (r : Result (List Placed) RecordFault) (ps : List Placed) → judged f n content r ≡ Ok ps → r ≡ Ok ps
judged_ok f n content (Ok qs) ps e = (let same = (unless_ok (undeclared qs) qs ps e).1 in ap (λ (xs : List Placed). Ok xs) same)
judged_ok f n content (Err fault) ps e = absurd cc

records_ok : (f : Format) (n : ℕ) (content : List ℕ) (ps : List Placed) → records_of f n content ≡ Ok ps → content_at f n content ≡ Ok ps
unfolding records_of
records_ok f n content ps e = judged_ok f n content (content_at f n content) ps e

pub each_at : {A B : Type 0} (g : ℕ → A → Result B LogFault) (j : ℕ) (xs : List A) (ys : List B) → each_from g j xs ≡ Ok ys → (q i : ℕ) (y : B) → q ≡ j + i → slice_get ys i ≡ Some y → (x : A) × (slice_get xs i ≡ Some x) × (g q x ≡ Ok y)
each_at {B = B} g j [] ys e q i y at got = absurd (let f : slice_get [] i ≡ Some y = ap (λ (l : List B). slice_get l i) (ok_is [] ys e) ∙ got in cc f)
each_at {B = B} g j (x ∷ xs) ys e q zero y at got =
    let a = bind_ok (g j x) (λ z. in_front z (each_from g (suc j) xs)) ys e in
    let h = front_ok a.0 (each_from g (suc j) xs) ys a.2 in
    let first : a.0 ≡ y = some_is a.0 y (ap (λ (l : List B). slice_get l 0) h.2 ∙ got) in
    let same : q ≡ j = omega (arith, at) in
    (x, refl, ap (λ (k : ℕ). g k x) same ∙ a.1 ∙ ap (λ (z : B). Ok z) first)
  where
    some_is : (u v : B) → ◌≡◌ {A = Option B} (Some u) (Some v) → u ≡ v
    some_is u v f = cc f
each_at {B = B} g j (x ∷ xs) ys e q (suc i) y at got =
    let a = bind_ok (g j x) (λ z. in_front z (each_from g (suc j) xs)) ys e in
    let h = front_ok a.0 (each_from g (suc j) xs) ys a.2 in
    each_at g (suc j) xs h.0 h.1 q i y (omega (arith, at)) (ap (λ (l : List B). slice_get l (suc i)) h.2 ∙ got)

read_at : (f : Format) (contents : List (List ℕ)) (log : Log) → log_of_contents f contents ≡ Ok log → (j : ℕ) (ps : List Placed) → slice_get log.streams j ≡ Some ps →
    (content : List ℕ) × (slice_get contents j ≡ Some content) × (content_at f (length contents) content ≡ Ok ps)
unfolding streams_of
read_at f contents log e j ps got =
    let found : List (List Placed) → Declarations → Log = λ streams declarations. record { elv = map length contents; declarations = declarations; streams = streams } in
    let a = bind_ok (streams_of f contents) (λ streams. declared_in streams >>= λ declarations. unless (epoch_fault streams) (found streams declarations)) log e in
    let b = bind_ok (declared_in a.0) (λ declarations. unless (epoch_fault a.0) (found a.0 declarations)) log a.2 in
    let u = unless_ok (epoch_fault a.0) (found a.0 b.0) log b.2 in
    let there : slice_get a.0 j ≡ Some ps = ap (λ (l : Log). slice_get l.streams j) u.1 ∙ got in
    let w = each_at (λ i content. recorded i (records_of f (length contents) content)) 0 contents a.0 a.1 j j ps (omega arith) there in
    (w.0, w.1, records_ok f (length contents) w.0 ps (recorded_ok j (records_of f (length contents) w.0) ps w.2))

-- ---- a run that began on nothing

module _ (n m : ℕ) (mode : LogMode) (load : Workload) (l : Load) (K : List (Act Txn)) (s : Core) (run : Run) (c : IsCourse n m mode load run.start l K s) (is : IsRunOf n l K s load run) where
  record Whole (content : List ℕ) : Type 0 where
    pub records : List Placed
    pub read : content_at (format_of mode) n content ≡ Ok records
    pub unmarked : (k : Mark) → Member k (marks_in records) → ⊥

  module _ (images : List (List ℕ)) (log : Log) (o : IsLogOfRun n m mode load run images log) where
    no_epoch : run.start.epoch ≡ 0
    no_epoch = ap (λ (b : Start). b.epoch) o.fresh

    items_unmarked : (j : ℕ) (content : List ℕ) (more : List Placed) → IsMore l load run.start j content more → (k : Mark) → Member k (marks_in more) → ⊥
    items_unmarked j content more (inl none) k h = subst (λ (ps : List Placed). Member k (marks_in ps)) none.0 h
    items_unmarked j content more (inr new) k h =
        let given : List Placed = given_placed load run.start (old_at run.start j) in
        let placed : List Placed = map (placed_in l.mode) new.0 in
        elim (in_either k (marks_in given) (marks_in placed) (subst (λ (ms : List Mark). Member k ms) (ap marks_in new.1 ∙ marks_append given placed) h)) [
          | inl first ↦ (let w = (given_mark load run.start (old_at run.start j) k first).1 in let e = no_epoch in omega (arith, w, e))
          | inr rest ↦ subst (λ (ms : List Mark). Member k ms) (no_marks_of l.mode new.0) rest
        ]

    whole : (j : ℕ) (content : List ℕ) → j < n → slice_get run.contents j ≡ Some content → Whole content
    whole j content lt e =
        let w = whole_read n l load run.start c.begins K s j lt c.room c.load_is.streams (anchored n m mode load run.start l c.begins c.load_is j lt) (declared n m mode load l K s run c).sound content (is.given j content e) in
        let olds : List Placed = slice_index_or run.start.log.streams j [] in
        let none : olds ≡ [] = ap (λ (b : Start). slice_index_or b.log.streams j []) o.fresh ∙ empty_at n j in
        let same : olds ++ w.0 ≡ w.0 = ap (λ (ps : List Placed). ps ++ w.0) none in
        record {
          records = w.0;
          read = subst (λ (k : LogMode). content_at (format_of k) n content ≡ Ok w.0) c.load_is.mode_is
              (records_ok (format_of l.mode) n content w.0 (subst (λ (ps : List Placed). records_of (format_of l.mode) n content ≡ Ok ps) same w.1.reads));
          unmarked = λ k h. items_unmarked j content w.0 w.1.is_more k h;
        }

    -- a content that was left is a first part of the whole one
    is_front : (j : ℕ) → j < n → (content : List ℕ) → slice_get run.contents j ≡ Some content → (k : ℕ) × (slice_index_or o.recovered.contents j [] ≡ take k content)
    is_front j lt content e = elim (o.recovered.fronts j lt) [
      | inl old ↦ (0, old ∙ ap (λ (b : Start). old_at b j) o.fresh ∙ nothing n j)
      | inr part ↦ (part.0, part.2 ∙ ap (take part.0) (got_or run.contents j content [] e))
    ]
      where
        nothing : (k i : ℕ) → old_at (fresh_start k) i ≡ []
        nothing zero i = refl
        nothing (suc k) zero = refl
        nothing (suc k) (suc i) = nothing k i

    stream_unmarked : (j : ℕ) (ps : List Placed) → slice_get o.recovered.log.streams j ≡ Some ps → (k : Mark) → Member k (marks_in ps) → ⊥
    stream_unmarked j ps got k h =
        let f : Format = format_of mode in
        let wide : length o.recovered.contents ≡ n = contents_wide n m mode load run images log [] o in
        let r = read_at f o.recovered.contents o.recovered.log o.recovered.sound.reads j ps got in
        let lt : j < n = subst (λ (i : ℕ). j < i) wide (got_within o.recovered.contents j r.0 r.1) in
        let x = some_at run.contents j (let e = is.streams in omega (arith, e, lt)) in
        let w = whole j x.0 lt x.1 in
        let front = is_front j lt x.0 x.1 in
        let same : r.0 ≡ take front.0 x.0 = sym (got_or o.recovered.contents j r.0 [] r.1) ∙ front.1 in
        let read : content_at f n (take front.0 x.0) ≡ Ok ps = subst (λ (z : List ℕ). content_at f n z ≡ Ok ps) same (subst (λ (i : ℕ). content_at f i r.0 ≡ Ok ps) wide r.2) in
        let more = first_records f n front.0 x.0 ps w.records read w.read in
        w.unmarked k (subst (λ (qs : List Placed). Member k (marks_in qs)) (sym more.1)
        (subst (λ (ms : List Mark). Member k ms) (sym (marks_append ps more.0)) (member_front k (marks_in ps) (marks_in more.0) h)))

    pub no_marks : marks_of log ≡ []
    no_marks = ap marks_of (same_log n m mode load run images log [] o) ∙ none_of (marks_of o.recovered.log) (λ k h.
        let w = marks_among o.recovered.log.streams k h in stream_unmarked w.0 w.1 w.2 k w.3)

pub no_epochs : NoEpochs
no_epochs n m mode load l K s run c is images log o = no_marks n m mode load l K s run c is images log o
