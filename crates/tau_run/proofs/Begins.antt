-- What a stream holds when a run begins: it is read, the old records and then those that it is given first.
use Rattle.std.proofs.Common.{ℕ, zero, suc, ◌+◌, ◌≤◌, ◌<◌, ◌^◌, true, ◌≡◌, ◌⊎◌, inl, inr, List, [], ◌∷◌, ◌++◌, map, length, refl, sym, ap, subst, ◌∙◌, arith, slice_index}
use Rattle.std.specs.Prelude.{Option, Some, None, slice_get, slice_index_or, is_ok}
use Rattle.std.specs.List.{AllZip}
use Rattle.std.proofs.lemmas.List.{append-nil, length-append}
use Rattle.tau_base.specs.declared.format.Format.{Format}
use Rattle.tau_base.proofs.Lists.{some_at, got_or, length_mapped}
use Rattle.tau_base.proofs.Logic.{some_is}
use Rattle.tau_model.specs.History.{Member}
use Rattle.tau_model.proofs.Orders.{member_front, member_back}
use Rattle.tau_record.specs.declared.entry.Entry.{Entry}
use Rattle.tau_record.specs.declared.entry.Entry.TheVariants as entry
use Rattle.tau_record.specs.declared.entry.Placed.{Placed}
use Rattle.tau_record.specs.Record.{named, kind_of, kind_fits, epoch_after}
use Rattle.tau_record.specs.Vector.{ArePlaces}
use Rattle.tau_record.specs.Content.{placed, Reads, IsContent, anchors_of, last_epoch}
use Rattle.tau_record.proofs.Appending.{appended_content, anchors_appended, epochs_appended}
use Rattle.tau_epoch.specs.Epochs.{Mark}
use Rattle.tau_text.specs.declared.load.Workload.{Workload}
use Rattle.tau_text.specs.declared.load.Declarations.{Declarations}
use Rattle.tau_text.specs.Alone.{declarations_of}
use Rattle.tau_text.specs.Canonical.{declarations_text}
use Rattle.tau_scan.specs.Reading.{text_of, catalogue_of as text_in, declared_by, or_none, first_undeclared, catalogue_in, IsReading}
use Rattle.tau_scan.specs.Epochs.{mark_of, marks_in, marks_from, marks_of}
use Rattle.tau_scan.specs.Given.{epoch_record}
use Rattle.tau_scan.specs.Taken.{kept_in, taken_in}
use Rattle.tau_scan.proofs.Streams.{map_get}
use Rattle.tau_epoch_laws.specs.Continues.{none_in}
use Rattle.tau_epoch_laws.proofs.Contents.{Holds, holds, catalogue_ok}
use Rattle.tau_epoch_laws.proofs.Grown.{no_mark}
use Rattle.tau_epoch_laws.proofs.Judging.{up_to_largest}
use Rattle.tau_epoch_laws.proofs.Taken.{epoch_is}
use Rattle.tau_run.specs.Start.{Start, catalogue_of, given_first, opened_with, old_at, opened_at, IsStart}
use Rattle.tau_run.proofs.Spelled.{begun}
use Rattle.tau_run.proofs.Reading.{IsCatalogue, first_placed, catalogue_content, catalogue_long, declared_append}

-- ---- lists place by place

zip_at : {A B : Type 0} (R : A → B → Type 0) (xs : List A) (ys : List B) (d : A) (e : B) (j : ℕ) → AllZip R xs ys → j < length xs → R (slice_index_or xs j d) (slice_index_or ys j e)
zip_at R [] [] d e j all lt = absurd (omega (arith, lt))
zip_at R [] (y ∷ ys) d e j all lt = absurd all
zip_at R (x ∷ xs) [] d e j all lt = absurd all
zip_at R (x ∷ xs) (y ∷ ys) d e zero all lt = all.0
zip_at R (x ∷ xs) (y ∷ ys) d e (suc j) all lt = zip_at R xs ys d e j all.1 (omega (arith, lt))

zip_long : {A B : Type 0} (R : A → B → Type 0) (xs : List A) (ys : List B) → AllZip R xs ys → length ys ≡ length xs
zip_long R [] [] all = refl
zip_long R [] (y ∷ ys) all = absurd all
zip_long R (x ∷ xs) [] all = absurd all
zip_long R (x ∷ xs) (y ∷ ys) all = ap suc (zip_long R xs ys all.1)

get_member : {A : Type 0} (xs : List A) (i : ℕ) (x : A) → slice_get xs i ≡ Some x → Member x xs
get_member [] i x e = absurd cc
get_member (y ∷ xs) zero x e = inl (some_is y x e)
get_member (y ∷ xs) (suc i) x e = inr (get_member xs i x e)

-- the records of a stream with no record
pub none_at : (streams : List (List Placed)) (j : ℕ) → none_in streams → slice_index_or streams j [] ≡ []
none_at [] j none = refl
none_at (ps ∷ streams) zero none = none.0
none_at (ps ∷ streams) (suc j) none = none_at streams j none.1

pub marks_at : (streams : List (List Placed)) (j : ℕ) (m : Mark) → Member m (marks_in (slice_index_or streams j [])) → Member m (marks_from streams)
marks_at [] j m h = absurd h
marks_at (ps ∷ streams) zero m h = member_front m (marks_in ps) (marks_from streams) h
marks_at (ps ∷ streams) (suc j) m h = member_back m (marks_in ps) (marks_from streams) (marks_at streams j m h)

-- ---- the catalogue of a content

catalogue_first : (e : Entry) → kind_fits true (kind_of e) ≡ true → (t : List ℕ) × (text_of e ≡ Some t)
catalogue_first (entry.Written number anchor dep writes) e = absurd cc
catalogue_first (entry.Command number anchor dep call) e = absurd cc
catalogue_first (entry.Anchor lv) e = absurd cc
catalogue_first (entry.Catalogue text) e = (text, refl)
catalogue_first (entry.Epoch number lv) e = absurd cc

-- a content holds nothing, or it begins with a catalogue
empty_or_text : (f : Format) (n : ℕ) (content : List ℕ) (ps : List Placed) → IsContent f n content ps →
    ((content ≡ []) × (ps ≡ [])) ⊎ ((1 ≤ length content) × ((t : List ℕ) × (text_in ps ≡ Some t)))
empty_or_text f n content [] h = inl (h, refl)
empty_or_text f n content (p ∷ ps) h =
    let long = ap length h.1.parts in
    inr (omega (arith, long), catalogue_first p.entry h.1.fits.kind)

pub first_kept : (ps ms : List Placed) (t : List ℕ) → text_in ps ≡ Some t → text_in (ps ++ ms) ≡ Some t
first_kept [] ms t e = absurd cc
first_kept (p ∷ ps) ms t e = e

-- ---- the epoch record

abbrev pub epoch_placed : ℕ → List ℕ → ℕ → List Placed
epoch_placed zero lv at = []
epoch_placed (suc k) lv at = placed (entry.Epoch (suc k) lv) at (at + length (epoch_record (suc k) lv)) ∷ []

-- what a stream that held this is given first
abbrev pub given_placed : Workload → Start → List ℕ → List Placed
given_placed load start [] = first_placed load ∷ epoch_placed start.epoch start.log.elv (length (catalogue_of load))
given_placed load start (b ∷ bytes) = epoch_placed start.epoch start.log.elv (length (b ∷ bytes))

epoch_reads : (f : Format) (n at k number : ℕ) (vectors : List (List ℕ)) (lv : List ℕ) → 1 ≤ at → number < 2 ^ 32 → length lv ≡ n → ArePlaces lv → (1 ≤ number → k < number) →
    Reads f n at k vectors (epoch_record number lv) (epoch_placed number lv at)
epoch_reads f n at k zero vectors lv low small wide places next = refl
epoch_reads f n at k (suc number) vectors lv low small wide places next =
    let bytes : List ℕ = epoch_record (suc number) lv in (
      [],
      begun f n at k vectors (entry.Epoch (suc number) lv) bytes [] bytes at (at + length bytes)
          (record { fits = record { kind = refl; fields = (omega arith, small, wide, places) }; text = refl }) (sym (append-nil bytes)) low refl refl (next (omega arith)),
      refl,
    )

opened_reads : (f : Format) (n : ℕ) (load : Workload) (start : Start) (old : List ℕ) (ps : List Placed) → IsCatalogue load → start.epoch < 2 ^ 32 → length start.log.elv ≡ n → ArePlaces start.log.elv → IsContent f n old ps →
    (1 ≤ start.epoch → last_epoch 0 ps < start.epoch) → IsContent f n (opened_with load start old) (ps ++ given_placed load start old)
opened_reads f n load start [] ps is small wide places h next =
    let none : ps ≡ [] = elim (empty_or_text f n [] ps h) [ inl e ↦ e.1 | inr t ↦ absurd (let low = t.0 in omega (arith, low)) ] in
    let v : List ℕ = start.log.elv in
    let cat : List ℕ = catalogue_of load in
    subst (λ (qs : List Placed). IsContent f n (cat ++ epoch_record start.epoch v) (qs ++ (first_placed load ∷ epoch_placed start.epoch v (length cat)))) (sym none)
    (appended_content f n cat (epoch_record start.epoch v) (first_placed load ∷ []) (epoch_placed start.epoch v (length cat)) (catalogue_content f n load is)
    (epoch_reads f n (length cat) 0 start.epoch (named n []) v (catalogue_long load) small wide places (λ low. low)))
opened_reads f n load start (b ∷ bytes) ps is small wide places h next =
    let v : List ℕ = start.log.elv in
    let old : List ℕ = b ∷ bytes in
    appended_content f n old (epoch_record start.epoch v) ps (epoch_placed start.epoch v (length old)) h
    (epoch_reads f n (length old) (last_epoch 0 ps) start.epoch (named n (anchors_of ps)) v (omega arith) small wide places next)

epoch_anchors : (number : ℕ) (lv : List ℕ) (at : ℕ) → anchors_of (epoch_placed number lv at) ≡ []
epoch_anchors zero lv at = refl
epoch_anchors (suc k) lv at = refl

pub given_anchors : (load : Workload) (start : Start) (old : List ℕ) → anchors_of (given_placed load start old) ≡ []
given_anchors load start [] = epoch_anchors start.epoch start.log.elv (length (catalogue_of load))
given_anchors load start (b ∷ bytes) = epoch_anchors start.epoch start.log.elv (length (b ∷ bytes))

epoch_kept : (j number : ℕ) (lv : List ℕ) (at : ℕ) → kept_in j (epoch_placed number lv at) ≡ []
epoch_kept j zero lv at = refl
epoch_kept j (suc k) lv at = refl

pub given_kept : (j : ℕ) (load : Workload) (start : Start) (old : List ℕ) → kept_in j (given_placed load start old) ≡ []
given_kept j load start [] = epoch_kept j start.epoch start.log.elv (length (catalogue_of load))
given_kept j load start (b ∷ bytes) = epoch_kept j start.epoch start.log.elv (length (b ∷ bytes))

epoch_taken : (judge : ℕ → List ℕ) (j k number : ℕ) (lv : List ℕ) (at : ℕ) → taken_in judge j k (epoch_placed number lv at) ≡ []
epoch_taken judge j k zero lv at = refl
epoch_taken judge j k (suc number) lv at = refl

pub given_taken : (judge : ℕ → List ℕ) (j k : ℕ) (load : Workload) (start : Start) (old : List ℕ) → taken_in judge j k (given_placed load start old) ≡ []
given_taken judge j k load start [] = epoch_taken judge j k start.epoch start.log.elv (length (catalogue_of load))
given_taken judge j k load start (b ∷ bytes) = epoch_taken judge j k start.epoch start.log.elv (length (b ∷ bytes))

-- the one mark that the run has
abbrev pub own_mark : Start → Mark
own_mark start = record { number = start.epoch; lv = start.log.elv }

abbrev pub marks_by : ℕ → List ℕ → List Mark
marks_by zero lv = []
marks_by (suc k) lv = record { number = suc k; lv = lv } ∷ []

epoch_marks : (number : ℕ) (lv : List ℕ) (at : ℕ) → marks_in (epoch_placed number lv at) ≡ marks_by number lv
epoch_marks zero lv at = refl
epoch_marks (suc k) lv at = refl

given_marks : (load : Workload) (start : Start) (old : List ℕ) → marks_in (given_placed load start old) ≡ marks_by start.epoch start.log.elv
given_marks load start [] = epoch_marks start.epoch start.log.elv (length (catalogue_of load))
given_marks load start (b ∷ bytes) = epoch_marks start.epoch start.log.elv (length (b ∷ bytes))

mark_by : (number : ℕ) (lv : List ℕ) (m : Mark) → Member m (marks_by number lv) → (m ≡ record { number = number; lv = lv }) × (1 ≤ number)
mark_by zero lv m h = absurd h
mark_by (suc k) lv m (inl e) = (sym e, omega arith)
mark_by (suc k) lv m (inr h) = absurd h

by_mark : (number : ℕ) (lv : List ℕ) → 1 ≤ number → Member (record { number = number; lv = lv }) (marks_by number lv)
by_mark zero lv low = absurd (omega (arith, low))
by_mark (suc k) lv low = inl refl

-- what a stream is given first has just this mark
pub given_mark : (load : Workload) (start : Start) (old : List ℕ) (m : Mark) → Member m (marks_in (given_placed load start old)) → (m ≡ own_mark start) × (1 ≤ start.epoch)
given_mark load start old m h = mark_by start.epoch start.log.elv m (subst (λ (ms : List Mark). Member m ms) (given_marks load start old) h)

pub own_there : (load : Workload) (start : Start) (old : List ℕ) → 1 ≤ start.epoch → Member (own_mark start) (marks_in (given_placed load start old))
own_there load start old low = subst (λ (ms : List Mark). Member (own_mark start) ms) (sym (given_marks load start old)) (by_mark start.epoch start.log.elv low)

epoch_last : (k number : ℕ) (lv : List ℕ) (at : ℕ) → (number ≡ 0 → k ≡ 0) → last_epoch k (epoch_placed number lv at) ≡ number
epoch_last k zero lv at none = none refl
epoch_last k (suc number) lv at none = refl

pub given_last : (load : Workload) (start : Start) (k : ℕ) (old : List ℕ) → (start.epoch ≡ 0 → k ≡ 0) → last_epoch k (given_placed load start old) ≡ start.epoch
given_last load start k [] none = epoch_last k start.epoch start.log.elv (length (catalogue_of load)) none
given_last load start k (b ∷ bytes) none = epoch_last k start.epoch start.log.elv (length (b ∷ bytes)) none

none_declared : (d : Declarations) → first_undeclared d [] ≡ None
unfolding first_undeclared
none_declared d = refl

epoch_declared : (d : Declarations) (number : ℕ) (lv : List ℕ) (at : ℕ) → first_undeclared d (epoch_placed number lv at) ≡ None
unfolding first_undeclared
epoch_declared d zero lv at = refl
epoch_declared d (suc k) lv at = refl

given_declared : (d : Declarations) (load : Workload) (start : Start) (old : List ℕ) → IsCatalogue load → first_undeclared d (given_placed load start old) ≡ None
unfolding first_undeclared
given_declared d load start [] is =
    let good : is_ok (declarations_of (declarations_text load.declarations)) ≡ true = ap is_ok is.read in
    rw good (epoch_declared d start.epoch start.log.elv (length (catalogue_of load)))
given_declared d load start (b ∷ bytes) is = epoch_declared d start.epoch start.log.elv (length (b ∷ bytes))

-- the last epoch is the first one, or one of a mark
last_is : (k : ℕ) (ps : List Placed) → (last_epoch k ps ≡ k) ⊎ ((m : Mark) × Member m (marks_in ps) × (m.number ≡ last_epoch k ps))
last_is k [] = inl refl
last_is k (p ∷ ps) = elim (last_is (epoch_after k p.entry) ps) [
  | inl e ↦ elim (epoch_is k p.entry) [
    | inl same ↦ inl (e ∙ same)
    | inr w ↦ inr (w.0, member_front w.0 (mark_of p.entry) (marks_in ps) w.1, w.2 ∙ sym e)
  ]
  | inr w ↦ inr (w.0, member_back w.0 (mark_of p.entry) (marks_in ps) w.1, w.2)
]

-- ---- the streams of a run

module _ (f : Format) (n : ℕ) (load : Workload) (start : Start) (b : IsStart f n load start) where
  pub held : Holds start.old start.log
  held = holds f start.old start.log b.reads

  abbrev pub ps_at : ℕ → List Placed
  ps_at j = slice_index_or start.log.streams j []

  pub streams_wide : length start.log.streams ≡ n
  streams_wide = zip_long (IsReading f n) start.old start.log.streams b.read ∙ b.count

  pub elv_wide : length start.log.elv ≡ n
  elv_wide = ap length held.elv ∙ length_mapped length start.old ∙ b.count

  pub read_at : (j : ℕ) → j < n → IsReading f n (old_at start j) (ps_at j)
  read_at j lt = zip_at (IsReading f n) start.old start.log.streams [] [] j b.read (let e = b.count in omega (arith, e, lt))

  abbrev text : List ℕ
  text = declarations_text load.declarations

  -- each old mark has a lower number than the run's
  pub number_low : (m : Mark) → Member m (marks_of start.log) → m.number < start.epoch
  number_low m h = elim b.epoch [
    | inl none ↦ absurd (no_mark start.log.streams none.0 m h)
    | inr some ↦ let low = up_to_largest (marks_of start.log) m h in let e = some.1 in omega (arith, low, e)
  ]

  -- a run without an epoch begins on nothing
  pub nothing_there : start.epoch ≡ 0 → none_in start.log.streams
  nothing_there e = elim b.epoch [ inl none ↦ none.0 | inr some ↦ absurd (let f = some.1 in omega (arith, e, f)) ]

  pub last_low : (j : ℕ) → 1 ≤ start.epoch → last_epoch 0 (ps_at j) < start.epoch
  last_low j low = elim (last_is 0 (ps_at j)) [
    | inl e ↦ omega (arith, e, low)
    | inr w ↦ let high = number_low w.0 (marks_at start.log.streams j w.0 w.1) in let e = w.2 in omega (arith, high, e)
  ]

  pub last_none : (j : ℕ) → start.epoch ≡ 0 → last_epoch 0 (ps_at j) ≡ 0
  last_none j e = ap (last_epoch 0) (none_at start.log.streams j (nothing_there e))

  -- a stream holds nothing, or it has the catalogue of the workload
  pub empty_or_declared : (j : ℕ) → j < n → ((old_at start j ≡ []) × (ps_at j ≡ [])) ⊎ ((1 ≤ length (old_at start j)) × (text_in (ps_at j) ≡ Some text))
  unfolding catalogue_in
  empty_or_declared j lt = elim (empty_or_text f n (old_at start j) (ps_at j) (read_at j lt).spelled) [
    | inl e ↦ inl e
    | inr w ↦ inr (
      w.0,
      elim b.declared [
        | inl none ↦ absurd (let e : None ≡ Some w.1.0 = sym (ap text_in (none_at start.log.streams j none)) ∙ w.1.1 in cc e)
        | inr is ↦
            let there : slice_get start.log.streams j ≡ Some (ps_at j) = got_there start.log.streams j (let e = streams_wide in omega (arith, e, lt)) in
            let at : slice_get (map text_in start.log.streams) j ≡ Some (Some w.1.0) = map_get text_in start.log.streams j (ps_at j) there ∙ ap (λ (o : Option (List ℕ)). Some o) w.1.1 in
            w.1.1 ∙ sym (catalogue_ok 0 (map text_in start.log.streams) (Some text) is w.1.0 (get_member (map text_in start.log.streams) j (Some w.1.0) at))
      ],
    )
  ]
    where
      got_there : (xs : List (List Placed)) (i : ℕ) → i < length xs → slice_get xs i ≡ Some (slice_index_or xs i [])
      got_there xs i lt = let h = some_at xs i lt in h.1 ∙ ap (λ (ps : List Placed). Some ps) (sym (got_or xs i h.0 [] h.1))

  -- what the stream holds first, and its records
  abbrev pub first_ps : ℕ → List Placed
  first_ps j = ps_at j ++ given_placed load start (old_at start j)

  module _ (is : IsCatalogue load) where
    pub opened_content : (j : ℕ) → j < n → IsContent f n (opened_at load start j) (first_ps j)
    opened_content j lt = opened_reads f n load start (old_at start j) (ps_at j) is (let small = b.small in omega (arith, small)) elv_wide b.places (read_at j lt).spelled (last_low j)

    pub opened_text : (j : ℕ) → j < n → text_in (first_ps j) ≡ Some text
    opened_text j lt = elim (empty_or_declared j lt) [
      | inl e ↦ ap (λ (ps : List Placed). text_in (ps ++ given_placed load start (old_at start j))) e.1 ∙ ap (λ (old : List ℕ). text_in (given_placed load start old)) e.0
      | inr w ↦ first_kept (ps_at j) (given_placed load start (old_at start j)) text w.1
    ]

    pub opened_declared : (j : ℕ) → j < n → first_undeclared load.declarations (first_ps j) ≡ None
    opened_declared j lt = declared_append load.declarations (ps_at j) (given_placed load start (old_at start j)) old (given_declared load.declarations load start (old_at start j) is)
      where
        old : first_undeclared load.declarations (ps_at j) ≡ None
        old = elim (empty_or_declared j lt) [
          | inl e ↦ ap (first_undeclared load.declarations) e.1 ∙ none_declared load.declarations
          | inr w ↦
              let same : declared_by (text_in (ps_at j)) ≡ load.declarations = ap declared_by w.1 ∙ ap or_none is.read in
              subst (λ (d : Declarations). first_undeclared d (ps_at j) ≡ None) same (read_at j lt).declared
        ]

  pub opened_anchors : (j : ℕ) → anchors_of (first_ps j) ≡ anchors_of (ps_at j)
  opened_anchors j =
      anchors_appended (ps_at j) (given_placed load start (old_at start j)) ∙ ap (λ (v : List (List ℕ)). anchors_of (ps_at j) ++ v) (given_anchors load start (old_at start j)) ∙ append-nil (anchors_of (ps_at j))

  pub opened_last : (j : ℕ) → last_epoch 0 (first_ps j) ≡ start.epoch
  opened_last j = epochs_appended 0 (ps_at j) (given_placed load start (old_at start j)) ∙ given_last load start (last_epoch 0 (ps_at j)) (old_at start j) (last_none j)

  pub opened_long : (j : ℕ) → j < n → 1 ≤ length (opened_at load start j)
  opened_long j lt = elim (empty_or_declared j lt) [
    | inl e ↦
        let long : length (opened_at load start j) ≡ length (opened_with load start []) = ap (λ (old : List ℕ). length (opened_with load start old)) e.0 in
        let cat = catalogue_long load in
        let sum = length-append (catalogue_of load) (epoch_record start.epoch start.log.elv) in
        omega (arith, long, cat, sum)
    | inr w ↦ let low = w.0 in let sum = length-append (old_at start j) (given_first load start (old_at start j)) in omega (arith, low, sum)
  ]

  pub old_within : (j : ℕ) → length (old_at start j) ≤ length (opened_at load start j)
  old_within j = let sum = length-append (old_at start j) (given_first load start (old_at start j)) in omega (arith, sum)

  pub elv_at : (j : ℕ) → j < n → slice_index start.log.elv j ≡ length (old_at start j)
  elv_at j lt = ap (λ (v : List ℕ). slice_index v j) held.elv ∙ lengths start.old j (let e = b.count in omega (arith, e, lt))
    where
      lengths : (xs : List (List ℕ)) (i : ℕ) → i < length xs → slice_index (map length xs) i ≡ length (slice_index_or xs i [])
      lengths [] i lt = absurd (omega (arith, lt))
      lengths (x ∷ xs) zero lt = refl
      lengths (x ∷ xs) (suc i) lt = lengths xs i (omega (arith, lt))
